-- Whether a client owns a record.
use Rattle.std.specs.Prelude.{Bool, false, ◌==◌, Option, Some, None}
use Rattle.cfs_ids.specs.declared.ids.Client.{Client}

abbrev pub owns : Client → Option Client → Bool
owns client None = false
owns client (Some owner) = owner.0 == client.0
