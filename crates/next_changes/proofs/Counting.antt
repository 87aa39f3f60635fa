-- The counts of a change of attributes.
use Rattle.std.proofs.Common.{length-append}
use Rattle.next_ids.proofs.Entries.{many-append}

pub ruleset counting = (length-append, many-append)
