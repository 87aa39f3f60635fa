-- A store gets one more record at most with each step.
use Rattle.std.proofs.Common.{◌+◌, ◌≤◌, Bool, true, false, arith}
use Rattle.std.specs.Prelude.{if◌then◌else◌, ◌==◌, Option, Some, None}
use Rattle.std.specs.FinMap.{get, remove, len}
use Rattle.cfs_ids.proofs.MapLemmas.{set-few, cut-few}
use Rattle.cfs_ids.specs.declared.ids.FileId.{FileId}
use Rattle.cfs_ids.specs.declared.ids.Client.{Client}
use Rattle.cfs_ids.specs.declared.ids.Stamp.{Stamp}
use Rattle.cfs_ids.specs.declared.ids.Node.TheVariants.{Dir, File}
use Rattle.cfs_steps.specs.declared.ask.Ask.{Ask}
use Rattle.cfs_steps.specs.declared.ask.Ask.TheVariants.{Read, List, Insert, Put, PutDir, Settle, TakeBack, End}
use Rattle.cfs_steps.specs.declared.answer.Answer.TheVariants.{Done, None as NoneAnswer}
use Rattle.cfs_steps.specs.declared.contents.FileRec.{FileRec}
use Rattle.cfs_rules.specs.Places.{Store, unmoved, made_at, new_file, settled, settle_owner, taken_back, take_owned, serve_store}

settle-few : (s : Store) (file : FileId) (o : Option FileRec) → len (settled s file o).contents ≤ len s + 1
settle-few s file None = omega arith
settle-few s file (Some r) = by_owner r.owner
  where
    by_owner : (o : Option Client) → len (settle_owner s file r o).contents ≤ len s + 1
    by_owner None = omega arith
    by_owner (Some c) = set-few s file.0 (record r { owner = None })

take-few : (s : Store) (c : Client) (file : FileId) (o : Option FileRec) → len (taken_back s c file o).contents ≤ len s + 1
take-few s c file None = omega arith
take-few s c file (Some r) = by_owner r.owner
  where
    by_test : (b : Bool) → len (if b then unmoved (remove s file.0) (Done None) else unmoved s NoneAnswer).contents ≤ len s + 1
    by_test true = cut-few s file.0
    by_test false = omega arith

    by_owner : (o : Option Client) → len (take_owned s c file o).contents ≤ len s + 1
    by_owner None = omega arith
    by_owner (Some owner) = by_test (owner.0 == c.0)

pub serve-few : (s : Store) (at : Stamp) (ask : Ask) → len (serve_store s at ask).contents ≤ len s + 1
serve-few s at (Read dir name) = omega arith
serve-few s at (List dir) = omega arith
serve-few s at (Insert client dir name node ts) = omega arith
serve-few s at (Put client place home) = set-few s (made_at at) (new_file client home at.number)
serve-few s at (PutDir client place dir name) = omega arith
serve-few s at (Settle (Dir dir)) = omega arith
serve-few s at (Settle (File file)) = settle-few s file (get s file.0)
serve-few s at (TakeBack client (Dir dir)) = omega arith
serve-few s at (TakeBack client (File file)) = take-few s client file (get s file.0)
serve-few s at (End client) = omega arith
