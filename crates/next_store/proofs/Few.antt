-- A store gets one more record at most with each step.
use Rattle.std.proofs.Common.{◌+◌, ◌≤◌, Bool, true, false, arith}
use Rattle.std.specs.Prelude.{if◌then◌else◌, ◌==◌, ℕ, Option, Some, None}
use Rattle.std.specs.FinMap.{len}
use Rattle.next_ids.proofs.MapLemmas.{set-few, cut-few}
use Rattle.next_ids.specs.declared.ids.FileId.{FileId}
use Rattle.next_ids.specs.declared.ids.Client.{Client}
use Rattle.next_ids.specs.declared.ids.Stamp.{Stamp}
use Rattle.next_ids.specs.declared.ids.Node.TheVariants.{File}
use Rattle.next_ids.specs.declared.time.Ts.{Ts}
use Rattle.next_ids.specs.Times.{ts_at}
use Rattle.next_steps.specs.declared.ask.Ask.{Ask}
use Rattle.next_steps.specs.declared.ask.Ask.TheVariants as ask
use Rattle.next_steps.specs.declared.answer.Answer.TheVariants as answer
use Rattle.next_steps.specs.declared.moves.Moved.{Moved}
use Rattle.next_steps.specs.declared.contents.FileRec.{FileRec}
use Rattle.next_rules.specs.Contents.{Store, unmoved, made_at}
use Rattle.next_rules.specs.Stores.{serve_store, new_file, resized, settled, taken_back, dropped, cut_file}

module _ (s : Store) where
  resize-few : (c : Client) (file : FileId) (size : ℕ) (ts : Ts) (o : Option FileRec) → len (resized s c file size ts o).contents ≤ len s + 1
  resize-few c file size ts None = omega arith
  resize-few c file size ts (Some r) = set-few s file.0 _

  settle-few : (file : FileId) (o : Option FileRec) (owner : Option Client) → len (settled s file o owner).contents ≤ len s + 1
  settle-few file None owner = omega arith
  settle-few file (Some r) None = omega arith
  settle-few file (Some r) (Some c) = set-few s file.0 _

  take-few : (c : Client) (file : FileId) (moved : Option Moved) (o : Option Client) → len (taken_back s c file moved o).contents ≤ len s + 1
  take-few c file moved None = omega arith
  take-few c file moved (Some owner) = by_test (owner.0 == c.0)
    where
      by_test : (b : Bool) → len (if b then cut_file s file moved else unmoved s answer.None).contents ≤ len s + 1
      by_test true = cut-few s file.0
      by_test false = omega arith

  drop-few : (file : FileId) (o : Option FileRec) → len (dropped s file o).contents ≤ len s + 1
  drop-few file None = omega arith
  drop-few file (Some r) = cut-few s file.0

pub serve-few : (s : Store) (at : Stamp) (moment : ℕ) (a : Ask) → len (serve_store s at moment a).contents ≤ len s + 1
serve-few s at moment (ask.Put client place home) = set-few s (made_at at) (new_file client home (ts_at moment at.number))
serve-few s at moment (ask.SetSize client file size ts) = resize-few s client file size ts _
serve-few s at moment (ask.Settle (File file)) = settle-few s file _ _
serve-few s at moment (ask.TakeBack client (File file)) = take-few s client file _ _
serve-few s at moment (ask.DropOwed client (File file)) = take-few s client file _ _
serve-few s at moment (ask.Drop file) = drop-few s file _
serve-few s at moment a = omega arith
