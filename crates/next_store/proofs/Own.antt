-- A store has the records of its own files alone.
use Rattle.std.proofs.Common.{◌≡◌, ℕ, ◌+◌, ◌<◌, Bool, true, false, arith, ◌⊎◌, inl, inr}
use Rattle.std.specs.Prelude.{if◌then◌else◌, ◌==◌, ◌%◌, Option, Some, None}
use Rattle.std.proofs.lemmas.Bool.Decides.{nat_tests}
use Rattle.std.specs.Ordering.{nat_cmp}
use Rattle.std.specs.FinMap.{get, insert, remove, empty, gets, get-empty}
use Rattle.next_ids.specs.declared.ids.Stamp.{Stamp}
use Rattle.next_ids.specs.declared.ids.Client.{Client}
use Rattle.next_ids.specs.declared.ids.FileId.{FileId}
use Rattle.next_ids.specs.declared.ids.Node.TheVariants.{File}
use Rattle.next_ids.specs.declared.time.Ts.{Ts}
use Rattle.next_steps.specs.declared.ask.Ask.{Ask}
use Rattle.next_steps.specs.declared.ask.Ask.TheVariants as ask
use Rattle.next_steps.specs.declared.contents.FileRec.{FileRec}
use Rattle.next_steps.specs.declared.moves.Moved.{Moved}
use Rattle.next_steps.specs.declared.answer.Answer.TheVariants as answer
use Rattle.next_steps.specs.Asks.{place_of}
use Rattle.next_rules.specs.Homes.{IsOwnStore}
use Rattle.next_rules.specs.Contents.{Store, unmoved, made_at}
use Rattle.next_rules.specs.Stores.{serve_store, new_file, resized, settled, taken_back, dropped, cut_file}
use Rattle.next_ids.specs.Times.{ts_at}

from_insert : (s : Store) (f k : ℕ) (v x : FileRec) → get (insert s f v) k ≡ Some x → (k ≡ f) ⊎ (get s k ≡ Some x)
from_insert s f k v x e = grind (arith, nat_tests, gets)

from_remove : (s : Store) (f k : ℕ) (x : FileRec) → get (remove s f) k ≡ Some x → get s k ≡ Some x
from_remove s f k x e = grind (arith, nat_tests, gets)

module _ (index : ℕ) (s : Store) (own : IsOwnStore index s) where
  set-own : (f : ℕ) (v : FileRec) → f % 64 ≡ index → IsOwnStore index (insert s f v)
  set-own f v here k x e = by_case (from_insert s f k v x e)
    where
      by_case : (k ≡ f) ⊎ (get s k ≡ Some x) → k % 64 ≡ index
      by_case (inl same) = omega arith
      by_case (inr old) = own k x old

  cut-own : (f : ℕ) → IsOwnStore index (remove s f)
  cut-own f k x e = own k x (from_remove s f k x e)

  resize-own : (c : Client) (file : FileId) (size : ℕ) (ts : Ts) (o : Option FileRec) → file.0 % 64 ≡ index → IsOwnStore index (resized s c file size ts o).contents
  resize-own c file size ts None here = own
  resize-own c file size ts (Some r) here = set-own file.0 _ here

  settle-own : (file : FileId) (o : Option FileRec) (owner : Option Client) → file.0 % 64 ≡ index → IsOwnStore index (settled s file o owner).contents
  settle-own file None owner here = own
  settle-own file (Some r) None here = own
  settle-own file (Some r) (Some c) here = set-own file.0 _ here

  take-own : (c : Client) (file : FileId) (moved : Option Moved) (o : Option Client) → IsOwnStore index (taken_back s c file moved o).contents
  take-own c file moved None = own
  take-own c file moved (Some owner) = by_test (owner.0 == c.0)
    where
      by_test : (b : Bool) → IsOwnStore index (if b then cut_file s file moved else unmoved s answer.None).contents
      by_test true = cut-own file.0
      by_test false = own

  drop-own : (file : FileId) (o : Option FileRec) → IsOwnStore index (dropped s file o).contents
  drop-own file None = own
  drop-own file (Some r) = cut-own file.0

-- each step keeps that
pub serve-own : (index : ℕ) (s : Store) (at : Stamp) (moment : ℕ) (a : Ask) → (place_of a).0 ≡ 64 + index → at.place.0 ≡ 64 + index → index < 64 → IsOwnStore index s
    → IsOwnStore index (serve_store s at moment a).contents
serve-own index s at moment (ask.Put client place home) here stamped small own = set-own index s own (made_at at) (new_file client home (ts_at moment at.number)) (omega arith)
serve-own index s at moment (ask.SetSize client file size ts) here stamped small own = resize-own index s own client file size ts _ (omega arith)
serve-own index s at moment (ask.Settle (File file)) here stamped small own = settle-own index s own file _ _ (omega arith)
serve-own index s at moment (ask.TakeBack client (File file)) here stamped small own = take-own index s own client file _ _
serve-own index s at moment (ask.DropOwed client (File file)) here stamped small own = take-own index s own client file _ _
serve-own index s at moment (ask.Drop file) here stamped small own = drop-own index s own file _
serve-own index s at moment a here stamped small own = own

pub empty-own : (index : ℕ) → IsOwnStore index empty
empty-own index k x e = let none = get-empty {X = FileRec} nat_cmp k in absurd (differ none e)
  where
    differ : get (empty {X = FileRec} {R = nat_cmp}) k ≡ None → get (empty {X = FileRec} {R = nat_cmp}) k ≡ Some x → ⊥
    differ a b = cc
