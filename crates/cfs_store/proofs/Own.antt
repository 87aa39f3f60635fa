-- A store has the records of its own files alone.
use Rattle.std.proofs.Common.{◌≡◌, ℕ, ◌+◌, ◌<◌, refl}
use Rattle.std.specs.Prelude.{Some, None}
use Rattle.std.specs.Ordering.{nat_cmp}
use Rattle.std.specs.FinMap.{get, empty, get-empty}
use Rattle.cfs_ids.specs.declared.ids.Stamp.{Stamp}
use Rattle.cfs_steps.specs.declared.ask.Ask.{Ask}
use Rattle.cfs_steps.specs.declared.contents.FileRec.{FileRec}
use Rattle.cfs_steps.specs.Asks.{place_of}
use Rattle.cfs_rules.specs.Homes.{IsOwnStore}
use Rattle.cfs_rules.specs.Places.{Store, serve_store}
use Rattle.cfs_rules.proofs.Gathering.{store_serves}

-- each step keeps that
pub serve-own : (index : ℕ) (s : Store) (at : Stamp) (ask : Ask) → (place_of ask).0 ≡ 64 + index → at.place.0 ≡ 64 + index → index < 64 → IsOwnStore index s → IsOwnStore index (serve_store s at ask).contents
serve-own index s at ask here place small own = (store_serves index s s (record { own = own; here = λ k e. refl }) at ask here place small).files.own

pub empty-own : (index : ℕ) → IsOwnStore index empty
empty-own index k x e = let none = get-empty {X = FileRec} nat_cmp k in absurd (differ none e)
  where
    differ : get (empty {X = FileRec} {R = nat_cmp}) k ≡ None → get (empty {X = FileRec} {R = nat_cmp}) k ≡ Some x → ⊥
    differ a b = cc
