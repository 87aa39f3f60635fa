-- What a shard stands on, once it has opened and once it has served.
use Rattle.std.proofs.Common.{◌≡◌, ℕ, ◌+◌, ◌<◌, ◌≤◌, ◌^◌, List, ◌∷◌, [], ◌++◌, length, length-append, sym, subst, ap, max, arith}
use Rattle.next_ids.specs.declared.ids.PlaceNo.{PlaceNo}
use Rattle.next_ids.specs.declared.ids.Stamp.{Stamp}
use Rattle.next_steps.specs.declared.ask.Ask.{Ask}
use Rattle.next_steps.specs.declared.entry.Entry.{Entry}
use Rattle.next_rules.specs.Contents.{Shard, opening_part, number_after}
use Rattle.next_rules.specs.Facts.{SumsHold}
use Rattle.next_rules.specs.Homes.{IsOwnShard}
use Rattle.next_rules.specs.Places.{serve_shard}
use Rattle.next_laws_shard.specs.Bounds.{IsKnown, IsWithin, CanMerge}
use Rattle.next_laws_shard.proofs.Keys.{own-kept, known-kept}
use Rattle.next_laws_shard.proofs.Leaving.{leaves}
use Rattle.next_laws_shard.proofs.Openings.{opening-own, opening-known, opening-sums, opening-within}
use Rattle.next_laws_shard.proofs.Summed.{serve-sums, can_merge}
use Rattle.next_laws_shard.proofs.Within.{within-kept}

pub record Stands (place last steps : ℕ) (s : Shard) : Type 0 where
  pub small : place < 64
  pub own : IsOwnShard place s
  pub known : IsKnown last s
  pub sums : SumsHold s
  pub within : IsWithin steps s

pub opened : (place index last : ℕ) (log : List Entry) (s : Shard) → place ≡ index → index < 64 → last ≡ 0 → log ≡ [] → s ≡ opening_part index → Stands place last (length log) s
opened place index last log s at low new empty is = rw (at, new, empty, is) (record {
  small = low;
  own = opening-own index low;
  known = opening-known index;
  sums = opening-sums index;
  within = opening-within index;
})

-- one more entry
longer : (old : List Entry) (e : Entry) → length (old ++ e ∷ []) ≡ length old + 1
longer old e = length-append old (e ∷ [])

pub served : (place last steps given : ℕ) (s : Shard) → Stands place last steps s → (at : Stamp) (moment : ℕ) (x : Ask) → at.place.0 ≡ place → at.number ≡ number_after given last
    → (place' last' steps' : ℕ) (t : Shard) → place' ≡ place → last' ≡ number_after given last → steps' ≡ steps + 1 → t ≡ (serve_shard s at moment x).contents → Stands place' last' steps' t
served place last steps given s h at moment x here numbered place' last' steps' t same new more is = rw (same, new, more, is) (record {
  small = h.small;
  own = own-kept place s at moment x here h.small h.own;
  known = subst (λ k. IsKnown k (serve_shard s at moment x).contents) numbered (known-kept last s at moment x above h.known);
  sums = serve-sums last s at moment x above h.known h.sums;
  within = within-kept steps s at (serve_shard s at moment x).contents (leaves s at moment x) h.within;
})
  where
    above : last < at.number
    above = rw numbered (omega arith)

pub grown : (old new : List Entry) (e : Entry) → new ≡ old ++ e ∷ [] → length new ≡ length old + 1
grown old new e is = rw is (longer old e)

pub unchanged : (place last steps : ℕ) (s : Shard) → Stands place last steps s → (place' last' steps' : ℕ) (t : Shard) → place' ≡ place → last' ≡ last → steps' ≡ steps → t ≡ s → Stands place' last' steps' t
unchanged place last steps s h place' last' steps' t same new more is = rw (same, new, more, is) h

pub folds : (steps : ℕ) (s : Shard) → steps ≤ 1048576 → IsWithin steps s → SumsHold s → CanMerge s
folds steps s few within sums = can_merge steps s (omega arith) within sums
