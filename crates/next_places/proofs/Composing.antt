-- Places in order are shards, then stores, then the desk and the roster.
use Rattle.std.proofs.Common.{◌≡◌, ℕ, suc, zero, ◌+◌, ◌<◌, List, [], ◌∷◌, length, set, get_or, true, refl, sym, ◌∙◌, ap, subst, arith}
use Rattle.next_shard.specs.declared.shard.Shard.{Shard}
use Rattle.next_store.specs.declared.store.Store.{Store}
use Rattle.next_desk.specs.declared.desk.Desk.{Desk}
use Rattle.next_desk.specs.declared.roster.Roster.{Roster}
use Rattle.next_desk.specs.Desks as desks
use Rattle.next_desk.specs.Rosters as rosters
use Rattle.next_places.specs.declared.place.Place.{Place}
use Rattle.next_places.specs.declared.place.Place.TheVariants as kind
use Rattle.next_places.specs.PlaceLists.{shard_items, store_items, desk_in, roster_in, are_stores_first, are_shards_first}

module _ (d : Desk) (r : Roster) where
  abbrev pub ended : List Store → List Place
  ended [] = kind.Desk d ∷ kind.Roster r ∷ []
  ended (t ∷ ts) = kind.Store t ∷ ended ts

  abbrev pub composed : List Shard → List Store → List Place
  composed [] ts = ended ts
  composed (s ∷ ss) ts = kind.Shard s ∷ composed ss ts

  -- ---- what such a list has
  ended_shards : (ts : List Store) → shard_items (ended ts) ≡ []
  ended_shards [] = refl
  ended_shards (t ∷ ts) = ended_shards ts

  ended_stores : (ts : List Store) → store_items (ended ts) ≡ ts
  ended_stores [] = refl
  ended_stores (t ∷ ts) = ap (λ l. t ∷ l) (ended_stores ts)

  ended_desk_in : (ts : List Store) → desk_in (ended ts) ≡ desks.contents_of d
  ended_desk_in [] = refl
  ended_desk_in (t ∷ ts) = ended_desk_in ts

  ended_roster : (ts : List Store) → roster_in (ended ts) ≡ rosters.contents_of r
  ended_roster [] = refl
  ended_roster (t ∷ ts) = ended_roster ts

  ended_order : (ts : List Store) → are_stores_first (ended ts) ≡ true
  ended_order [] = refl
  ended_order (t ∷ ts) = ended_order ts

  ended_first : (ts : List Store) → are_shards_first (ended ts) ≡ true
  ended_first [] = refl
  ended_first (t ∷ ts) = ended_order ts

  ended_length : (ts : List Store) → length (ended ts) ≡ length ts + 2
  ended_length [] = refl
  ended_length (t ∷ ts) = let rest = ended_length ts in omega arith

  pub composed_shards : (ss : List Shard) (ts : List Store) → shard_items (composed ss ts) ≡ ss
  composed_shards [] ts = ended_shards ts
  composed_shards (s ∷ ss) ts = ap (λ l. s ∷ l) (composed_shards ss ts)

  pub composed_stores : (ss : List Shard) (ts : List Store) → store_items (composed ss ts) ≡ ts
  composed_stores [] ts = ended_stores ts
  composed_stores (s ∷ ss) ts = composed_stores ss ts

  pub composed_desk : (ss : List Shard) (ts : List Store) → desk_in (composed ss ts) ≡ desks.contents_of d
  composed_desk [] ts = ended_desk_in ts
  composed_desk (s ∷ ss) ts = composed_desk ss ts

  pub composed_roster : (ss : List Shard) (ts : List Store) → roster_in (composed ss ts) ≡ rosters.contents_of r
  composed_roster [] ts = ended_roster ts
  composed_roster (s ∷ ss) ts = composed_roster ss ts

  pub composed_order : (ss : List Shard) (ts : List Store) → are_shards_first (composed ss ts) ≡ true
  composed_order [] ts = ended_first ts
  composed_order (s ∷ ss) ts = composed_order ss ts

  pub composed_length : (ss : List Shard) (ts : List Store) → length (composed ss ts) ≡ length ss + length ts + 2
  composed_length [] ts = let e = ended_length ts in omega arith
  composed_length (s ∷ ss) ts = let rest = composed_length ss ts in omega arith

-- ---- one place is changed
pub set_shard : (d : Desk) (r : Roster) (ss : List Shard) (ts : List Store) (i : ℕ) (s : Shard) → i < length ss → set (composed d r ss ts) i (kind.Shard s) ≡ composed d r (set ss i s) ts
set_shard d r [] ts i s lt = absurd (omega arith)
set_shard d r (x ∷ ss) ts zero s lt = refl
set_shard d r (x ∷ ss) ts (suc i) s lt = ap (λ l. kind.Shard x ∷ l) (set_shard d r ss ts i s (omega arith))

ended_set : (d : Desk) (r : Roster) (ts : List Store) (j : ℕ) (t : Store) → j < length ts → set (ended d r ts) j (kind.Store t) ≡ ended d r (set ts j t)
ended_set d r [] j t lt = absurd (omega arith)
ended_set d r (x ∷ ts) zero t lt = refl
ended_set d r (x ∷ ts) (suc j) t lt = ap (λ l. kind.Store x ∷ l) (ended_set d r ts j t (omega arith))

pub set_store : (d : Desk) (r : Roster) (ss : List Shard) (ts : List Store) (i j : ℕ) (t : Store) → i ≡ length ss + j → j < length ts → set (composed d r ss ts) i (kind.Store t) ≡ composed d r ss (set ts j t)
set_store d r [] ts i j t at lt = ap (λ n. set (ended d r ts) n (kind.Store t)) (omega (arith, at)) ∙ ended_set d r ts j t lt
set_store d r (x ∷ ss) ts zero j t at lt = absurd (omega (arith, at))
set_store d r (x ∷ ss) ts (suc i) j t at lt = ap (λ l. kind.Shard x ∷ l) (set_store d r ss ts i j t (omega (arith, at)) lt)

ended_desk : (d e : Desk) (r : Roster) (ts : List Store) → set (ended d r ts) (length ts) (kind.Desk e) ≡ ended e r ts
ended_desk d e r [] = refl
ended_desk d e r (t ∷ ts) = ap (λ l. kind.Store t ∷ l) (ended_desk d e r ts)

pub set_desk : (d e : Desk) (r : Roster) (ss : List Shard) (ts : List Store) (i : ℕ) → i ≡ length ss + length ts → set (composed d r ss ts) i (kind.Desk e) ≡ composed e r ss ts
set_desk d e r [] ts i at = ap (λ n. set (ended d r ts) n (kind.Desk e)) (omega (arith, at)) ∙ ended_desk d e r ts
set_desk d e r (s ∷ ss) ts zero at = absurd (omega (arith, at))
set_desk d e r (s ∷ ss) ts (suc i) at = ap (λ l. kind.Shard s ∷ l) (set_desk d e r ss ts i (omega (arith, at)))

ended_last : (d : Desk) (r q : Roster) (ts : List Store) (i : ℕ) → i ≡ length ts + 1 → set (ended d r ts) i (kind.Roster q) ≡ ended d q ts
ended_last d r q [] i at = ap (λ n. set (ended d r []) n (kind.Roster q)) at
ended_last d r q (t ∷ ts) zero at = absurd (omega (arith, at))
ended_last d r q (t ∷ ts) (suc i) at = ap (λ l. kind.Store t ∷ l) (ended_last d r q ts i (omega (arith, at)))

pub set_roster : (d : Desk) (r q : Roster) (ss : List Shard) (ts : List Store) (i : ℕ) → i ≡ length ss + length ts + 1 → set (composed d r ss ts) i (kind.Roster q) ≡ composed d q ss ts
set_roster d r q [] ts i at = ended_last d r q ts i (omega (arith, at))
set_roster d r q (s ∷ ss) ts zero at = absurd (omega (arith, at))
set_roster d r q (s ∷ ss) ts (suc i) at = ap (λ l. kind.Shard s ∷ l) (set_roster d r q ss ts i (omega (arith, at)))

-- ---- where a place stands in such a list
module _ (d : Desk) (r : Roster) where
  abbrev pub Stands : List Shard → List Store → ℕ → Place → Type 0
  Stands ss ts i (kind.Shard s) = (i < length ss) × (s ≡ get_or ss i s)
  Stands ss ts i (kind.Store t) = (j : ℕ) × (i ≡ length ss + j) × (j < length ts) × (t ≡ get_or ts j t)
  Stands ss ts i (kind.Desk e) = (i ≡ length ss + length ts) × (e ≡ d)
  Stands ss ts i (kind.Roster q) = (i ≡ length ss + length ts + 1) × (q ≡ r)

  after_store : (t : Store) (ts : List Store) (i : ℕ) (w : Place) → Stands [] ts i w → Stands [] (t ∷ ts) (suc i) w
  after_store t ts i (kind.Shard s) h = absurd (let lt = h.0 in omega arith)
  after_store t ts i (kind.Store x) h = (suc h.0, omega (arith, h.1), omega (arith, h.2), h.3)
  after_store t ts i (kind.Desk e) h = (omega (arith, h.0), h.1)
  after_store t ts i (kind.Roster q) h = (omega (arith, h.0), h.1)

  in_ended : (ts : List Store) (i : ℕ) (w : Place) → i < length (ended d r ts) → w ≡ get_or (ended d r ts) i w → Stands [] ts i w
  in_ended [] zero w lt is = subst (Stands [] [] 0) (sym is) (refl, refl)
  in_ended [] (suc zero) w lt is = subst (Stands [] [] 1) (sym is) (refl, refl)
  in_ended [] (suc (suc i)) w lt is = absurd (omega arith)
  in_ended (t ∷ ts) zero w lt is = subst (Stands [] (t ∷ ts) 0) (sym is) (0, refl, omega arith, refl)
  in_ended (t ∷ ts) (suc i) w lt is = after_store t ts i w (in_ended ts i w (omega arith) is)

  after_shard : (s : Shard) (ss : List Shard) (ts : List Store) (i : ℕ) (w : Place) → Stands ss ts i w → Stands (s ∷ ss) ts (suc i) w
  after_shard s ss ts i (kind.Shard x) h = (omega (arith, h.0), h.1)
  after_shard s ss ts i (kind.Store t) h = (h.0, omega (arith, h.1), h.2, h.3)
  after_shard s ss ts i (kind.Desk e) h = (omega (arith, h.0), h.1)
  after_shard s ss ts i (kind.Roster q) h = (omega (arith, h.0), h.1)

  pub stands : (ss : List Shard) (ts : List Store) (i : ℕ) (w : Place) → i < length (composed d r ss ts) → w ≡ get_or (composed d r ss ts) i w → Stands ss ts i w
  stands [] ts i w lt is = in_ended ts i w lt is
  stands (s ∷ ss) ts zero w lt is = subst (Stands (s ∷ ss) ts 0) (sym is) (omega arith, refl)
  stands (s ∷ ss) ts (suc i) w lt is = after_shard s ss ts i w (stands ss ts i w (omega arith) is)

-- ---- places in order are such a list
pub record Composed (places : List Place) : Type 0 where
  pub desk : Desk
  pub roster : Roster
  pub is : places ≡ composed desk roster (shard_items places) (store_items places)

pub record Ended (places : List Place) : Type 0 where
  pub desk : Desk
  pub roster : Roster
  pub none : shard_items places ≡ []
  pub is : places ≡ ended desk roster (store_items places)

end : (places : List Place) → are_stores_first places ≡ true → Ended places
end [] h = cc
end (kind.Shard s ∷ ps) h = cc
end (kind.Store t ∷ ps) h = let e = end ps h in record { desk = e.desk; roster = e.roster; none = e.none; is = ap (λ l. kind.Store t ∷ l) e.is }
end (kind.Desk d ∷ []) h = cc
end (kind.Desk d ∷ kind.Shard s ∷ ps) h = cc
end (kind.Desk d ∷ kind.Store t ∷ ps) h = cc
end (kind.Desk d ∷ kind.Desk e ∷ ps) h = cc
end (kind.Desk d ∷ kind.Roster r ∷ []) h = record { desk = d; roster = r; none = refl; is = refl }
end (kind.Desk d ∷ kind.Roster r ∷ p ∷ ps) h = cc
end (kind.Roster r ∷ ps) h = cc

no_shards : (places : List Place) → are_stores_first places ≡ true → Composed places
no_shards places h = let e = end places h in record { desk = e.desk; roster = e.roster; is = e.is ∙ ap (λ ss. composed e.desk e.roster ss (store_items places)) (sym e.none) }

pub compose : (places : List Place) → are_shards_first places ≡ true → Composed places
compose [] h = cc
compose (kind.Shard s ∷ ps) h = let c = compose ps h in record { desk = c.desk; roster = c.roster; is = ap (λ l. kind.Shard s ∷ l) c.is }
compose (kind.Store t ∷ ps) h = no_shards (kind.Store t ∷ ps) h
compose (kind.Desk d ∷ ps) h = no_shards (kind.Desk d ∷ ps) h
compose (kind.Roster r ∷ ps) h = no_shards (kind.Roster r ∷ ps) h
