-- The steps of a core are the entries of its logs, and no number is above them.
use Rattle.std.specs.Prelude.{◌≡◌, ℕ, suc, zero, ◌+◌, ◌≤◌, List, length}
use Rattle.next_ids.specs.declared.ids.Actor.{Actor}
use Rattle.next_ids.specs.declared.ids.PlaceNo.{PlaceNo}
use Rattle.next_rules.specs.Actors.{Actors, last_of}
use Rattle.next_places.specs.Held.{Held}

-- the sum over the numbers below n
abbrev pub sum_below : ℕ → (ℕ → ℕ) → ℕ
sum_below zero f = 0
sum_below (suc n) f = sum_below n f + f n

-- place numbers are below 130
pub record IsCounted (order : List PlaceNo) (h : Held) (actors : Actors) : Type 0 where
  pub total : sum_below 130 (λ p. length (h.logs p)) ≡ length order
  pub short : (p : ℕ) → length (h.logs p) ≤ 1048576
  pub low : (p : ℕ) → h.lasts p ≤ length order
  pub actors_low : (actor : Actor) → last_of actors actor ≤ length order
