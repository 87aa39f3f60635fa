-- A client's new state in the place of its old one.
use Rattle.std.proofs.Common.{◌≡◌, ℕ, suc, zero, ◌+◌, ◌<◌, ◌≤◌, List, [], ◌∷◌, Bool, true, false, cond, refl, ap, arith, set, get_or, length, zero}
use Rattle.std.specs.Prelude.{if◌then◌else◌, ◌==◌, ◌||◌, Some, None, position}
use Rattle.std.specs.List.{position_or_len}
use Rattle.std.proofs.lemmas.Bool.Decides.{nat_tests}
use Rattle.cfs_rules.specs.Worlds.{set_client}
use Rattle.cfs_actor.specs.declared.client_state.ClientState.{ClientState}
use Rattle.cfs_actor.specs.Clients.{client_of, progress_of}
use Rattle.cfs_core.specs.Clients.{progress_in, members_of, is_member}

abbrev is_of : ℕ → ClientState → Bool
is_of c state = (client_of state).0 == c

place_in : List ClientState → ℕ → ℕ
place_in states c = position_or_len (is_of c) states

-- by the number of states before the client's
at_place : (states : List ClientState) (c i : ℕ) (d : ClientState) → position_or_len (is_of c) states ≡ i → i < length states
    → (((client_of (get_or states i d)).0 ≡ c) × (progress_in states c ≡ progress_of (get_or states i d)))
at_place [] c i d e lt = absurd (omega arith)
at_place (s ∷ states) c zero d e lt = by_test (is_of c s) refl e
  where
    by_test : (b : Bool) → is_of c s ≡ b → cond (Rattle.std.specs.Prelude.not b) (1 + position_or_len (is_of c) states) 0 ≡ 0 → ((client_of s).0 ≡ c) × ((if b then progress_of s else progress_in states c) ≡ progress_of s)
    by_test true t e = (grind (arith, nat_tests), refl)
    by_test false t e = absurd (omega arith)
at_place (s ∷ states) c (suc i) d e lt = by_test (is_of c s) refl e (λ e. at_place states c i d e (omega arith))
  where
    by_test : (b : Bool) → is_of c s ≡ b → cond (Rattle.std.specs.Prelude.not b) (1 + position_or_len (is_of c) states) 0 ≡ suc i
        → (position_or_len (is_of c) states ≡ i → ((client_of (get_or states i d)).0 ≡ c) × (progress_in states c ≡ progress_of (get_or states i d)))
        → ((client_of (get_or states i d)).0 ≡ c) × ((if b then progress_of s else progress_in states c) ≡ progress_of (get_or states i d))
    by_test true t e rest = absurd (omega arith)
    by_test false t e rest = rest (omega arith)

-- the clients with the new state there
set-place : (states : List ClientState) (c i : ℕ) (new : ClientState) → position_or_len (is_of c) states ≡ i → i < length states → (client_of new).0 ≡ c
    → (q : ℕ) → progress_in (set states i new) q ≡ set_client (progress_in states) c (progress_of new) q
set-place [] c i new e lt own q = absurd (omega arith)
set-place (s ∷ states) c zero new e lt own q = by_test (is_of c s) refl e
  where
    by_test : (b : Bool) → is_of c s ≡ b → cond (Rattle.std.specs.Prelude.not b) (1 + position_or_len (is_of c) states) 0 ≡ 0
        → (if (client_of new).0 == q then progress_of new else progress_in states q) ≡ (if q == c then progress_of new else (if (client_of s).0 == q then progress_of s else progress_in states q))
    by_test true t e = let same : (client_of s).0 ≡ c = grind (arith, nat_tests) in by_client (q == c) refl same
      where
        by_client : (b : Bool) → (q == c) ≡ b → (client_of s).0 ≡ c → (if (client_of new).0 == q then progress_of new else progress_in states q) ≡ (if b then progress_of new else (if (client_of s).0 == q then progress_of s else progress_in states q))
        by_client true u same = let is : ((client_of new).0 == q) ≡ true = grind (arith, nat_tests) in rw is refl
        by_client false u same = let no : ((client_of new).0 == q) ≡ false = grind (arith, nat_tests) in let not : ((client_of s).0 == q) ≡ false = grind (arith, nat_tests) in rw (no, not) refl
    by_test false t e = absurd (omega arith)
set-place (s ∷ states) c (suc i) new e lt own q = by_test (is_of c s) refl e (λ e. set-place states c i new e (omega arith) own q)
  where
    by_test : (b : Bool) → is_of c s ≡ b → cond (Rattle.std.specs.Prelude.not b) (1 + position_or_len (is_of c) states) 0 ≡ suc i
        → (position_or_len (is_of c) states ≡ i → progress_in (set states i new) q ≡ set_client (progress_in states) c (progress_of new) q)
        → (if (client_of s).0 == q then progress_of s else progress_in (set states i new) q) ≡ (if q == c then progress_of new else (if (client_of s).0 == q then progress_of s else progress_in states q))
    by_test true t e rest = absurd (omega arith)
    by_test false t e rest = by_client ((client_of s).0 == q) refl (rest (omega arith))
      where
        by_client : (b : Bool) → ((client_of s).0 == q) ≡ b → progress_in (set states i new) q ≡ set_client (progress_in states) c (progress_of new) q
            → (if b then progress_of s else progress_in (set states i new) q) ≡ (if q == c then progress_of new else (if b then progress_of s else progress_in states q))
        by_client true u rest = let no : (q == c) ≡ false = grind (arith, nat_tests) in rw no refl
        by_client false u rest = rest

found : (states : List ClientState) (c i : ℕ) → position (is_of c) states ≡ Some i → (position_or_len (is_of c) states ≡ i) × (i < length states)
found states c i h = (grind (arith, nat_tests), grind (arith, nat_tests))

pub progress_in-at : (states : List ClientState) (c i : ℕ) (d : ClientState) → position (λ (state : ClientState). (client_of state).0 == c) states ≡ Some i → progress_in states c ≡ progress_of (get_or states i d)
progress_in-at states c i d h = let f = found states c i h in (at_place states c i d f.0 f.1).1

pub client-at : (states : List ClientState) (c i : ℕ) (d : ClientState) → position (λ (state : ClientState). (client_of state).0 == c) states ≡ Some i → (client_of (get_or states i d)).0 ≡ c
client-at states c i d h = let f = found states c i h in (at_place states c i d f.0 f.1).0

pub progress_in-set : (states : List ClientState) (c i : ℕ) (new : ClientState) → position (λ (state : ClientState). (client_of state).0 == c) states ≡ Some i → (client_of new).0 ≡ c → progress_in (set states i new) ≡ set_client (progress_in states) c (progress_of new)
progress_in-set states c i new h own = let f = found states c i h in λ j q. set-place states c i new f.0 f.1 own q j

pub members_of-set : (states : List ClientState) (i : ℕ) (new d : ClientState) → (client_of new).0 ≡ (client_of (get_or states i d)).0 → members_of (set states i new) ≡ members_of states
members_of-set [] i new d same = refl
members_of-set (s ∷ states) zero new d same = ap (λ n. n ∷ members_of states) same
members_of-set (s ∷ states) (suc i) new d same = ap (λ ms. (client_of s).0 ∷ ms) (members_of-set states i new d same)

none_any : (states : List ClientState) (c : ℕ) → length states ≤ position_or_len (is_of c) states → is_member states c ≡ false
none_any [] c h = refl
none_any (s ∷ states) c h = by_test (is_of c s) h (none_any states c)
  where
    by_test : (b : Bool) → suc (length states) ≤ cond (Rattle.std.specs.Prelude.not b) (1 + position_or_len (is_of c) states) 0 → (length states ≤ position_or_len (is_of c) states → is_member states c ≡ false) → (b || is_member states c) ≡ false
    by_test true h rest = absurd (omega arith)
    by_test false h rest = rest (omega arith)

-- a client with a state has an index
pub no-index : (states : List ClientState) (c : ℕ) → position (λ (state : ClientState). (client_of state).0 == c) states ≡ None → is_member states c ≡ true → ⊥
no-index states c none member = let not = none_any states c (grind (arith, nat_tests)) in cc
