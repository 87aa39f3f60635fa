-- Where an actor of a list is, and a new place for it.
use Rattle.std.proofs.Common.{◌≡◌, ℕ, suc, zero, ◌+◌, ◌<◌, ◌≤◌, List, [], ◌∷◌, Bool, true, false, cond, refl, sym, ap, ◌∙◌, arith, set, get_or, length}
use Rattle.std.specs.Prelude.{if◌then◌else◌, ◌||◌, not, Some, None, position}
use Rattle.std.specs.List.{position_or_len}
use Rattle.std.proofs.lemmas.Bool.Decides.{nat_tests}
use Rattle.next_ids.specs.declared.ids.Actor.{Actor}
use Rattle.next_actor.specs.Standings.{Standing, actor_of}
use Rattle.next_core.specs.Casts.{is_same, is_of, is_member, standing_at}
use Rattle.next_core.proofs.Same.{same-is, same-itself}

-- by the number of those before it
at_place : (ss : List Standing) (actor : Actor) (i : ℕ) (d : Standing) → position_or_len (is_of actor) ss ≡ i → i < length ss
    → (is_of actor (get_or ss i d) ≡ true) × (standing_at ss actor ≡ get_or ss i d)
at_place [] actor i d e lt = absurd (omega arith)
at_place (s ∷ ss) actor zero d e lt = by_test (is_of actor s) refl e
  where
    by_test : (b : Bool) → is_of actor s ≡ b → cond (not b) (1 + position_or_len (is_of actor) ss) 0 ≡ 0 → (is_of actor s ≡ true) × ((if b then s else standing_at ss actor) ≡ s)
    by_test true t e = (t, refl)
    by_test false t e = absurd (omega arith)
at_place (s ∷ ss) actor (suc i) d e lt = by_test (is_of actor s) refl e (λ e. at_place ss actor i d e (omega arith))
  where
    by_test : (b : Bool) → is_of actor s ≡ b → cond (not b) (1 + position_or_len (is_of actor) ss) 0 ≡ suc i
        → (position_or_len (is_of actor) ss ≡ i → (is_of actor (get_or ss i d) ≡ true) × (standing_at ss actor ≡ get_or ss i d))
        → (is_of actor (get_or ss i d) ≡ true) × ((if b then s else standing_at ss actor) ≡ get_or ss i d)
    by_test true t e rest = absurd (omega arith)
    by_test false t e rest = rest (omega arith)

-- the new one is found, and each other as before
set_place : (ss : List Standing) (actor : Actor) (i : ℕ) (new : Standing) → position_or_len (is_of actor) ss ≡ i → i < length ss → actor_of new ≡ actor
    → (other : Actor) → standing_at (set ss i new) other ≡ (if is_same actor other then new else standing_at ss other)
set_place [] actor i new e lt own other = absurd (omega arith)
set_place (s ∷ ss) actor zero new e lt own other = by_test (is_of actor s) refl e
  where
    by_other : (b : Bool) → is_same actor other ≡ b → actor_of s ≡ actor → (if b then new else standing_at ss other) ≡ (if b then new else (if is_of other s then s else standing_at ss other))
    by_other true t is = refl
    by_other false t is = let no : is_of other s ≡ false = ap (λ (a : Actor). is_same a other) is ∙ t in rw no refl

    by_test : (b : Bool) → is_of actor s ≡ b → cond (not b) (1 + position_or_len (is_of actor) ss) 0 ≡ 0
        → (if is_of other new then new else standing_at ss other) ≡ (if is_same actor other then new else (if is_of other s then s else standing_at ss other))
    by_test true t e = ap (λ (a : Actor). if is_same a other then new else standing_at ss other) own ∙ by_other (is_same actor other) refl (same-is (actor_of s) actor t)
    by_test false t e = absurd (omega arith)
set_place (s ∷ ss) actor (suc i) new e lt own other = by_test (is_of actor s) refl e (λ e. set_place ss actor i new e (omega arith) own other)
  where
    by_other : (b : Bool) → is_of other s ≡ b → is_of actor s ≡ false → standing_at (set ss i new) other ≡ (if is_same actor other then new else standing_at ss other)
        → (if b then s else standing_at (set ss i new) other) ≡ (if is_same actor other then new else (if b then s else standing_at ss other))
    by_other true t away rest =
        let there : actor_of s ≡ other = same-is (actor_of s) other t in
        by_same (is_same actor other) refl there
      where
        by_same : (b : Bool) → is_same actor other ≡ b → actor_of s ≡ other → s ≡ (if b then new else s)
        by_same true u there =
            let here : actor_of s ≡ actor = there ∙ sym (same-is actor other u) in
            let clash : is_of actor s ≡ true = ap (λ (a : Actor). is_same a actor) here ∙ same-itself actor in
            cc
        by_same false u there = refl
    by_other false t away rest = rest

    by_test : (b : Bool) → is_of actor s ≡ b → cond (not b) (1 + position_or_len (is_of actor) ss) 0 ≡ suc i
        → (position_or_len (is_of actor) ss ≡ i → standing_at (set ss i new) other ≡ (if is_same actor other then new else standing_at ss other))
        → (if is_of other s then s else standing_at (set ss i new) other) ≡ (if is_same actor other then new else (if is_of other s then s else standing_at ss other))
    by_test true t e rest = absurd (omega arith)
    by_test false t e rest = by_other (is_of other s) refl t (rest (omega arith))

found : (ss : List Standing) (actor : Actor) (i : ℕ) → position (is_of actor) ss ≡ Some i → (position_or_len (is_of actor) ss ≡ i) × (i < length ss)
found ss actor i h = (grind (arith, nat_tests), grind (arith, nat_tests))

pub within-at : (ss : List Standing) (actor : Actor) (i : ℕ) → position (is_of actor) ss ≡ Some i → i < length ss
within-at ss actor i h = (found ss actor i h).1

pub standing-at : (ss : List Standing) (actor : Actor) (i : ℕ) (d : Standing) → position (is_of actor) ss ≡ Some i → standing_at ss actor ≡ get_or ss i d
standing-at ss actor i d h = let f = found ss actor i h in (at_place ss actor i d f.0 f.1).1

pub actor-at : (ss : List Standing) (actor : Actor) (i : ℕ) (d : Standing) → position (is_of actor) ss ≡ Some i → is_of actor (get_or ss i d) ≡ true
actor-at ss actor i d h = let f = found ss actor i h in (at_place ss actor i d f.0 f.1).0

pub standing-set : (ss : List Standing) (actor : Actor) (i : ℕ) (new : Standing) → position (is_of actor) ss ≡ Some i → actor_of new ≡ actor
    → (other : Actor) → standing_at (set ss i new) other ≡ (if is_same actor other then new else standing_at ss other)
standing-set ss actor i new h own = let f = found ss actor i h in set_place ss actor i new f.0 f.1 own

-- ---- an actor with a state has an index
none_any : (ss : List Standing) (actor : Actor) → length ss ≤ position_or_len (is_of actor) ss → is_member ss actor ≡ false
none_any [] actor h = refl
none_any (s ∷ ss) actor h = by_test (is_of actor s) h (none_any ss actor)
  where
    by_test : (b : Bool) → suc (length ss) ≤ cond (not b) (1 + position_or_len (is_of actor) ss) 0 → (length ss ≤ position_or_len (is_of actor) ss → is_member ss actor ≡ false) → (b || is_member ss actor) ≡ false
    by_test true h rest = absurd (omega arith)
    by_test false h rest = rest (omega arith)

pub no-index : (ss : List Standing) (actor : Actor) → position (is_of actor) ss ≡ None → is_member ss actor ≡ true → ⊥
no-index ss actor none member = let not = none_any ss actor (grind (arith, nat_tests)) in cc
