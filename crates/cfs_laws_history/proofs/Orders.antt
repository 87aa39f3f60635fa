-- The lines in order stand in the order of a history, the calls of each client follow one another, and no two moves stand at one position.
use Rattle.std.proofs.Common.{◌≡◌, ◌≢◌, ℕ, ◌<◌, List, Bool, true, false, refl, sym, ◌∙◌, ap, subst, arith, ◌⊎◌, inl, inr}
use Rattle.std.proofs.lemmas.Bool.{both_ways}
use Rattle.std.specs.Prelude.{◌&&◌, not, Option, Some, None}
use Rattle.cfs_steps.specs.declared.line.Line.{Line}
use Rattle.cfs_steps.specs.declared.line.Outcome.{Outcome}
use Rattle.cfs_steps.specs.declared.line.Outcome.TheVariants as outcome
use Rattle.cfs_steps.specs.declared.moves.Moved.{Moved}
use Rattle.cfs_steps.specs.declared.moves.Moved.TheVariants.{Move}
use Rattle.cfs_rules.specs.Facts.{LinesMatch}
use Rattle.cfs_rules.specs.Histories.{is_move, stands_at, moved_at, ordered}
use Rattle.cfs_rules.specs.Legal.{Positions, LineBefore, Tied, Follows, EndsBelow}
use Rattle.cfs_laws_history.proofs.Lists.{Every, Pairs, Pairs-with, Pairs-filter}
use Rattle.cfs_laws_history.proofs.Pasts.{IsPlaced}
use Rattle.cfs_laws_history.proofs.AllLines.{InOrder}
use Rattle.cfs_laws_history.proofs.Ordered.{is_told, is_moved, first_true, second_true, not_true, at_is, none_is, pairs_ordered}

-- one line at most
pub pairs_few : (R : Line → Line → Type 0) (moved : Option Moved) (lines : List Line) → LinesMatch moved lines → Pairs R lines
pairs_few R None lines h = subst (Pairs R) (sym h) tt
pairs_few R (Some (Move m)) lines h = subst (Pairs R) (sym h.1) (tt, tt)

-- a line without a position has not ended, and is no move
unplaced_last : (o : Outcome) (first : ℕ) (last : Option ℕ) → Positions o first None last → last ≡ None
unplaced_last (outcome.Moved ts made) first last h = absurd h
unplaced_last (outcome.Reply reply) first last h = absurd h
unplaced_last (outcome.Unfinished None) first None h = refl
unplaced_last (outcome.Unfinished None) first (Some last) h = absurd h
unplaced_last (outcome.Unfinished (Some found)) first last h = absurd h

unplaced_move : (o : Outcome) (first : ℕ) (last : Option ℕ) → Positions o first None last → is_move o ≡ false
unplaced_move (outcome.Moved ts made) first last h = absurd h
unplaced_move (outcome.Reply reply) first last h = absurd h
unplaced_move (outcome.Unfinished None) first last h = refl
unplaced_move (outcome.Unfinished (Some found)) first last h = absurd h

-- what is known of a line and a later one
abbrev pub PlacedInOrder : Line → Line → Type 0
PlacedInOrder x y = IsPlaced x × (IsPlaced y × InOrder x y)

told_not : (p : ℕ) (x : Line) → is_told p x ≡ true → is_move x.outcome ≡ false
told_not p x h = not_true (is_move x.outcome) (second_true (stands_at p x.at) (not (is_move x.outcome)) h)

position : (p : ℕ) (x : Line) (b : Bool) → (stands_at p x.at && b) ≡ true → x.at ≡ Some p
position p x b h = at_is p x.at (first_true (stands_at p x.at) b h)

module _ (lines : List Line) (placed : Every IsPlaced lines) (order : Pairs InOrder lines) (moved : ℕ → Option Moved) (few : (p : ℕ) → LinesMatch (moved p) (moved_at p lines)) where
  known : Pairs PlacedInOrder lines
  known = Pairs-with IsPlaced InOrder lines placed order

  -- ---- the order
  abbrev Before : Line → Line → Type 0
  Before x y = LineBefore x y x.at y.at

  tied : (x y : Line) → InOrder x y → Tied x y false false
  tied x y (inl lt) = inl lt
  tied x y (inr follows) = inr (follows.0, follows.1.0)

  lower : (x y : Line) → x.last ≡ None → InOrder x y → x.client.0 < y.client.0
  lower x y none (inl lt) = lt
  lower x y none (inr follows) = absurd (subst (λ last. EndsBelow last y.first) none follows.1.1)

  pub in_order : (n : ℕ) → Pairs Before (ordered n lines)
  in_order n = pairs_ordered PlacedInOrder Before lines known
      (λ p x y a b r. rw (position p x _ a, position p y _ b, told_not p x a, told_not p y b) (inr (refl, tied x y r.1.1)))
      (λ p x y a b r. rw (position p x _ a, position p y _ b, told_not p x a, second_true (stands_at p y.at) (is_move y.outcome) b) (inr (refl, tt)))
      (λ p. pairs_few Before (moved p) (moved_at p lines) (few p))
      (λ p q x y lt a b r. rw (at_is p x.at a, at_is q y.at b) (inl lt))
      (λ p x y a b r. rw (at_is p x.at a, none_is y.at b) tt)
      (λ x y a b r. rw (none_is x.at a, none_is y.at b) (lower x y (unplaced_last x.outcome x.first x.last (subst (λ at. Positions x.outcome x.first at x.last) (none_is x.at a) r.0)) r.1.1))
      n

  -- ---- one client's calls
  abbrev ApartLines : Line → Line → Type 0
  ApartLines x y = x.client ≡ y.client → Follows x y ⊎ Follows y x

  apart_of : (x y : Line) → InOrder x y → ApartLines x y
  apart_of x y (inl lt) same = let at : x.client.0 ≡ y.client.0 = ap (λ c. c.0) same in absurd (omega arith)
  apart_of x y (inr follows) same = inl follows.1

  turned : (x y : Line) → ApartLines y x → ApartLines x y
  turned x y h same = by_case (h (sym same))
    where
      by_case : Follows y x ⊎ Follows x y → Follows x y ⊎ Follows y x
      by_case (inl f) = inr f
      by_case (inr f) = inl f

  either : (x y : Line) → PlacedInOrder x y ⊎ PlacedInOrder y x → ApartLines x y
  either x y (inl r) = apart_of x y r.1.1
  either x y (inr r) = turned x y (apart_of y x r.1.1)

  pub calls_apart : (n : ℕ) → Pairs ApartLines (ordered n lines)
  calls_apart n = pairs_ordered PlacedInOrder ApartLines lines known
      (λ p x y a b r. apart_of x y r.1.1)
      (λ p x y a b r. either x y r)
      (λ p. Pairs-filter (is_moved p) PlacedInOrder ApartLines lines (λ x y a b r. apart_of x y r.1.1) known)
      (λ p q x y lt a b r. either x y r)
      (λ p x y a b r. either x y r)
      (λ x y a b r. apart_of x y r.1.1)
      n

  -- ---- moves at one position
  abbrev MovesApartLines : Line → Line → Type 0
  MovesApartLines x y = is_move x.outcome ≡ true → is_move y.outcome ≡ true → x.at ≢ y.at

  pub moves_apart : (n : ℕ) → Pairs MovesApartLines (ordered n lines)
  moves_apart n = pairs_ordered PlacedInOrder MovesApartLines lines known
      (λ p x y a b r m k same. both_ways (is_move x.outcome) (told_not p x a) m)
      (λ p x y a b r m k same. both_ways (is_move x.outcome) (told_not p x a) m)
      (λ p. pairs_few MovesApartLines (moved p) (moved_at p lines) (few p))
      (λ p q x y lt a b r m k same. two_positions p q lt (sym (at_is p x.at a) ∙ same ∙ at_is q y.at b))
      (λ p x y a b r m k same. position_or_none p (sym (at_is p x.at a) ∙ same ∙ none_is y.at b))
      (λ x y a b r m k same. both_ways (is_move x.outcome) (unplaced_move x.outcome x.first x.last (subst (λ at. Positions x.outcome x.first at x.last) (none_is x.at a) r.0)) m)
      n
    where
      two_positions : (p q : ℕ) → p < q → Some p ≡ Some q → ⊥
      two_positions p q lt same = let at : p ≡ q = cc in omega arith

      position_or_none : (p : ℕ) → Some p ≡ None → ⊥
      position_or_none p same = cc
