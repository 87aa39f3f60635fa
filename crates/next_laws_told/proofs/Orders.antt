-- The items stand in the order of a history, and no two moves stand at one position.
use Rattle.std.proofs.Common.{◌≡◌, ℕ, ◌<◌, List, map, true, false, refl, sym, ◌∙◌, subst, arith, inl, inr}
use Rattle.std.proofs.lemmas.Bool.{and_parts, not-true, both_ways}
use Rattle.std.specs.Prelude.{is_none, Option, Some, None}
use Rattle.next_ids.specs.declared.ids.PlaceNo.{PlaceNo}
use Rattle.next_steps.specs.declared.entry.Entry.{Entry}
use Rattle.next_steps.specs.declared.line.Line.{Line}
use Rattle.next_steps.specs.declared.line.Outcome.{Outcome}
use Rattle.next_steps.specs.declared.line.Outcome.TheVariants as outcome
use Rattle.next_steps.specs.declared.line.HistoryItem.{HistoryItem}
use Rattle.next_steps.specs.declared.line.HistoryItem.TheVariants.{Line as LineItem}
use Rattle.next_rules.specs.Histories.{is_move, stands_at, told_at, unplaced, ordered}
use Rattle.next_rules.specs.Legal.{Positions, Told, StandsBefore, MovesApart, EndsBelow, moves}
use Rattle.next_rules.specs.Moves.{ItemsMatch}
use Rattle.next_laws_order.proofs.Lists.{Every, Pairs, Every-filter, Pairs-with, Pairs-filter}
use Rattle.next_laws_told.proofs.Runs.{moved_in}
use Rattle.next_laws_told.proofs.AllLines.{IsPlaced, InOrder}
use Rattle.next_laws_told.proofs.Ordered.{IsToldAt, told_items, moving_at, is_told, at_is, none_is, pairs_item, pairs_every, told_are, pairs_few, every_item, pairs_ordered}

-- a line without a position has not ended, and is no move
unplaced_last : (o : Outcome) (first : ℕ) (last : Option ℕ) → Positions o first None last → last ≡ None
unplaced_last (outcome.Moved ts made) first last h = absurd h
unplaced_last (outcome.Reply reply) first last h = absurd h
unplaced_last (outcome.Unfinished None) first None h = refl
unplaced_last (outcome.Unfinished None) first (Some last) h = absurd h
unplaced_last (outcome.Unfinished (Some found)) first last h = absurd h

unplaced_move : (o : Outcome) (first : ℕ) (last : Option ℕ) → Positions o first None last → is_move o ≡ false
unplaced_move (outcome.Moved ts made) first last h = absurd h
unplaced_move (outcome.Reply reply) first last h = absurd h
unplaced_move (outcome.Unfinished None) first last h = refl
unplaced_move (outcome.Unfinished (Some found)) first last h = absurd h

module _ (run : List (PlaceNo × Entry)) (lines : List Line) (are_placed : Every IsPlaced lines) (order : Pairs InOrder lines) (few : (p : ℕ) → ItemsMatch p (moved_in run p) (moving_at p run lines)) where
  nowhere : (x : Line) → is_none x.at ≡ true → IsPlaced x → Positions x.outcome x.first None x.last
  nowhere x none h = subst (λ at. Positions x.outcome x.first at x.last) (none_is x.at none) h

  -- ---- the order
  by_first : (x y : Line) → InOrder x y → Told (LineItem x) (LineItem y)
  by_first x y (inl lt) = inl lt
  by_first x y (inr follows) = inr (follows.0, follows.1.0)

  lower : (x y : Line) → x.last ≡ None → InOrder x y → x.client.0 < y.client.0
  lower x y none (inl lt) = lt
  lower x y none (inr follows) = absurd (subst (λ last. EndsBelow last y.first) none follows.1.1)

  told_in_order : (p : ℕ) (x y : Line) → is_told p x ≡ true → is_told p y ≡ true → InOrder x y → StandsBefore (LineItem x) (LineItem y)
  told_in_order p x y a b r =
      rw (at_is p x.at (and_parts _ _ a).0, at_is p y.at (and_parts _ _ b).0, not-true (is_move x.outcome) (and_parts (stands_at p x.at) _ a).1, not-true (is_move y.outcome) (and_parts (stands_at p y.at) _ b).1)
      (inr (refl, by_first x y r))

  unplaced_in_order : (x y : Line) → is_none x.at ≡ true → is_none y.at ≡ true → IsPlaced x × (IsPlaced y × InOrder x y) → StandsBefore (LineItem x) (LineItem y)
  unplaced_in_order x y a b r = rw (none_is x.at a, none_is y.at b) (lower x y (unplaced_last x.outcome x.first x.last (nowhere x a r.0)) r.1.1)

  pub in_order : Pairs StandsBefore (ordered run lines)
  in_order = pairs_ordered run lines StandsBefore
      (λ p. pairs_item StandsBefore (told_at p lines) (Pairs-filter (is_told p) InOrder (λ x y. StandsBefore (LineItem x) (LineItem y)) lines (told_in_order p) order))
      (λ p x y a b. rw (a.0, b.0, a.1, b.1) (inr (refl, tt)))
      (λ p. pairs_few StandsBefore p (moved_in run p) (moving_at p run lines) (few p))
      (λ p q lt x y a b. rw (a, b) (inl lt))
      (λ p x y a b. rw (a, b) tt)
      (pairs_item StandsBefore (unplaced lines) (Pairs-filter (λ line. is_none line.at) (λ x y. IsPlaced x × (IsPlaced y × InOrder x y)) (λ x y. StandsBefore (LineItem x) (LineItem y)) lines unplaced_in_order (Pairs-with IsPlaced InOrder lines are_placed order)))

  -- ---- moves at one position
  IsStill : HistoryItem → Type 0
  IsStill x = moves x ≡ false

  two_positions : (p q : ℕ) → p < q → Some p ≡ Some q → ⊥
  two_positions p q lt same = let at : p ≡ q = cc in omega arith

  position_or_none : (p : ℕ) → Some p ≡ None → ⊥
  position_or_none p same = cc

  pub moves_apart : Pairs MovesApart (ordered run lines)
  moves_apart = pairs_ordered run lines MovesApart
      (λ p. pairs_every (IsToldAt p) MovesApart (told_items p lines) (λ x y a b m k same. both_ways (moves x) a.1 m) (told_are p lines))
      (λ p x y a b m k same. both_ways (moves x) a.1 m)
      (λ p. pairs_few MovesApart p (moved_in run p) (moving_at p run lines) (few p))
      (λ p q lt x y a b m k same. two_positions p q lt (sym a ∙ same ∙ b))
      (λ p x y a b m k same. position_or_none p (sym a ∙ same ∙ b))
      (pairs_every (λ x. moves x ≡ false) MovesApart (map LineItem (unplaced lines)) (λ x y a b m k same. both_ways (moves x) a m)
      (every_item (λ x. moves x ≡ false) (unplaced lines) (Every-filter (λ line. is_none line.at) IsPlaced (λ line. is_move line.outcome ≡ false) lines (λ x a h. unplaced_move x.outcome x.first x.last (nowhere x a h)) are_placed)))
