-- The replies and moves in order are those of the namespace, which ends as what the moves of the run make.
use Rattle.std.proofs.Common.{◌≡◌, ℕ, suc, ◌+◌, ◌≤◌, ◌<◌, List, [], ◌∷◌, ◌++◌, map, length, false, refl, sym, ◌∙◌, subst, arith}
use Rattle.std.specs.Prelude.{is_none, Option, Some, None}
use Rattle.std.proofs.lemmas.Bool.{and_parts, not-true}
use Rattle.next_ids.specs.declared.ids.PlaceNo.{PlaceNo}
use Rattle.next_ids.specs.declared.ids.Node.{Node}
use Rattle.next_ids.specs.declared.call.Call.{Call}
use Rattle.next_ids.specs.Namespace.{Namespace, after, IsDefined, empty_root}
use Rattle.next_steps.specs.declared.entry.Entry.{Entry}
use Rattle.next_steps.specs.declared.moves.Moved.{Moved}
use Rattle.next_steps.specs.declared.moves.Moved.TheVariants.{Move, Forget}
use Rattle.next_steps.specs.declared.moves.Move.{Move as MoveFacts}
use Rattle.next_steps.specs.declared.line.Line.{Line}
use Rattle.next_steps.specs.declared.line.Outcome.{Outcome}
use Rattle.next_steps.specs.declared.line.Outcome.TheVariants as outcome
use Rattle.next_steps.specs.declared.line.HistoryItem.{HistoryItem}
use Rattle.next_steps.specs.declared.line.HistoryItem.TheVariants.{Line as LineItem, Forget as ForgetItem}
use Rattle.next_rules.specs.Moves.{space, after_moved, IsAllowed, MovesAllowed, ItemsMatch, IsMoveOf}
use Rattle.next_rules.specs.Laws.{space_at}
use Rattle.next_rules.specs.Histories.{is_move, stands_at, told_at, items_at, placed, unplaced, ordered}
use Rattle.next_rules.specs.Legal.{Positions, RightIn, after_outcome, IsRightItem, after_item, Replies, final_from}
use Rattle.next_laws_order.proofs.Lists.{Every, Every-filter}
use Rattle.next_laws_told.proofs.Runs.{space_at-now, space_at-before, moved_in, moved_in-now, moved_in-other, moved_in-beyond}
use Rattle.next_laws_told.proofs.AllLines.{IsPlaced, IsToldRight}
use Rattle.next_laws_told.proofs.Ordered.{is_told, at_is, none_is, told_items, moving_at, items_split, every_item}

-- the items are right from one namespace on, and end in another
pub record Makes (n : Namespace) (items : List HistoryItem) (n' : Namespace) : Type 0 where
  pub replies : Replies n items
  pub last : final_from n items ≡ n'

makes_append : (n k n' : Namespace) (xs ys : List HistoryItem) → Makes n xs k → Makes k ys n' → Makes n (xs ++ ys) n'
makes_append n k n' [] ys h g = subst (λ m. Makes m ys n') (sym h.last) g
makes_append n k n' (x ∷ xs) ys h g =
    let rest = makes_append (after_item n x) k n' xs ys (record { replies = h.replies.1; last = h.last }) g in
    record { replies = (h.replies.0, rest.replies); last = rest.last }

-- an item that is right and leaves the namespace
abbrev IsQuiet : Namespace → HistoryItem → Type 0
IsQuiet n x = IsRightItem n x × (after_item n x ≡ n)

makes_quiet : (n : Namespace) (items : List HistoryItem) → Every (IsQuiet n) items → Makes n items n
makes_quiet n [] h = record { replies = tt; last = refl }
makes_quiet n (x ∷ items) h =
    let rest = subst (λ m. Makes m items n) (sym h.0.1) (makes_quiet n items h.1) in
    record { replies = (h.0.0, rest.replies); last = rest.last }

-- ---- replies
quiet_told : (run : List (PlaceNo × Entry)) (p : ℕ) (line : Line) (o : Outcome) → line.outcome ≡ o → line.at ≡ Some p → is_move o ≡ false → IsToldRight run line → RightIn (space_at run p) line o × (after_outcome (space_at run p) line o ≡ space_at run p)
quiet_told run p line (outcome.Moved ts made) is at still h = absurd (cc)
quiet_told run p line (outcome.Reply reply) is at still h = (h p reply at is, refl)
quiet_told run p line (outcome.Unfinished None) is at still h = (tt, refl)
quiet_told run p line (outcome.Unfinished (Some found)) is at still h = absurd (cc)

makes_told : (run : List (PlaceNo × Entry)) (p : ℕ) (lines : List Line) → Every (IsToldRight run) lines → Makes (space_at run p) (told_items p lines) (space_at run p)
makes_told run p lines h = makes_quiet (space_at run p) (told_items p lines) (every_item (IsQuiet (space_at run p)) (told_at p lines)
    (Every-filter (is_told p) (IsToldRight run) (λ line. IsQuiet (space_at run p) (LineItem line)) lines
    (λ x told right. quiet_told run p x x.outcome refl (at_is p x.at (and_parts _ _ told).0) (not-true (is_move x.outcome) (and_parts (stands_at p x.at) _ told).1) right) h))

quiet_unplaced : (n : Namespace) (line : Line) (o : Outcome) (first : ℕ) (last : Option ℕ) → Positions o first None last → RightIn n line o × (after_outcome n line o ≡ n)
quiet_unplaced n line (outcome.Moved ts made) first last h = absurd h
quiet_unplaced n line (outcome.Reply reply) first last h = absurd h
quiet_unplaced n line (outcome.Unfinished None) first last h = (tt, refl)
quiet_unplaced n line (outcome.Unfinished (Some found)) first last h = absurd h

makes_unplaced : (n : Namespace) (lines : List Line) → Every IsPlaced lines → Makes n (map LineItem (unplaced lines)) n
makes_unplaced n lines h = makes_quiet n (map LineItem (unplaced lines)) (every_item (IsQuiet n) (unplaced lines)
    (Every-filter (λ line. is_none line.at) IsPlaced (λ line. IsQuiet n (LineItem line)) lines
    (λ x none placed. quiet_unplaced n x x.outcome x.first x.last (subst (λ at. Positions x.outcome x.first at x.last) (none_is x.at none) placed)) h))

-- ---- moves
one_item : (n n' : Namespace) (x : HistoryItem) → IsRightItem n x → after_item n x ≡ n' → Makes n (x ∷ []) n'
one_item n n' x right last = record { replies = (right, tt); last = last }

defined_as : (n : Namespace) (call call' : Call) (made made' : Option Node) → call ≡ call' → made ≡ made' → IsDefined n call' made' → IsDefined n call made
defined_as n call call' made made' e f h = subst (λ c. IsDefined n c made) (sym e) (subst (IsDefined n call') (sym f) h)

move_right : (n : Namespace) (m : MoveFacts) (line : Line) (o : Outcome) → IsMoveOf m line o → IsDefined n m.call m.made → RightIn n line o × (after_outcome n line o ≡ after n m.call m.made m.ts)
move_right n m line (outcome.Moved ts made) is may = (defined_as n line.call m.call made m.made is.1 is.3 may, cc (is.1, is.2, is.3))
move_right n m line (outcome.Reply reply) is may = absurd is
move_right n m line (outcome.Unfinished None) is may = absurd is
move_right n m line (outcome.Unfinished (Some found)) is may = (defined_as n line.call m.call found.1 m.made is.1 is.3 may, cc (is.1, is.2, is.3))

makes_moved : (n : Namespace) (p : ℕ) (moved : Option Moved) (items : List HistoryItem) → ItemsMatch p moved items → IsAllowed n moved → Makes n items (after_moved n moved)
makes_moved n p None items h may = subst (λ l. Makes n l n) (sym h) (record { replies = tt; last = refl })
makes_moved n p (Some (Move m)) items h may =
    let right = move_right n m h.0 h.0.outcome h.2 may in
    subst (λ l. Makes n l (after n m.call m.made m.ts)) (sym h.1) (one_item n (after n m.call m.made m.ts) (LineItem h.0) right.0 right.1)
makes_moved n p (Some (Forget file)) items h may = subst (λ l. Makes n l (after_moved n (Some (Forget file)))) (sym h) (one_item n (after_moved n (Some (Forget file))) (ForgetItem p file) may refl)

-- ---- the items at the first positions; es is the run up to some step
module _ (run : List (PlaceNo × Entry)) (lines : List Line) (right : Every (IsToldRight run) lines) where
  makes_here : (n : Namespace) (p : ℕ) (moved : Option Moved) → space_at run p ≡ n → ItemsMatch p moved (moving_at p run lines) → IsAllowed n moved → Makes n (items_at p run lines) (after_moved n moved)
  makes_here n p moved now match may = subst (λ l. Makes n l (after_moved n moved)) (sym (items_split p run lines))
      (makes_append n n (after_moved n moved) (told_items p lines) (moving_at p run lines)
      (subst (λ m. Makes m (told_items p lines) m) now (makes_told run p lines right))
      (makes_moved n p moved (moving_at p run lines) match may))

  makes_placed : (es : List (PlaceNo × Entry)) → ((p : ℕ) → p ≤ length es → space_at run p ≡ space_at es p) → ((p : ℕ) → p < length es → ItemsMatch p (moved_in es p) (moving_at p run lines)) → MovesAllowed es
      → Makes empty_root (placed (length es) run lines) (space es)
  makes_placed [] like match may = record { replies = tt; last = refl }
  makes_placed (e ∷ es) like match may =
      makes_append empty_root (space es) (space (e ∷ es)) (placed (length es) run lines) (items_at (length es) run lines)
      (makes_placed es (λ p le. like p (omega arith) ∙ space_at-before e es p le) (λ p lt. subst (λ o. ItemsMatch p o (moving_at p run lines)) (moved_in-other e es p (λ same. omega (arith, same))) (match p (omega arith))) may.1)
      (makes_here (space es) (length es) e.1.moved (like (length es) (omega arith) ∙ space_at-before e es (length es) (omega arith) ∙ space_at-now es)
      (subst (λ o. ItemsMatch (length es) o (moving_at (length es) run lines)) (moved_in-now e es) (match (length es) (omega arith))) may.0)

  pub makes_ordered : Every IsPlaced lines → ((p : ℕ) → ItemsMatch p (moved_in run p) (moving_at p run lines)) → MovesAllowed run → Makes empty_root (ordered run lines) (space run)
  makes_ordered are_placed match may =
      makes_append empty_root (space run) (space run) (placed (length run + 1) run lines) (map LineItem (unplaced lines))
      (rw add_one (makes_append empty_root (space run) (space run) (placed (length run) run lines) (items_at (length run) run lines)
      (makes_placed run (λ p le. refl) (λ p lt. match p) may)
      (makes_here (space run) (length run) None (space_at-now run) (subst (λ o. ItemsMatch (length run) o (moving_at (length run) run lines)) (moved_in-beyond run (length run) (omega arith)) (match (length run))) tt)))
      (makes_unplaced (space run) lines are_placed)
    where
      add_one : length run + 1 ≡ suc (length run)
      add_one = omega arith
