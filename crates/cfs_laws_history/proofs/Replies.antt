-- The replies and moves in order are those of the namespace, which ends as what the moves of the run make.
use Rattle.std.proofs.Common.{◌≡◌, ℕ, suc, ◌+◌, ◌≤◌, ◌<◌, List, [], ◌∷◌, ◌++◌, map, length, false, refl, sym, ◌∙◌, subst, arith}
use Rattle.std.specs.Prelude.{is_none, Option, Some, None}
use Rattle.cfs_ids.specs.declared.ids.PlaceNo.{PlaceNo}
use Rattle.cfs_ids.specs.declared.ids.Node.{Node}
use Rattle.cfs_ids.specs.declared.call.Call.{Call}
use Rattle.cfs_ids.specs.Namespace.{Namespace, after, IsDefined, empty_root}
use Rattle.cfs_steps.specs.declared.entry.Entry.{Entry}
use Rattle.cfs_steps.specs.declared.moves.Moved.{Moved}
use Rattle.cfs_steps.specs.declared.moves.Moved.TheVariants.{Move}
use Rattle.cfs_steps.specs.declared.moves.Move.{Move as MoveFacts}
use Rattle.cfs_steps.specs.declared.line.Line.{Line}
use Rattle.cfs_steps.specs.declared.line.Outcome.{Outcome}
use Rattle.cfs_steps.specs.declared.line.Outcome.TheVariants as outcome
use Rattle.cfs_steps.specs.declared.line.HistoryItem.TheVariants.{Line as LineItem}
use Rattle.cfs_rules.specs.Facts.{space, after_moved, IsAllowed, MovesAllowed, LinesMatch, IsMoveOf}
use Rattle.cfs_rules.specs.Histories.{is_move, told_at, moved_at, placed, unplaced, ordered}
use Rattle.cfs_rules.specs.Legal.{Positions, RightIn, after_outcome, Replies, final_from}
use Rattle.cfs_laws_history.proofs.Lists.{Every, Every-filter}
use Rattle.cfs_laws_history.proofs.Stamps.{space_at, space_at-now, space_at-before, moved_in, moved_in-now, moved_in-other, moved_in-beyond}
use Rattle.cfs_laws_history.proofs.Pasts.{IsPlaced, IsRight, RightAt}
use Rattle.cfs_laws_history.proofs.Ordered.{is_told, first_true, second_true, not_true, at_is, none_is}

-- the lines are right from one namespace on, and end in another
pub record Leads (n : Namespace) (lines : List Line) (n' : Namespace) : Type 0 where
  pub replies : Replies n (map LineItem lines)
  pub last : final_from n (map LineItem lines) ≡ n'

leads_append : (n k n' : Namespace) (xs ys : List Line) → Leads n xs k → Leads k ys n' → Leads n (xs ++ ys) n'
leads_append n k n' [] ys h g = subst (λ m. Leads m ys n') (sym h.last) g
leads_append n k n' (x ∷ xs) ys h g =
    let rest = leads_append (after_outcome n x x.outcome) k n' xs ys (record { replies = h.replies.1; last = h.last }) g in
    record { replies = (h.replies.0, rest.replies); last = rest.last }

-- a line that is right and leaves the namespace
abbrev IsQuiet : Namespace → Line → Type 0
IsQuiet n line = RightIn n line line.outcome × (after_outcome n line line.outcome ≡ n)

leads_quiet : (n : Namespace) (lines : List Line) → Every (IsQuiet n) lines → Leads n lines n
leads_quiet n [] h = record { replies = tt; last = refl }
leads_quiet n (x ∷ lines) h =
    let rest = subst (λ m. Leads m lines n) (sym h.0.1) (leads_quiet n lines h.1) in
    record { replies = (h.0.0, rest.replies); last = rest.last }

-- ---- replies
quiet_told : (run : List (PlaceNo × Entry)) (p : ℕ) (line : Line) (o : Outcome) → is_move o ≡ false → RightAt run line o (Some p) → RightIn (space_at run p) line o × (after_outcome (space_at run p) line o ≡ space_at run p)
quiet_told run p line (outcome.Moved ts made) still h = cc
quiet_told run p line (outcome.Reply reply) still h = (h.1, refl)
quiet_told run p line (outcome.Unfinished None) still h = (tt, refl)
quiet_told run p line (outcome.Unfinished (Some found)) still h = cc

leads_told : (run : List (PlaceNo × Entry)) (p : ℕ) (lines : List Line) → Every (IsRight run) lines → Leads (space_at run p) (told_at p lines) (space_at run p)
leads_told run p lines h = leads_quiet (space_at run p) (told_at p lines) (Every-filter (is_told p) (IsRight run) (IsQuiet (space_at run p)) lines
    (λ x told right. quiet_told run p x x.outcome (not_true (is_move x.outcome) (second_true _ _ told)) (subst (RightAt run x x.outcome) (at_is p x.at (first_true _ _ told)) right)) h)

quiet_unplaced : (n : Namespace) (line : Line) (o : Outcome) (first : ℕ) (last : Option ℕ) → Positions o first None last → RightIn n line o × (after_outcome n line o ≡ n)
quiet_unplaced n line (outcome.Moved ts made) first last h = absurd h
quiet_unplaced n line (outcome.Reply reply) first last h = absurd h
quiet_unplaced n line (outcome.Unfinished None) first last h = (tt, refl)
quiet_unplaced n line (outcome.Unfinished (Some found)) first last h = absurd h

leads_unplaced : (n : Namespace) (lines : List Line) → Every IsPlaced lines → Leads n (unplaced lines) n
leads_unplaced n lines h = leads_quiet n (unplaced lines) (Every-filter (λ line. is_none line.at) IsPlaced (IsQuiet n) lines
    (λ x none placed. quiet_unplaced n x x.outcome x.first x.last (subst (λ at. Positions x.outcome x.first at x.last) (none_is x.at none) placed)) h)

-- ---- moves
one_line : (n n' : Namespace) (line : Line) → RightIn n line line.outcome → after_outcome n line line.outcome ≡ n' → Leads n (line ∷ []) n'
one_line n n' line right last = record { replies = (right, tt); last = last }

defined_as : (n : Namespace) (call call' : Call) (made made' : Option Node) → call ≡ call' → made ≡ made' → IsDefined n call' made' → IsDefined n call made
defined_as n call call' made made' e f h = subst (λ c. IsDefined n c made) (sym e) (subst (IsDefined n call') (sym f) h)

move_right : (n : Namespace) (m : MoveFacts) (line : Line) (o : Outcome) → IsMoveOf m line o → IsDefined n m.call m.made → RightIn n line o × (after_outcome n line o ≡ after n m.call m.made m.ts)
move_right n m line (outcome.Moved ts made) is may = (defined_as n line.call m.call made m.made is.1 is.3 may, cc (is.1, is.2, is.3))
move_right n m line (outcome.Reply reply) is may = absurd is
move_right n m line (outcome.Unfinished None) is may = absurd is
move_right n m line (outcome.Unfinished (Some found)) is may = (defined_as n line.call m.call found.1 m.made is.1 is.3 may, cc (is.1, is.2, is.3))

leads_moved : (n : Namespace) (moved : Option Moved) (lines : List Line) → LinesMatch moved lines → IsAllowed n moved → Leads n lines (after_moved n moved)
leads_moved n None lines h may = subst (λ l. Leads n l n) (sym h) (record { replies = tt; last = refl })
leads_moved n (Some (Move m)) lines h may =
    let right = move_right n m h.0 h.0.outcome h.2 may in
    subst (λ l. Leads n l (after n m.call m.made m.ts)) (sym h.1) (one_line n (after n m.call m.made m.ts) h.0 right.0 right.1)

-- ---- the lines at the first positions; es is the run up to some step
module _ (run : List (PlaceNo × Entry)) (lines : List Line) (right : Every (IsRight run) lines) where
  leads_placed : (es : List (PlaceNo × Entry)) → ((p : ℕ) → p ≤ length es → space_at run p ≡ space_at es p) → ((p : ℕ) → p < length es → LinesMatch (moved_in es p) (moved_at p lines)) → MovesAllowed es
      → Leads empty_root (placed (length es) lines) (space es)
  leads_placed [] like match may = record { replies = tt; last = refl }
  leads_placed (e ∷ es) like match may =
      leads_append empty_root (space es) (space (e ∷ es)) (placed (length es) lines) (told_at (length es) lines ++ moved_at (length es) lines)
      (leads_placed es (λ p le. like p (omega arith) ∙ space_at-before e es p le) (λ p lt. subst (λ o. LinesMatch o (moved_at p lines)) (moved_in-other e es p (λ same. omega arith)) (match p (omega arith))) may.1)
      (leads_append (space es) (space es) (space (e ∷ es)) (told_at (length es) lines) (moved_at (length es) lines)
      (subst (λ n. Leads n (told_at (length es) lines) n) now (leads_told run (length es) lines right))
      (leads_moved (space es) e.1.moved (moved_at (length es) lines) (subst (λ o. LinesMatch o (moved_at (length es) lines)) (moved_in-now e es) (match (length es) (omega arith))) may.0))
    where
      now : space_at run (length es) ≡ space es
      now = like (length es) (omega arith) ∙ space_at-before e es (length es) (omega arith) ∙ space_at-now es

  pub leads_ordered : Every IsPlaced lines → ((p : ℕ) → LinesMatch (moved_in run p) (moved_at p lines)) → MovesAllowed run → Leads empty_root (ordered (length run) lines) (space run)
  leads_ordered are_placed match may =
      leads_append empty_root (space run) (space run) (placed (length run + 1) lines) (unplaced lines)
      (rw add_one (leads_append empty_root (space run) (space run) (placed (length run) lines) (told_at (length run) lines ++ moved_at (length run) lines)
      (leads_placed run (λ p le. refl) (λ p lt. match p) may)
      (leads_append (space run) (space run) (space run) (told_at (length run) lines) (moved_at (length run) lines)
      (subst (λ n. Leads n (told_at (length run) lines) n) (space_at-now run) (leads_told run (length run) lines right))
      (leads_moved (space run) None (moved_at (length run) lines) (subst (λ o. LinesMatch o (moved_at (length run) lines)) (moved_in-beyond run (length run) (omega arith)) (match (length run))) tt))))
      (leads_unplaced (space run) lines are_placed)
    where
      add_one : length run + 1 ≡ suc (length run)
      add_one = omega arith
