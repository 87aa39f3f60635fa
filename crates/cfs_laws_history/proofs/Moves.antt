-- Each move of the run stands in one line of the history, and each move line has one move of the run.
use Rattle.std.proofs.Common.{◌≡◌, ◌≢◌, ℕ, zero, suc, ◌+◌, ◌≤◌, ◌<◌, List, [], ◌∷◌, ◌++◌, map, length, Bool, true, false, refl, sym, ◌∙◌, ap, subst, arith}
use Rattle.std.specs.Prelude.{if◌then◌else◌, ◌&&◌, ◌==◌, is_none, Option, Some, None}
use Rattle.std.proofs.lemmas.Bool.Decides.{nat_tests}
use Rattle.cfs_ids.specs.declared.ids.PlaceNo.{PlaceNo}
use Rattle.cfs_steps.specs.declared.entry.Entry.{Entry}
use Rattle.cfs_steps.specs.declared.moves.Move.{Move as MoveFacts}
use Rattle.cfs_steps.specs.declared.line.Line.{Line}
use Rattle.cfs_steps.specs.declared.line.Outcome.{Outcome}
use Rattle.cfs_steps.specs.declared.line.Outcome.TheVariants as outcome
use Rattle.cfs_steps.specs.declared.line.HistoryItem.{HistoryItem}
use Rattle.cfs_steps.specs.declared.line.HistoryItem.TheVariants.{Line as LineItem}
use Rattle.cfs_rules.specs.Facts.{add_if, move_lines, LinesMatch, StepsMatch, MovesMatch}
use Rattle.cfs_rules.specs.Histories.{is_move, stands_at, told_at, moved_at, placed, unplaced, ordered}
use Rattle.cfs_laws_history.proofs.Lists.{Every, Every-filter, Every-always}
use Rattle.cfs_laws_history.proofs.Stamps.{moved_in, moved_in-now, moved_in-other, moved_in-beyond}
use Rattle.cfs_laws_history.proofs.Keys.{keys_of, key_at, keys_at, all_keys, keys_at-append, append-none, lines_match, none_moved}
use Rattle.cfs_laws_history.proofs.Ordered.{is_told, is_moved, first_true, second_true, not_true, none_is}

-- ---- the moves that the lines in order tell of
keys_none : (p : ℕ) (lines : List Line) → Every (λ line. key_at p line ≡ []) lines → keys_at p lines ≡ []
keys_none p [] h = refl
keys_none p (line ∷ lines) h = cc (h.0, keys_none p lines h.1)

no_key : (line : Line) (o : Outcome) → is_move o ≡ false → keys_of line o ≡ []
no_key line (outcome.Moved ts made) h = cc
no_key line (outcome.Reply reply) h = refl
no_key line (outcome.Unfinished None) h = refl
no_key line (outcome.Unfinished (Some found)) h = cc

none_if : (b : Bool) (ks : List MoveFacts) → ks ≡ [] → (if b then ks else []) ≡ []
none_if true ks h = h
none_if false ks h = refl

not_at : (p k : ℕ) (at : Option ℕ) → stands_at k at ≡ true → k ≢ p → stands_at p at ≡ false
not_at p k None h differ = refl
not_at p k (Some a) h differ = grind (arith, nat_tests)

key_elsewhere : (p k : ℕ) (line : Line) → stands_at k line.at ≡ true → k ≢ p → key_at p line ≡ []
key_elsewhere p k line h differ = ap (λ b. if b then keys_of line line.outcome else []) (not_at p k line.at h differ)

keys_told : (p k : ℕ) (lines : List Line) → keys_at p (told_at k lines) ≡ []
keys_told p k lines = keys_none p (told_at k lines) (Every-filter (is_told k) (λ line. Unit {0}) (λ line. key_at p line ≡ []) lines
    (λ x told t. none_if (stands_at p x.at) (keys_of x x.outcome) (no_key x x.outcome (not_true (is_move x.outcome) (second_true _ _ told)))) (Every-always (λ line. Unit {0}) lines (λ x. tt)))

keys_moved_other : (p k : ℕ) (lines : List Line) → k ≢ p → keys_at p (moved_at k lines) ≡ []
keys_moved_other p k lines differ = keys_none p (moved_at k lines) (Every-filter (is_moved k) (λ line. Unit {0}) (λ line. key_at p line ≡ []) lines
    (λ x moved t. key_elsewhere p k x (first_true _ _ moved) differ) (Every-always (λ line. Unit {0}) lines (λ x. tt)))

keys_unplaced : (p : ℕ) (lines : List Line) → keys_at p (unplaced lines) ≡ []
keys_unplaced p lines = keys_none p (unplaced lines) (Every-filter (λ line. is_none line.at) (λ line. Unit {0}) (λ line. key_at p line ≡ []) lines
    (λ x none t. ap (λ at. if stands_at p at then keys_of x x.outcome else []) (none_is x.at none)) (Every-always (λ line. Unit {0}) lines (λ x. tt)))

keys_moved : (p : ℕ) (lines : List Line) → keys_at p (moved_at p lines) ≡ keys_at p lines
keys_moved p [] = refl
keys_moved p (line ∷ lines) = by_test (stands_at p line.at) refl (is_move line.outcome) refl (keys_moved p lines)
  where
    by_test : (a : Bool) → stands_at p line.at ≡ a → (b : Bool) → is_move line.outcome ≡ b → keys_at p (moved_at p lines) ≡ keys_at p lines
        → keys_at p (if (a && b) then line ∷ moved_at p lines else moved_at p lines) ≡ (if a then keys_of line line.outcome else []) ++ keys_at p lines
    by_test true t true u rest = cc (ap (λ (b : Bool). if b then keys_of line line.outcome else []) t, rest)
    by_test true t false u rest = rest ∙ ap (λ k. k ++ keys_at p lines) (sym (no_key line line.outcome u))
    by_test false t b u rest = rest

keys_placed_before : (p k : ℕ) (lines : List Line) → k ≤ p → keys_at p (placed k lines) ≡ []
keys_placed_before p zero lines le = refl
keys_placed_before p (suc k) lines le =
    keys_at-append p (placed k lines) (told_at k lines ++ moved_at k lines)
    ∙ ap (λ x. x ++ keys_at p (told_at k lines ++ moved_at k lines)) (keys_placed_before p k lines (omega arith))
    ∙ keys_at-append p (told_at k lines) (moved_at k lines)
    ∙ ap (λ x. x ++ keys_at p (moved_at k lines)) (keys_told p k lines)
    ∙ keys_moved_other p k lines (λ same. omega arith)

keys_placed : (p k : ℕ) (lines : List Line) → p < k → keys_at p (placed k lines) ≡ keys_at p lines
keys_placed p zero lines lt = absurd (omega arith)
keys_placed p (suc k) lines lt =
    keys_at-append p (placed k lines) (told_at k lines ++ moved_at k lines)
    ∙ ap (λ x. keys_at p (placed k lines) ++ x) (keys_at-append p (told_at k lines) (moved_at k lines) ∙ ap (λ x. x ++ keys_at p (moved_at k lines)) (keys_told p k lines))
    ∙ by_test (p == k) refl (λ rest. keys_placed p k lines rest)
  where
    by_test : (b : Bool) → (p == k) ≡ b → (p < k → keys_at p (placed k lines) ≡ keys_at p lines) → keys_at p (placed k lines) ++ keys_at p (moved_at k lines) ≡ keys_at p lines
    by_test true t rest = let same : k ≡ p = grind (arith, nat_tests) in
        ap (λ x. x ++ keys_at p (moved_at k lines)) (keys_placed_before p k lines (omega arith)) ∙ ap (λ x. keys_at p (moved_at x lines)) same ∙ keys_moved p lines
    by_test false t rest = let differ : p ≢ k = grind (arith, nat_tests) in
        ap (λ x. keys_at p (placed k lines) ++ x) (keys_moved_other p k lines (λ same. differ (sym same))) ∙ append-none (keys_at p (placed k lines)) ∙ rest (omega arith)

keys_ordered : (p n : ℕ) (lines : List Line) → keys_at p (ordered n lines) ≡ keys_at p (placed (n + 1) lines)
keys_ordered p n lines = keys_at-append p (placed (n + 1) lines) (unplaced lines) ∙ ap (λ x. keys_at p (placed (n + 1) lines) ++ x) (keys_unplaced p lines) ∙ append-none (keys_at p (placed (n + 1) lines))

-- ---- the moves of the run
move_lines-is : (p : ℕ) (lines : List Line) → move_lines p (map LineItem lines) ≡ moved_at p lines
move_lines-is p [] = refl
move_lines-is p (line ∷ lines) = by_test (stands_at p line.at && is_move line.outcome) (move_lines-is p lines)
  where
    by_test : (b : Bool) → move_lines p (map LineItem lines) ≡ moved_at p lines → add_if b line (move_lines p (map LineItem lines)) ≡ (if b then line ∷ moved_at p lines else moved_at p lines)
    by_test true rest = ap (λ l. line ∷ l) rest
    by_test false rest = rest

steps_match : (es : List (PlaceNo × Entry)) (items : List HistoryItem) → ((p : ℕ) → p < length es → LinesMatch (moved_in es p) (move_lines p items)) → StepsMatch es items
steps_match [] items match = tt
steps_match (e ∷ es) items match = (
  subst (λ o. LinesMatch o (move_lines (length es) items)) (moved_in-now e es) (match (length es) (omega arith)),
  steps_match es items (λ p lt. subst (λ o. LinesMatch o (move_lines p items)) (moved_in-other e es p (λ same. omega arith)) (match p (omega arith))),
)

pub moves_match : (run : List (PlaceNo × Entry)) (lines : List Line) → ((p : ℕ) → keys_at p lines ≡ all_keys (moved_in run p)) → MovesMatch run (map LineItem (ordered (length run) lines))
moves_match run lines told = record {
  steps = steps_match run (map LineItem (ordered (length run) lines)) (λ p lt. subst (LinesMatch (moved_in run p)) (sym (move_lines-is p (ordered (length run) lines)))
      (lines_match p (moved_in run p) (ordered (length run) lines) (keys_ordered p (length run) lines ∙ keys_placed p (length run + 1) lines (omega arith) ∙ told p)));
  within = λ p le. move_lines-is p (ordered (length run) lines) ∙ none_moved p (ordered (length run) lines) (beyond p (p == length run) refl le);
}
  where
    beyond : (p : ℕ) (b : Bool) → (p == length run) ≡ b → length run ≤ p → keys_at p (ordered (length run) lines) ≡ []
    beyond p true t le = let same : p ≡ length run = grind (arith, nat_tests) in
        keys_ordered p (length run) lines ∙ keys_placed p (length run + 1) lines (omega arith) ∙ told p ∙ ap all_keys (moved_in-beyond run p le)
    beyond p false t le = let differ : p ≢ length run = grind (arith, nat_tests) in
        keys_ordered p (length run) lines ∙ keys_placed_before p (length run + 1) lines (omega arith)
