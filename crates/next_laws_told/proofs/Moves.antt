-- Each step's move or forgotten file stands in one item of the history, and each such item is that of a step.
use Rattle.std.proofs.Common.{◌≡◌, ◌≢◌, ℕ, zero, suc, ◌+◌, ◌≤◌, ◌<◌, List, [], ◌∷◌, ◌++◌, map, length, Bool, true, false, refl, sym, ◌∙◌, ap, subst, arith}
use Rattle.std.specs.Prelude.{◌&&◌, ◌==◌, Some, None}
use Rattle.std.proofs.lemmas.Bool.Decides.{nat_tests}
use Rattle.std.proofs.lemmas.List.{append-nil}
use Rattle.std.proofs.Math.Bool.{and-true, and-false}
use Rattle.next_ids.specs.declared.ids.PlaceNo.{PlaceNo}
use Rattle.next_steps.specs.declared.entry.Entry.{Entry}
use Rattle.next_steps.specs.declared.line.Line.{Line}
use Rattle.next_steps.specs.declared.line.HistoryItem.{HistoryItem}
use Rattle.next_steps.specs.declared.line.HistoryItem.TheVariants.{Line as LineItem, Forget as ForgetItem}
use Rattle.next_rules.specs.Histories.{stands_at, items_at, placed, unplaced, ordered}
use Rattle.next_rules.specs.Legal.{moves, at_of}
use Rattle.next_rules.specs.Moves.{is_moving, add_if, moving_items, ItemsMatch, StepsMatch, MovesMatch}
use Rattle.next_laws_order.proofs.Lists.{Every, Every-like}
use Rattle.next_laws_told.proofs.Runs.{moved_in, moved_in-now, moved_in-other, moved_in-beyond}
use Rattle.next_laws_told.proofs.Ordered.{IsToldAt, IsMovingAt, told_items, moving_at, items_split, told_are, moving_are, unplaced_are, items_are, every_placed}

-- ---- which items are moves at a position
moving-is : (p : ℕ) (x : HistoryItem) → is_moving p x ≡ (stands_at p (at_of x) && moves x)
moving-is p (LineItem line) = refl
moving-is p (ForgetItem at file) = sym (and-true (at == p))

here : (p : ℕ) (x : HistoryItem) → IsMovingAt p x → is_moving p x ≡ true
here p x h = let same : (p == p) ≡ true = grind (arith, nat_tests) in moving-is p x ∙ rw (h.0, h.1, same) refl

still : (p : ℕ) (x : HistoryItem) → moves x ≡ false → is_moving p x ≡ false
still p x h = moving-is p x ∙ rw h (and-false (stands_at p (at_of x)))

elsewhere : (p q : ℕ) (x : HistoryItem) → q ≢ p → at_of x ≡ Some q → is_moving p x ≡ false
elsewhere p q x differ h = let apart : (q == p) ≡ false = grind (arith, nat_tests) in moving-is p x ∙ rw (h, apart) refl

nowhere : (p : ℕ) (x : HistoryItem) → at_of x ≡ None → is_moving p x ≡ false
nowhere p x h = moving-is p x ∙ rw h refl

-- ---- the moves of parts of a history
none_moving : (p : ℕ) (items : List HistoryItem) → Every (λ x. is_moving p x ≡ false) items → moving_items p items ≡ []
none_moving p [] h = refl
none_moving p (x ∷ items) h = rw h.0 (none_moving p items h.1)

all_moving : (p : ℕ) (items : List HistoryItem) → Every (λ x. is_moving p x ≡ true) items → moving_items p items ≡ items
all_moving p [] h = refl
all_moving p (x ∷ items) h = rw h.0 (ap (λ l. x ∷ l) (all_moving p items h.1))

moving-append : (p : ℕ) (xs ys : List HistoryItem) → moving_items p (xs ++ ys) ≡ moving_items p xs ++ moving_items p ys
moving-append p [] ys = refl
moving-append p (x ∷ xs) ys = by_test (is_moving p x) (moving-append p xs ys)
  where
    by_test : (b : Bool) → moving_items p (xs ++ ys) ≡ moving_items p xs ++ moving_items p ys → add_if b x (moving_items p (xs ++ ys)) ≡ add_if b x (moving_items p xs) ++ moving_items p ys
    by_test true rest = ap (λ l. x ∷ l) rest
    by_test false rest = rest

module _ (run : List (PlaceNo × Entry)) (lines : List Line) where
  moving_here : (p : ℕ) → moving_items p (items_at p run lines) ≡ moving_at p run lines
  moving_here p =
      ap (moving_items p) (items_split p run lines)
      ∙ moving-append p (told_items p lines) (moving_at p run lines)
      ∙ ap (λ l. l ++ moving_items p (moving_at p run lines)) (none_moving p (told_items p lines) (Every-like (IsToldAt p) (λ x. is_moving p x ≡ false) (told_items p lines) (λ x t. still p x t.1) (told_are p lines)))
      ∙ all_moving p (moving_at p run lines) (Every-like (IsMovingAt p) (λ x. is_moving p x ≡ true) (moving_at p run lines) (here p) (moving_are p run lines))

  none_there : (p q : ℕ) → q ≢ p → Every (λ x. is_moving p x ≡ false) (items_at q run lines)
  none_there p q differ = Every-like (λ x. at_of x ≡ Some q) (λ x. is_moving p x ≡ false) (items_at q run lines) (λ x at. elsewhere p q x differ at) (items_are q run lines)

  none_before : (p n : ℕ) → n ≤ p → moving_items p (placed n run lines) ≡ []
  none_before p n le = none_moving p (placed n run lines) (every_placed run lines (λ x. is_moving p x ≡ false) n (λ q lt. none_there p q (λ same. omega (arith, same))))

  moving_placed : (p n : ℕ) → p < n → moving_items p (placed n run lines) ≡ moving_at p run lines
  moving_placed p zero lt = absurd (omega arith)
  moving_placed p (suc n) lt = moving-append p (placed n run lines) (items_at n run lines) ∙ by_test (p == n) refl (λ below. moving_placed p n below)
    where
      by_test : (b : Bool) → (p == n) ≡ b → (p < n → moving_items p (placed n run lines) ≡ moving_at p run lines) → moving_items p (placed n run lines) ++ moving_items p (items_at n run lines) ≡ moving_at p run lines
      by_test true t rest = let same : p ≡ n = grind (arith, nat_tests) in
          ap (λ l. l ++ moving_items p (items_at n run lines)) (none_before p n (omega arith)) ∙ subst (λ q. moving_items p (items_at q run lines) ≡ moving_at p run lines) same (moving_here p)
      by_test false t rest = let differ : p ≢ n = grind (arith, nat_tests) in
          ap (λ l. moving_items p (placed n run lines) ++ l) (none_moving p (items_at n run lines) (none_there p n (λ same. differ (sym same)))) ∙ append-nil (moving_items p (placed n run lines)) ∙ rest (omega arith)

  moving_ordered : (p : ℕ) → moving_items p (ordered run lines) ≡ moving_items p (placed (length run + 1) run lines)
  moving_ordered p =
      moving-append p (placed (length run + 1) run lines) (map LineItem (unplaced lines))
      ∙ ap (λ l. moving_items p (placed (length run + 1) run lines) ++ l) (none_moving p (map LineItem (unplaced lines)) (Every-like (λ x. at_of x ≡ None) (λ x. is_moving p x ≡ false) (map LineItem (unplaced lines)) (nowhere p) (unplaced_are lines)))
      ∙ append-nil (moving_items p (placed (length run + 1) run lines))

-- ---- the moves of the run
steps_match : (es : List (PlaceNo × Entry)) (items : List HistoryItem) → ((p : ℕ) → p < length es → ItemsMatch p (moved_in es p) (moving_items p items)) → StepsMatch es items
steps_match [] items match = tt
steps_match (e ∷ es) items match = (
  subst (λ o. ItemsMatch (length es) o (moving_items (length es) items)) (moved_in-now e es) (match (length es) (omega arith)),
  steps_match es items (λ p lt. subst (λ o. ItemsMatch p o (moving_items p items)) (moved_in-other e es p (λ same. omega (arith, same))) (match p (omega arith))),
)

pub moves_match : (run : List (PlaceNo × Entry)) (lines : List Line) → ((p : ℕ) → ItemsMatch p (moved_in run p) (moving_at p run lines)) → MovesMatch run (ordered run lines)
moves_match run lines match = record {
  steps = steps_match run (ordered run lines) (λ p lt. subst (ItemsMatch p (moved_in run p)) (sym (moving_ordered run lines p ∙ moving_placed run lines p (length run + 1) (omega arith))) (match p));
  within = λ p le. moving_ordered run lines p ∙ beyond p (p == length run) refl le;
}
  where
    beyond : (p : ℕ) (b : Bool) → (p == length run) ≡ b → length run ≤ p → moving_items p (placed (length run + 1) run lines) ≡ []
    beyond p true t le = let same : p ≡ length run = grind (arith, nat_tests) in
        moving_placed run lines p (length run + 1) (omega arith) ∙ subst (λ o. ItemsMatch p o (moving_at p run lines)) (moved_in-beyond run p le) (match p)
    beyond p false t le = let differ : p ≢ length run = grind (arith, nat_tests) in none_before run lines p (length run + 1) (omega arith)
