-- The items of a history by position: which they are, and what holds of each and of each pair.
use Rattle.std.proofs.Common.{◌≡◌, ℕ, zero, suc, ◌+◌, ◌<◌, List, [], ◌∷◌, ◌++◌, map, length, Bool, true, false, refl, sym, ◌∙◌, ap, subst, arith, append_assoc}
use Rattle.std.specs.Prelude.{◌&&◌, not, is_none, Option, Some, None}
use Rattle.std.specs.List.{filter}
use Rattle.std.proofs.lemmas.Bool.Decides.{nat_tests}
use Rattle.std.proofs.lemmas.List.{map-append}
use Rattle.std.proofs.lemmas.Bool.{and_parts, not-true}
use Rattle.next_ids.specs.declared.ids.PlaceNo.{PlaceNo}
use Rattle.next_steps.specs.declared.entry.Entry.{Entry}
use Rattle.next_steps.specs.declared.moves.Moved.{Moved}
use Rattle.next_steps.specs.declared.moves.Moved.TheVariants.{Move, Forget}
use Rattle.next_steps.specs.declared.line.Line.{Line}
use Rattle.next_steps.specs.declared.line.HistoryItem.{HistoryItem}
use Rattle.next_steps.specs.declared.line.HistoryItem.TheVariants.{Line as LineItem, Forget as ForgetItem}
use Rattle.next_rules.specs.Histories.{is_move, stands_at, told_at, moved_at, forgets, forgotten_at, items_at, placed, unplaced, ordered}
use Rattle.next_rules.specs.Legal.{moves, at_of}
use Rattle.next_rules.specs.Moves.{ItemsMatch}
use Rattle.next_laws_order.proofs.Lists.{Every, Pairs, Every-like, Every-append, Every-filter, Pairs-append, Across-always}
use Rattle.next_laws_told.proofs.Runs.{moved_in, forgotten-is}
use Rattle.next_laws_told.proofs.Keys.{keys_at, all_keys, none_moved, one_moved}

-- ---- lines and their items
pub every_item : (P : HistoryItem → Type 0) (lines : List Line) → Every (λ line. P (LineItem line)) lines → Every P (map LineItem lines)
every_item P [] h = tt
every_item P (line ∷ lines) h = (h.0, every_item P lines h.1)

pub pairs_item : (R : HistoryItem → HistoryItem → Type 0) (lines : List Line) → Pairs (λ x y. R (LineItem x) (LineItem y)) lines → Pairs R (map LineItem lines)
pairs_item R [] h = tt
pairs_item R (line ∷ lines) h = (every_item (R (LineItem line)) lines h.0, pairs_item R lines h.1)

-- a fact of each pair of elements that pass
pub pairs_every : {A : Type 0} (P : A → Type 0) (R : A → A → Type 0) (xs : List A) → ((x y : A) → P x → P y → R x y) → Every P xs → Pairs R xs
pairs_every P R [] to h = tt
pairs_every P R (x ∷ xs) to h = (Every-like P (R x) xs (λ y p. to x y h.0 p) h.1, pairs_every P R xs to h.1)

-- ---- tests
abbrev pub is_told : ℕ → Line → Bool
is_told p line = stands_at p line.at && not (is_move line.outcome)

abbrev pub is_moved : ℕ → Line → Bool
is_moved p line = stands_at p line.at && is_move line.outcome

pub at_is : (p : ℕ) (at : Option ℕ) → stands_at p at ≡ true → at ≡ Some p
at_is p None h = cc
at_is p (Some q) h = let same : q ≡ p = grind (arith, nat_tests) in ap (λ x. Some x) same

pub none_is : (at : Option ℕ) → is_none at ≡ true → at ≡ None
none_is None h = refl
none_is (Some p) h = cc

-- ---- the items at a position
abbrev pub IsToldAt : ℕ → HistoryItem → Type 0
IsToldAt p x = (at_of x ≡ Some p) × (moves x ≡ false)

abbrev pub IsMovingAt : ℕ → HistoryItem → Type 0
IsMovingAt p x = (at_of x ≡ Some p) × (moves x ≡ true)

abbrev pub told_items : ℕ → List Line → List HistoryItem
told_items p lines = map LineItem (told_at p lines)

-- the move, or the forgotten file
abbrev pub moving_at : ℕ → List (PlaceNo × Entry) → List Line → List HistoryItem
moving_at p run lines = map LineItem (moved_at p lines) ++ forgotten_at p run

pub items_split : (p : ℕ) (run : List (PlaceNo × Entry)) (lines : List Line) → items_at p run lines ≡ told_items p lines ++ moving_at p run lines
items_split p run lines =
    ap (λ l. l ++ forgotten_at p run) (map-append LineItem (told_at p lines) (moved_at p lines))
    ∙ append_assoc (told_items p lines) (map LineItem (moved_at p lines)) (forgotten_at p run)

filtered : (t : Line → Bool) (P : HistoryItem → Type 0) (lines : List Line) → ((line : Line) → t line ≡ true → P (LineItem line)) → Every P (map LineItem (filter t lines))
filtered t P lines to = every_item P (filter t lines) (Every-filter t (λ line. Unit {0}) (λ line. P (LineItem line)) lines (λ line e u. to line e) (all lines))
  where
    all : (xs : List Line) → Every (λ line. Unit {0}) xs
    all [] = tt
    all (x ∷ xs) = (tt, all xs)

pub told_are : (p : ℕ) (lines : List Line) → Every (IsToldAt p) (told_items p lines)
told_are p lines = filtered (is_told p) (IsToldAt p) lines (λ line e. (at_is p line.at (and_parts _ _ e).0, not-true (is_move line.outcome) (and_parts (stands_at p line.at) _ e).1))

forgets_are : (p : ℕ) (moved : Option Moved) → Every (IsMovingAt p) (forgets p moved)
forgets_are p None = tt
forgets_are p (Some (Move m)) = tt
forgets_are p (Some (Forget file)) = ((refl, refl), tt)

pub moving_are : (p : ℕ) (run : List (PlaceNo × Entry)) (lines : List Line) → Every (IsMovingAt p) (moving_at p run lines)
moving_are p run lines = Every-append (IsMovingAt p) (map LineItem (moved_at p lines)) (forgotten_at p run)
    (filtered (is_moved p) (IsMovingAt p) lines (λ line e. (at_is p line.at (and_parts _ _ e).0, (and_parts (stands_at p line.at) _ e).1)))
    (subst (Every (IsMovingAt p)) (sym (forgotten-is run p)) (forgets_are p (moved_in run p)))

pub unplaced_are : (lines : List Line) → Every (λ x. at_of x ≡ None) (map LineItem (unplaced lines))
unplaced_are lines = filtered (λ line. is_none line.at) (λ x. at_of x ≡ None) lines (λ line e. none_is line.at e)

pub items_are : (p : ℕ) (run : List (PlaceNo × Entry)) (lines : List Line) → Every (λ x. at_of x ≡ Some p) (items_at p run lines)
items_are p run lines = subst (Every (λ x. at_of x ≡ Some p)) (sym (items_split p run lines))
    (Every-append (λ x. at_of x ≡ Some p) (told_items p lines) (moving_at p run lines)
    (Every-like (IsToldAt p) (λ x. at_of x ≡ Some p) (told_items p lines) (λ x t. t.0) (told_are p lines))
    (Every-like (IsMovingAt p) (λ x. at_of x ≡ Some p) (moving_at p run lines) (λ x t. t.0) (moving_are p run lines)))

-- ---- the move or the forgotten file of a position is that of its step
items_match : (p : ℕ) (moved : Option Moved) (lines : List Line) → keys_at p lines ≡ all_keys moved → ItemsMatch p moved (map LineItem (moved_at p lines) ++ forgets p moved)
items_match p None lines h = ap (λ l. map LineItem l ++ []) (none_moved p lines h)
items_match p (Some (Forget file)) lines h = ap (λ l. map LineItem l ++ ForgetItem p file ∷ []) (none_moved p lines h)
items_match p (Some (Move m)) lines h = let one = one_moved p m lines h in (one.line, ap (λ l. map LineItem l ++ []) one.only, one.same)

pub moving_match : (p : ℕ) (run : List (PlaceNo × Entry)) (lines : List Line) → keys_at p lines ≡ all_keys (moved_in run p) → ItemsMatch p (moved_in run p) (moving_at p run lines)
moving_match p run lines h = subst (λ l. ItemsMatch p (moved_in run p) (map LineItem (moved_at p lines) ++ l)) (sym (forgotten-is run p)) (items_match p (moved_in run p) lines h)

-- so there is one at most
pub pairs_few : (R : HistoryItem → HistoryItem → Type 0) (p : ℕ) (moved : Option Moved) (items : List HistoryItem) → ItemsMatch p moved items → Pairs R items
pairs_few R p None items h = subst (Pairs R) (sym h) tt
pairs_few R p (Some (Move m)) items h = subst (Pairs R) (sym h.1) (tt, tt)
pairs_few R p (Some (Forget file)) items h = subst (Pairs R) (sym h) (tt, tt)

-- ---- facts of each item, and of each pair
module _ (run : List (PlaceNo × Entry)) (lines : List Line) where
  pub every_placed : (P : HistoryItem → Type 0) (n : ℕ) → ((p : ℕ) → p < n → Every P (items_at p run lines)) → Every P (placed n run lines)
  every_placed P zero h = tt
  every_placed P (suc n) h = Every-append P (placed n run lines) (items_at n run lines) (every_placed P n (λ p lt. h p (omega arith))) (h n (omega arith))

  -- from a fact of each line, and of each forgotten file
  pub every_ordered : (P : HistoryItem → Type 0) → ((p : ℕ) (file : _) → P (ForgetItem p file)) → Every (λ line. P (LineItem line)) lines → Every P (ordered run lines)
  every_ordered P forgotten h = Every-append P (placed (length run + 1) run lines) (map LineItem (unplaced lines))
      (every_placed P (length run + 1) (λ p lt. Every-append P (map LineItem (told_at p lines ++ moved_at p lines)) (forgotten_at p run)
      (every_item P (told_at p lines ++ moved_at p lines) (Every-append (λ line. P (LineItem line)) (told_at p lines) (moved_at p lines) (kept (is_told p)) (kept (is_moved p))))
      (subst (Every P) (sym (forgotten-is run p)) (of_forgets p (moved_in run p)))))
      (every_item P (unplaced lines) (kept (λ line. is_none line.at)))
    where
      kept : (t : Line → Bool) → Every (λ line. P (LineItem line)) (filter t lines)
      kept t = Every-filter t (λ line. P (LineItem line)) (λ line. P (LineItem line)) lines (λ line e p. p) h

      of_forgets : (p : ℕ) (moved : Option Moved) → Every P (forgets p moved)
      of_forgets p None = tt
      of_forgets p (Some (Move m)) = tt
      of_forgets p (Some (Forget file)) = (forgotten p file, tt)

  module _ (R : HistoryItem → HistoryItem → Type 0)
      (told_told : (p : ℕ) → Pairs R (told_items p lines))
      (told_moving : (p : ℕ) (x y : HistoryItem) → IsToldAt p x → IsMovingAt p y → R x y)
      (moving : (p : ℕ) → Pairs R (moving_at p run lines))
      (before : (p q : ℕ) → p < q → (x y : HistoryItem) → at_of x ≡ Some p → at_of y ≡ Some q → R x y)
      (then_unplaced : (p : ℕ) (x y : HistoryItem) → at_of x ≡ Some p → at_of y ≡ None → R x y)
      (two_unplaced : Pairs R (map LineItem (unplaced lines))) where
    pairs_at : (p : ℕ) → Pairs R (items_at p run lines)
    pairs_at p = subst (Pairs R) (sym (items_split p run lines))
        (Pairs-append R (told_items p lines) (moving_at p run lines) (told_told p) (moving p)
        (Across-always R (IsToldAt p) (IsMovingAt p) (told_items p lines) (moving_at p run lines) (told_moving p) (told_are p lines) (moving_are p run lines)))

    pairs_placed : (n : ℕ) → Pairs R (placed n run lines)
    pairs_placed zero = tt
    pairs_placed (suc n) = Pairs-append R (placed n run lines) (items_at n run lines) (pairs_placed n) (pairs_at n)
        (every_placed (λ x. Every (R x) (items_at n run lines)) n (λ p lt. Across-always R (λ x. at_of x ≡ Some p) (λ y. at_of y ≡ Some n) (items_at p run lines) (items_at n run lines) (before p n lt) (items_are p run lines) (items_are n run lines)))

    pub pairs_ordered : Pairs R (ordered run lines)
    pairs_ordered = Pairs-append R (placed (length run + 1) run lines) (map LineItem (unplaced lines)) (pairs_placed (length run + 1)) two_unplaced
        (every_placed (λ x. Every (R x) (map LineItem (unplaced lines))) (length run + 1) (λ p lt. Across-always R (λ x. at_of x ≡ Some p) (λ y. at_of y ≡ None) (items_at p run lines) (map LineItem (unplaced lines)) (then_unplaced p) (items_are p run lines) (unplaced_are lines)))
