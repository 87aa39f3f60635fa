-- What lines in order of their positions keep of the lines: facts of each, and of each pair.
use Rattle.std.proofs.Common.{◌≡◌, ℕ, zero, suc, ◌+◌, ◌<◌, List, [], ◌∷◌, ◌++◌, map, Bool, true, false, refl, ap, arith, ◌⊎◌, inl, inr}
use Rattle.std.specs.Prelude.{◌&&◌, not, is_none, Option, Some, None}
use Rattle.std.specs.List.{filter}
use Rattle.std.proofs.lemmas.Bool.Decides.{nat_tests}
use Rattle.cfs_steps.specs.declared.line.Line.{Line}
use Rattle.cfs_steps.specs.declared.line.HistoryItem.{HistoryItem}
use Rattle.cfs_steps.specs.declared.line.HistoryItem.TheVariants.{Line as LineItem}
use Rattle.cfs_rules.specs.Histories.{is_move, stands_at, told_at, moved_at, placed, unplaced, ordered}
use Rattle.cfs_rules.specs.Legal.{Each, EachPair}
use Rattle.cfs_laws_history.proofs.Lists.{Every, Pairs, Across, Every-append, Pairs-append, Across-append, Across-onto, Every-filter, Pairs-filter, Across-filters}

-- ---- items and lines
pub each_item : (P : HistoryItem → Type 0) (lines : List Line) → Every (λ line. P (LineItem line)) lines → Each P (map LineItem lines)
each_item P [] h = tt
each_item P (line ∷ lines) h = (h.0, each_item P lines h.1)

pub each_pair : (P : HistoryItem → HistoryItem → Type 0) (lines : List Line) → Pairs (λ x y. P (LineItem x) (LineItem y)) lines → EachPair P (map LineItem lines)
each_pair P [] h = tt
each_pair P (line ∷ lines) h = (each_item (P (LineItem line)) lines h.0, each_pair P lines h.1)

-- ---- tests
abbrev pub is_told : ℕ → Line → Bool
is_told p line = stands_at p line.at && not (is_move line.outcome)

abbrev pub is_moved : ℕ → Line → Bool
is_moved p line = stands_at p line.at && is_move line.outcome

pub first_true : (a b : Bool) → (a && b) ≡ true → a ≡ true
first_true true b h = refl
first_true false b h = h

pub second_true : (a b : Bool) → (a && b) ≡ true → b ≡ true
second_true true b h = h
second_true false b h = cc

pub not_true : (b : Bool) → not b ≡ true → b ≡ false
not_true true h = cc
not_true false h = refl

pub at_is : (p : ℕ) (at : Option ℕ) → stands_at p at ≡ true → at ≡ Some p
at_is p None h = cc
at_is p (Some q) h = let same : q ≡ p = grind (arith, nat_tests) in ap (λ x. Some x) same

pub none_is : (at : Option ℕ) → is_none at ≡ true → at ≡ None
none_is None h = refl
none_is (Some p) h = cc

two_positions : (p q : ℕ) (at : Option ℕ) → stands_at p at ≡ true → stands_at q at ≡ true → p ≡ q
two_positions p q None h k = cc
two_positions p q (Some a) h k = grind (arith, nat_tests)

placed_or_not : (p : ℕ) (at : Option ℕ) → stands_at p at ≡ true → is_none at ≡ true → ⊥
placed_or_not p None h k = cc
placed_or_not p (Some a) h k = cc

both_kinds : (a b : Bool) → (a && not b) ≡ true → (a && b) ≡ true → ⊥
both_kinds true true h k = cc
both_kinds true false h k = cc
both_kinds false b h k = cc

-- ---- facts of each line
pub every_ordered : (P : Line → Type 0) (n : ℕ) (lines : List Line) → Every P lines → Every P (ordered n lines)
every_ordered P n lines h = Every-append P (placed (n + 1) lines) (unplaced lines) (rw add_one (every_placed (suc n))) (Every-filter (λ line. is_none line.at) P P lines (λ x e p. p) h)
  where
    add_one : n + 1 ≡ suc n
    add_one = omega arith

    every_placed : (k : ℕ) → Every P (placed k lines)
    every_placed zero = tt
    every_placed (suc k) = Every-append P (placed k lines) (told_at k lines ++ moved_at k lines) (every_placed k)
        (Every-append P (told_at k lines) (moved_at k lines) (Every-filter (is_told k) P P lines (λ x e p. p) h) (Every-filter (is_moved k) P P lines (λ x e p. p) h))

-- ---- facts of each pair: R of a pair as it stands in order, from B of it as it stood before
module _ (B R : Line → Line → Type 0) (lines : List Line) (h : Pairs B lines)
    (told_told : (p : ℕ) (x y : Line) → is_told p x ≡ true → is_told p y ≡ true → B x y → R x y)
    (told_moved : (p : ℕ) (x y : Line) → is_told p x ≡ true → is_moved p y ≡ true → B x y ⊎ B y x → R x y)
    (moved_moved : (p : ℕ) → Pairs R (moved_at p lines))
    (before : (p q : ℕ) (x y : Line) → p < q → stands_at p x.at ≡ true → stands_at q y.at ≡ true → B x y ⊎ B y x → R x y)
    (then_unplaced : (p : ℕ) (x y : Line) → stands_at p x.at ≡ true → is_none y.at ≡ true → B x y ⊎ B y x → R x y)
    (two_unplaced : (x y : Line) → is_none x.at ≡ true → is_none y.at ≡ true → B x y → R x y) where
  at_pairs : (p : ℕ) → Pairs R (told_at p lines ++ moved_at p lines)
  at_pairs p = Pairs-append R (told_at p lines) (moved_at p lines)
      (Pairs-filter (is_told p) B R lines (told_told p) h)
      (moved_moved p)
      (Across-filters (is_told p) (is_moved p) B R lines (λ x y a b r. told_moved p x y a b (inl r)) (λ x y a b r. told_moved p x y a b (inr r)) (λ x a b. both_kinds (stands_at p x.at) (is_move x.outcome) a b) h)

  across_placed : (n : ℕ) (t : Line → Bool)
      → ((k : ℕ) → k < n → (x y : Line) → stands_at k x.at ≡ true → t y ≡ true → B x y ⊎ B y x → R x y) → ((k : ℕ) → k < n → (x : Line) → stands_at k x.at ≡ true → t x ≡ true → ⊥)
      → Across R (placed n lines) (filter t lines)
  across_placed zero t to apart = tt
  across_placed (suc n) t to apart = Across-append R (placed n lines) (told_at n lines ++ moved_at n lines) (filter t lines)
      (across_placed n t (λ k lt. to k (omega arith)) (λ k lt. apart k (omega arith)))
      (Across-append R (told_at n lines) (moved_at n lines) (filter t lines)
      (Across-filters (is_told n) t B R lines
      (λ x y a b r. to n (omega arith) x y (first_true _ _ a) b (inl r)) (λ x y a b r. to n (omega arith) x y (first_true _ _ a) b (inr r)) (λ x a b. apart n (omega arith) x (first_true _ _ a) b) h)
      (Across-filters (is_moved n) t B R lines
      (λ x y a b r. to n (omega arith) x y (first_true _ _ a) b (inl r)) (λ x y a b r. to n (omega arith) x y (first_true _ _ a) b (inr r)) (λ x a b. apart n (omega arith) x (first_true _ _ a) b) h))

  pairs_placed : (n : ℕ) → Pairs R (placed n lines)
  pairs_placed zero = tt
  pairs_placed (suc n) = Pairs-append R (placed n lines) (told_at n lines ++ moved_at n lines) (pairs_placed n) (at_pairs n)
      (Across-onto R (placed n lines) (told_at n lines) (moved_at n lines)
      (across_placed n (is_told n) (λ k lt x y a b r. before k n x y lt a (first_true _ _ b) r) (λ k lt x a b. apart k lt x a (first_true _ _ b)))
      (across_placed n (is_moved n) (λ k lt x y a b r. before k n x y lt a (first_true _ _ b) r) (λ k lt x a b. apart k lt x a (first_true _ _ b))))
    where
      apart : (k : ℕ) → k < n → (x : Line) → stands_at k x.at ≡ true → stands_at n x.at ≡ true → ⊥
      apart k lt x a b = let same = two_positions k n x.at a b in omega arith

  pub pairs_ordered : (n : ℕ) → Pairs R (ordered n lines)
  pairs_ordered n = Pairs-append R (placed (n + 1) lines) (unplaced lines) (pairs_placed (n + 1))
      (Pairs-filter (λ line. is_none line.at) B R lines two_unplaced h)
      (across_placed (n + 1) (λ line. is_none line.at) (λ k lt. then_unplaced k) (λ k lt x a b. placed_or_not k x.at a b))
