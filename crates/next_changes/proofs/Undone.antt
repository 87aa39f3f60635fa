-- What was set at a key and is set or cut there again.
use Rattle.std.proofs.Common.{◌≡◌, ℕ, List, ◌∷◌, Bool, true, false, refl, ap, sym, subst, ◌∙◌, arith}
use Rattle.std.specs.Prelude.{Some, None, Result, Ok, Err, IsOk, OnOk, not}
use Rattle.std.proofs.lemmas.Cmp.{eq_by_cmp_equiv}
use Rattle.std.proofs.lemmas.Map.Text.{is_eq-slice_cmp}
use Rattle.std.proofs.lemmas.Slice.Eq.{bytes_eq-Decides}
use Rattle.std.specs.Str.{bytes_eq}
use Rattle.std.proofs.lemmas.Bool.Decides.{nat_tests}
use Rattle.std.specs.declared.cmp.Ordering.{Ordering}
use Rattle.std.specs.declared.cmp.Ordering.TheVariants.{Less, Equal, Greater}
use Rattle.std.specs.Option.{IsSome}
use Rattle.std.specs.Ordering.{nat_cmp, is_eq, eq_by_cmp}
use Rattle.std.specs.Cmp.Lexicographic.{slice_cmp, nat_list_cmp_total}
use Rattle.std.specs.FinMap.{get, insert, remove, gets, same_map, nat_cmp-IsAntisymmetric, slice_cmp-IsAntisymmetric}
use Rattle.next_ids.specs.declared.ids.Node.{Node}
use Rattle.next_ids.specs.declared.ids.DirId.{DirId}
use Rattle.next_ids.specs.declared.ids.PlaceNo.{PlaceNo}
use Rattle.next_ids.specs.declared.ids.Stamp.{Stamp}
use Rattle.next_ids.specs.Maps.{Names}
use Rattle.next_steps.specs.declared.contents.Debt.{Debt}
use Rattle.next_steps.specs.declared.contents.RowLock.{RowLock}
use Rattle.next_rules.specs.Contents.{Shard, debt_key}
use Rattle.next_rules.specs.Changes.{set_row, set_lock}

module _ {X : Type 0} where
  -- what is set is found
  pub set-here : (m : Names X) (key : List ℕ) (x : X) → get (insert m key x) key ≡ Some x
  set-here m key x = grind (arith, nat_tests, gets)

  -- two maps are one that answer alike at a key and at all others
  alike-at : (m n : Names X) (key : List ℕ) → get m key ≡ get n key → ((q : List ℕ) → eq_by_cmp (slice_cmp nat_cmp) q key ≡ false → get m q ≡ get n q) → m ≡ n
  alike-at m n key here others = same_map nat_list_cmp_total (slice_cmp-IsAntisymmetric nat_cmp-IsAntisymmetric) m n (λ q. at q (slice_cmp nat_cmp q key) refl)
    where
      at : (q : List ℕ) (o : Ordering) → slice_cmp nat_cmp q key ≡ o → get m q ≡ get n q
      at q Less is = others q (ap is_eq is)
      at q Equal is = let same : q ≡ key = slice_cmp-IsAntisymmetric nat_cmp-IsAntisymmetric q key is in rw same here
      at q Greater is = others q (ap is_eq is)

  module _ (m : Names X) (key : List ℕ) where
    -- what stood there before stands there again
    pub set-back : (x y : X) → Some y ≡ get m key → insert (insert m key x) key y ≡ m
    set-back x y there = alike-at _ _ key (set-here (insert m key x) key y ∙ there) (λ q differ. grind (arith, nat_tests, gets, differ))

    pub cut-back : (x : X) → None ≡ get m key → remove (insert m key x) key ≡ m
    cut-back x none = alike-at _ _ key (grind (arith, nat_tests, gets, none)) (λ q differ. grind (arith, nat_tests, gets, differ))

    -- a cut at another key comes before what is set, and one at the same key is for nothing
    pub cut-other : (other : List ℕ) (x : X) → eq_by_cmp (slice_cmp nat_cmp) key other ≡ false → remove (insert m key x) other ≡ insert (remove m other) key x
    cut-other other x differ = alike-at _ _ key (grind (arith, nat_tests, gets)) (λ q apart. grind (arith, nat_tests, gets))

    pub cut-same : (x : X) → insert (remove m key) key x ≡ insert m key x
    cut-same x = alike-at _ _ key (grind (arith, nat_tests, gets)) (λ q apart. grind (arith, nat_tests, gets))

  -- a map in which it was set has it
  pub is-set : (m t : Names X) (key : List ℕ) (x : X) → t ≡ insert m key x → IsSome (get t key)
  is-set m t key x is = rw (is, set-here m key x) refl

-- what holds where a call succeeds holds where it is sure to
pub on-ok : {A E P : Type 0} (r : Result A E) → IsOk r → OnOk r P → P
on-ok (Ok a) sure holds = holds
on-ok (Err e) sure holds = cc

-- a debt that was set is in the place still
pub debt-there : (s t : Shard) (p q : PlaceNo) (node : Node) (debt : Debt) → t ≡ record s { debts = insert s.debts (debt_key p node) debt } → q ≡ p → t ≡ record s { debts = insert s.debts (debt_key q node) debt }
debt-there s t p q node debt is same = subst (λ (p : PlaceNo). t ≡ record s { debts = insert s.debts (debt_key p node) debt }) (sym same) is

-- so is a row, at a name that is the same
pub row-there : (s t : Shard) (dir : DirId) (given name : List ℕ) (node : Node) (at : Stamp) → t ≡ set_row s dir given node at → given ≡ name → t ≡ set_row s dir name node at
row-there s t dir given name node at is same = subst (λ (n : List ℕ). t ≡ set_row s dir n node at) same is

-- and a lock
pub lock-there : (s t : Shard) (dir : DirId) (given name : List ℕ) (lock : RowLock) → t ≡ set_lock s dir given lock → given ≡ name → t ≡ set_lock s dir name lock
lock-there s t dir given name lock is same = subst (λ (n : List ℕ). t ≡ set_lock s dir n lock) same is

-- ---- whether two names of a directory are one
unless : (b : Bool) → not b ≡ true → b ≡ false
unless true is = cc
unless false is = refl

once : (b : Bool) → not b ≡ false → b ≡ true
once true is = refl
once false is = cc

pub names-same : (r : Bool) (a b : List ℕ) → r ≡ not (bytes_eq a b) → r ≡ false → a ≡ b
names-same r a b test same = (bytes_eq-Decides a b).0 (once (bytes_eq a b) (sym test ∙ same))

pub keys-apart : (r : Bool) (d : ℕ) (a b : List ℕ) → r ≡ not (bytes_eq a b) → r ≡ true → eq_by_cmp (slice_cmp nat_cmp) (d ∷ b) (d ∷ a) ≡ false
keys-apart r d a b test differ =
    (eq_by_cmp_equiv nat_list_cmp_total).symm (d ∷ b) (d ∷ a) ∙ beyond ∙ is_eq-slice_cmp a b ∙ unless (bytes_eq a b) (sym test ∙ differ)
  where
    beyond : eq_by_cmp (slice_cmp nat_cmp) (d ∷ a) (d ∷ b) ≡ is_eq (slice_cmp nat_cmp a b)
    beyond = grind (arith, nat_tests, gets)
