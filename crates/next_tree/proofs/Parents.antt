-- The way upward: the directory whose list names another is one, and to come from it is to come from there.
use Rattle.std.proofs.Common.{◌≡◌, ◌≢◌, ℕ, suc, zero, ◌+◌, ◌-◌, ◌<◌, List, [], ◌∷◌, Bool, true, false, cond, refl, sym, ◌∙◌, ap, subst, arith}
use Rattle.std.specs.Prelude.{◌||◌, Some, None, is_some}
use Rattle.std.proofs.lemmas.Bool.Decides.{nat_tests}
use Rattle.std.specs.List.{list_any}
use Rattle.std.specs.Ordering.{nat_cmp}
use Rattle.std.specs.Cmp.{nat_cmp_total}
use Rattle.std.specs.FinMap.{get, entries, find, get-entries, nat_cmp-IsAntisymmetric}
use Rattle.next_ids.specs.declared.ids.DirId.{DirId}
use Rattle.next_ids.specs.declared.ids.Node.{Node}
use Rattle.next_ids.specs.declared.ids.Node.TheVariants.{Dir, File}
use Rattle.next_ids.specs.Maps.{Numbers}
use Rattle.next_ids.specs.Namespace.{Directory, Namespace, node_at, names_dir, leads, IsWhole}
use Rattle.next_ids.proofs.Entries.{Distinct, distinct-entries}
use Rattle.next_tree.specs.Upward.{parent_among}
use Rattle.next_laws_namespace.proofs.Found.{find-first, find-later, found-name, passes-name, passes-number}
use Rattle.next_laws_namespace.proofs.Slots.{listing-there}
use Rattle.next_laws_namespace.proofs.Chains.{Lists, ReachesIn, chain-more, chain-last, leads-chain, chain-leads}

-- whether a list has the directory
abbrev has_dir : DirId → Directory → Bool
has_dir dir it = list_any (λ e. names_dir dir.0 e.1) (entries it.names)

abbrev Parent : DirId → List (ℕ × Directory) → DirId → Type 0
Parent dir es p = (it : Directory) × (find nat_cmp p.0 es ≡ Some it) × (has_dir dir it ≡ true)

parent-found : (dir : DirId) (es : List (ℕ × Directory)) (p : DirId) → Distinct nat_cmp es → parent_among dir es ≡ Some p → Parent dir es p
parent-found dir [] p apart h = cc
parent-found dir (e ∷ es) p apart h = by_test (has_dir dir e.1) refl h (parent-found dir es p apart.1)
  where
    by_test : (b : Bool) → has_dir dir e.1 ≡ b → cond b (Some (record { 0 = e.0 })) (parent_among dir es) ≡ Some p → (parent_among dir es ≡ Some p → Parent dir es p) → Parent dir (e ∷ es) p
    by_test true is h rest =
        let same : record { 0 = e.0 } ≡ p = cc in
        subst (λ (x : DirId). Parent dir (e ∷ es) x) same (e.1, find-first nat_cmp nat_cmp_total nat_cmp-IsAntisymmetric e es, is)
    by_test false is h rest =
        let r = rest h in
        (r.0, find-later nat_cmp nat_cmp_total nat_cmp-IsAntisymmetric e es apart.0 p.0 r.0 r.1, r.2)

-- a list that has the directory has it under a name
has_dir-named : (dir : DirId) (it : Directory) → has_dir dir it ≡ true → (name : List ℕ) × (get it.names name ≡ Some (Dir dir))
has_dir-named dir it h = let f = found-name (λ (e : List ℕ × Node). names_dir dir.0 e.1) it.names h in by_node f.key f.value (get-entries it.names f.key ∙ f.there) f.passes
  where
    by_node : (name : List ℕ) (node : Node) → get it.names name ≡ Some node → names_dir dir.0 node ≡ true → (name : List ℕ) × (get it.names name ≡ Some (Dir dir))
    by_node name (File file) is passes = cc
    by_node name (Dir d) is passes =
        let same : d.0 ≡ dir.0 = grind (arith, nat_tests) in
        (name, is ∙ ap (λ k. Some (Dir (record { 0 = k }))) same)

pub parent-lists : (dir : DirId) (dirs : Numbers Directory) (p : DirId) → parent_among dir (entries dirs) ≡ Some p → Lists dirs p.0 dir.0
parent-lists dir dirs p h =
    let r = parent-found dir (entries dirs) p (distinct-entries nat_cmp dirs) h in
    let named = has_dir-named dir r.0 r.2 in
    (named.0, ap (λ o. node_at o named.0) (get-entries dirs p.0 ∙ r.1) ∙ named.1)

is_some-parent : (dir : DirId) (es : List (ℕ × Directory)) → is_some (parent_among dir es) ≡ list_any (λ e. has_dir dir e.1) es
is_some-parent dir [] = refl
is_some-parent dir (e ∷ es) = by_test (has_dir dir e.1) (is_some-parent dir es)
  where
    by_test : (b : Bool) → is_some (parent_among dir es) ≡ list_any (λ e. has_dir dir e.1) es → is_some (cond b (Some (record { 0 = e.0 })) (parent_among dir es)) ≡ (b || list_any (λ e. has_dir dir e.1) es)
    by_test true rest = refl
    by_test false rest = rest

named-has_dir : (dir : DirId) (it : Directory) (name : List ℕ) → get it.names name ≡ Some (Dir dir) → has_dir dir it ≡ true
named-has_dir dir it name is = passes-name (λ e. names_dir dir.0 e.1) it.names name (Dir dir) is (grind (arith, nat_tests))

pub parent-none : (dir : DirId) (dirs : Numbers Directory) → parent_among dir (entries dirs) ≡ None → (d : ℕ) → Lists dirs d dir.0 → ⊥
parent-none dir dirs none d h =
    let it = listing-there (get dirs d) h.0 (Dir dir) h.1 in
    let named = ap (λ o. node_at o h.0) (sym it.1) ∙ h.1 in
    let some = passes-number (λ e. has_dir dir e.1) dirs d it.0 it.1 (named-has_dir dir it.0 h.0 named) in
    let clash = ap is_some (sym none) ∙ is_some-parent dir (entries dirs) ∙ some in
    cc

-- ---- a step of the way
same_truth : (a b : Bool) → (a ≡ true → b ≡ true) → (b ≡ true → a ≡ true) → a ≡ b
same_truth true b f g = sym (f refl)
same_truth false true f g = g refl
same_truth false false f g = refl

pub leads-here : (n : Namespace) (k from : ℕ) → leads k n from from ≡ true
leads-here n k from = leads-chain n zero k from from (omega arith) refl

leads-up : (n : Namespace) → IsWhole n → (k from at p : ℕ) → from ≢ at → Lists n.dirs p at → leads (suc k) n from at ≡ leads k n from p
leads-up n whole k from at p apart h = same_truth (leads (suc k) n from at) (leads k n from p) up down
  where
    last : ReachesIn (suc k) n.dirs from at → leads k n from p ≡ true
    last (zero, small, chain) = absurd (apart chain)
    last (suc j, small, chain) =
        let l = chain-last j n.dirs from at chain in
        let same = (whole.once l.0 p l.2.0 h.0 (record { 0 = at }) l.2.1 h.1).0 in
        subst (λ d. leads k n from d ≡ true) same (leads-chain n j k from l.0 (omega arith) l.1)

    up : leads (suc k) n from at ≡ true → leads k n from p ≡ true
    up is = last (chain-leads n (suc k) from at is)

    down : leads k n from p ≡ true → leads (suc k) n from at ≡ true
    down is =
        let way = chain-leads n k from p is in
        leads-chain n (suc way.0) (suc k) from at (omega (arith, way.1)) (chain-more way.0 n.dirs from p at way.2 h)

pub walk-step : (n : Namespace) → IsWhole n → (most i : ℕ) (from at p : DirId) → i < most → at.0 ≢ from.0 → parent_among at (entries n.dirs) ≡ Some p → leads (most - i) n from.0 at.0 ≡ leads (most - (i + 1)) n from.0 p.0
walk-step n whole most i from at p small apart h =
    let more : most - i ≡ suc (most - (i + 1)) = omega arith in
    ap (λ k. leads k n from.0 at.0) more ∙ leads-up n whole (most - (i + 1)) from.0 at.0 p.0 (λ same. apart (sym same)) (parent-lists at n.dirs p h)

-- nothing but itself leads to what no list names
pub walk-ends : (n : Namespace) (k : ℕ) (from at : DirId) → at.0 ≢ from.0 → parent_among at (entries n.dirs) ≡ None → leads k n from.0 at.0 ≡ false
walk-ends n k from at apart h = by_test (leads k n from.0 at.0) refl
  where
    last : ReachesIn k n.dirs from.0 at.0 → ⊥
    last (zero, small, chain) = apart (sym chain)
    last (suc j, small, chain) = let l = chain-last j n.dirs from.0 at.0 chain in parent-none at n.dirs h l.0 l.2

    by_test : (b : Bool) → leads k n from.0 at.0 ≡ b → b ≡ false
    by_test true is = absurd (last (chain-leads n k from.0 at.0 is))
    by_test false is = refl
