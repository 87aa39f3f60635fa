-- Chains of names from directory to directory.
use Rattle.std.proofs.Common.{◌≡◌, ◌≢◌, ◌⊎◌, inl, inr, ℕ, suc, zero, ◌≤◌, Bool, true, false, List, refl, sym, ◌∙◌, ap, subst, length, arith}
use Rattle.std.proofs.Math.Bool.{or-true}
use Rattle.std.specs.Prelude.{◌==◌, ◌||◌, Option, Some, None}
use Rattle.std.proofs.lemmas.Bool.Decides.{nat_tests}
use Rattle.std.specs.List.{list_any}
use Rattle.std.specs.Ordering.{nat_cmp}
use Rattle.std.specs.FinMap.{get, remove, entries, len, gets, get-empty, len-entries, empty_of_len, get-entries}
use Rattle.next_ids.specs.declared.ids.Node.{Node}
use Rattle.next_ids.specs.declared.ids.Node.TheVariants.{Dir, File}
use Rattle.next_ids.specs.Maps.{Numbers}
use Rattle.next_ids.specs.Namespace.{Directory, Namespace, node_at, rows_of, of_dir, leads, is_below}
use Rattle.next_laws_namespace.proofs.Found.{found-name, passes-name}
use Rattle.next_laws_namespace.proofs.Slots.{get-remove_apart, listing-there}

-- the list of directory d has directory c under a name
abbrev pub Lists : Numbers Directory → (d c : ℕ) → Type 0
Lists dirs d c = (name : List ℕ) × (node_at (get dirs d) name ≡ Some (Dir (record { 0 = c })))

-- a chain of so many names, each in the list of the directory before it
abbrev pub Chain : ℕ → Numbers Directory → (from to : ℕ) → Type 0
Chain zero dirs from to = from ≡ to
Chain (suc k) dirs from to = (d : ℕ) × Lists dirs from d × Chain k dirs d to

abbrev pub Reaches : Numbers Directory → (from to : ℕ) → Type 0
Reaches dirs from to = (k : ℕ) × Chain k dirs from to

-- a chain of at most so many names
abbrev pub ReachesIn : ℕ → Numbers Directory → (from to : ℕ) → Type 0
ReachesIn most dirs from to = (k : ℕ) × (k ≤ most) × Chain k dirs from to

-- ---- chains grow and shrink at their end
pub chain-more : (k : ℕ) (dirs : Numbers Directory) (from d c : ℕ) → Chain k dirs from d → Lists dirs d c → Chain (suc k) dirs from c
chain-more zero dirs from d c h last = (c, subst (λ x. Lists dirs x c) (sym h) last, refl)
chain-more (suc k) dirs from d c h last = (h.0, h.1, chain-more k dirs h.0 d c h.2 last)

pub chain-last : (k : ℕ) (dirs : Numbers Directory) (from to : ℕ) → Chain (suc k) dirs from to → (d : ℕ) × Chain k dirs from d × Lists dirs d to
chain-last zero dirs from to h = (from, refl, subst (λ x. Lists dirs from x) h.2 h.1)
chain-last (suc k) dirs from to h = let rest = chain-last k dirs h.0 to h.2 in (rest.0, (h.0, h.1, rest.1), rest.2)

pub reach-more : (dirs : Numbers Directory) (from d c : ℕ) → Reaches dirs from d → Lists dirs d c → Reaches dirs from c
reach-more dirs from d c h last = (suc h.0, chain-more h.0 dirs from d c h.1 last)

-- a chain stays where what each list has stays
pub chain-kept : (dirs dirs' : Numbers Directory) → ((d c : ℕ) → Lists dirs d c → Lists dirs' d c) → (k from to : ℕ) → Chain k dirs from to → Chain k dirs' from to
chain-kept dirs dirs' stays zero from to h = h
chain-kept dirs dirs' stays (suc k) from to h = (h.0, stays from h.0 h.1, chain-kept dirs dirs' stays k h.0 to h.2)

-- ---- a chain need be no longer than the number of directories
lists-removed : (dirs : Numbers Directory) (a d c : ℕ) → d ≢ a → Lists dirs d c → Lists (remove dirs a) d c
lists-removed dirs a d c apart h =
    (h.0, ap (λ o. node_at o h.0) (get-remove_apart dirs a d apart) ∙ h.1)

lists-before : (dirs : Numbers Directory) (a d c : ℕ) → Lists (remove dirs a) d c → Lists dirs d c
lists-before dirs a d c h = by_test (d == a) refl
  where
    by_test : (b : Bool) → (d == a) ≡ b → Lists dirs d c
    by_test true e = absurd (let none : get (remove dirs a) d ≡ None = grind (arith, nat_tests, gets) in let clash = rw none at h.1 in cc)
    by_test false e = let same : get (remove dirs a) d ≡ get dirs d = grind (arith, nat_tests, gets) in (h.0, ap (λ o. node_at o h.0) (sym same) ∙ h.1)

-- what follows the last visit of a directory never visits it
abbrev Leaves : Numbers Directory → (a to : ℕ) → Type 0
Leaves dirs a to = (c : ℕ) × Lists dirs a c × Reaches (remove dirs a) c to

after_last : (dirs : Numbers Directory) (a k from to : ℕ) → Chain k dirs from to → Reaches (remove dirs a) from to ⊎ Leaves dirs a to
after_last dirs a zero from to h = inl (0, h)
after_last dirs a (suc k) from to h = by_rest (after_last dirs a k h.0 to h.2)
  where
    by_rest : Reaches (remove dirs a) h.0 to ⊎ Leaves dirs a to → Reaches (remove dirs a) from to ⊎ Leaves dirs a to
    by_rest (inr r) = inr r
    by_rest (inl r) = by_test (from == a) refl
      where
        by_test : (b : Bool) → (from == a) ≡ b → Reaches (remove dirs a) from to ⊎ Leaves dirs a to
        by_test true e = let here : from ≡ a = grind (arith, nat_tests) in inr (h.0, subst (λ x. Lists dirs x h.0) here h.1, r)
        by_test false e = let apart : from ≢ a = grind (arith, nat_tests) in inl (suc r.0, (h.0, lists-removed dirs a from h.0 apart h.1, r.1))

leaves : (dirs : Numbers Directory) (k from to : ℕ) → from ≢ to → Chain k dirs from to → Leaves dirs from to
leaves dirs zero from to apart h = absurd (apart h)
leaves dirs (suc k) from to apart h = by_rest (after_last dirs from k h.0 to h.2)
  where
    by_rest : Reaches (remove dirs from) h.0 to ⊎ Leaves dirs from to → Leaves dirs from to
    by_rest (inl r) = (h.0, h.1, r)
    by_rest (inr r) = r

len-removed : (dirs : Numbers Directory) (most d c : ℕ) → len dirs ≡ suc most → Lists dirs d c → len (remove dirs d) ≡ most
len-removed dirs most d c count h =
    let it = listing-there (get dirs d) h.0 _ h.1 in
    let there = it.1 in
    grind (arith, nat_tests, gets)

none-listed : (dirs : Numbers Directory) (d c : ℕ) → len dirs ≡ 0 → Lists dirs d c → ⊥
none-listed dirs d c count h =
    let none : get dirs d ≡ None = ap (λ m. get m d) (empty_of_len dirs count) ∙ get-empty nat_cmp d in
    let clash = rw none at h.1 in
    cc

pub shorter : (most : ℕ) (dirs : Numbers Directory) (from to : ℕ) → len dirs ≡ most → Reaches dirs from to → ReachesIn most dirs from to
shorter zero dirs from to count h = by_test (from == to) refl
  where
    by_test : (b : Bool) → (from == to) ≡ b → ReachesIn 0 dirs from to
    by_test true e = (0, omega arith, grind (arith, nat_tests))
    by_test false e =
        let apart : from ≢ to = grind (arith, nat_tests) in
        let way = leaves dirs h.0 from to apart h.1 in
        absurd (none-listed dirs from way.0 count way.1)
shorter (suc most) dirs from to count h = by_test (from == to) refl (λ c way. shorter most (remove dirs from) c to way)
  where
    by_test : (b : Bool) → (from == to) ≡ b → ((c : ℕ) → len (remove dirs from) ≡ most → Reaches (remove dirs from) c to → ReachesIn most (remove dirs from) c to) → ReachesIn (suc most) dirs from to
    by_test true e again = (0, omega arith, grind (arith, nat_tests))
    by_test false e again =
        let apart : from ≢ to = grind (arith, nat_tests) in
        let way = leaves dirs h.0 from to apart h.1 in
        let rest = again way.0 (len-removed dirs most from way.0 count way.1) way.2 in
        (suc rest.0, omega (arith, rest.1), (way.0, way.1, chain-kept (remove dirs from) dirs (λ d c l. lists-before dirs from d c l) rest.0 way.0 to rest.2))

-- ---- chains and what `leads` says
abbrev names_test : (ℕ → Bool) → List ℕ × Node → Bool
names_test fact e = of_dir fact e.1

pub leads-chain : (n : Namespace) (j k from to : ℕ) → j ≤ k → Chain j n.dirs from to → leads k n from to ≡ true
leads-chain n zero zero from to small h = grind (arith, nat_tests)
leads-chain n zero (suc k) from to small h = let here : (from == to) ≡ true = grind (arith, nat_tests) in rw here refl
leads-chain n (suc j) zero from to small h = absurd (omega arith)
leads-chain n (suc j) (suc k) from to small h = rw (goes_on (leads-chain n j k h.0 to (omega arith) h.2) (get n.dirs from) h.1.1) (or-true (from == to))
  where
    goes_on : leads k n h.0 to ≡ true → (o : Option Directory) → node_at o h.1.0 ≡ Some (Dir (record { 0 = h.0 })) → list_any (λ e. of_dir (λ d. leads k n d to) e.1) (rows_of o) ≡ true
    goes_on rest None is = cc
    goes_on rest (Some d) is = passes-name (names_test (λ d. leads k n d to)) d.names h.1.0 (Dir (record { 0 = h.0 })) is rest

pub chain-leads : (n : Namespace) (k from to : ℕ) → leads k n from to ≡ true → ReachesIn k n.dirs from to
chain-leads n zero from to h = (0, omega arith, grind (arith, nat_tests))
chain-leads n (suc k) from to h = by_test (from == to) refl h (λ d. chain-leads n k d to)
  where
    by_test : (b : Bool) → (from == to) ≡ b → (b || list_any (λ e. of_dir (λ d. leads k n d to) e.1) (rows_of (get n.dirs from))) ≡ true → ((d : ℕ) → leads k n d to ≡ true → ReachesIn k n.dirs d to) → ReachesIn (suc k) n.dirs from to
    by_test true e h again = (0, omega arith, grind (arith, nat_tests))
    by_test false e h again = by_list (get n.dirs from) refl h
      where
        by_node : (d : Directory) (name : List ℕ) (node : Node) → get n.dirs from ≡ Some d → get d.names name ≡ Some node → of_dir (λ x. leads k n x to) node ≡ true → ReachesIn (suc k) n.dirs from to
        by_node d name (File file) at is passes = cc
        by_node d name (Dir dir) at is passes =
            let rest = again dir.0 passes in
            (suc rest.0, omega (arith, rest.1), (dir.0, (name, ap (λ o. node_at o name) at ∙ is), rest.2))

        by_list : (o : Option Directory) → get n.dirs from ≡ o → list_any (λ e. of_dir (λ d. leads k n d to) e.1) (rows_of o) ≡ true → ReachesIn (suc k) n.dirs from to
        by_list None at h = cc
        by_list (Some d) at h =
            let f = found-name (names_test (λ d. leads k n d to)) d.names h in
            by_node d f.key f.value at (get-entries d.names f.key ∙ f.there) f.passes

-- one directory lies below another exactly where a chain of whatever length leads to it
pub below-reached : (n : Namespace) (from to : ℕ) → Reaches n.dirs from to → is_below n from to ≡ true
below-reached n from to h =
    let way = shorter (length (entries n.dirs)) n.dirs from to (len-entries n.dirs) h in
    leads-chain n way.0 (length (entries n.dirs)) from to way.1 way.2

pub reached-below : (n : Namespace) (from to : ℕ) → is_below n from to ≡ true → Reaches n.dirs from to
reached-below n from to h = let way = chain-leads n (length (entries n.dirs)) from to h in (way.0, way.2)
