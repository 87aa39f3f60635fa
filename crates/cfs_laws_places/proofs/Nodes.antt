-- Nodes by their names, and the directories that no row lies in.
use Rattle.std.proofs.Common.{◌≡◌, ◌≢◌, ℕ, List, [], ◌∷◌, Bool, true, false, cond, refl, sym, ◌∙◌, ap, arith, ◌⊎◌, inl, inr}
use Rattle.std.proofs.Math.Bool.{or-true}
use Rattle.std.specs.Prelude.{◌||◌, ◌==◌, Option, Some, None}
use Rattle.std.proofs.lemmas.Bool.Decides.{nat_tests}
use Rattle.std.specs.List.{list_any}
use Rattle.std.specs.Ordering.{nat_cmp, is_eq}
use Rattle.std.specs.Cmp.Lexicographic.{slice_cmp}
use Rattle.std.specs.FinMap.{get, entries, find, get-entries}
use Rattle.cfs_ids.specs.declared.ids.DirId.{DirId}
use Rattle.cfs_ids.specs.declared.ids.Client.{Client}
use Rattle.cfs_ids.specs.declared.ids.Node.{Node}
use Rattle.cfs_ids.specs.declared.ids.Node.TheVariants.{Dir, File}
use Rattle.cfs_ids.specs.Namespace.{is_node}
use Rattle.cfs_steps.specs.declared.contents.Row.{Row}
use Rattle.cfs_rules.specs.Places.{Shard, Store}
use Rattle.cfs_rules.specs.Worlds.{client_of}
use Rattle.cfs_rules.specs.Trees.{is_shown}
use Rattle.cfs_laws_places.proofs.Invariant.{is_named_node, owner_at, Owns, PlacesHold}

-- ---- a name stands for one node
pub names_true : (x y : Node) → is_node x y ≡ true → x ≡ y
names_true (File f) (File g) h = let same : f.0 ≡ g.0 = grind (arith, nat_tests) in ap (λ n. File (record { 0 = n })) same
names_true (File f) (Dir d) h = cc
names_true (Dir d) (File f) h = cc
names_true (Dir d) (Dir e) h = let same : d.0 ≡ e.0 = grind (arith, nat_tests) in ap (λ n. Dir (record { 0 = n })) same

pub names_same : (x : Node) → is_node x x ≡ true
names_same (File f) = grind (arith, nat_tests)
names_same (Dir d) = grind (arith, nat_tests)

pub names_other : (x y : Node) → x ≢ y → is_node x y ≡ false
names_other x y differ = by_test (is_node x y) refl
  where
    by_test : (b : Bool) → is_node x y ≡ b → b ≡ false
    by_test true e = absurd (differ (names_true x y e))
    by_test false e = refl

-- a row's node is named
named_in : (es : List (List ℕ × Row)) (k : List ℕ) (row : Row) → find (slice_cmp nat_cmp) k es ≡ Some row → list_any (λ e. is_node row.node e.1.node) es ≡ true
named_in [] k row e = cc
named_in (x ∷ es) k row e = by_test (is_eq (slice_cmp nat_cmp k x.0)) e (named_in es k row)
  where
    by_test : (b : Bool) → cond b (Some x.1) (find (slice_cmp nat_cmp) k es) ≡ Some row → (find (slice_cmp nat_cmp) k es ≡ Some row → list_any (λ e. is_node row.node e.1.node) es ≡ true) → (is_node row.node x.1.node || list_any (λ e. is_node row.node e.1.node) es) ≡ true
    by_test true e rest = let same : x.1 ≡ row = cc in ap (λ (r : Row). is_node row.node r.node || list_any (λ e. is_node row.node e.1.node) es) same ∙ ap (λ b. b || list_any (λ e. is_node row.node e.1.node) es) (names_same row.node)
    by_test false e rest = ap (λ b. is_node row.node x.1.node || b) (rest e) ∙ or-true (is_node row.node x.1.node)

pub named_of_row : (shard : Shard) (k : List ℕ) (row : Row) → get shard.rows k ≡ Some row → is_named_node shard row.node ≡ true
named_of_row shard k row there = named_in (entries shard.rows) k row (sym (get-entries shard.rows k) ∙ there)

-- a node is another one, or it is not
pub same_or_not : (x y : Node) → (x ≡ y) ⊎ (x ≢ y)
same_or_not x y = by_test (is_node x y) refl
  where
    by_test : (b : Bool) → is_node x y ≡ b → (x ≡ y) ⊎ (x ≢ y)
    by_test true e = inl (names_true x y e)
    by_test false e = inr (λ same. let t = names_same x in let f : is_node x x ≡ false = ap (is_node x) same ∙ e in cc)

-- two owners have two nodes
pub two_nodes : (shard : Shard) (store : Store) (i c : ℕ) (x y : Node) (a b : Bool) → Owns shard store i x a → Owns shard store c y b → i ≢ c → x ≢ y
two_nodes shard store i c x y a b h k differ same =
    let again : owner_at shard store y ≡ Some (Some (client_of i)) = ap (owner_at shard store) (sym same) ∙ h.owner in
    let other = k.owner in
    let one : client_of i ≡ client_of c = cc in
    differ (ap (λ (z : Client). z.0) one)

-- ---- a directory that is put and not named
pub unshown : (shard : Shard) (store : Store) (lasts : ℕ → ℕ) (i : ℕ) (d : DirId) → PlacesHold shard store lasts → Owns shard store i (Dir d) false → is_shown shard d.0 ≡ false
unshown shard store lasts i d h owns = by_test (d.0 == 0) refl owns.name
  where
    by_test : (b : Bool) → (d.0 == 0) ≡ b → {p : Bool} → p ≡ false → (b || p) ≡ false
    by_test true e n =
        let root : d.0 ≡ 0 = grind (arith, nat_tests) in
        let there = h.root in
        let own : owner_at shard store (Dir (record { 0 = 0 })) ≡ Some (Some (client_of i)) = ap (λ k. owner_at shard store (Dir (record { 0 = k }))) (sym root) ∙ owns.owner in
        cc
    by_test false e n = n

-- ---- no rows lie in a directory that isn't shown
pub no_rows_in : (shard : Shard) (store : Store) (lasts : ℕ → ℕ) (d : ℕ) → PlacesHold shard store lasts → is_shown shard d ≡ false → (name : List ℕ) → get shard.rows (d ∷ name) ≡ None
no_rows_in shard store lasts d h hidden name = by_row (get shard.rows (d ∷ name)) refl
  where
    by_row : (o : Option Row) → get shard.rows (d ∷ name) ≡ o → o ≡ None
    by_row None e = refl
    by_row (Some row) e = let shown = h.housed d name row e in cc
