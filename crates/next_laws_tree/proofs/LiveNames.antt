-- What the directories of the tree have: the nodes that live rows name.
use Rattle.std.proofs.Common.{◌≡◌, ◌≢◌, ℕ, List, [], ◌∷◌, ◌++◌, map, Bool, true, false, cond, refl, sym, ◌∙◌, ap, subst, arith, ◌⊎◌, inl, inr}
use Rattle.std.proofs.Math.Bool.{or-true}
use Rattle.std.specs.Prelude.{◌==◌, ◌||◌, not, flat_map, Option, Some, None}
use Rattle.std.proofs.lemmas.Bool.Decides.{nat_tests}
use Rattle.std.specs.Option.{option_map}
use Rattle.std.specs.List.{list_any}
use Rattle.std.specs.Ordering.{nat_cmp}
use Rattle.std.specs.Cmp.Lexicographic.{slice_cmp, nat_list_cmp_total}
use Rattle.std.specs.FinMap.{get, entries, get-entries, get-from_entries, retain_keys, get-retain_keys}
use Rattle.next_ids.specs.declared.ids.Node.{Node}
use Rattle.next_ids.specs.declared.ids.Node.TheVariants.{Dir, File}
use Rattle.next_ids.specs.Maps.{Names, within}
use Rattle.next_ids.specs.Namespace.{Directory, node_at, is_node, names_dir}
use Rattle.next_ids.proofs.Entries.{any-append}
use Rattle.next_ids.proofs.MapLemmas.{find-within}
use Rattle.next_laws_namespace.proofs.Found.{found-name, passes-name}
use Rattle.next_steps.specs.declared.contents.Row.{Row}
use Rattle.next_rules.specs.Contents.{Shard}
use Rattle.next_rules.specs.Changes.{node_in}
use Rattle.next_rules.specs.Trees.{is_dead, live_rows, is_named, dirs_of_node, dirs_of_row, shown_dirs, is_shown, names_in, directory_of, tree}
use Rattle.next_rules.specs.Worlds.{Service}
use Rattle.next_rules.proofs.Names.{bytes_apart}
use Rattle.next_rules.proofs.TreeLookups.{get-tree_dirs}

abbrev pub dir_of_number : ℕ → Node
dir_of_number d = Dir (record { 0 = d })

-- ---- rows that are live
pub get-live : (s : Shard) (key : List ℕ) → get (live_rows s) key ≡ cond (not (is_dead s (get s.locks key))) (get s.rows key) None
get-live s key = get-retain_keys s.rows (λ k. not (is_dead s (get s.locks k))) key (λ k e. ap (λ q. not (is_dead s (get s.locks q))) (sym (bytes_apart key k e)))

pub live-is_row : (s : Shard) (key : List ℕ) (row : Row) → get (live_rows s) key ≡ Some row → get s.rows key ≡ Some row
live-is_row s key row is = by_test (not (is_dead s (get s.locks key))) refl
  where
    by_test : (b : Bool) → not (is_dead s (get s.locks key)) ≡ b → get s.rows key ≡ Some row
    by_test true e = sym (get-live s key ∙ ap (λ b. cond b (get s.rows key) None) e) ∙ is
    by_test false e = absurd (let none : get (live_rows s) key ≡ None = get-live s key ∙ ap (λ b. cond b (get s.rows key) None) e in cc)

-- ---- a node that is named has a row
pub record NamedAt (s : Shard) (x : Node) : Type 0 where
  pub key : List ℕ
  pub row : Row
  pub there : get (live_rows s) key ≡ Some row
  pub names : is_node x row.node ≡ true

pub named-row : (s : Shard) (x : Node) → is_named s x ≡ true → NamedAt s x
named-row s x h =
    let f = found-name (λ e. is_node x e.1.node) (live_rows s) h in
    record { key = f.key; row = f.value; there = get-entries (live_rows s) f.key ∙ f.there; names = f.passes }

pub row-named : (s : Shard) (x : Node) (key : List ℕ) (row : Row) → get (live_rows s) key ≡ Some row → is_node x row.node ≡ true → is_named s x ≡ true
row-named s x key row there names = passes-name (λ e. is_node x e.1.node) (live_rows s) key row there names

-- ---- the names of a directory
pub get-names_in : (s : Shard) (d : ℕ) (name : List ℕ) → get (names_in s d) name ≡ node_in (get (live_rows s) (d ∷ name))
get-names_in s d name =
    get-from_entries nat_list_cmp_total (map (λ e. (e.0, e.1.node)) (within d (entries (live_rows s)))) name
    ∙ find-within (λ row. row.node) d name (entries (live_rows s))
    ∙ ap (option_map (λ row. row.node)) (sym (get-entries (live_rows s) (d ∷ name)))
    ∙ node_of (get (live_rows s) (d ∷ name))
  where
    node_of : (o : Option Row) → option_map (λ (row : Row). row.node) o ≡ node_in o
    node_of None = refl
    node_of (Some row) = refl

-- ---- the directories of the tree
any-flat : {X : Type 0} (p : ℕ → Bool) (f : X → List ℕ) (es : List X) → list_any p (flat_map f es) ≡ list_any (λ e. list_any p (f e)) es
any-flat p f [] = refl
any-flat p f (e ∷ es) = any-append p (f e) (flat_map f es) ∙ ap (λ b. list_any p (f e) || b) (any-flat p f es)

abbrev pub is_of : ℕ → List ℕ × Row → Bool
is_of d e = list_any (λ x. x == d) (dirs_of_row e)

pub shown-by : (s : Shard) (d : ℕ) → is_shown s d ≡ ((0 == d) || list_any (is_of d) (entries (live_rows s)))
shown-by s d = ap (λ b. (0 == d) || b) (any-flat (λ x. x == d) dirs_of_row (entries (live_rows s)))

or-right : (a b : Bool) → b ≡ true → (a || b) ≡ true
or-right true b h = refl
or-right false b h = h

-- a directory in which a live row lies, and one that a live row names
pub lies-shown : (s : Shard) (d : ℕ) (name : List ℕ) (row : Row) → get (live_rows s) (d ∷ name) ≡ Some row → is_shown s d ≡ true
lies-shown s d name row there = shown-by s d ∙ or-right (0 == d) (list_any (is_of d) (entries (live_rows s))) (passes-name (is_of d) (live_rows s) (d ∷ name) row there here)
  where
    same : (d == d) ≡ true
    same = grind (arith, nat_tests)

    here : is_of d (d ∷ name, row) ≡ true
    here = ap (λ b. b || list_any (λ x. x == d) (dirs_of_node row.node)) same

pub names-shown : (s : Shard) (d : ℕ) (key : List ℕ) (row : Row) → get (live_rows s) key ≡ Some row → row.node ≡ dir_of_number d → is_shown s d ≡ true
names-shown s d key row there names = shown-by s d ∙ or-right (0 == d) (list_any (is_of d) (entries (live_rows s))) (passes-name (is_of d) (live_rows s) key row there (here key))
  where
    same : list_any (λ x. x == d) (dirs_of_node row.node) ≡ true
    same = ap (λ n. list_any (λ x. x == d) (dirs_of_node n)) names ∙ (let is : (d == d) ≡ true = grind (arith, nat_tests) in ap (λ b. b || false) is)

    here : (key : List ℕ) → is_of d (key, row) ≡ true
    here [] = same
    here (k ∷ more) = or-right (k == d) (list_any (λ x. x == d) (dirs_of_node row.node)) same

-- and a directory that is shown is the root, or a live row lies in it or names it
pub shown-how : (s : Shard) (d : ℕ) → d ≢ 0 → is_shown s d ≡ true → ((name : List ℕ) × (row : Row) × (get (live_rows s) (d ∷ name) ≡ Some row)) ⊎ (is_named s (dir_of_number d) ≡ true)
shown-how s d differ shown =
    let other : (0 == d) ≡ false = grind (arith, nat_tests) in
    let f = found-name (is_of d) (live_rows s) (sym (shown-by s d ∙ ap (λ b. b || list_any (is_of d) (entries (live_rows s))) other) ∙ shown) in
    by_key f.key f.value (get-entries (live_rows s) f.key ∙ f.there) f.passes
  where
    by_node : (x : Node) → list_any (λ y. y == d) (dirs_of_node x) ≡ true → is_node (dir_of_number d) x ≡ true
    by_node (File file) h = cc
    by_node (Dir dir) h = by_test (dir.0 == d) refl h
      where
        by_test : (b : Bool) → (dir.0 == d) ≡ b → (b || false) ≡ true → (dir.0 == d) ≡ true
        by_test true e h = e
        by_test false e h = absurd (cc)

    by_row : (key : List ℕ) (row : Row) → get (live_rows s) key ≡ Some row → list_any (λ y. y == d) (dirs_of_node row.node) ≡ true → is_named s (dir_of_number d) ≡ true
    by_row key row at h = row-named s (dir_of_number d) key row at (by_node row.node h)

    by_key : (key : List ℕ) (row : Row) → get (live_rows s) key ≡ Some row → is_of d (key, row) ≡ true → ((name : List ℕ) × (row : Row) × (get (live_rows s) (d ∷ name) ≡ Some row)) ⊎ (is_named s (dir_of_number d) ≡ true)
    by_key [] row at h = inr (by_row [] row at h)
    by_key (k ∷ name) row at h = by_test (k == d) refl h
      where
        by_test : (b : Bool) → (k == d) ≡ b → (b || list_any (λ y. y == d) (dirs_of_node row.node)) ≡ true → ((name : List ℕ) × (row : Row) × (get (live_rows s) (d ∷ name) ≡ Some row)) ⊎ (is_named s (dir_of_number d) ≡ true)
        by_test true e h = let same : k ≡ d = grind (arith, nat_tests) in inl (name, row, ap (λ q. get (live_rows s) (q ∷ name)) (sym same) ∙ at)
        by_test false e h = inr (by_row (k ∷ name) row at h)

pub dir-there : (v : Service) (d : ℕ) → is_shown v.shard d ≡ true → get (tree v).dirs d ≡ Some (directory_of v d)
dir-there v d shown = get-tree_dirs v d ∙ ap (λ b. cond b (Some (directory_of v d)) None) shown

pub there-shown : (v : Service) (d : ℕ) (it : Directory) → get (tree v).dirs d ≡ Some it → is_shown v.shard d ≡ true
there-shown v d it is = by_test (is_shown v.shard d) refl
  where
    by_test : (b : Bool) → is_shown v.shard d ≡ b → b ≡ true
    by_test true e = refl
    by_test false e = absurd (let none : get (tree v).dirs d ≡ None = get-tree_dirs v d ∙ ap (λ b. cond b (Some (directory_of v d)) None) e in cc)

-- what any directory has under a name, in the tree or not
pub node-live : (v : Service) (d : ℕ) (name : List ℕ) → node_at (get (tree v).dirs d) name ≡ node_in (get (live_rows v.shard) (d ∷ name))
node-live v d name = by_test (is_shown v.shard d) refl
  where
    by_row : is_shown v.shard d ≡ false → (o : Option Row) → get (live_rows v.shard) (d ∷ name) ≡ o → None ≡ node_in o
    by_row e None at = refl
    by_row e (Some row) at = absurd (let shown = lies-shown v.shard d name row at in cc)

    by_test : (b : Bool) → is_shown v.shard d ≡ b → node_at (get (tree v).dirs d) name ≡ node_in (get (live_rows v.shard) (d ∷ name))
    by_test true e = ap (λ o. node_at o name) (dir-there v d e) ∙ get-names_in v.shard d name
    by_test false e = ap (λ o. node_at o name) (get-tree_dirs v d ∙ ap (λ b. cond b (Some (directory_of v d)) None) e) ∙ by_row e (get (live_rows v.shard) (d ∷ name)) refl
