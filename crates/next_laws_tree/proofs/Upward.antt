-- From each directory of a whole tree the way upward ends at the root, along live rows.
use Rattle.std.proofs.Common.{◌≡◌, ◌≢◌, ℕ, suc, zero, List, [], ◌∷◌, Bool, true, false, refl, sym, ◌∙◌, ap, subst, arith}
use Rattle.std.specs.Prelude.{◌==◌, Option, Some, None}
use Rattle.std.proofs.lemmas.Bool.Decides.{nat_tests}
use Rattle.std.specs.FinMap.{get}
use Rattle.next_ids.specs.declared.ids.DirId.{DirId}
use Rattle.next_ids.specs.declared.ids.Node.{Node}
use Rattle.next_ids.specs.declared.ids.Node.TheVariants.{Dir, File}
use Rattle.next_ids.specs.Namespace.{Directory, IsWhole, node_at, is_node}
use Rattle.next_laws_namespace.proofs.Chains.{Lists, Chain, Reaches, chain-last, reached-below}
use Rattle.next_steps.specs.declared.contents.Row.{Row}
use Rattle.next_rules.specs.Contents.{Shard}
use Rattle.next_rules.specs.Changes.{node_in}
use Rattle.next_rules.specs.Facts.{LiesIn, EndsAtRoot, Root, Above, OneTree}
use Rattle.next_rules.specs.Trees.{live_rows, is_named, is_shown, tree}
use Rattle.next_rules.specs.Worlds.{Service}
use Rattle.next_laws_tree.specs.Housed.{IsHoused}
use Rattle.next_laws_tree.proofs.LiveNames.{dir_of_number, live-is_row, NamedAt, named-row, row-named, names-shown, dir-there, node-live}

-- a node that a directory names is that directory
pub names-it : (d : ℕ) (x : Node) → is_node (dir_of_number d) x ≡ true → x ≡ dir_of_number d
names-it d (File file) h = cc
names-it d (Dir dir) h = let same : dir.0 ≡ d = grind (arith, nat_tests) in ap dir_of_number same

itself : (d : ℕ) (x : Node) → x ≡ dir_of_number d → is_node (dir_of_number d) x ≡ true
itself d x is = ap (is_node (dir_of_number d)) is ∙ (let same : (d == d) ≡ true = grind (arith, nat_tests) in same)

node-some : (o : Option Row) (x : Node) → node_in o ≡ Some x → (row : Row) × (o ≡ Some row) × (row.node ≡ x)
node-some None x h = absurd (cc)
node-some (Some row) x h = (row, refl, cc)

module _ (v : Service) (housed : IsHoused v.shard) (whole : IsWhole (tree v)) where
  -- ---- a row of the tree
  at-key : (key : List ℕ) (row : Row) → get (live_rows v.shard) key ≡ Some row → (x : Node) → row.node ≡ x → (d : ℕ) × (name : List ℕ) × (key ≡ d ∷ name) × (node_at (get (tree v).dirs d) name ≡ Some x)
  at-key [] row there x names = absurd (let is = live-is_row v.shard [] row there in let none = housed.keyed in cc)
  at-key (d ∷ name) row there x names = (d, name, refl, node-live v d name ∙ ap node_in there ∙ ap Some names)

  lists-row : (d c : ℕ) → Lists (tree v).dirs d c → LiesIn v.shard c d
  lists-row d c l =
      let r = node-some (get (live_rows v.shard) (d ∷ l.0)) (dir_of_number c) (sym (node-live v d l.0) ∙ l.1) in
      record { name = l.0; row = r.0; there = r.1; names = r.2 }

  -- ---- the ways
  upward : (k c : ℕ) → Chain k (tree v).dirs 0 c → EndsAtRoot v.shard c
  upward zero c h = subst (EndsAtRoot v.shard) h Root
  upward (suc k) c h = let last = chain-last k (tree v).dirs 0 c h in Above c last.0 (lists-row last.0 c last.2) (upward k last.0 last.1)

  reached : (d : ℕ) → is_shown v.shard d ≡ true → Reaches (tree v).dirs 0 d
  reached d shown = reached-below (tree v) 0 d (whole.below d _ (dir-there v d shown))

  named-shown : (d : ℕ) → is_named v.shard (dir_of_number d) ≡ true → is_shown v.shard d ≡ true
  named-shown d named = let r = named-row v.shard (dir_of_number d) named in names-shown v.shard d r.key r.row r.there (names-it d r.row.node r.names)

  shown-named : (k d : ℕ) → d ≢ 0 → Chain k (tree v).dirs 0 d → is_named v.shard (dir_of_number d) ≡ true
  shown-named zero d differ h = absurd (differ (sym h))
  shown-named (suc k) d differ h =
      let last = chain-last k (tree v).dirs 0 d h in
      let row = lists-row last.0 d last.2 in
      row-named v.shard (dir_of_number d) (last.0 ∷ row.name) row.row row.there (itself d row.row.node row.names)

  -- ---- no name of the root, and no two of another
  root_unnamed : is_named v.shard (dir_of_number 0) ≡ false
  root_unnamed = by_test (is_named v.shard (dir_of_number 0)) refl
    where
      by_test : (b : Bool) → is_named v.shard (dir_of_number 0) ≡ b → b ≡ false
      by_test false e = refl
      by_test true e =
          let r = named-row v.shard (dir_of_number 0) e in
          let at = at-key r.key r.row r.there (dir_of_number 0) (names-it 0 r.row.node r.names) in
          absurd (whole.unnamed at.0 at.1 (record { 0 = 0 }) at.3 refl)

  one_key : (k q : List ℕ) (row other : Row) (d : DirId) → get (live_rows v.shard) k ≡ Some row → get (live_rows v.shard) q ≡ Some other → row.node ≡ Dir d → other.node ≡ Dir d → k ≡ q
  one_key k q row other d at there names also =
      let a = at-key k row at (Dir d) names in
      let b = at-key q other there (Dir d) also in
      let same = whole.once a.0 b.0 a.1 b.1 d a.3 b.3 in
      a.2 ∙ ap (λ x. x ∷ a.1) same.0 ∙ ap (λ n. b.0 ∷ n) same.1 ∙ sym b.2

  pub one_tree : OneTree v.shard
  one_tree = record {
    root = root_unnamed;
    once = one_key;
    named = λ d name row at differ. (let way = reached d (housed.shown d name row at) in shown-named way.0 d differ way.1);
    ends = λ d named. (let way = reached d (named-shown d named) in upward way.0 d way.1);
  }
