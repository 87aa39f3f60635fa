-- A rename that moves keeps a namespace whole, and gives no node a second name.
use Rattle.std.proofs.Common.{◌≡◌, inl, ℕ, List, Bool, true, false, cond, refl, sym, ◌∙◌, ap, subst, arith}
use Rattle.std.specs.Prelude.{◌==◌, ◌&&◌, not, Option, Some, None}
use Rattle.std.specs.Str.{bytes_eq}
use Rattle.std.specs.Cmp.Lexicographic.{bytes_decides}
use Rattle.std.proofs.lemmas.Bool.Decides.{nat_tests}
use Rattle.std.specs.FinMap.{get}
use Rattle.next_ids.specs.declared.ids.DirId.{DirId}
use Rattle.next_ids.specs.declared.ids.Node.{Node}
use Rattle.next_ids.specs.declared.ids.Node.TheVariants.{Dir, File}
use Rattle.next_ids.specs.declared.call.Reply.TheVariants.{Moved, Kept, Refused}
use Rattle.next_ids.specs.declared.errno.Errno.TheVariants.{Enotempty, Einval}
use Rattle.next_ids.specs.declared.time.Ts.{Ts}
use Rattle.next_ids.specs.Maps.{Numbers}
use Rattle.next_ids.specs.Namespace.{Directory, Namespace, node_at, is_empty, is_full, is_below, is_one_name, moves_out, onto, onto_name, renamed, name_set, name_cut, set_moved, without_dir, renamed_in, IsThere, IsWhole}
use Rattle.next_laws_namespace.proofs.Chains.{Reaches, below-reached}
use Rattle.next_laws_namespace.proofs.Slots.{IsSlot, IsDirThere, listing-there, there-insert, there-before}
use Rattle.next_laws_namespace.proofs.Rearranged.{Allows, IsReplaced, IsKept, kept-rearranged}
use Rattle.next_laws_namespace.proofs.WholeMoves.{move-rearranges, without-rearranges, known-without, stay-without, no-names}

-- what a rename that moves has found
pub record Renames (n : Namespace) (dir : DirId) (name : List ℕ) (to_dir : DirId) (to_name : List ℕ) : Type 0 where
  pub node : Node
  pub is : node_at (get n.dirs dir.0) name ≡ Some node
  pub apart : is_one_name dir name to_dir to_name ≡ false
  pub to_there : IsDirThere n.dirs to_dir.0
  pub full : Bool
  pub may : onto n to_dir full node (node_at (get n.dirs to_dir.0) to_name) ≡ Moved

pub renames-moved : (n : Namespace) (dir : DirId) (name : List ℕ) (to_dir : DirId) (to_name : List ℕ) → renamed n dir name to_dir to_name (node_at (get n.dirs dir.0) name) ≡ Moved → Renames n dir name to_dir to_name
renames-moved n dir name to_dir to_name h = by_node (node_at (get n.dirs dir.0) name) refl h
  where
    by_to : (node : Node) → node_at (get n.dirs dir.0) name ≡ Some node → is_one_name dir name to_dir to_name ≡ false → (o : Option Directory) → get n.dirs to_dir.0 ≡ o → onto_name n dir to_dir to_name node o ≡ Moved → Renames n dir name to_dir to_name
    by_to node is apart None at h = cc
    by_to node is apart (Some d) at h = record {
      node = node;
      is = is;
      apart = apart;
      to_there = (d, at);
      full = not (dir.0 == to_dir.0) && is_full d;
      may = ap (λ o. onto n to_dir (not (dir.0 == to_dir.0) && is_full d) node (node_at o to_name)) at ∙ h;
    }

    by_name : (node : Node) → node_at (get n.dirs dir.0) name ≡ Some node → (b : Bool) → is_one_name dir name to_dir to_name ≡ b → cond b Kept (onto_name n dir to_dir to_name node (get n.dirs to_dir.0)) ≡ Moved → Renames n dir name to_dir to_name
    by_name node is true same h = cc
    by_name node is false apart h = by_to node is apart (get n.dirs to_dir.0) refl h

    by_node : (o : Option Node) → node_at (get n.dirs dir.0) name ≡ o → renamed n dir name to_dir to_name o ≡ Moved → Renames n dir name to_dir to_name
    by_node None is h = cc
    by_node (Some node) is h = by_name node is (is_one_name dir name to_dir to_name) refl h

-- the directory that is replaced is empty
onto-empty : (n : Namespace) (to_dir : DirId) (full : Bool) (node : Node) (o : Option Node) → onto n to_dir full node o ≡ Moved → (old : DirId) → o ≡ Some (Dir old) → is_empty (get n.dirs old.0) ≡ true
onto-empty n to_dir full node None h old is = cc
onto-empty n to_dir full (File g) (Some (File f)) h old is = cc
onto-empty n to_dir full (Dir dir) (Some (File f)) h old is = cc
onto-empty n to_dir full (File f) (Some (Dir d)) h old is = cc
onto-empty n to_dir full (Dir dir) (Some (Dir d)) h old is = let same : d ≡ old = cc in subst (λ (x : DirId). is_empty (get n.dirs x.0) ≡ true) same (by_test (is_empty (get n.dirs d.0)) h)
  where
    by_test : (b : Bool) → cond b (moves_out n dir to_dir) (Refused Enotempty) ≡ Moved → b ≡ true
    by_test true h = refl
    by_test false h = cc

-- a directory that moves doesn't come to lie below itself
out : (n : Namespace) (dir to_dir : DirId) → moves_out n dir to_dir ≡ Moved → is_below n dir.0 to_dir.0 ≡ false
out n dir to_dir h = by_test (is_below n dir.0 to_dir.0) h
  where
    by_test : (b : Bool) → cond b (Refused Einval) Moved ≡ Moved → b ≡ false
    by_test true h = cc
    by_test false h = refl

onto-out : (n : Namespace) (to_dir : DirId) (full : Bool) (dir : DirId) (o : Option Node) → onto n to_dir full (Dir dir) o ≡ Moved → is_below n dir.0 to_dir.0 ≡ false
onto-out n to_dir true dir None h = cc
onto-out n to_dir false dir None h = out n dir to_dir h
onto-out n to_dir full dir (Some (File f)) h = cc
onto-out n to_dir full dir (Some (Dir d)) h = by_test (is_empty (get n.dirs d.0)) h
  where
    by_test : (b : Bool) → cond b (moves_out n dir to_dir) (Refused Enotempty) ≡ Moved → is_below n dir.0 to_dir.0 ≡ false
    by_test true h = out n dir to_dir h
    by_test false h = cc

-- names that aren't one are other slots
pub names-apart : (dir : DirId) (name : List ℕ) (to_dir : DirId) (to_name : List ℕ) → is_one_name dir name to_dir to_name ≡ false → ¬ (IsSlot dir.0 name to_dir.0 to_name)
names-apart dir name to_dir to_name apart s =
    let at = s.0 in
    let dirs : (dir.0 == to_dir.0) ≡ true = grind (arith, nat_tests) in
    let names : bytes_eq name to_name ≡ true = (bytes_decides name to_name).1 s.1 in
    let clash : is_one_name dir name to_dir to_name ≡ true = rw (dirs, names) refl in
    cc

-- the namespace then, where the node is known
abbrev moved_in : Namespace → (dir : DirId) → (name : List ℕ) → (to_dir : DirId) → (to_name : List ℕ) → Node → Ts → Namespace
moved_in n dir name to_dir to_name node ts = record {
  dirs = without_dir (name_set (name_cut n.dirs dir name ts) to_dir to_name node ts) (node_at (get n.dirs to_dir.0) to_name);
  files = n.files;
}

module _ (n : Namespace) (dir : DirId) (name : List ℕ) (to_dir : DirId) (to_name : List ℕ) (ts : Ts) (node : Node) (is : node_at (get n.dirs dir.0) name ≡ Some node) (apart : ¬ (IsSlot dir.0 name to_dir.0 to_name))
    (to_there : IsDirThere n.dirs to_dir.0) (full : Bool) (may : onto n to_dir full node (node_at (get n.dirs to_dir.0) to_name) ≡ Moved) (whole : IsWhole n) where
  abbrev Set : Numbers Directory
  Set = name_set (name_cut n.dirs dir name ts) to_dir to_name node ts

  forward : (d : ℕ) → IsDirThere n.dirs d → IsDirThere Set d
  forward d h = there-insert (name_cut n.dirs dir name ts) to_dir.0 _ d (there-insert n.dirs dir.0 _ d h)

  back : (d : ℕ) → IsDirThere Set d → IsDirThere n.dirs d
  back d h =
      let it = listing-there (get n.dirs dir.0) name node is in
      there-before n.dirs dir.0 _ d it (there-before (name_cut n.dirs dir name ts) to_dir.0 _ d (there-insert n.dirs dir.0 _ to_dir.0 to_there) h)

  gone : (d : DirId) → node_at (get n.dirs to_dir.0) to_name ≡ Some (Dir d) → (other : List ℕ) → node_at (get n.dirs d.0) other ≡ None
  gone d replaced other = no-names (get n.dirs d.0) (onto-empty n to_dir full node (node_at (get n.dirs to_dir.0) to_name) may d replaced) other

  is_dir : (d : DirId) → Some node ≡ Some (Dir d) → node_at (get n.dirs dir.0) name ≡ Some (Dir d)
  is_dir d same = is ∙ same

  stay : (d : ℕ) → IsDirThere n.dirs d → ¬ (IsReplaced n.dirs to_dir.0 to_name d) → IsDirThere (moved_in n dir name to_dir to_name node ts).dirs d
  stay d h kept = stay-without Set (node_at (get n.dirs to_dir.0) to_name) d (forward d h) kept

  node_there : (it : Node) → Some node ≡ Some it → IsThere (moved_in n dir name to_dir to_name node ts) it
  node_there (File f) same = whole.there dir.0 name (File f) (is ∙ same)
  node_there (Dir d) same = stay d.0 (whole.there dir.0 name (Dir d) (is ∙ same)) (λ replaced. apart (whole.once dir.0 to_dir.0 name to_name d (is ∙ same) replaced))

  moves : (d : DirId) → ¬ (IsSlot dir.0 name to_dir.0 to_name) → node_at (get n.dirs dir.0) name ≡ Some (Dir d) → (Some node ≡ Some (Dir d)) × ¬ (Reaches n.dirs d.0 to_dir.0)
  moves d slot found = (
    sym is ∙ found,
    λ way.
        let below = below-reached n d.0 to_dir.0 way in
        let same : node ≡ Dir d = cc in
        let out = onto-out n to_dir full d (node_at (get n.dirs to_dir.0) to_name) (subst (λ (x : Node). onto n to_dir full x (node_at (get n.dirs to_dir.0) to_name) ≡ Moved) same may) in
        cc,
  )

  allows : Allows n (moved_in n dir name to_dir to_name node ts) dir.0 name to_dir.0 to_name (Some node)
  allows = record {
    to_there = to_there;
    known = λ d h. let k = known-without Set (node_at (get n.dirs to_dir.0) to_name) d h in inl (back d k.0, k.1);
    stay = stay;
    files = λ f h. h;
    node_there = node_there;
    not_root = λ d same. whole.unnamed dir.0 name d (is ∙ same);
    alone = λ d same e other found. whole.once e dir.0 other name d found (is ∙ same);
    alone_too = λ once it same e other found. once e dir.0 other name it found (is ∙ same);
    empty = gone;
    moves = moves;
  }

  pub kept-moved : IsKept n (moved_in n dir name to_dir to_name node ts)
  kept-moved = kept-rearranged n (moved_in n dir name to_dir to_name node ts) dir.0 name to_dir.0 to_name (Some node)
      (without-rearranges n.dirs Set dir.0 name to_dir.0 to_name (Some node) (move-rearranges n.dirs dir name to_dir to_name node ts) (node_at (get n.dirs to_dir.0) to_name) refl gone) allows whole

pub kept-renamed : (n : Namespace) (dir : DirId) (name : List ℕ) (to_dir : DirId) (to_name : List ℕ) (ts : Ts) → renamed n dir name to_dir to_name (node_at (get n.dirs dir.0) name) ≡ Moved → IsWhole n → IsKept n (renamed_in n dir name to_dir to_name ts)
kept-renamed n dir name to_dir to_name ts h whole =
    let r = renames-moved n dir name to_dir to_name h in
    let moved = kept-moved n dir name to_dir to_name ts r.node r.is (names-apart dir name to_dir to_name r.apart) r.to_there r.full r.may whole in
    subst (λ (o : Option Node). IsKept n (record { dirs = without_dir (set_moved (name_cut n.dirs dir name ts) to_dir to_name ts o) (node_at (get n.dirs to_dir.0) to_name); files = n.files })) (sym r.is) moved
