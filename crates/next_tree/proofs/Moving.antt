-- A rename may set the new name before it cuts the old one.
use Rattle.std.proofs.Common.{◌≡◌, ◌≢◌, ℕ, List, Bool, true, false, refl, sym, ◌∙◌, ap, subst, arith}
use Rattle.std.specs.Prelude.{◌==◌, Option, Some, None, IsSome, is_some}
use Rattle.std.proofs.lemmas.Bool.Decides.{nat_tests}
use Rattle.std.specs.Cmp.{nat_cmp_total}
use Rattle.std.specs.Cmp.Lexicographic.{nat_list_cmp_total}
use Rattle.std.specs.FinMap.{get, insert, remove, gets, same_map, nat_cmp-IsAntisymmetric}
use Rattle.next_ids.specs.declared.ids.DirId.{DirId}
use Rattle.next_ids.specs.declared.ids.Node.{Node}
use Rattle.next_ids.specs.declared.time.Ts.{Ts}
use Rattle.next_ids.specs.Maps.{Names, Numbers}
use Rattle.next_ids.specs.Times.{later}
use Rattle.next_ids.specs.Namespace.{Directory, Namespace, node_at, with_name, without_name, name_set, name_cut, set_moved, without_dir, renamed, renamed_in}
use Rattle.next_ids.specs.declared.call.Reply.TheVariants.{Moved}
use Rattle.next_ids.proofs.MapLemmas.{get-insert_here}
use Rattle.next_maps.proofs.Inner.{insert-twice}
use Rattle.next_tree.proofs.Making.{IsSome-insert}
use Rattle.next_laws_namespace.proofs.Slots.{IsSlot, names-tied, get-insert_apart}
use Rattle.next_laws_namespace.proofs.WholeRenames.{renames-moved, names-apart}

-- in one directory
names-commute : (m : Names Node) (name to_name : List ℕ) (node : Node) → name ≢ to_name → remove (insert m to_name node) name ≡ insert (remove m name) to_name node
names-commute m name to_name node apart = same_map nat_list_cmp_total names-tied _ _ (λ q. grind (arith, gets, names-tied q name, names-tied q to_name))

directory-commute : (it : Directory) (name to_name : List ℕ) (node : Node) (ts : Ts) → name ≢ to_name → without_name (Some (with_name (Some it) to_name node ts)) name ts ≡ with_name (Some (without_name (Some it) name ts)) to_name node ts
directory-commute it name to_name node ts apart = λ i. record { names = names-commute it.names name to_name node apart i; time = later (later it.time ts) ts }

keys-commute : {X : Type 0} (m : Numbers X) (key other : ℕ) (x y : X) → key ≢ other → insert (insert m key x) other y ≡ insert (insert m other y) key x
keys-commute m key other x y apart = same_map nat_cmp_total nat_cmp-IsAntisymmetric _ _ (λ q. grind (arith, nat_tests, gets))

-- in all directories
module _ (dirs : Numbers Directory) (name to_name : List ℕ) (node : Node) (ts : Ts) where
  abbrev Cut : Option Directory → Directory
  Cut o = without_name o name ts

  abbrev Set : Option Directory → Directory
  Set o = with_name o to_name node ts

  abbrev Commutes : (d t : ℕ) → Type 0
  Commutes d t = insert (insert dirs t (Set (get dirs t))) d (Cut (get (insert dirs t (Set (get dirs t))) d)) ≡ insert (insert dirs d (Cut (get dirs d))) t (Set (get (insert dirs d (Cut (get dirs d))) t))

  one-directory : (o : Option Directory) → IsSome o → name ≢ to_name → Cut (Some (Set o)) ≡ Set (Some (Cut o))
  one-directory None some apart = cc
  one-directory (Some it) some apart = directory-commute it name to_name node ts apart

  one-key : (k : ℕ) → IsSome (get dirs k) → name ≢ to_name → Commutes k k
  one-key k some apart =
      ap (λ o. insert (insert dirs k (Set (get dirs k))) k (Cut o)) (get-insert_here dirs k (Set (get dirs k)))
      ∙ insert-twice dirs k (Set (get dirs k)) (Cut (Some (Set (get dirs k))))
      ∙ ap (insert dirs k) (one-directory (get dirs k) some apart)
      ∙ sym (insert-twice dirs k (Cut (get dirs k)) (Set (Some (Cut (get dirs k)))))
      ∙ ap (λ o. insert (insert dirs k (Cut (get dirs k))) k (Set o)) (sym (get-insert_here dirs k (Cut (get dirs k))))

  two-keys : (d t : ℕ) → d ≢ t → Commutes d t
  two-keys d t apart =
      ap (λ o. insert (insert dirs t (Set (get dirs t))) d (Cut o)) (get-insert_apart dirs t d (Set (get dirs t)) apart)
      ∙ keys-commute dirs t d (Set (get dirs t)) (Cut (get dirs d)) (λ same. apart (sym same))
      ∙ ap (λ o. insert (insert dirs d (Cut (get dirs d))) t (Set o)) (sym (get-insert_apart dirs d t (Cut (get dirs d)) (λ same. apart (sym same))))

  commutes : (d t : ℕ) → IsSome (get dirs t) → ¬ (IsSlot d name t to_name) → Commutes d t
  commutes d t some apart = by_test (d == t) refl
    where
      by_test : (b : Bool) → (d == t) ≡ b → Commutes d t
      by_test true at = let same : d ≡ t = grind (arith, nat_tests) in subst (λ k. Commutes k t) (sym same) (one-key t some (λ names. apart (same, names)))
      by_test false at = let differ : d ≢ t = grind (arith, nat_tests) in two-keys d t differ

pub cut-set : (dirs : Numbers Directory) (dir : DirId) (name : List ℕ) (to_dir : DirId) (to_name : List ℕ) (node : Node) (ts : Ts) → IsSome (get dirs to_dir.0) → ¬ (IsSlot dir.0 name to_dir.0 to_name)
    → name_cut (name_set dirs to_dir to_name node ts) dir name ts ≡ name_set (name_cut dirs dir name ts) to_dir to_name node ts
cut-set dirs dir name to_dir to_name node ts some apart = commutes dirs name to_name node ts dir.0 to_dir.0 some apart

-- ---- the steps of a rename
IsSome-node : (o : Option Directory) (name : List ℕ) → IsSome (node_at o name) → IsSome o
IsSome-node None name h = cc
IsSome-node (Some d) name h = refl

-- the old name's directory is there once the new name is set
pub still-source : (dirs set : Numbers Directory) (dir : DirId) (name : List ℕ) (to_dir : DirId) (to_name : List ℕ) (node other : Node) (ts : Ts) → node_at (get dirs dir.0) name ≡ Some node → set ≡ name_set dirs to_dir to_name other ts → IsSome (get set dir.0)
still-source dirs set dir name to_dir to_name node other ts is e =
    let some : IsSome (node_at (get dirs dir.0) name) = ap is_some is in
    rw e (IsSome-insert dirs dir.0 to_dir.0 _ (IsSome-node (get dirs dir.0) name some))

-- to set, then to cut, and then to take out what is replaced is to rename
pub renamed-steps : (n : Namespace) (dir : DirId) (name : List ℕ) (to_dir : DirId) (to_name : List ℕ) (ts : Ts) (node : Node) (replaced : Option Node) (set cut left : Numbers Directory) → renamed n dir name to_dir to_name (node_at (get n.dirs dir.0) name) ≡ Moved
    → node_at (get n.dirs dir.0) name ≡ Some node → replaced ≡ node_at (get n.dirs to_dir.0) to_name → set ≡ name_set n.dirs to_dir to_name node ts → cut ≡ name_cut set dir name ts → left ≡ without_dir cut replaced
    → left ≡ (renamed_in n dir name to_dir to_name ts).dirs
renamed-steps n dir name to_dir to_name ts node replaced set cut left may is other is_set is_cut is_left =
    let found = renames-moved n dir name to_dir to_name may in
    let there : IsSome (get n.dirs to_dir.0) = ap is_some found.to_there.1 in
    is_left
    ∙ ap (λ ds. without_dir ds replaced) (is_cut ∙ ap (λ ds. name_cut ds dir name ts) is_set ∙ cut-set n.dirs dir name to_dir to_name node ts there (names-apart dir name to_dir to_name found.apart))
    ∙ ap (λ o. without_dir (name_set (name_cut n.dirs dir name ts) to_dir to_name node ts) o) other
    ∙ ap (λ o. without_dir (set_moved (name_cut n.dirs dir name ts) to_dir to_name ts o) (node_at (get n.dirs to_dir.0) to_name)) (sym is)
