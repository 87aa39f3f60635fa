-- What stands under a name once a name is set, a name is cut, or a directory is taken out.
use Rattle.std.proofs.Common.{◌≡◌, ◌≢◌, ◌⊎◌, inl, inr, ℕ, List, Bool, true, false, refl, sym, ◌∙◌, ap, subst, arith}
use Rattle.std.specs.Prelude.{◌==◌, Option, Some, None}
use Rattle.std.proofs.lemmas.Bool.Decides.{nat_tests}
use Rattle.std.specs.declared.cmp.Ordering.{Ordering}
use Rattle.std.specs.declared.cmp.Ordering.TheVariants.{Less, Equal, Greater}
use Rattle.std.specs.Ordering.{nat_cmp, is_eq}
use Rattle.std.proofs.lemmas.Cmp.{tied_itself}
use Rattle.std.specs.Cmp.Lexicographic.{slice_cmp, nat_list_cmp_total}
use Rattle.std.specs.FinMap.{get, insert, remove, empty, gets, get-empty, nat_cmp-IsAntisymmetric, slice_cmp-IsAntisymmetric}
use Rattle.next_ids.specs.declared.ids.DirId.{DirId}
use Rattle.next_ids.specs.declared.ids.Node.{Node}
use Rattle.next_ids.specs.declared.time.Ts.{Ts}
use Rattle.next_ids.specs.Maps.{Names, Numbers}
use Rattle.next_ids.specs.Namespace.{Directory, node_at, with_name, without_name, name_set, name_cut}
use Rattle.next_ids.proofs.MapLemmas.{get-insert_here}

-- two names are one, directory and all
abbrev pub IsSlot : (d : ℕ) (name : List ℕ) (e : ℕ) (other : List ℕ) → Type 0
IsSlot d name e other = (d ≡ e) × (name ≡ other)

-- names that tie are one
pub names-tied : (name other : List ℕ) → slice_cmp nat_cmp name other ≡ Equal → name ≡ other
names-tied = slice_cmp-IsAntisymmetric nat_cmp-IsAntisymmetric

same-names : (name other : List ℕ) → (name ≡ other) ⊎ (name ≢ other)
same-names name other = by_order (slice_cmp nat_cmp name other) refl
  where
    unlike : (r : Ordering) → slice_cmp nat_cmp name other ≡ r → is_eq r ≡ false → name ≢ other
    unlike r at apart = λ same. let tie : slice_cmp nat_cmp name other ≡ Equal = subst (λ x. slice_cmp nat_cmp name x ≡ Equal) same (tied_itself nat_list_cmp_total name) in let clash : is_eq r ≡ true = ap is_eq (sym at ∙ tie) in cc

    by_order : (r : Ordering) → slice_cmp nat_cmp name other ≡ r → (name ≡ other) ⊎ (name ≢ other)
    by_order Equal at = inl (names-tied name other at)
    by_order Less at = inr (unlike Less at refl)
    by_order Greater at = inr (unlike Greater at refl)

pub slots : (d : ℕ) (name : List ℕ) (e : ℕ) (other : List ℕ) → IsSlot d name e other ⊎ ¬ (IsSlot d name e other)
slots d name e other = by_dir (d == e) refl (same-names name other)
  where
    by_dir : (b : Bool) → (d == e) ≡ b → (name ≡ other) ⊎ (name ≢ other) → IsSlot d name e other ⊎ ¬ (IsSlot d name e other)
    by_dir false at either = let apart : d ≢ e = grind (arith, nat_tests) in inr (λ is. apart is.0)
    by_dir true at (inl same) = inl (grind (arith, nat_tests), same)
    by_dir true at (inr apart) = inr (λ is. apart is.1)

pub get-insert_apart : {X : Type 0} (m : Numbers X) (k q : ℕ) (x : X) → q ≢ k → get (insert m k x) q ≡ get m q
get-insert_apart m k q x apart = grind (arith, nat_tests, gets)

pub get-remove_apart : {X : Type 0} (m : Numbers X) (k q : ℕ) → q ≢ k → get (remove m k) q ≡ get m q
get-remove_apart m k q apart = grind (arith, nat_tests, gets)

pub get-remove_at : {X : Type 0} (m : Numbers X) (k : ℕ) → get (remove m k) k ≡ None
get-remove_at m k = grind (arith, nat_tests, gets)

-- ---- in one directory
name-insert_at : {X : Type 0} (m : Names X) (name : List ℕ) (x : X) → get (insert m name x) name ≡ Some x
name-insert_at m name x = grind (arith, gets)

name-insert_apart : {X : Type 0} (m : Names X) (name other : List ℕ) (x : X) → other ≢ name → get (insert m name x) other ≡ get m other
name-insert_apart m name other x apart = grind (arith, gets, names-tied other name)

name-remove_at : {X : Type 0} (m : Names X) (name : List ℕ) → get (remove m name) name ≡ None
name-remove_at m name = grind (arith, gets)

name-remove_apart : {X : Type 0} (m : Names X) (name other : List ℕ) → other ≢ name → get (remove m name) other ≡ get m other
name-remove_apart m name other apart = grind (arith, gets, names-tied other name)

with_name-here : (o : Option Directory) (name : List ℕ) (node : Node) (ts : Ts) → get (with_name o name node ts).names name ≡ Some node
with_name-here None name node ts = name-insert_at empty name node
with_name-here (Some d) name node ts = name-insert_at d.names name node

with_name-other : (o : Option Directory) (name : List ℕ) (node : Node) (ts : Ts) (other : List ℕ) → other ≢ name → get (with_name o name node ts).names other ≡ node_at o other
with_name-other None name node ts other apart = name-insert_apart empty name other node apart ∙ get-empty (slice_cmp nat_cmp) other
with_name-other (Some d) name node ts other apart = name-insert_apart d.names name other node apart

without_name-here : (o : Option Directory) (name : List ℕ) (ts : Ts) → get (without_name o name ts).names name ≡ None
without_name-here None name ts = get-empty (slice_cmp nat_cmp) name
without_name-here (Some d) name ts = name-remove_at d.names name

without_name-other : (o : Option Directory) (name : List ℕ) (ts : Ts) (other : List ℕ) → other ≢ name → get (without_name o name ts).names other ≡ node_at o other
without_name-other None name ts other apart = get-empty (slice_cmp nat_cmp) other
without_name-other (Some d) name ts other apart = name-remove_apart d.names name other apart

-- ---- in all directories
pub set-here : (dirs : Numbers Directory) (dir : DirId) (name : List ℕ) (node : Node) (ts : Ts) → node_at (get (name_set dirs dir name node ts) dir.0) name ≡ Some node
set-here dirs dir name node ts = ap (λ o. node_at o name) (get-insert_here dirs dir.0 (with_name (get dirs dir.0) name node ts)) ∙ with_name-here (get dirs dir.0) name node ts

pub cut-here : (dirs : Numbers Directory) (dir : DirId) (name : List ℕ) (ts : Ts) → node_at (get (name_cut dirs dir name ts) dir.0) name ≡ None
cut-here dirs dir name ts = ap (λ o. node_at o name) (get-insert_here dirs dir.0 (without_name (get dirs dir.0) name ts)) ∙ without_name-here (get dirs dir.0) name ts

-- a directory set anew has at a name what it had, if the new one has
pub set-elsewhere : (dirs : Numbers Directory) (e : ℕ) (it : Directory) (d : ℕ) (name : List ℕ) → (d ≡ e → get it.names name ≡ node_at (get dirs e) name) → node_at (get (insert dirs e it) d) name ≡ node_at (get dirs d) name
set-elsewhere dirs e it d name alike = by_test (d == e) refl
  where
    by_test : (b : Bool) → (d == e) ≡ b → node_at (get (insert dirs e it) d) name ≡ node_at (get dirs d) name
    by_test true at =
        let same : d ≡ e = grind (arith, nat_tests) in
        subst (λ x. node_at (get (insert dirs e it) x) name ≡ node_at (get dirs x) name) (sym same) (ap (λ o. node_at o name) (get-insert_here dirs e it) ∙ alike same)
    by_test false at = let apart : d ≢ e = grind (arith, nat_tests) in ap (λ o. node_at o name) (get-insert_apart dirs e d it apart)

pub set-other : (dirs : Numbers Directory) (dir : DirId) (name : List ℕ) (node : Node) (ts : Ts) (d : ℕ) (other : List ℕ) → ¬ (IsSlot d other dir.0 name) → node_at (get (name_set dirs dir name node ts) d) other ≡ node_at (get dirs d) other
set-other dirs dir name node ts d other apart = set-elsewhere dirs dir.0 (with_name (get dirs dir.0) name node ts) d other (λ same. with_name-other (get dirs dir.0) name node ts other (λ names. apart (same, names)))

pub cut-other : (dirs : Numbers Directory) (dir : DirId) (name : List ℕ) (ts : Ts) (d : ℕ) (other : List ℕ) → ¬ (IsSlot d other dir.0 name) → node_at (get (name_cut dirs dir name ts) d) other ≡ node_at (get dirs d) other
cut-other dirs dir name ts d other apart = set-elsewhere dirs dir.0 (without_name (get dirs dir.0) name ts) d other (λ same. without_name-other (get dirs dir.0) name ts other (λ names. apart (same, names)))

-- to take an empty directory out changes no name
pub removed-empty : (dirs : Numbers Directory) (e : ℕ) → ((name : List ℕ) → node_at (get dirs e) name ≡ None) → (d : ℕ) (name : List ℕ) → node_at (get (remove dirs e) d) name ≡ node_at (get dirs d) name
removed-empty dirs e none d name = by_test (d == e) refl
  where
    by_test : (b : Bool) → (d == e) ≡ b → node_at (get (remove dirs e) d) name ≡ node_at (get dirs d) name
    by_test true at =
        let same : d ≡ e = grind (arith, nat_tests) in
        subst (λ x. node_at (get (remove dirs e) x) name ≡ node_at (get dirs x) name) (sym same) (ap (λ o. node_at o name) (get-remove_at dirs e) ∙ sym (none name))
    by_test false at = let apart : d ≢ e = grind (arith, nat_tests) in ap (λ o. node_at o name) (get-remove_apart dirs e d apart)

-- ---- which directories are there
abbrev pub IsDirThere : Numbers Directory → ℕ → Type 0
IsDirThere dirs d = (it : Directory) × (get dirs d ≡ Some it)

-- one that has a name is
pub listing-there : (o : Option Directory) (name : List ℕ) (node : Node) → node_at o name ≡ Some node → (it : Directory) × (o ≡ Some it)
listing-there None name node h = cc
listing-there (Some d) name node h = (d, refl)

pub there-insert : (dirs : Numbers Directory) (e : ℕ) (it : Directory) (d : ℕ) → IsDirThere dirs d → IsDirThere (insert dirs e it) d
there-insert dirs e it d h = by_test (d == e) refl
  where
    by_test : (b : Bool) → (d == e) ≡ b → IsDirThere (insert dirs e it) d
    by_test true at = let same : d ≡ e = grind (arith, nat_tests) in (it, ap (get (insert dirs e it)) same ∙ get-insert_here dirs e it)
    by_test false at = let apart : d ≢ e = grind (arith, nat_tests) in (h.0, get-insert_apart dirs e d it apart ∙ h.1)

pub there-before : (dirs : Numbers Directory) (e : ℕ) (it : Directory) (d : ℕ) → IsDirThere dirs e → IsDirThere (insert dirs e it) d → IsDirThere dirs d
there-before dirs e it d old h = by_test (d == e) refl
  where
    by_test : (b : Bool) → (d == e) ≡ b → IsDirThere dirs d
    by_test true at = let same : d ≡ e = grind (arith, nat_tests) in (old.0, ap (get dirs) same ∙ old.1)
    by_test false at = let apart : d ≢ e = grind (arith, nat_tests) in (h.0, sym (get-insert_apart dirs e d it apart) ∙ h.1)
