-- A new node is put first and named then; where its name finds no memory, it is taken out again.
use Rattle.std.proofs.Common.{◌≡◌, ◌≢◌, ℕ, List, ◌∙◌, ap, refl, arith}
use Rattle.std.specs.Prelude.{Option, Some, None, IsSome}
use Rattle.std.proofs.lemmas.Bool.Decides.{nat_tests}
use Rattle.std.specs.Cmp.{nat_cmp_total}
use Rattle.std.specs.FinMap.{get, insert, empty, gets, same_map, nat_cmp-IsAntisymmetric}
use Rattle.next_ids.specs.declared.ids.DirId.{DirId}
use Rattle.next_ids.specs.declared.ids.Node.{Node}
use Rattle.next_ids.specs.declared.ids.Node.TheVariants.{Dir, File}
use Rattle.next_ids.specs.declared.call.Reply.TheVariants.{Moved}
use Rattle.next_ids.specs.declared.time.Ts.{Ts}
use Rattle.next_ids.specs.Maps.{Numbers}
use Rattle.next_ids.specs.Namespace.{Directory, Namespace, create_in, mkdir_in, with_name}
use Rattle.next_maps.proofs.Inner.{remove-insert}
use Rattle.next_tree.specs.Made.{IsNew, with_node, without_node, made}

-- where a name is free its directory is there
pub there-create : (o : Option Directory) (name : List ℕ) → create_in o name ≡ Moved → IsSome o
there-create None name free = cc
there-create (Some d) name free = refl

pub there-mkdir : (o : Option Directory) (name : List ℕ) → mkdir_in o name ≡ Moved → IsSome o
there-mkdir None name free = cc
there-mkdir (Some d) name free = refl

pub ruleset there_names = (there-create, there-mkdir)

pub IsSome-insert : {X : Type 0} (m : Numbers X) (key other : ℕ) (x : X) → IsSome (get m key) → IsSome (get (insert m other x) key)
IsSome-insert m key other x some = grind (arith, nat_tests, gets)

-- and it stays there beside the new node
pub still_there : (n m : Namespace) (dir : DirId) (name : List ℕ) (node : Node) (time : Ts) → IsSome (get n.dirs dir.0) → m ≡ with_node n node time → IsSome (get m.dirs dir.0)
still_there n m dir name (Dir child) time free is = rw is (IsSome-insert n.dirs dir.0 child.0 _ free)
still_there n m dir name (File file) time free is = rw is free

IsSome-apart : {X : Type 0} (m : Numbers X) (key other : ℕ) → IsSome (get m key) → get m other ≡ None → key ≢ other
IsSome-apart m key other some none = λ same. let clash : get m key ≡ None = ap (get m) same ∙ none in let absent = rw clash at some in cc

-- two keys may be set in either order
swapped : {X : Type 0} (m : Numbers X) (key other : ℕ) (f : Option X → X) (x : X) → key ≢ other → insert (insert m other x) key (f (get (insert m other x) key)) ≡ insert (insert m key (f (get m key))) other x
swapped m key other f x apart =
    let old : get (insert m other x) key ≡ get m key = grind (arith, nat_tests, gets) in
    rw old (same_map nat_cmp_total nat_cmp-IsAntisymmetric _ _ (λ q. grind (arith, nat_tests, gets)))

-- to name the new node makes it
pub made-named : (n m : Namespace) (dir : DirId) (name : List ℕ) (node : Node) (time : Ts) → IsSome (get n.dirs dir.0) → IsNew n node → m ≡ with_node n node time
    → ◌≡◌ {A = Namespace} (record { dirs = insert m.dirs dir.0 (with_name (get m.dirs dir.0) name node time); files = m.files }) (made n dir name node time)
made-named n m dir name (Dir child) time free new is =
    let apart = IsSome-apart n.dirs dir.0 child.0 free new in
    let dirs = swapped n.dirs dir.0 child.0 (λ o. with_name o name (Dir child) time) (record { names = empty; time = time }) apart in
    rw is (λ i. record { dirs = dirs i; files = n.files })
made-named n m dir name (File file) time free new is = rw is refl

-- to take it out gives the namespace back
pub without_node-new : (n m : Namespace) (node : Node) (time : Ts) → IsNew n node → m ≡ with_node n node time → without_node m node ≡ n
without_node-new n m (Dir dir) time new is = rw is (let dirs = remove-insert n.dirs dir.0 _ new in λ i. record { dirs = dirs i; files = n.files })
without_node-new n m (File file) time new is = rw is (let files = remove-insert n.files file.0 _ new in λ i. record { dirs = n.dirs; files = files i })
