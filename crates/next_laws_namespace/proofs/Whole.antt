-- A namespace stays whole: the empty root is, each call that moves keeps it so, and so does a file that is forgotten.
use Rattle.std.proofs.Common.{◌≡◌, ◌≢◌, ℕ, List, Bool, true, false, refl, sym, ◌∙◌, ap, subst, arith}
use Rattle.std.specs.Prelude.{◌==◌, Option, Some, None}
use Rattle.std.proofs.lemmas.Bool.Decides.{nat_tests}
use Rattle.std.specs.List.{list_any}
use Rattle.std.specs.Ordering.{nat_cmp}
use Rattle.std.specs.Cmp.Lexicographic.{slice_cmp}
use Rattle.std.specs.FinMap.{get, empty, entries, get-empty}
use Rattle.next_ids.specs.declared.ids.FileId.{FileId}
use Rattle.next_ids.specs.declared.ids.Node.{Node}
use Rattle.next_ids.specs.declared.ids.Node.TheVariants.{Dir, File}
use Rattle.next_ids.specs.declared.call.Call.{Call}
use Rattle.next_ids.specs.declared.call.Call.TheVariants.{Create, Mkdir, Unlink, Rmdir, Truncate, Rename}
use Rattle.next_ids.specs.declared.time.Ts.{Ts}
use Rattle.next_ids.specs.Times.{start}
use Rattle.next_ids.specs.Namespace.{Directory, Namespace, node_at, names_file, is_listed, forget, empty_root, after, IsDefined, IsThere, IsWhole, IsNamedOnce}
use Rattle.next_ids.proofs.MapLemmas.{get-insert_here}
use Rattle.next_laws_namespace.proofs.Found.{passes-name, passes-number}
use Rattle.next_laws_namespace.proofs.Chains.{below-reached, reached-below}
use Rattle.next_laws_namespace.proofs.Rearranged.{IsKept}
use Rattle.next_laws_namespace.proofs.Slots.{get-insert_apart, get-remove_apart}
use Rattle.next_laws_namespace.proofs.WholeMoves.{free-there, free-for-dir, kept-created, kept-made_dir, a-file, kept-unlinked, an-empty, kept-removed, kept-truncated}
use Rattle.next_laws_namespace.proofs.WholeRenames.{kept-renamed}

-- ---- the empty root
root-names : (d : ℕ) (name : List ℕ) → node_at (get empty_root.dirs d) name ≡ None
root-names d name = by_test (d == 0) refl
  where
    by_test : (b : Bool) → (d == 0) ≡ b → node_at (get empty_root.dirs d) name ≡ None
    by_test true at =
        let same : d ≡ 0 = grind (arith, nat_tests) in
        ap (λ k. node_at (get empty_root.dirs k) name) same ∙ ap (λ o. node_at o name) (get-insert_here empty 0 (record { names = empty; time = start })) ∙ get-empty (slice_cmp nat_cmp) name
    by_test false at =
        let apart : d ≢ 0 = grind (arith, nat_tests) in
        ap (λ o. node_at o name) (get-insert_apart empty 0 d (record { names = empty; time = start }) apart ∙ get-empty nat_cmp d)

root-alone : (d : ℕ) (it : Directory) → get empty_root.dirs d ≡ Some it → d ≡ 0
root-alone d it is = by_test (d == 0) refl
  where
    by_test : (b : Bool) → (d == 0) ≡ b → d ≡ 0
    by_test true at = grind (arith, nat_tests)
    by_test false at =
        let apart : d ≢ 0 = grind (arith, nat_tests) in
        let none : get empty_root.dirs d ≡ None = get-insert_apart empty 0 d (record { names = empty; time = start }) apart ∙ get-empty nat_cmp d in
        cc

pub empty_root-whole : IsWhole empty_root
empty_root-whole = record {
  root = (record { names = empty; time = start }, get-insert_here empty 0 (record { names = empty; time = start }));
  there = λ d name node is. absurd (let none = root-names d name in cc);
  unnamed = λ d name dir is. absurd (let none = root-names d name in cc);
  once = λ d e name other dir is it. absurd (let none = root-names d name in cc);
  below = λ d it is. below-reached empty_root 0 d (0, sym (root-alone d it is));
}

pub empty_root-once : IsNamedOnce empty_root
empty_root-once d e name other node is it = absurd (let none = root-names d name in cc)

-- ---- a call that moves
pub kept-after : (n : Namespace) (call : Call) (made : Option Node) (ts : Ts) → IsDefined n call made → IsWhole n → IsKept n (after n call made ts)
kept-after n (Create dir name) (Some (File file)) ts h whole = let it = free-there (get n.dirs dir.0) name h.0 in kept-created n dir name file ts it.0 it.1 h.1 whole
kept-after n (Mkdir dir name) (Some (Dir child)) ts h whole = let it = free-for-dir (get n.dirs dir.0) name h.0 in kept-made_dir n dir name child ts it.0 it.1 h.1 whole
kept-after n (Unlink dir name) None ts h whole = let it = a-file (node_at (get n.dirs dir.0) name) h in kept-unlinked n dir name ts it.0 it.1 whole
kept-after n (Rmdir dir name) None ts h whole = let it = an-empty n (node_at (get n.dirs dir.0) name) h in kept-removed n dir name ts it.0 it.1 it.2 whole
kept-after n (Truncate file size) None ts h whole = kept-truncated n file size ts whole
kept-after n (Rename dir name to_dir to_name) None ts h whole = kept-renamed n dir name to_dir to_name ts h whole
kept-after n _ _ ts h whole = absurd h

-- ---- a file that is forgotten
listed : (n : Namespace) (d : ℕ) (name : List ℕ) (f : FileId) → node_at (get n.dirs d) name ≡ Some (File f) → is_listed n f.0 ≡ true
listed n d name f is = by_dir (get n.dirs d) refl is
  where
    by_dir : (o : Option Directory) → get n.dirs d ≡ o → node_at o name ≡ Some (File f) → is_listed n f.0 ≡ true
    by_dir None at is = cc
    by_dir (Some it) at is =
        passes-number (λ (x : ℕ × Directory). list_any (λ e. names_file f.0 e.1) (entries x.1.names)) n.dirs d it at
        (passes-name (λ (e : List ℕ × Node). names_file f.0 e.1) it.names name (File f) is (grind (arith, nat_tests)))

pub kept-forgotten : (n : Namespace) (f : ℕ) → is_listed n f ≡ false → IsWhole n → IsKept n (forget n f)
kept-forgotten n f free whole = (
  record {
    root = whole.root;
    there = there';
    unnamed = whole.unnamed;
    once = whole.once;
    below = λ d it is. below-reached (forget n f) 0 d (reached-below n 0 d (whole.below d it is));
  },
  λ once. once,
)
  where
    there' : (d : ℕ) (name : List ℕ) (node : Node) → node_at (get n.dirs d) name ≡ Some node → IsThere (forget n f) node
    there' d name (Dir dir) is = whole.there d name (Dir dir) is
    there' d name (File g) is =
        let it = whole.there d name (File g) is in
        let apart : g.0 ≢ f = λ same. let named = listed n d name g is in let clash : is_listed n f ≡ true = subst (λ k. is_listed n k ≡ true) same named in cc in
        (it.0, get-remove_apart n.files f g.0 apart ∙ it.1)
