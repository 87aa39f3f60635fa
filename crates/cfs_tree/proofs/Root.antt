-- The empty root takes any name, any file and any other directory.
use Rattle.std.proofs.Common.{◌≡◌, ◌≢◌, ℕ, List, ap, arith}
use Rattle.std.specs.Prelude.{Some, None}
use Rattle.std.proofs.lemmas.Bool.Decides.{nat_tests}
use Rattle.std.specs.Ordering.{nat_cmp}
use Rattle.std.specs.Cmp.Lexicographic.{slice_cmp}
use Rattle.std.specs.FinMap.{get, insert, empty, gets, get-empty}
use Rattle.cfs_ids.specs.declared.ids.DirId.{DirId}
use Rattle.cfs_ids.specs.declared.ids.FileId.{FileId}
use Rattle.cfs_ids.specs.declared.ids.Node.TheVariants.{Dir, File}
use Rattle.cfs_ids.specs.declared.call.Call.TheVariants.{Create, Mkdir}
use Rattle.cfs_ids.specs.Namespace.{Namespace, Directory, IsDefined, empty_root, free_for}
use Rattle.cfs_ids.proofs.MapLemmas.{get-insert_here}

root_there : (d : Directory) → get {R = nat_cmp} (insert {R = nat_cmp} empty 0 d) 0 ≡ Some d
root_there d = get-insert_here empty 0 d

pub root_creates : (n : Namespace) (dir : DirId) (name : List ℕ) (file : FileId) → n ≡ empty_root → dir.0 ≡ 0 → IsDefined n (Create dir name) (Some (File file))
root_creates n dir name file is root = rw (is, root, root_there _) (ap free_for (get-empty (slice_cmp nat_cmp) name), get-empty nat_cmp file.0)

root_alone : (d : Directory) (other : ℕ) → other ≢ 0 → get {R = nat_cmp} (insert {R = nat_cmp} empty 0 d) other ≡ None
root_alone d other apart = grind (arith, nat_tests, gets)

pub root_makes_dir : (n : Namespace) (dir : DirId) (name : List ℕ) (child : DirId) → n ≡ empty_root → dir.0 ≡ 0 → child.0 ≢ 0 → IsDefined n (Mkdir dir name) (Some (Dir child))
root_makes_dir n dir name child is root apart = rw (is, root, root_there _) (ap free_for (get-empty (slice_cmp nat_cmp) name), root_alone _ child.0 apart)
