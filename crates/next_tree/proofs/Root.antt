-- The empty root takes any name, any file and any other directory.
use Rattle.std.proofs.Common.{◌≡◌, ◌≢◌, ℕ, List, Bool, false, refl, ap, arith}
use Rattle.std.specs.Prelude.{Option, Some, None}
use Rattle.std.proofs.lemmas.Bool.Decides.{nat_tests}
use Rattle.std.specs.Ordering.{nat_cmp}
use Rattle.std.specs.Cmp.Lexicographic.{slice_cmp}
use Rattle.std.specs.FinMap.{get, insert, empty, gets, get-empty}
use Rattle.next_ids.specs.declared.ids.DirId.{DirId}
use Rattle.next_ids.specs.declared.ids.FileId.{FileId}
use Rattle.next_ids.specs.declared.ids.Node.TheVariants.{Dir, File}
use Rattle.next_ids.specs.declared.call.Call.TheVariants.{Create, Mkdir}
use Rattle.next_ids.specs.declared.ids.Node.{Node}
use Rattle.next_ids.specs.declared.time.Ts.{Ts}
use Rattle.next_ids.specs.declared.call.Reply.TheVariants.{Moved}
use Rattle.next_ids.specs.Times.{start}
use Rattle.next_ids.specs.Namespace.{Namespace, Directory, IsDefined, empty_root, free_for, is_full, room_for}
use Rattle.next_ids.proofs.Entries.{entries-empty}
use Rattle.next_ids.proofs.MapLemmas.{get-insert_here}

root_there : (d : Directory) → get {R = nat_cmp} (insert {R = nat_cmp} empty 0 d) 0 ≡ Some d
root_there d = get-insert_here empty 0 d

pub root_creates : (n : Namespace) (dir : DirId) (name : List ℕ) (file : FileId) → n ≡ empty_root → dir.0 ≡ 0 → IsDefined n (Create dir name) (Some (File file))
root_creates n dir name file is root = rw (is, root, root_there _) (ap free_for (get-empty (slice_cmp nat_cmp) name), get-empty nat_cmp file.0)

root_alone : (d : Directory) (other : ℕ) → other ≢ 0 → get {R = nat_cmp} (insert {R = nat_cmp} empty 0 d) other ≡ None
root_alone d other apart = grind (arith, nat_tests, gets)

-- a directory with no names has room for another one
no-links : (time : Ts) → is_full (record { names = empty; time = time }) ≡ false
no-links time = rw (entries-empty (slice_cmp nat_cmp)) refl

has-room : (full : Bool) (o : Option Node) → full ≡ false → o ≡ None → room_for full o ≡ Moved
has-room full o room none = rw (room, none) refl

pub root_makes_dir : (n : Namespace) (dir : DirId) (name : List ℕ) (child : DirId) → n ≡ empty_root → dir.0 ≡ 0 → child.0 ≢ 0 → IsDefined n (Mkdir dir name) (Some (Dir child))
root_makes_dir n dir name child is root apart = rw (is, root, root_there _) (has-room _ _ (no-links start) (get-empty (slice_cmp nat_cmp) name), root_alone _ child.0 apart)
