-- Namespaces with one more node, and without one.
use Rattle.std.specs.Prelude.{◌≡◌, ℕ, List, None}
use Rattle.std.specs.FinMap.{empty, get, insert, remove}
use Rattle.next_ids.specs.declared.ids.DirId.{DirId}
use Rattle.next_ids.specs.declared.ids.Node.{Node}
use Rattle.next_ids.specs.declared.ids.Node.TheVariants.{Dir, File}
use Rattle.next_ids.specs.declared.time.Ts.{Ts}
use Rattle.next_ids.specs.Namespace.{Namespace, created, made_dir}
use Rattle.next_tree.specs.Added.{with_file}

-- the node isn't there
abbrev pub IsNew : Namespace → Node → Type 0
IsNew n (Dir dir) = get n.dirs dir.0 ≡ None
IsNew n (File file) = get n.files file.0 ≡ None

-- an empty directory, or a file of no bytes, of this time
abbrev pub with_node : Namespace → Node → Ts → Namespace
with_node n (Dir dir) time = record { dirs = insert n.dirs dir.0 (record { names = empty; time = time }); files = n.files }
with_node n (File file) time = with_file n file 0 time

abbrev pub without_node : Namespace → Node → Namespace
without_node n (Dir dir) = record { dirs = remove n.dirs dir.0; files = n.files }
without_node n (File file) = record { dirs = n.dirs; files = remove n.files file.0 }

-- the node is there, and the directory has it under the name
abbrev pub made : Namespace → DirId → List ℕ → Node → Ts → Namespace
made n dir name (Dir child) time = made_dir n dir name child time
made n dir name (File file) time = created n dir name file time
