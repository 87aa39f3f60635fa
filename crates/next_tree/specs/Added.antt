-- Namespaces with one more directory, row or file.
use Rattle.std.specs.Prelude.{ℕ, List, Option, Some, None}
use Rattle.std.specs.FinMap.{empty, get, insert}
use Rattle.next_ids.specs.declared.ids.DirId.{DirId}
use Rattle.next_ids.specs.declared.ids.FileId.{FileId}
use Rattle.next_ids.specs.declared.ids.Node.{Node}
use Rattle.next_ids.specs.declared.time.Ts.{Ts}
use Rattle.next_ids.specs.Times.{start}
use Rattle.next_ids.specs.Namespace.{Directory, Namespace}

-- a directory of this time, with the names that it had
abbrev pub timed : Option Directory → Ts → Directory
timed None time = record { names = empty; time = time }
timed (Some d) time = record { names = d.names; time = time }

abbrev pub with_dir : Namespace → DirId → Ts → Namespace
with_dir n dir time = record { dirs = insert n.dirs dir.0 (timed (get n.dirs dir.0) time); files = n.files }

-- a directory with one more name, at the time that it had
abbrev pub named : Option Directory → List ℕ → Node → Directory
named None name node = record { names = insert empty name node; time = start }
named (Some d) name node = record { names = insert d.names name node; time = d.time }

abbrev pub with_row : Namespace → DirId → List ℕ → Node → Namespace
with_row n dir name node = record { dirs = insert n.dirs dir.0 (named (get n.dirs dir.0) name node); files = n.files }

abbrev pub with_file : Namespace → FileId → ℕ → Ts → Namespace
with_file n file size time = record { dirs = n.dirs; files = insert n.files file.0 (record { size = size; time = time }) }
