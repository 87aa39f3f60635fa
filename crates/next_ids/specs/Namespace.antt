-- The sequential namespace: one tree, what a call is answered in it, and what a move leaves.
use Rattle.std.specs.Prelude.{◌≡◌, ◌≢◌, ℕ, suc, zero, ◌+◌, List, [], Bool, true, false, not, ◌==◌, ◌||◌, ◌&&◌, nat_le, length, Option, Some, None, if◌then◌else◌}
use Rattle.std.specs.Str.{bytes_eq}
use Rattle.std.specs.List.{list_any}
use Rattle.std.specs.FinMap.{get, insert, remove, empty, entries}
use Rattle.next_ids.specs.declared.ids.DirId.{DirId}
use Rattle.next_ids.specs.declared.ids.FileId.{FileId}
use Rattle.next_ids.specs.declared.ids.Node.{Node}
use Rattle.next_ids.specs.declared.ids.Node.TheVariants.{Dir, File}
use Rattle.next_ids.specs.declared.errno.Errno.TheVariants.{Enoent, Eexist, Enotdir, Eisdir, Enotempty, Eperm, Einval, Emlink}
use Rattle.next_ids.specs.declared.call.Call.{Call}
use Rattle.next_ids.specs.declared.call.Call.TheVariants.{Lookup, List as ListCall, StatRoot, Stat, Create, Mkdir, Unlink, Rmdir, Truncate, Rename}
use Rattle.next_ids.specs.declared.call.Reply.{Reply}
use Rattle.next_ids.specs.declared.call.Reply.TheVariants.{Moved, Kept, Node as NodeReply, Rows, DirStat, FileStat, Refused}
use Rattle.next_ids.specs.declared.time.Ts.{Ts}
use Rattle.next_ids.specs.Maps.{Names, Numbers, how_many}
use Rattle.next_ids.specs.Times.{start, later}

-- a directory: the nodes by rising name, and a time
pub record Directory : Type 0 where
  pub names : Names Node
  pub time : Ts

-- a file: a size and a time
pub record FileFacts : Type 0 where
  pub size : ℕ
  pub time : Ts

pub record Namespace : Type 0 where
  pub dirs : Numbers Directory
  pub files : Numbers FileFacts

-- the root, empty and at the time before the first step, and no file
abbrev pub empty_root : Namespace
empty_root = record { dirs = insert empty 0 (record { names = empty; time = start }); files = empty }

-- ---- counts by counting
abbrev pub is_dir : Node → Bool
is_dir (Dir dir) = true
is_dir (File file) = false

abbrev pub children_of : Directory → ℕ
children_of d = length (entries d.names)

-- 2, and one more for each directory below
abbrev pub links_of : Directory → ℕ
links_of d = 2 + how_many (λ e. is_dir e.1) (entries d.names)

-- the most links of a directory: the value of LINK_MAX
abbrev pub link_max : ℕ
link_max = 32000

-- the directory has as many links as one may have
abbrev pub is_full : Directory → Bool
is_full d = nat_le link_max (links_of d)

-- ---- names, and chains of them
-- the node of a name, none where there is no directory
abbrev pub node_at : Option Directory → List ℕ → Option Node
node_at None name = None
node_at (Some d) name = get d.names name

-- the rows, none where there is no directory
abbrev pub rows_of : Option Directory → List (List ℕ × Node)
rows_of None = []
rows_of (Some d) = entries d.names

-- a fact of the directory that the node is
abbrev pub of_dir : (ℕ → Bool) → Node → Bool
of_dir fact (Dir dir) = fact dir.0
of_dir fact (File file) = false

-- a chain of at most so many names, each in the list of the directory before it, leads from one directory to another
abbrev pub leads : ℕ → Namespace → (from to : ℕ) → Bool
leads zero n from to = from == to
leads (suc k) n from to = (from == to) || list_any (λ e. of_dir (λ d. leads k n d to) e.1) (rows_of (get n.dirs from))

-- `to` is `from` or lies below it: a chain that visits no directory twice has at most as many names as there are directories
abbrev pub is_below : Namespace → (from to : ℕ) → Bool
is_below n from to = leads (length (entries n.dirs)) n from to

-- ---- what a call is answered: the first line that applies
abbrev pub looked_up : Option Node → Reply
looked_up None = Refused Enoent
looked_up (Some node) = NodeReply node

abbrev pub lookup_in : Option Directory → List ℕ → Reply
lookup_in None name = Refused Enoent
lookup_in (Some d) name = looked_up (get d.names name)

abbrev pub list_of : Option Directory → Reply
list_of None = Refused Enoent
list_of (Some d) = Rows (entries d.names)

-- POSIX.1-2017, stat: the links of a directory are its own name, the entry `.`, and the entry `..` of each directory in it
abbrev pub dir_stat : Option Directory → Reply
dir_stat None = Refused Enoent
dir_stat (Some d) = DirStat (children_of d) (links_of d) d.time

abbrev pub file_stat : Option FileFacts → Reply
file_stat None = Refused Enoent
file_stat (Some f) = FileStat f.size f.time

abbrev pub stat_of : Namespace → Option Node → Reply
stat_of n None = Refused Enoent
stat_of n (Some (Dir dir)) = dir_stat (get n.dirs dir.0)
stat_of n (Some (File file)) = file_stat (get n.files file.0)

-- POSIX.1-2017, open with O_CREAT and O_EXCL: EEXIST for a name that is there, a file's or a directory's
abbrev pub free_for : Option Node → Reply
free_for None = Moved
free_for (Some node) = Refused Eexist

abbrev pub create_in : Option Directory → List ℕ → Reply
create_in None name = Refused Enoent
create_in (Some d) name = free_for (get d.names name)

-- POSIX.1-2017, mkdir: EEXIST likewise, and then EMLINK where the directory can have no link more
abbrev pub room_for : (full : Bool) → Option Node → Reply
room_for full (Some node) = Refused Eexist
room_for true None = Refused Emlink
room_for false None = Moved

abbrev pub mkdir_in : Option Directory → List ℕ → Reply
mkdir_in None name = Refused Enoent
mkdir_in (Some d) name = room_for (is_full d) (get d.names name)

-- POSIX.1-2017, unlink: EPERM for a directory, which no process here may unlink
abbrev pub unlinked : Option Node → Reply
unlinked None = Refused Enoent
unlinked (Some (Dir dir)) = Refused Eperm
unlinked (Some (File file)) = Moved

abbrev pub is_empty : Option Directory → Bool
is_empty d = length (rows_of d) == 0

-- POSIX.1-2017, rmdir: ENOTDIR for a file; of ENOTEMPTY and EEXIST, which it allows alike, this service answers the first
abbrev pub removed : Namespace → Option Node → Reply
removed n None = Refused Enoent
removed n (Some (File file)) = Refused Enotdir
removed n (Some (Dir dir)) = if is_empty (get n.dirs dir.0) then Moved else Refused Enotempty

-- POSIX.1-2017, truncate: the file is named by its number, and is there even where no list names it
abbrev pub cut_to : Option FileFacts → Reply
cut_to None = Refused Enoent
cut_to (Some f) = Moved

-- POSIX.1-2017, rename: EINVAL where the directory would come to lie below itself
abbrev pub moves_out : Namespace → (child to_dir : DirId) → Reply
moves_out n child to_dir = if is_below n child.0 to_dir.0 then Refused Einval else Moved

-- a node onto what has the new name: EISDIR for a file onto a directory, ENOTDIR for a directory onto a file, ENOTEMPTY
-- for a directory onto one that has names, and EMLINK for a directory at a free name of another directory that is full;
-- these stand before EINVAL
abbrev pub onto : Namespace → (to_dir : DirId) → (full : Bool) → Node → Option Node → Reply
onto n to_dir full (File file) (Some (Dir old)) = Refused Eisdir
onto n to_dir full (File file) (Some (File old)) = Moved
onto n to_dir full (File file) None = Moved
onto n to_dir full (Dir child) (Some (File old)) = Refused Enotdir
onto n to_dir full (Dir child) (Some (Dir old)) =
    if is_empty (get n.dirs old.0) then moves_out n child to_dir else Refused Enotempty
onto n to_dir true (Dir child) None = Refused Emlink
onto n to_dir false (Dir child) None = moves_out n child to_dir

-- within one directory a rename of a directory adds no link
abbrev pub onto_name : Namespace → (dir to_dir : DirId) → (to_name : List ℕ) → Node → Option Directory → Reply
onto_name n dir to_dir to_name node None = Refused Enoent
onto_name n dir to_dir to_name node (Some d) =
    onto n to_dir (not (dir.0 == to_dir.0) && is_full d) node (get d.names to_name)

-- whether the two names are one
abbrev pub is_one_name : (dir : DirId) → (name : List ℕ) → (to_dir : DirId) → (to_name : List ℕ) → Bool
is_one_name dir name to_dir to_name = (dir.0 == to_dir.0) && bytes_eq name to_name

-- POSIX.1-2017, rename: of a name to itself it succeeds and does nothing
abbrev pub renamed : Namespace → (dir : DirId) → (name : List ℕ) → (to_dir : DirId) → (to_name : List ℕ) → Option Node
    → Reply
renamed n dir name to_dir to_name None = Refused Enoent
renamed n dir name to_dir to_name (Some node) =
    if is_one_name dir name to_dir to_name then Kept else onto_name n dir to_dir to_name node (get n.dirs to_dir.0)

abbrev pub answer : Namespace → Call → Reply
answer n (Lookup dir name) = lookup_in (get n.dirs dir.0) name
answer n (ListCall dir) = list_of (get n.dirs dir.0)
answer n StatRoot = dir_stat (get n.dirs 0)
answer n (Stat dir name) = stat_of n (node_at (get n.dirs dir.0) name)
answer n (Create dir name) = create_in (get n.dirs dir.0) name
answer n (Mkdir dir name) = mkdir_in (get n.dirs dir.0) name
answer n (Unlink dir name) = unlinked (node_at (get n.dirs dir.0) name)
answer n (Rmdir dir name) = removed n (node_at (get n.dirs dir.0) name)
answer n (Truncate file size) = cut_to (get n.files file.0)
answer n (Rename dir name to_dir to_name) = renamed n dir name to_dir to_name (node_at (get n.dirs dir.0) name)

-- ---- what a move leaves
-- a directory with a name set, and with one cut, its time no earlier than this
abbrev pub with_name : Option Directory → List ℕ → Node → Ts → Directory
with_name None name node ts = record { names = insert empty name node; time = ts }
with_name (Some d) name node ts = record { names = insert d.names name node; time = later d.time ts }

abbrev pub without_name : Option Directory → List ℕ → Ts → Directory
without_name None name ts = record { names = empty; time = ts }
without_name (Some d) name ts = record { names = remove d.names name; time = later d.time ts }

abbrev pub created : Namespace → DirId → List ℕ → FileId → Ts → Namespace
created n dir name file ts = record {
  dirs = insert n.dirs dir.0 (with_name (get n.dirs dir.0) name (File file) ts);
  files = insert n.files file.0 (record { size = 0; time = ts });
}

abbrev pub made_dir : Namespace → DirId → List ℕ → DirId → Ts → Namespace
made_dir n dir name child ts = record {
  dirs = insert (insert n.dirs dir.0 (with_name (get n.dirs dir.0) name (Dir child) ts)) child.0 (record { names = empty; time = ts });
  files = n.files;
}

-- a name goes; its node stays
abbrev pub name_cut : Numbers Directory → DirId → List ℕ → Ts → Numbers Directory
name_cut dirs dir name ts = insert dirs dir.0 (without_name (get dirs dir.0) name ts)

abbrev pub name_set : Numbers Directory → DirId → List ℕ → Node → Ts → Numbers Directory
name_set dirs dir name node ts = insert dirs dir.0 (with_name (get dirs dir.0) name node ts)

-- without the directory that the node is; a file stays until it is forgotten
abbrev pub without_dir : Numbers Directory → Option Node → Numbers Directory
without_dir dirs (Some (Dir dir)) = remove dirs dir.0
without_dir dirs (Some (File file)) = dirs
without_dir dirs None = dirs

abbrev pub unlinked_in : Namespace → DirId → List ℕ → Ts → Namespace
unlinked_in n dir name ts = record { dirs = name_cut n.dirs dir name ts; files = n.files }

abbrev pub removed_in : Namespace → DirId → List ℕ → Ts → Namespace
removed_in n dir name ts =
    record { dirs = without_dir (name_cut n.dirs dir name ts) (node_at (get n.dirs dir.0) name); files = n.files }

abbrev pub cut_file : Option FileFacts → (size : ℕ) → Ts → FileFacts
cut_file None size ts = record { size = size; time = ts }
cut_file (Some f) size ts = record { size = size; time = later f.time ts }

abbrev pub truncated : Namespace → FileId → (size : ℕ) → Ts → Namespace
truncated n file size ts =
    record { dirs = n.dirs; files = insert n.files file.0 (cut_file (get n.files file.0) size ts) }

-- the node has the new name and no longer the old one, and a directory that had the new name goes
abbrev pub set_moved : Numbers Directory → DirId → List ℕ → Ts → Option Node → Numbers Directory
set_moved dirs to_dir to_name ts None = dirs
set_moved dirs to_dir to_name ts (Some node) = name_set dirs to_dir to_name node ts

abbrev pub renamed_in : Namespace → (dir : DirId) → (name : List ℕ) → (to_dir : DirId) → (to_name : List ℕ) → Ts
    → Namespace
renamed_in n dir name to_dir to_name ts = record {
  dirs = without_dir (set_moved (name_cut n.dirs dir name ts) to_dir to_name ts (node_at (get n.dirs dir.0) name)) (node_at (get n.dirs to_dir.0) to_name);
  files = n.files;
}

-- the namespace after a call that moved, with the node that it made and its time
abbrev pub after : Namespace → Call → Option Node → Ts → Namespace
after n (Create dir name) (Some (File file)) ts = created n dir name file ts
after n (Mkdir dir name) (Some (Dir child)) ts = made_dir n dir name child ts
after n (Unlink dir name) None ts = unlinked_in n dir name ts
after n (Rmdir dir name) None ts = removed_in n dir name ts
after n (Truncate file size) None ts = truncated n file size ts
after n (Rename dir name to_dir to_name) None ts = renamed_in n dir name to_dir to_name ts
after n _ _ ts = n

-- the call moves, and what it makes is a new node of its kind
abbrev pub IsDefined : Namespace → Call → Option Node → Type 0
IsDefined n (Create dir name) (Some (File file)) = (answer n (Create dir name) ≡ Moved) × (get n.files file.0 ≡ None)
IsDefined n (Mkdir dir name) (Some (Dir child)) = (answer n (Mkdir dir name) ≡ Moved) × (get n.dirs child.0 ≡ None)
IsDefined n (Unlink dir name) None = answer n (Unlink dir name) ≡ Moved
IsDefined n (Rmdir dir name) None = answer n (Rmdir dir name) ≡ Moved
IsDefined n (Truncate file size) None = answer n (Truncate file size) ≡ Moved
IsDefined n (Rename dir name to_dir to_name) None = answer n (Rename dir name to_dir to_name) ≡ Moved
IsDefined n _ _ = ⊥

-- ---- a whole namespace
abbrev pub IsThere : Namespace → Node → Type 0
IsThere n (Dir dir) = (d : Directory) × (get n.dirs dir.0 ≡ Some d)
IsThere n (File file) = (f : FileFacts) × (get n.files file.0 ≡ Some f)

pub record IsWhole (n : Namespace) : Type 0 where
  -- the root is there, and so is each node that a list names
  pub root : (d : Directory) × (get n.dirs 0 ≡ Some d)
  pub there : (d : ℕ) (name : List ℕ) (node : Node) → node_at (get n.dirs d) name ≡ Some node → IsThere n node
  -- no list names the root
  pub unnamed : (d : ℕ) (name : List ℕ) (dir : DirId) → node_at (get n.dirs d) name ≡ Some (Dir dir) → dir.0 ≢ 0
  -- no directory has two names
  pub once : (d e : ℕ) (name other : List ℕ) (dir : DirId) → node_at (get n.dirs d) name ≡ Some (Dir dir)
      → node_at (get n.dirs e) other ≡ Some (Dir dir) → (d ≡ e) × (name ≡ other)
  -- each directory is the root or lies below it
  pub below : (d : ℕ) (it : Directory) → get n.dirs d ≡ Some it → is_below n 0 d ≡ true

-- no node, file or directory, has two names
abbrev pub IsNamedOnce : Namespace → Type 0
IsNamedOnce n = (d e : ℕ) (name other : List ℕ) (node : Node) → node_at (get n.dirs d) name ≡ Some node
    → node_at (get n.dirs e) other ≡ Some node → (d ≡ e) × (name ≡ other)

-- ---- nodes without a name
abbrev pub names_file : ℕ → Node → Bool
names_file f (File file) = file.0 == f
names_file f (Dir dir) = false

abbrev pub names_dir : ℕ → Node → Bool
names_dir d (File file) = false
names_dir d (Dir dir) = dir.0 == d

-- whether the two nodes are one
abbrev pub is_node : Node → Node → Bool
is_node (File file) other = names_file file.0 other
is_node (Dir dir) other = names_dir dir.0 other

-- whether a list names the file
abbrev pub is_listed : Namespace → ℕ → Bool
is_listed n f = list_any (λ d. list_any (λ e. names_file f e.1) (entries d.1.names)) (entries n.dirs)

-- the namespace without a file that no list names
abbrev pub forget : Namespace → ℕ → Namespace
forget n f = record { dirs = n.dirs; files = remove n.files f }
