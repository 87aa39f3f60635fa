-- What the records show in the tree, where it is known which nodes are named.
use Rattle.std.specs.Prelude.{ℕ, List, [], ◌∷◌, Bool, false, ◌==◌, Option, Some, None, ◌||◌, if◌then◌else◌, is_none}
use Rattle.std.specs.List.{list_any}
use Rattle.std.specs.FinMap.{entries}
use Rattle.cfs_ids.specs.declared.ids.Node.{Node}
use Rattle.cfs_ids.specs.declared.ids.Node.TheVariants.{Dir, File}
use Rattle.cfs_ids.specs.Maps.{Numbers}
use Rattle.cfs_ids.specs.Namespace.{Directory, FileFacts, is_node}
use Rattle.cfs_steps.specs.declared.contents.DirRec.{DirRec}
use Rattle.cfs_steps.specs.declared.contents.FileRec.{FileRec}
use Rattle.cfs_rules.specs.Places.{Shard, Store}
use Rattle.cfs_rules.specs.Trees.{directory_of, facts_of}
use Rattle.cfs_view.specs.Collected.{with_each}

-- whether a row of one of the shards names the node
abbrev pub names_in : List Shard → Node → Bool
names_in [] x = false
names_in (s ∷ ss) x = list_any (λ e. is_node x e.1.node) (entries s.rows) || names_in ss x

-- the record of a directory shows the directory, with its shard's rows, where it is the root or named
abbrev pub shown_dir : (Node → Bool) → Shard → ℕ → DirRec → Option Directory
shown_dir named s d r = if (d == 0) || named (Dir (record { 0 = d })) then Some (directory_of s d r) else None

-- the record of a file shows the file where it has no owner or is named
abbrev pub shown_file : (Node → Bool) → ℕ → FileRec → Option FileFacts
shown_file named f r = if is_none r.owner || named (File (record { 0 = f })) then Some (facts_of r) else None

-- what the records of these shards show, shard by shard
abbrev pub with_shards : (Node → Bool) → Numbers Directory → List Shard → Numbers Directory
with_shards named m [] = m
with_shards named m (s ∷ ss) = with_shards named (with_each (shown_dir named s) m (entries s.recs)) ss

abbrev pub with_stores : (Node → Bool) → Numbers FileFacts → List Store → Numbers FileFacts
with_stores named m [] = m
with_stores named m (s ∷ ss) = with_stores named (with_each (shown_file named) m (entries s)) ss
