-- Which rows are live, and which nodes they name, shard by shard.
use Rattle.std.specs.Prelude.{List, [], ◌∷◌, Bool, false, not, ◌&&◌, ◌||◌, Option, Some, None}
use Rattle.std.specs.List.{list_any}
use Rattle.std.specs.FinMap.{get, entries}
use Rattle.next_ids.specs.declared.ids.JobNo.{JobNo}
use Rattle.next_ids.specs.declared.ids.Node.{Node}
use Rattle.next_ids.specs.Namespace.{is_node}
use Rattle.next_steps.specs.declared.contents.RowLock.{RowLock}
use Rattle.next_rules.specs.Contents.{Shard}
use Rattle.next_rules.specs.Room.{is_source}
use Rattle.next_rules.specs.Trees.{has_committed}

-- whether one of the shards has a Committed lock of the job
abbrev pub any_committed : List Shard → JobNo → Bool
any_committed [] job = false
any_committed (s ∷ ss) job = has_committed s job || any_committed ss job

-- whether a name's lock makes its row a dead one: a Source lock of a job that has a Committed lock in one of the shards
abbrev pub is_dead_in : List Shard → Option RowLock → Bool
is_dead_in all None = false
is_dead_in all (Some lock) = is_source lock.side && any_committed all lock.job

-- whether a live row of one of these shards names the node
abbrev pub names_live : List Shard → List Shard → Node → Bool
names_live all [] x = false
names_live all (s ∷ ss) x =
    list_any (λ e. not (is_dead_in all (get s.locks e.0)) && is_node x e.1.node) (entries s.rows) || names_live all ss x
