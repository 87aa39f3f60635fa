-- The tree that the places hold.
use Rattle.std.specs.Prelude.{ℕ, List, [], ◌∷◌, map, flat_map, Bool, true, false, not, ◌||◌, ◌&&◌, ◌==◌, Option, Some, None, is_none}
use Rattle.std.specs.List.{list_any}
use Rattle.std.specs.FinMap.{get, entries, from_entries, retain_keys}
use Rattle.next_ids.specs.declared.ids.JobNo.{JobNo}
use Rattle.next_ids.specs.declared.ids.Side.{Side}
use Rattle.next_ids.specs.declared.ids.Side.TheVariants.{Source, Target, Committed}
use Rattle.next_ids.specs.declared.ids.Node.{Node}
use Rattle.next_ids.specs.declared.ids.Node.TheVariants.{Dir, File}
use Rattle.next_ids.specs.declared.time.Ts.{Ts}
use Rattle.next_ids.specs.Maps.{Names, map_values, within}
use Rattle.next_ids.specs.Times.{start, later}
use Rattle.next_ids.specs.Namespace.{Namespace, Directory, FileFacts, is_node}
use Rattle.next_steps.specs.declared.contents.Row.{Row}
use Rattle.next_steps.specs.declared.contents.RowLock.{RowLock}
use Rattle.next_steps.specs.declared.contents.DirRec.{DirRec}
use Rattle.next_steps.specs.declared.contents.FileRec.{FileRec}
use Rattle.next_steps.specs.declared.contents.Job.{Job}
use Rattle.next_rules.specs.Contents.{Shard, attr_of, node_of_key}
use Rattle.next_rules.specs.Room.{is_source}
use Rattle.next_rules.specs.Desks.{job_numbered}
use Rattle.next_rules.specs.Strays.{file_of_number}
use Rattle.next_rules.specs.Worlds.{Service}

-- ---- a row is live unless it has a Source lock of a job that has a Committed lock in some shard
abbrev pub is_committed : Side → Bool
is_committed Source = false
is_committed Target = false
is_committed Committed = true

abbrev pub has_committed : Shard → JobNo → Bool
has_committed s job = list_any (λ e. (e.1.job.0 == job.0) && is_committed e.1.side) (entries s.locks)

abbrev pub is_dead_lock : Shard → RowLock → Bool
is_dead_lock s lock = is_source lock.side && has_committed s lock.job

abbrev pub is_dead : Shard → Option RowLock → Bool
is_dead s None = false
is_dead s (Some lock) = is_dead_lock s lock

abbrev pub live_rows : Shard → Names Row
live_rows s = retain_keys s.rows (λ key. not (is_dead s (get s.locks key)))

-- whether a live row names the node
abbrev pub is_named : Shard → Node → Bool
is_named s node = list_any (λ e. is_node node e.1.node) (entries (live_rows s))

-- whether a debt names the node
abbrev pub owed_node : List ℕ → Node
owed_node [] = node_of_key []
owed_node (place ∷ key) = node_of_key key

abbrev pub is_owed : Shard → Node → Bool
is_owed s node = list_any (λ e. is_node node (owed_node e.0)) (entries s.debts)

-- ---- the directories of the tree: the root, those that live rows lie in, and those that live rows name
abbrev pub dirs_of_node : Node → List ℕ
dirs_of_node (Dir dir) = dir.0 ∷ []
dirs_of_node (File file) = []

abbrev pub dirs_of_row : List ℕ × Row → List ℕ
dirs_of_row ([], row) = dirs_of_node row.node
dirs_of_row (d ∷ name, row) = d ∷ dirs_of_node row.node

abbrev pub shown_dirs : Shard → List ℕ
shown_dirs s = 0 ∷ flat_map dirs_of_row (entries (live_rows s))

abbrev pub is_shown : Shard → ℕ → Bool
is_shown s d = list_any (λ x. x == d) (shown_dirs s)

-- the nodes of a directory, by rising name
abbrev pub names_in : Shard → ℕ → Names Node
names_in s d = from_entries (map (λ e. (e.0, e.1.node)) (within d (entries (live_rows s))))

-- its time is its record's. Where a committed job has still to cut its old row there, the job's time counts already
abbrev pub rec_time : Option DirRec → Ts
rec_time None = start
rec_time (Some r) = (attr_of r).time

abbrev pub job_time : Option Job → Ts
job_time None = start
job_time (Some j) = j.ts

abbrev pub lock_time : Service → Bool → JobNo → Ts
lock_time v false job = start
lock_time v true job = job_time (job_numbered job.0 v.desk)

abbrev pub dead_time : Service → List (List ℕ × RowLock) → Ts
dead_time v [] = start
dead_time v (e ∷ es) = later (lock_time v (is_dead_lock v.shard e.1) e.1.job) (dead_time v es)

abbrev pub time_of : Service → ℕ → Ts
time_of v d = later (rec_time (get v.shard.recs d)) (dead_time v (within d (entries v.shard.locks)))

abbrev pub directory_of : Service → ℕ → Directory
directory_of v d = record { names = names_in v.shard d; time = time_of v d }

-- ---- the files of the tree: the records that have no owner, or that a live row names, or that a debt names
abbrev pub is_settled : Option FileRec → Bool
is_settled None = false
is_settled (Some r) = is_none r.owner

abbrev pub is_counted : Service → ℕ → Bool
is_counted v f =
    is_settled (get v.store f) || (is_named v.shard (file_of_number f) || is_owed v.shard (file_of_number f))

abbrev pub facts_of : FileRec → FileFacts
facts_of r = record { size = r.size; time = r.time }

-- the namespace that the places hold
abbrev pub tree : Service → Namespace
tree v = record {
  dirs = from_entries (map (λ d. (d, directory_of v d)) (shown_dirs v.shard));
  files = map_values (λ f r. facts_of r) (retain_keys v.store (is_counted v));
}
