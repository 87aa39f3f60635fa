-- Which lock of a job an ask meets. Of several locks on the names of a directory it is that of the least name.
use Rattle.std.specs.Prelude.{ℕ, List, [], ◌∷◌, ◌==◌, Option, Some, None, if◌then◌else◌}
use Rattle.std.specs.Option.{option_map, option_or}
use Rattle.std.specs.FinMap.{get}
use Rattle.next_ids.specs.declared.ids.DirId.{DirId}
use Rattle.next_ids.specs.declared.ids.JobNo.{JobNo}
use Rattle.next_ids.specs.declared.ids.Kind.{Kind}
use Rattle.next_ids.specs.declared.ids.Kind.TheVariants.{Moving, Replacing}
use Rattle.next_ids.specs.Maps.{row_key}
use Rattle.next_steps.specs.declared.contents.RowLock.{RowLock}
use Rattle.next_steps.specs.declared.contents.DirRec.{DirRec}
use Rattle.next_steps.specs.declared.ask.Ask.{Ask}
use Rattle.next_steps.specs.declared.ask.Ask.TheVariants as ask
use Rattle.next_rules.specs.Contents.{Shard}
use Rattle.next_rules.specs.Room.{is_source, locks_in, first_job, room_lock, room_in}

-- ---- a lock on a name
-- its job, whatever its side
abbrev pub job_of : Option RowLock → Option JobNo
job_of lock = option_map (λ (l : RowLock). l.job) lock

-- its job, where it is on the name that the job gives up
abbrev pub source_job : Option RowLock → Option JobNo
source_job None = None
source_job (Some lock) = if is_source lock.side then Some lock.job else None

-- a job other than one's own
abbrev pub other_job : JobNo → Option JobNo → Option JobNo
other_job own None = None
other_job own (Some job) = if job.0 == own.0 then None else Some job

-- ---- the locks on the names of a directory, by rising name
abbrev pub first_source : List (List ℕ × RowLock) → Option JobNo
first_source [] = None
first_source (e ∷ es) = option_or (source_job (Some e.1)) (first_source es)

abbrev pub first_other : JobNo → List (List ℕ × RowLock) → Option JobNo
first_other own [] = None
first_other own (e ∷ es) = option_or (other_job own (Some e.1.job)) (first_other own es)

-- ---- the lock of a directory's record
abbrev pub holder : Option DirRec → Option JobNo
holder None = None
holder (Some r) = option_map (λ (l : JobNo × Kind). l.0) r.lock

abbrev pub job_replacing : JobNo → Kind → Option JobNo
job_replacing job Moving = None
job_replacing job Replacing = Some job

abbrev pub replacing_job : Option (JobNo × Kind) → Option JobNo
replacing_job None = None
replacing_job (Some lock) = job_replacing lock.0 lock.1

-- the job that replaces the directory
abbrev pub replacer : Option DirRec → Option JobNo
replacer None = None
replacer (Some r) = replacing_job r.lock

-- ---- what is met where names or records are asked for
abbrev pub source_at : Shard → DirId → List ℕ → Option JobNo
source_at s dir name = source_job (get s.locks (row_key dir name))

abbrev pub lock_at : Shard → DirId → List ℕ → Option JobNo
lock_at s dir name = job_of (get s.locks (row_key dir name))

abbrev pub source_in : Shard → DirId → Option JobNo
source_in s dir = first_source (locks_in s dir)

abbrev pub lock_in : Shard → DirId → Option JobNo
lock_in s dir = first_job (locks_in s dir)

abbrev pub other_in : JobNo → Kind → Shard → DirId → Option JobNo
other_in own Moving s dir = None
other_in own Replacing s dir = first_other own (locks_in s dir)

-- a lock on the record comes before those on the names
abbrev pub list_lock : Shard → DirId → Option JobNo
list_lock s dir = option_or (replacer (get s.recs dir.0)) (source_in s dir)

abbrev pub insert_lock : Shard → DirId → List ℕ → Option JobNo
insert_lock s dir name = option_or (replacer (get s.recs dir.0)) (lock_at s dir name)

abbrev pub swap_lock : Shard → DirId → (name to_name : List ℕ) → Option JobNo
swap_lock s dir name to_name = option_or (lock_at s dir name) (lock_at s dir to_name)

abbrev pub row_lock : JobNo → Shard → DirId → List ℕ → Option JobNo
row_lock own s dir name = option_or (other_job own (replacer (get s.recs dir.0))) (other_job own (lock_at s dir name))

-- ---- the job whose lock a client's ask meets: the one that it is told
abbrev pub lock_met : Shard → Ask → Option JobNo
lock_met s (ask.Read dir name) = source_at s dir name
lock_met s (ask.List dir) = list_lock s dir
lock_met s (ask.Look dir back) = option_or (holder (get s.recs dir.0)) (source_in s dir)
lock_met s (ask.Insert client dir name node ts) = option_or (insert_lock s dir name) (room_lock (room_in s dir node))
lock_met s (ask.Delete client dir name ts) = lock_at s dir name
lock_met s (ask.Swap client dir name to_name ts) = swap_lock s dir name to_name
lock_met s (ask.Mark client child dir name ts) = option_or (holder (get s.recs child.0)) (lock_in s child)
lock_met s ask = None
