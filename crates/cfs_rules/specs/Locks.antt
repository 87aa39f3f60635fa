-- The locks of a shard, and which of them an ask meets.
use Rattle.std.specs.Prelude.{ℕ, List, [], ◌∷◌, Option, Some, None}
use Rattle.std.specs.Option.{option_map, option_or}
use Rattle.std.specs.FinMap.{get, entries, from_entries}
use Rattle.cfs_ids.specs.declared.ids.JobNo.{JobNo}
use Rattle.cfs_ids.specs.declared.ids.Kind.{Kind}
use Rattle.cfs_ids.specs.declared.ids.Kind.TheVariants.{Moving, Replacing}
use Rattle.cfs_ids.specs.declared.ids.Side.{Side}
use Rattle.cfs_ids.specs.declared.ids.Side.TheVariants.{Source, Target, Committed}
use Rattle.cfs_ids.specs.Maps.{Names, Numbers, row_key, within}
use Rattle.cfs_steps.specs.declared.contents.RowLock.{RowLock}
use Rattle.cfs_steps.specs.declared.contents.DirRec.{DirRec}
use Rattle.cfs_steps.specs.declared.ask.Ask.{Ask}
use Rattle.cfs_steps.specs.declared.ask.Ask.TheVariants.{Read, List as ListAsk, Insert}

-- the job of a lock on a name, whatever its side
abbrev pub job_of : Option RowLock → Option JobNo
job_of lock = option_map (λ (l : RowLock). l.job) lock

abbrev pub job_at_source : Side → JobNo → Option JobNo
job_at_source Source job = Some job
job_at_source Target job = None
job_at_source Committed job = None

-- the job of a lock on a name that the job gives up
abbrev pub source_job : Option RowLock → Option JobNo
source_job None = None
source_job (Some lock) = job_at_source lock.side lock.job

-- the locks on the names of a directory
abbrev pub locks_in : Names RowLock → ℕ → Names RowLock
locks_in locks d = from_entries (within d (entries locks))

-- the first job that gives up one of these names
abbrev pub first_source : List (List ℕ × RowLock) → Option JobNo
first_source [] = None
first_source (e ∷ es) = option_or (source_job (Some e.1)) (first_source es)

abbrev pub job_replacing : JobNo → Kind → Option JobNo
job_replacing job Moving = None
job_replacing job Replacing = Some job

-- the job that replaces the directory
abbrev pub replacing_job : Option (JobNo × Kind) → Option JobNo
replacing_job None = None
replacing_job (Some lock) = job_replacing lock.0 lock.1

-- the record's lock comes before those of the names; where there is no record, no lock is met
abbrev pub met_in : Option DirRec → Option JobNo → Option JobNo
met_in None job = None
met_in (Some r) job = option_or (replacing_job r.lock) job

-- the job whose lock stands in the way of an ask
abbrev pub lock_met : Names RowLock → Numbers DirRec → Ask → Option JobNo
lock_met locks recs (Read dir name) = source_job (get locks (row_key dir name))
lock_met locks recs (ListAsk dir) = met_in (get recs dir.0) (first_source (entries (locks_in locks dir.0)))
lock_met locks recs (Insert client dir name node ts) = met_in (get recs dir.0) (job_of (get locks (row_key dir name)))
lock_met locks recs ask = None
