-- A place that has what is asked is one of the service, and the actors ask for what is there.
use Rattle.std.proofs.Common.{◌≡◌, ℕ, ◌+◌, ◌%◌, ◌<◌, List, Bool, true, false, refl, arith, inl, inr}
use Rattle.std.specs.Prelude.{if◌then◌else◌, ◌==◌, ◌&&◌, ◌||◌, nat_lt, nat_le}
use Rattle.std.proofs.lemmas.Bool.Decides.{nat_tests}
use Rattle.next_ids.specs.declared.ids.Client.{Client}
use Rattle.next_ids.specs.declared.ids.DirId.{DirId}
use Rattle.next_ids.specs.declared.ids.Node.{Node}
use Rattle.next_ids.specs.declared.ids.Node.TheVariants.{Dir, File}
use Rattle.next_ids.specs.declared.counts.Counts.{Counts}
use Rattle.next_ids.specs.declared.time.Ts.{Ts}
use Rattle.next_ids.specs.declared.call.Call.{Call}
use Rattle.next_ids.specs.declared.call.Call.TheVariants as call
use Rattle.next_steps.specs.declared.ask.Ask.{Ask}
use Rattle.next_steps.specs.declared.ask.Ask.TheVariants as ask
use Rattle.next_steps.specs.Asks.{place_of, home_of, suits}
use Rattle.next_steps.specs.Counts.{index_for}
use Rattle.next_steps.specs.Phases.{Phase, Asking, Reads, Writes, Removes, Finished, ReaderPhase, WriterPhase, RemoverPhase}
use Rattle.next_steps.specs.Phases as phase
use Rattle.next_steps.specs.Readers.{ask_reading}
use Rattle.next_steps.specs.Writers.{ask_writing}
use Rattle.next_steps.specs.Removers.{ask_removing}
use Rattle.next_steps.specs.Calls.{first_ask, ask_of}
use Rattle.next_steps.specs.JobPhases.{Task, Hold, JobPhase}
use Rattle.next_steps.specs.JobPhases as job
use Rattle.next_steps.specs.JobAsks.{drop_of, release_of, ask_job}
use Rattle.next_steps.specs.Rounds.{RoundPhase, ask_round}
use Rattle.next_steps.specs.Rounds as round
use Rattle.next_rules.specs.Setups.{AreCounts, IsCount, has_place}
use Rattle.next_rules.specs.Actors.{put_index}
use Rattle.next_laws_reach.proofs.There.{IsShard, IsStore, IsStorePlace, IsVisited, DirThere, NodeThere, CallThere, AskThere, ReaderThere, WriterThere, RemoverThere, PhaseThere, HoldThere, JobPhaseThere, RoundThere}

module _ (counts : Counts) (good : AreCounts counts) where
  -- ---- places of the service, and what suits them
  abbrev HasPlace : Ask → Type 0
  HasPlace a = (has_place counts (place_of a).0 ≡ true) × (suits a ≡ true)

  shard_place : (n : ℕ) → IsShard counts n → has_place counts n ≡ true
  shard_place n h = rw h refl

  store_tests : (a b : Bool) → (a || ((true && true) || b)) ≡ true
  store_tests true b = refl
  store_tests false b = refl

  store_place : (n : ℕ) → IsStorePlace counts n → has_place counts n ≡ true
  store_place n h = rw (h.0, h.1) (store_tests (nat_lt n counts.shards) ((n == 128) || (n == 129)))

  file_place : (n : ℕ) → IsStore counts n → has_place counts (64 + n) ≡ true
  file_place n h =
      let low : nat_le 64 (64 + n) ≡ true = grind (arith, nat_tests) in
      let high : nat_lt (64 + n) (64 + counts.stores) ≡ true = grind (arith, nat_tests, h) in
      store_place (64 + n) (low, high)

  last_tests : (a b c : Bool) → b ≡ true → (a || (c || b)) ≡ true
  last_tests true b c h = refl
  last_tests false b true h = refl
  last_tests false b false h = h

  desk_place : has_place counts 128 ≡ true
  desk_place = last_tests (nat_lt 128 counts.shards) true (nat_le 64 128 && nat_lt 128 (64 + counts.stores)) refl

  roster_place : has_place counts 129 ≡ true
  roster_place = last_tests (nat_lt 129 counts.shards) true (nat_le 64 129 && nat_lt 129 (64 + counts.stores)) refl

  home_place : (node : Node) → NodeThere counts node → has_place counts (home_of node).0 ≡ true
  home_place (Dir dir) h = shard_place (dir.0 % 64) h
  home_place (File file) h = file_place (file.0 % 64) h

  below_shards : (n : ℕ) → IsShard counts n → nat_lt n 64 ≡ true
  below_shards n h = let few = good.shards.1 in let low : n < counts.shards = grind (arith, nat_tests) in let less : n < 64 = omega arith in grind (arith, nat_tests)

  below_stores : (n : ℕ) → IsStorePlace counts n → nat_lt n 128 ≡ true
  below_stores n h = let few = good.stores.1 in let low : n < 64 + counts.stores = grind (arith, nat_tests, h.1) in let less : n < 128 = omega arith in grind (arith, nat_tests)

  visited_place : (n : ℕ) → IsVisited counts n → (has_place counts n ≡ true) × (nat_lt n 128 ≡ true)
  visited_place n (inl h) = let low : n < 64 = let small = below_shards n h in grind (arith, nat_tests) in let less : n < 128 = omega arith in (shard_place n h, grind (arith, nat_tests))
  visited_place n (inr h) = (store_place n h, below_stores n h)

  pub ask-has_place : (a : Ask) → AskThere counts a → HasPlace a
  ask-has_place (ask.Read dir name) h = (shard_place _ h, refl)
  ask-has_place (ask.List dir) h = (shard_place _ h, refl)
  ask-has_place (ask.Look dir back) h = (shard_place _ h, refl)
  ask-has_place (ask.PutDir client at dir name) h = (shard_place at.0 h.0, below_shards at.0 h.0)
  ask-has_place (ask.Insert client dir name node ts) h = (shard_place _ h.0, refl)
  ask-has_place (ask.Delete client dir name ts) h = (shard_place _ h, refl)
  ask-has_place (ask.Swap client dir name to_name ts) h = (shard_place _ h, refl)
  ask-has_place (ask.Mark client child dir name ts) h = (shard_place _ h.0, refl)
  ask-has_place (ask.Remove note) h = (shard_place _ h.1, refl)
  ask-has_place (ask.Settle node) h = (home_place node h, refl)
  ask-has_place (ask.TakeBack client node) h = (home_place node h, refl)
  ask-has_place (ask.DropOwed client node) h = (home_place node h, refl)
  ask-has_place (ask.DropRec dir) h = (shard_place _ h, refl)
  ask-has_place (ask.Clear at node) h = (shard_place at.0 h, below_shards at.0 h)
  ask-has_place (ask.Merge at) h = (shard_place at.0 h, below_shards at.0 h)
  ask-has_place (ask.LockRec job child dir name kind) h = (shard_place _ h, refl)
  ask-has_place (ask.LockRow job dir name side want reserves) h = (shard_place _ h, refl)
  ask-has_place (ask.Commit job client dir name to_dir to_name node ts) h = (shard_place _ h.0, refl)
  ask-has_place (ask.CutSource job dir name ts) h = (shard_place _ h, refl)
  ask-has_place (ask.Rebase job child dir name) h = (shard_place _ h.0, refl)
  ask-has_place (ask.UnlockRow job dir name) h = (shard_place _ h, refl)
  ask-has_place (ask.UnlockRec job child) h = (shard_place _ h, refl)
  ask-has_place (ask.Up dir) h = (shard_place _ h, refl)
  ask-has_place (ask.Strays at clients) h = visited_place at.0 h
  ask-has_place (ask.Names dir node) h = (shard_place _ h, refl)
  ask-has_place (ask.Put client at home) h = (store_place at.0 h.0, rw (h.0.0, below_stores at.0 h.0) refl)
  ask-has_place (ask.Get file) h = (file_place _ h, refl)
  ask-has_place (ask.SetSize client file size ts) h = (file_place _ h, refl)
  ask-has_place (ask.Drop file) h = (file_place _ h, refl)
  ask-has_place (ask.Submit client dir name to_dir to_name ts) h = (desk_place, refl)
  ask-has_place ask.TakeJob h = (desk_place, refl)
  ask-has_place (ask.Reply job reply at) h = (desk_place, refl)
  ask-has_place (ask.Collect job) h = (desk_place, refl)
  ask-has_place (ask.Stop client) h = (roster_place, refl)
  ask-has_place (ask.End client) h = (roster_place, refl)
  ask-has_place ask.Stopped h = (roster_place, refl)

  -- ---- the calls of a client
  index_low : (count n : ℕ) → IsCount count → nat_lt (n % count) count ≡ true
  index_low count n k = let some = k.0 in let low : n % count < count = omega arith in grind (arith, nat_tests)

  put_place : (n : ℕ) → IsStore counts n → IsStorePlace counts (64 + n)
  put_place n h = (grind (arith, nat_tests), grind (arith, nat_tests, h))

  rename_asks : (c : Client) (last : Ts) (dir : DirId) (name : List ℕ) (to_dir : DirId) (to_name : List ℕ) → DirThere counts dir → DirThere counts to_dir → (b : Bool)
      → AskThere counts (if b then ask.Swap c dir name to_name last else ask.Submit c dir name to_dir to_name last)
  rename_asks c last dir name to_dir to_name h i true = h
  rename_asks c last dir name to_dir to_name h i false = (h, i)

  call_asks : (c : Client) (puts : ℕ) (last : Ts) (x : Call) → CallThere counts x → AskThere counts (first_ask c (index_for counts c puts x) last x)
  call_asks c puts last (call.Lookup dir name) h = h.0
  call_asks c puts last (call.List dir) h = h.0
  call_asks c puts last call.StatRoot h = let some = good.shards.0 in grind (arith, nat_tests)
  call_asks c puts last (call.Stat dir name) h = h.0
  call_asks c puts last (call.Create dir name) h = (put_place _ (index_low counts.stores (c.0 + puts) good.stores), h.0)
  call_asks c puts last (call.Mkdir dir name) h = (index_low counts.shards (c.0 + puts) good.shards, h.0)
  call_asks c puts last (call.Unlink dir name) h = h.0
  call_asks c puts last (call.Rmdir dir name) h = h.0
  call_asks c puts last (call.Truncate file size) h = h.0
  call_asks c puts last (call.Rename dir name to_dir to_name) h = rename_asks c last dir name to_dir to_name h.0 h.1.0 (dir.0 == to_dir.0)

  reader_asks : (p : ReaderPhase) → ReaderThere counts p → AskThere counts (ask_reading p)
  reader_asks (phase.ListHelping dir note first) h = h
  reader_asks (phase.RootLooking first) h = let some = good.shards.0 in grind (arith, nat_tests)
  reader_asks (phase.StatReading dir name first) h = h
  reader_asks (phase.StatLooking dir name child first) h = h.1
  reader_asks (phase.StatHelping dir name note first) h = h.1
  reader_asks (phase.StatGetting dir name file row first) h = h.1
  reader_asks (phase.StatChecking dir name file row found got first) h = h

  writer_asks : (c : Client) (p : WriterPhase) → WriterThere counts p → AskThere counts (ask_writing c p)
  writer_asks c (phase.Inserting dir name node ts first) h = h
  writer_asks c (phase.Settling dir name node ts first at) h = h
  writer_asks c (phase.MakeHelping dir name node note first) h = h.1
  writer_asks c (phase.TakingBack dir name node reply at first) h = h.0
  writer_asks c (phase.Dropping x file ts first at) h = h.0
  writer_asks c (phase.Clearing x file ts first at) h = h
  writer_asks c (phase.Submitting dir name to_dir to_name ts first) h = h
  writer_asks c (phase.Collecting dir name to_dir to_name job ts first) h = tt

  remover_asks : (c : Client) (last : Ts) (p : RemoverPhase) → RemoverThere counts p → AskThere counts (ask_removing c last p)
  remover_asks c last (phase.RowReading dir name ts first) h = h
  remover_asks c last (phase.Marking dir name child ts first) h = (h.1, h.0)
  remover_asks c last (phase.MarkHelping dir name note ts first) h = h.1
  remover_asks c last (phase.Removing dir name child ts first) h = (h.1, h.0)
  remover_asks c last (phase.RecDropping dir name child ts first at) h = h.1
  remover_asks c last (phase.RecClearing dir name child ts first at) h = h

  pub phase_asks : (c : Client) (puts : ℕ) (last : Ts) (p : Phase) → PhaseThere counts p → AskThere counts (ask_of c (put_index counts c puts p) last p)
  phase_asks c puts last (Asking x) h = call_asks c puts last x h
  phase_asks c puts last (Reads p) h = reader_asks p h
  phase_asks c puts last (Writes p) h = writer_asks c p h
  phase_asks c puts last (Removes p) h = remover_asks c last p h
  phase_asks c puts last (Finished done) h = tt

  -- ---- the Renamer
  drop_asks : (node : Node) → NodeThere counts node → AskThere counts (drop_of node)
  drop_asks (Dir dir) h = h
  drop_asks (File file) h = h

  release_asks : (t : Task) (hold : Hold) → DirThere counts t.dir → DirThere counts t.to_dir → HoldThere counts hold → AskThere counts (release_of t hold)
  release_asks t job.TargetRow d to h = to
  release_asks t (job.TargetRec old) d to h = h
  release_asks t job.SourceRow d to h = d
  release_asks t (job.SourceRec source) d to h = h

  pub job_asks : (p : JobPhase) → JobPhaseThere counts p → AskThere counts (ask_job p)
  job_asks job.Waiting h = tt
  job_asks (job.SourceReading t) h = h.0
  job_asks (job.SourceSettling t file) h = h.1
  job_asks (job.FileLocking t file) h = h.0.0
  job_asks (job.RecLocking t source) h = h.1
  job_asks (job.RecHelping t note) h = h.1
  job_asks (job.DirLocking t source) h = h.0.0
  job_asks (job.TargetLocking t node) h = h.0.1
  job_asks (job.TargetHelping t node note) h = h.2
  job_asks (job.OldLocking t source old) h = h.2
  job_asks (job.OldHelping t source note) h = h.2
  job_asks (job.OldRowLocking t source old) h = h.0.1
  job_asks (job.Climbing t source old here) h = h.3
  job_asks (job.Committing t node) h = (h.0.1, h.1)
  job_asks (job.SourceCutting t node replaced at) h = h.0.0
  job_asks (job.Rebasing t source replaced at) h = (h.1, h.0.1)
  job_asks (job.TargetUnlocking t replaced at) h = h.0.1
  job_asks (job.OldDropping t old at) h = drop_asks old h.1
  job_asks (job.OldClearing t old at) h = h.1
  job_asks (job.Releasing t hold rest reply at) h = release_asks t hold h.0.0 h.0.1 h.1
  job_asks (job.Replying t reply at) h = h

  -- ---- the collector
  pub round_asks : (p : RoundPhase) → RoundThere counts p → AskThere counts (ask_round p)
  round_asks round.Starting h = tt
  round_asks (round.Listing v) h = h
  round_asks (round.Naming v node owner home rest) h = h.2
  round_asks (round.OwnerSettling v node rest) h = h.1
  round_asks (round.OwedDropping v node owner rest) h = h.1
  round_asks (round.MarkRemoving v note rest) h = h.1
  round_asks (round.MarkDropping v note rest) h = h.1.0
  round_asks (round.MarkClearing v note rest) h = h.1.1
  round_asks (round.DebtDropping v node rest) h = drop_asks node h.1
  round_asks (round.DebtClearing v node rest) h = h.0
  round_asks (round.Merging v) h = h
