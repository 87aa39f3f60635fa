-- Whatever names a node names one that is there: its home is a place that the service has.
use Rattle.std.proofs.Common.{◌≡◌, ℕ, ◌+◌, ◌%◌, List, true, ◌⊎◌}
use Rattle.std.specs.Prelude.{nat_lt, nat_le}
use Rattle.next_ids.specs.declared.ids.DirId.{DirId}
use Rattle.next_ids.specs.declared.ids.FileId.{FileId}
use Rattle.next_ids.specs.declared.ids.At.{At}
use Rattle.next_ids.specs.declared.ids.Node.{Node}
use Rattle.next_ids.specs.declared.ids.Node.TheVariants.{Dir, File}
use Rattle.next_ids.specs.declared.note.MarkNote.{MarkNote}
use Rattle.next_ids.specs.declared.counts.Counts.{Counts}
use Rattle.next_ids.specs.declared.call.Call.{Call}
use Rattle.next_ids.specs.declared.call.Reply.{Reply}
use Rattle.next_ids.specs.declared.call.Reply.TheVariants as reply
use Rattle.next_steps.specs.declared.contents.Row.{Row}
use Rattle.next_steps.specs.declared.contents.DirRec.{DirRec}
use Rattle.next_steps.specs.declared.contents.FileRec.{FileRec}
use Rattle.next_steps.specs.declared.contents.Debt.{Debt}
use Rattle.next_steps.specs.declared.contents.Job.{Job}
use Rattle.next_steps.specs.declared.ask.Ask.{Ask}
use Rattle.next_steps.specs.declared.ask.Ask.TheVariants as ask
use Rattle.next_steps.specs.declared.answer.Answer.{Answer}
use Rattle.next_steps.specs.declared.answer.Answer.TheVariants as answer
use Rattle.next_steps.specs.declared.strays.Stray.{Stray}
use Rattle.next_steps.specs.declared.strays.Stray.TheVariants.{Owed, Marked, Debt as DebtStray}
use Rattle.next_steps.specs.Phases.{Phase, Asking, Reads, Writes, Removes, Finished, ReaderPhase, WriterPhase, RemoverPhase}
use Rattle.next_steps.specs.Phases as phase
use Rattle.next_steps.specs.Writers.{dir_of}
use Rattle.next_steps.specs.JobPhases.{Task, Hold, JobPhase}
use Rattle.next_steps.specs.JobPhases as job
use Rattle.next_steps.specs.Rounds.{RoundPhase}
use Rattle.next_steps.specs.Rounds as round
use Rattle.next_rules.specs.Contents.{Shard, Store, Served}
use Rattle.next_rules.specs.Trees.{owed_node}
use Rattle.next_rules.specs.Setups.{nodes_of}
use Rattle.next_rules.specs.Actors.{Plan, Ends, Calls, Progress}
use Rattle.next_rules.specs.Worlds.{Service, World}
use Rattle.next_laws_order.proofs.Lists.{Every}
use Rattle.next_laws_reach.proofs.Maps.{IfThere, EachValue}

module _ (counts : Counts) where
  -- ---- places, by the index of a shard or store, and by their numbers
  abbrev pub IsShard : ℕ → Type 0
  IsShard n = nat_lt n counts.shards ≡ true

  abbrev pub IsStore : ℕ → Type 0
  IsStore n = nat_lt n counts.stores ≡ true

  abbrev pub IsStorePlace : ℕ → Type 0
  IsStorePlace n = (nat_le 64 n ≡ true) × (nat_lt n (64 + counts.stores) ≡ true)

  -- a place that the collector visits
  abbrev pub IsVisited : ℕ → Type 0
  IsVisited n = IsShard n ⊎ IsStorePlace n

  -- ---- nodes
  abbrev pub DirThere : DirId → Type 0
  DirThere dir = IsShard (dir.0 % 64)

  abbrev pub FileThere : FileId → Type 0
  FileThere file = IsStore (file.0 % 64)

  abbrev pub NodeThere : Node → Type 0
  NodeThere (Dir dir) = DirThere dir
  NodeThere (File file) = FileThere file

  abbrev pub NoteThere : MarkNote → Type 0
  NoteThere note = DirThere note.child × DirThere note.dir

  abbrev pub ReplyThere : Reply → Type 0
  ReplyThere (reply.Node node) = NodeThere node
  ReplyThere r = Unit {0}

  abbrev pub CallThere : Call → Type 0
  CallThere c = Every NodeThere (nodes_of c)

  -- ---- what a place of the round has of clients
  abbrev pub StrayThere : ℕ → Stray → Type 0
  StrayThere place (Owed node owner home) = NodeThere node × DirThere home
  StrayThere place (Marked note) = NoteThere note
  StrayThere place (DebtStray node owner) = IsShard place × NodeThere node

  -- ---- what the places have
  abbrev pub BackThere : DirId × List ℕ → Type 0
  BackThere back = DirThere back.0

  abbrev pub RowThere : List ℕ → Row → Type 0
  RowThere key row = NodeThere row.node

  abbrev pub RecThere : ℕ → DirRec → Type 0
  RecThere d r = IsShard (d % 64) × IfThere BackThere r.back × IfThere NoteThere r.mark

  abbrev pub DebtThere : List ℕ → Debt → Type 0
  DebtThere key debt = NodeThere (owed_node key)

  pub record ShardThere (s : Shard) : Type 0 where
    pub rows : EachValue RowThere s.rows
    pub recs : EachValue RecThere s.recs
    pub debts : EachValue DebtThere s.debts

  abbrev pub FileRecThere : ℕ → FileRec → Type 0
  FileRecThere f r = IsStore (f % 64) × DirThere r.home

  abbrev pub StoreThere : Store → Type 0
  StoreThere s = EachValue FileRecThere s

  abbrev pub RepliedThere : Reply × At → Type 0
  RepliedThere replied = ReplyThere replied.0

  abbrev pub JobThere : Job → Type 0
  JobThere j = DirThere j.dir × DirThere j.to_dir × IfThere RepliedThere j.answer

  pub record ServiceThere (v : Service) : Type 0 where
    pub shard : ShardThere v.shard
    pub store : StoreThere v.store
    pub desk : Every JobThere v.desk

  -- ---- what is asked, and answered
  abbrev pub AskThere : Ask → Type 0
  AskThere (ask.Read dir name) = DirThere dir
  AskThere (ask.List dir) = DirThere dir
  AskThere (ask.Look dir back) = DirThere dir
  AskThere (ask.PutDir client at dir name) = IsShard at.0 × DirThere dir
  AskThere (ask.Insert client dir name node ts) = DirThere dir × NodeThere node
  AskThere (ask.Delete client dir name ts) = DirThere dir
  AskThere (ask.Swap client dir name to_name ts) = DirThere dir
  AskThere (ask.Mark client child dir name ts) = DirThere child × DirThere dir
  AskThere (ask.Remove note) = NoteThere note
  AskThere (ask.Settle node) = NodeThere node
  AskThere (ask.TakeBack client node) = NodeThere node
  AskThere (ask.DropOwed client node) = NodeThere node
  AskThere (ask.DropRec dir) = DirThere dir
  AskThere (ask.Clear at node) = IsShard at.0
  AskThere (ask.Merge at) = IsShard at.0
  AskThere (ask.LockRec job child dir name kind) = DirThere child
  AskThere (ask.LockRow job dir name side want reserves) = DirThere dir
  AskThere (ask.Commit job client dir name to_dir to_name node ts) = DirThere to_dir × NodeThere node
  AskThere (ask.CutSource job dir name ts) = DirThere dir
  AskThere (ask.Rebase job child dir name) = DirThere child × DirThere dir
  AskThere (ask.UnlockRow job dir name) = DirThere dir
  AskThere (ask.UnlockRec job child) = DirThere child
  AskThere (ask.Up dir) = DirThere dir
  AskThere (ask.Strays at clients) = IsVisited at.0
  AskThere (ask.Names dir node) = DirThere dir
  AskThere (ask.Put client at home) = IsStorePlace at.0 × DirThere home
  AskThere (ask.Get file) = FileThere file
  AskThere (ask.SetSize client file size ts) = FileThere file
  AskThere (ask.Drop file) = FileThere file
  AskThere (ask.Submit client dir name to_dir to_name ts) = DirThere dir × DirThere to_dir
  AskThere (ask.Reply job reply at) = ReplyThere reply
  AskThere a = Unit {0}

  -- by the place that answers
  abbrev pub AnswerThere : ℕ → Answer → Type 0
  AnswerThere place (answer.Found node stamp) = NodeThere node
  AnswerThere place (answer.Leaving note) = NoteThere note
  AnswerThere place (answer.New node) = NodeThere node
  AnswerThere place (answer.Done found) = IfThere NodeThere found
  AnswerThere place (answer.Changed found) = IfThere NodeThere found
  AnswerThere place (answer.Parent dir) = DirThere dir
  AnswerThere place (answer.Strays strays) = Every (StrayThere place) strays
  AnswerThere place (answer.Job job client dir name to_dir to_name ts) = DirThere dir × DirThere to_dir
  AnswerThere place (answer.Answered reply at) = ReplyThere reply
  AnswerThere place a = Unit {0}

  -- what serving an ask gives, where the contents are to be such
  pub record ServedThere {C : Type 0} (ContentsThere : C → Type 0) (place : ℕ) (s : Served C) : Type 0 where
    pub contents : ContentsThere s.contents
    pub answer : AnswerThere place s.answer

  -- ---- the calls of a client
  abbrev pub ReaderThere : ReaderPhase → Type 0
  ReaderThere (phase.ListHelping dir note first) = NoteThere note
  ReaderThere (phase.RootLooking first) = Unit {0}
  ReaderThere (phase.StatReading dir name first) = DirThere dir
  ReaderThere (phase.StatLooking dir name child first) = DirThere dir × DirThere child
  ReaderThere (phase.StatHelping dir name note first) = DirThere dir × NoteThere note
  ReaderThere (phase.StatGetting dir name file row first) = DirThere dir × FileThere file
  ReaderThere (phase.StatChecking dir name file row found got first) = DirThere dir

  abbrev pub WriterThere : WriterPhase → Type 0
  WriterThere (phase.Inserting dir name node ts first) = DirThere dir × NodeThere node
  WriterThere (phase.Settling dir name node ts first at) = NodeThere node
  WriterThere (phase.MakeHelping dir name node note first) = NodeThere node × NoteThere note
  WriterThere (phase.TakingBack dir name node reply at first) = NodeThere node × ReplyThere reply
  WriterThere (phase.Dropping c file ts first at) = FileThere file × DirThere (dir_of c)
  WriterThere (phase.Clearing c file ts first at) = DirThere (dir_of c)
  WriterThere (phase.Submitting dir name to_dir to_name ts first) = DirThere dir × DirThere to_dir
  WriterThere (phase.Collecting dir name to_dir to_name job ts first) = Unit {0}

  abbrev pub RemoverThere : RemoverPhase → Type 0
  RemoverThere (phase.RowReading dir name ts first) = DirThere dir
  RemoverThere (phase.Marking dir name child ts first) = DirThere dir × DirThere child
  RemoverThere (phase.MarkHelping dir name note ts first) = DirThere dir × NoteThere note
  RemoverThere (phase.Removing dir name child ts first) = DirThere dir × DirThere child
  RemoverThere (phase.RecDropping dir name child ts first at) = DirThere dir × DirThere child
  RemoverThere (phase.RecClearing dir name child ts first at) = DirThere dir

  abbrev pub PhaseThere : Phase → Type 0
  PhaseThere (Asking c) = CallThere c
  PhaseThere (Reads p) = ReaderThere p
  PhaseThere (Writes p) = WriterThere p
  PhaseThere (Removes p) = RemoverThere p
  PhaseThere (Finished done) = ReplyThere done.reply

  -- ---- a client: each call of its plan is on such nodes, as long as replies tell such nodes
  abbrev pub PlanThere : Plan → Type 0
  PlanThere Ends = Unit {0}
  PlanThere (Calls c next) = CallThere c × ((r : Reply) → ReplyThere r → PlanThere (next r))

  pub record ProgressThere (p : Progress) : Type 0 where
    pub current : IfThere PhaseThere p.current
    pub rest : (r : Reply) → ReplyThere r → PlanThere (p.rest r)

  -- ---- the Renamer
  abbrev pub TaskThere : Task → Type 0
  TaskThere t = DirThere t.dir × DirThere t.to_dir

  abbrev pub HoldThere : Hold → Type 0
  HoldThere job.TargetRow = Unit {0}
  HoldThere (job.TargetRec old) = DirThere old
  HoldThere job.SourceRow = Unit {0}
  HoldThere (job.SourceRec source) = DirThere source

  abbrev pub JobPhaseThere : JobPhase → Type 0
  JobPhaseThere job.Waiting = Unit {0}
  JobPhaseThere (job.SourceReading t) = TaskThere t
  JobPhaseThere (job.SourceSettling t file) = TaskThere t × FileThere file
  JobPhaseThere (job.FileLocking t file) = TaskThere t × FileThere file
  JobPhaseThere (job.RecLocking t source) = TaskThere t × DirThere source
  JobPhaseThere (job.RecHelping t note) = TaskThere t × NoteThere note
  JobPhaseThere (job.DirLocking t source) = TaskThere t × DirThere source
  JobPhaseThere (job.TargetLocking t node) = TaskThere t × NodeThere node
  JobPhaseThere (job.TargetHelping t node note) = TaskThere t × NodeThere node × NoteThere note
  JobPhaseThere (job.OldLocking t source old) = TaskThere t × DirThere source × DirThere old
  JobPhaseThere (job.OldHelping t source note) = TaskThere t × DirThere source × NoteThere note
  JobPhaseThere (job.OldRowLocking t source old) = TaskThere t × DirThere source × DirThere old
  JobPhaseThere (job.Climbing t source old here) = TaskThere t × DirThere source × IfThere DirThere old × DirThere here
  JobPhaseThere (job.Committing t node) = TaskThere t × NodeThere node
  JobPhaseThere (job.SourceCutting t node replaced at) = TaskThere t × NodeThere node × IfThere NodeThere replaced
  JobPhaseThere (job.Rebasing t source replaced at) = TaskThere t × DirThere source × IfThere NodeThere replaced
  JobPhaseThere (job.TargetUnlocking t replaced at) = TaskThere t × IfThere NodeThere replaced
  JobPhaseThere (job.OldDropping t old at) = TaskThere t × NodeThere old
  JobPhaseThere (job.OldClearing t old at) = TaskThere t
  JobPhaseThere (job.Releasing t hold rest reply at) =
      TaskThere t × HoldThere hold × Every HoldThere rest × ReplyThere reply
  JobPhaseThere (job.Replying t reply at) = ReplyThere reply

  -- ---- the collector
  abbrev pub RoundThere : RoundPhase → Type 0
  RoundThere round.Starting = Unit {0}
  RoundThere (round.Listing v) = IsVisited v.place
  RoundThere (round.Naming v node owner home rest) =
      IsVisited v.place × NodeThere node × DirThere home × Every (StrayThere v.place) rest
  RoundThere (round.OwnerSettling v node rest) = IsVisited v.place × NodeThere node × Every (StrayThere v.place) rest
  RoundThere (round.OwedDropping v node owner rest) =
      IsVisited v.place × NodeThere node × Every (StrayThere v.place) rest
  RoundThere (round.MarkRemoving v note rest) = IsVisited v.place × NoteThere note × Every (StrayThere v.place) rest
  RoundThere (round.MarkDropping v note rest) = IsVisited v.place × NoteThere note × Every (StrayThere v.place) rest
  RoundThere (round.MarkClearing v note rest) = IsVisited v.place × NoteThere note × Every (StrayThere v.place) rest
  RoundThere (round.DebtDropping v node rest) = IsShard v.place × NodeThere node × Every (StrayThere v.place) rest
  RoundThere (round.DebtClearing v node rest) = IsShard v.place × Every (StrayThere v.place) rest
  RoundThere (round.Merging v) = IsShard v.place

  -- ---- a world
  pub record WorldThere (w : World) : Type 0 where
    pub service : ServiceThere w.service
    pub clients : (c : ℕ) → ProgressThere (w.actors.clients c)
    pub job : JobPhaseThere w.actors.job
    pub round : RoundThere w.actors.round
