-- By an answer of what is there, a call goes on with what is there.
use Rattle.std.proofs.Common.{ℕ, List, Bool, true, false}
use Rattle.std.specs.Prelude.{Option, Some, None, if◌then◌else◌, ◌==◌, ◌&&◌}
use Rattle.next_ids.specs.declared.ids.At.TheVariants.{Before}
use Rattle.next_ids.specs.declared.ids.DirId.{DirId}
use Rattle.next_ids.specs.declared.ids.FileId.{FileId}
use Rattle.next_ids.specs.declared.ids.Stamp.{Stamp}
use Rattle.next_ids.specs.declared.ids.Node.{Node}
use Rattle.next_ids.specs.declared.ids.Node.TheVariants.{Dir, File}
use Rattle.next_ids.specs.declared.counts.Counts.{Counts}
use Rattle.next_ids.specs.declared.time.Ts.{Ts}
use Rattle.next_ids.specs.declared.call.Call.{Call}
use Rattle.next_ids.specs.declared.call.Call.TheVariants as call
use Rattle.next_ids.specs.declared.call.Reply.TheVariants as reply
use Rattle.next_steps.specs.declared.answer.Answer.{Answer}
use Rattle.next_steps.specs.declared.answer.Answer.TheVariants as answer
use Rattle.next_steps.specs.Phases.{Phase, Asking, Reads, Writes, Removes, Finished, ReaderPhase, WriterPhase, RemoverPhase}
use Rattle.next_steps.specs.Phases as phase
use Rattle.next_steps.specs.Ends.{is_stamp, replied}
use Rattle.next_steps.specs.Readers.{heard_lookup, heard_list, heard_root, heard_row, heard_look, heard_get, heard_check, heard_reading}
use Rattle.next_steps.specs.Writers.{heard_put, heard_insert, heard_delete, heard_size, heard_rename, heard_submit, heard_collect, heard_writing}
use Rattle.next_steps.specs.Removers.{heard_name, heard_mark, heard_remove, heard_removing}
use Rattle.next_steps.specs.Calls.{heard_first, heard_as}
use Rattle.next_laws_reach.proofs.There.{DirThere, FileThere, NodeThere, CallThere, AnswerThere, ReaderThere, WriterThere, RemoverThere, PhaseThere}

module _ (counts : Counts) (place : ℕ) where
  -- ---- reading
  lookup-heard : (dir : DirId) (name : List ℕ) (s : Stamp) (a : Answer) → DirThere counts dir → AnswerThere counts place a → PhaseThere counts (heard_lookup dir name s a)
  lookup-heard dir name s (answer.Found node stamp) h a = a
  lookup-heard dir name s answer.Absent h a = tt
  lookup-heard dir name s (answer.Locked job) h a = tt
  lookup-heard dir name s _ h a = (h, tt)

  list-heard : (dir : DirId) (s : Stamp) (a : Answer) → DirThere counts dir → AnswerThere counts place a → PhaseThere counts (heard_list dir s a)
  list-heard dir s (answer.Rows rows) h a = tt
  list-heard dir s answer.NoDir h a = tt
  list-heard dir s (answer.Locked job) h a = tt
  list-heard dir s (answer.Leaving note) h a = a
  list-heard dir s _ h a = (h, tt)

  root-heard : (first s : Stamp) (a : Answer) → PhaseThere counts (heard_root first s a)
  root-heard first s (answer.Attr attr) = tt
  root-heard first s (answer.Locked job) = tt
  root-heard first s _ = tt

  row-heard : (dir : DirId) (name : List ℕ) (first s : Stamp) (a : Answer) → DirThere counts dir → AnswerThere counts place a → PhaseThere counts (heard_row dir name first s a)
  row-heard dir name first s answer.Absent h a = tt
  row-heard dir name first s (answer.Locked job) h a = tt
  row-heard dir name first s (answer.Found (Dir child) row) h a = (h, a)
  row-heard dir name first s (answer.Found (File file) row) h a = (h, a)
  row-heard dir name first s _ h a = h

  look-heard : (dir : DirId) (name : List ℕ) (child : DirId) (first s : Stamp) (a : Answer) → DirThere counts dir → DirThere counts child → AnswerThere counts place a → PhaseThere counts (heard_look dir name child first s a)
  look-heard dir name child first s (answer.Attr attr) h i a = tt
  look-heard dir name child first s (answer.Locked job) h i a = tt
  look-heard dir name child first s answer.NoDir h i a = h
  look-heard dir name child first s answer.Moved h i a = h
  look-heard dir name child first s (answer.Leaving note) h i a = (h, a)
  look-heard dir name child first s _ h i a = (h, i)

  get-heard : (dir : DirId) (name : List ℕ) (file : FileId) (row first s : Stamp) (a : Answer) → DirThere counts dir → FileThere counts file → PhaseThere counts (heard_get dir name file row first s a)
  get-heard dir name file row first s (answer.File size time) h i = h
  get-heard dir name file row first s answer.None h i = h
  get-heard dir name file row first s _ h i = (h, i)

  check-heard : (dir : DirId) (name : List ℕ) (file : FileId) (row : Stamp) (found : Option (ℕ × Ts)) (got first s : Stamp) (a : Answer) → DirThere counts dir → AnswerThere counts place a → PhaseThere counts (heard_check dir name file row found got first s a)
  check-heard dir name file row (Some found) got first s (answer.Found (File other) again) h a = by_test ((other.0 == file.0) && is_stamp again row)
    where
      by_test : (b : Bool) → PhaseThere counts (if b then replied (call.Stat dir name) first (Before got) s (reply.FileStat found.0 found.1) else heard_row dir name first s (answer.Found (File other) again))
      by_test true = tt
      by_test false = (h, a)
  check-heard dir name file row found got first s a h t = row-heard dir name first s a h t

  reading-heard : (p : ReaderPhase) (s : Stamp) (a : Answer) → ReaderThere counts p → AnswerThere counts place a → PhaseThere counts (heard_reading p s a)
  reading-heard (phase.ListHelping dir note first) s a h t = tt
  reading-heard (phase.RootLooking first) s a h t = root-heard first s a
  reading-heard (phase.StatReading dir name first) s a h t = row-heard dir name first s a h t
  reading-heard (phase.StatLooking dir name child first) s a h t = look-heard dir name child first s a h.0 h.1 t
  reading-heard (phase.StatHelping dir name note first) s a h t = h.0
  reading-heard (phase.StatGetting dir name file row first) s a h t = get-heard dir name file row first s a h.0 h.1
  reading-heard (phase.StatChecking dir name file row found got first) s a h t = check-heard dir name file row found got first s a h t

  -- ---- writing
  put-heard : (c : Call) (dir : DirId) (name : List ℕ) (ts : Ts) (s : Stamp) (a : Answer) → CallThere counts c → DirThere counts dir → AnswerThere counts place a → PhaseThere counts (heard_put c dir name ts s a)
  put-heard c dir name ts s (answer.New node) h i a = (i, a)
  put-heard c dir name ts s _ h i a = h

  insert-heard : (dir : DirId) (name : List ℕ) (node : Node) (ts : Ts) (first s : Stamp) (a : Answer) → DirThere counts dir → NodeThere counts node → AnswerThere counts place a → PhaseThere counts (heard_insert dir name node ts first s a)
  insert-heard dir name node ts first s (answer.Done replaced) h i a = i
  insert-heard dir name node ts first s answer.Exists h i a = (i, tt)
  insert-heard dir name node ts first s answer.Full h i a = (i, tt)
  insert-heard dir name node ts first s answer.NoDir h i a = (i, tt)
  insert-heard dir name node ts first s (answer.Locked job) h i a = (i, tt)
  insert-heard dir name node ts first s (answer.Leaving note) h i a = (i, a)
  insert-heard dir name node ts first s _ h i a = (h, i)

  delete-heard : (dir : DirId) (name : List ℕ) (ts : Ts) (s : Stamp) (a : Answer) → DirThere counts dir → AnswerThere counts place a → PhaseThere counts (heard_delete dir name ts s a)
  delete-heard dir name ts s (answer.Done (Some (File file))) h a = (a, h)
  delete-heard dir name ts s answer.Absent h a = tt
  delete-heard dir name ts s answer.IsDir h a = tt
  delete-heard dir name ts s (answer.Locked job) h a = tt
  delete-heard dir name ts s _ h a = (h, tt)

  size-heard : (file : FileId) (size : ℕ) (ts : Ts) (s : Stamp) (a : Answer) → FileThere counts file → PhaseThere counts (heard_size file size ts s a)
  size-heard file size ts s (answer.Done replaced) h = tt
  size-heard file size ts s answer.None h = tt
  size-heard file size ts s _ h = (h, tt)

  rename-heard : (dir : DirId) (name : List ℕ) (to_dir : DirId) (to_name : List ℕ) (ts : Ts) (s : Stamp) (a : Answer) → DirThere counts dir → DirThere counts to_dir → AnswerThere counts place a → PhaseThere counts (heard_rename dir name to_dir to_name ts s a)
  rename-heard dir name to_dir to_name ts s (answer.Done None) h i a = tt
  rename-heard dir name to_dir to_name ts s (answer.Done (Some (File file))) h i a = (a, h)
  rename-heard dir name to_dir to_name ts s answer.Same h i a = tt
  rename-heard dir name to_dir to_name ts s answer.Absent h i a = tt
  rename-heard dir name to_dir to_name ts s answer.TargetIsDir h i a = tt
  rename-heard dir name to_dir to_name ts s (answer.Locked job) h i a = tt
  rename-heard dir name to_dir to_name ts s answer.SourceIsDir h i a = (h, i)
  rename-heard dir name to_dir to_name ts s (answer.Submitted job) h i a = tt
  rename-heard dir name to_dir to_name ts s _ h i a = (h, (i, tt))

  submit-heard : (dir : DirId) (name : List ℕ) (to_dir : DirId) (to_name : List ℕ) (ts : Ts) (first : Stamp) (a : Answer) → DirThere counts dir → DirThere counts to_dir → PhaseThere counts (heard_submit dir name to_dir to_name ts first a)
  submit-heard dir name to_dir to_name ts first (answer.Submitted job) h i = tt
  submit-heard dir name to_dir to_name ts first _ h i = (h, i)

  collect-heard : (p : WriterPhase) (c : Call) (ts : Ts) (first s : Stamp) (a : Answer) → WriterThere counts p → AnswerThere counts place a → PhaseThere counts (heard_collect p c ts first s a)
  collect-heard p c ts first s (answer.Answered reply at) h a = a
  collect-heard p c ts first s _ h a = h

  writing-heard : (p : WriterPhase) (s : Stamp) (a : Answer) → WriterThere counts p → AnswerThere counts place a → PhaseThere counts (heard_writing p s a)
  writing-heard (phase.Inserting dir name node ts first) s a h t = insert-heard dir name node ts first s a h.0 h.1 t
  writing-heard (phase.Settling dir name node ts first at) s a h t = tt
  writing-heard (phase.MakeHelping dir name node note first) s a h t = (h.0, tt)
  writing-heard (phase.TakingBack dir name node reply at first) s a h t = h.1
  writing-heard (phase.Dropping c file ts first at) s a h t = h.1
  writing-heard (phase.Clearing c file ts first at) s a h t = tt
  writing-heard (phase.Submitting dir name to_dir to_name ts first) s a h t = submit-heard dir name to_dir to_name ts first a h.0 h.1
  writing-heard (phase.Collecting dir name to_dir to_name job ts first) s a h t = collect-heard (phase.Collecting dir name to_dir to_name job ts first) (call.Rename dir name to_dir to_name) ts first s a tt t

  -- ---- removing
  name-heard : (dir : DirId) (name : List ℕ) (ts : Option Ts) (first s : Stamp) (a : Answer) → DirThere counts dir → AnswerThere counts place a → PhaseThere counts (heard_name dir name ts first s a)
  name-heard dir name ts first s answer.Absent h a = tt
  name-heard dir name ts first s (answer.Found (File file) row) h a = tt
  name-heard dir name ts first s (answer.Found (Dir child) row) h a = (h, a)
  name-heard dir name ts first s (answer.Locked job) h a = tt
  name-heard dir name ts first s _ h a = h

  mark-heard : (dir : DirId) (name : List ℕ) (child : DirId) (ts : Ts) (first s : Stamp) (a : Answer) → DirThere counts dir → DirThere counts child → AnswerThere counts place a → PhaseThere counts (heard_mark dir name child ts first s a)
  mark-heard dir name child ts first s answer.Gone h i a = h
  mark-heard dir name child ts first s (answer.Leaving note) h i a = (h, a)
  mark-heard dir name child ts first s (answer.Locked job) h i a = tt
  mark-heard dir name child ts first s answer.NotEmpty h i a = tt
  mark-heard dir name child ts first s (answer.Done replaced) h i a = (h, i)
  mark-heard dir name child ts first s _ h i a = (h, i)

  remove-heard : (dir : DirId) (name : List ℕ) (child : DirId) (ts : Ts) (first s : Stamp) (a : Answer) → DirThere counts dir → DirThere counts child → PhaseThere counts (heard_remove dir name child ts first s a)
  remove-heard dir name child ts first s (answer.Done replaced) h i = (h, i)
  remove-heard dir name child ts first s (answer.Already stamp) h i = (h, i)
  remove-heard dir name child ts first s _ h i = (h, i)

  removing-heard : (p : RemoverPhase) (s : Stamp) (asked : Ts) (a : Answer) → RemoverThere counts p → AnswerThere counts place a → PhaseThere counts (heard_removing p s asked a)
  removing-heard (phase.RowReading dir name ts first) s asked a h t = name-heard dir name ts first s a h t
  removing-heard (phase.Marking dir name child ts first) s asked a h t = mark-heard dir name child asked first s a h.0 h.1 t
  removing-heard (phase.MarkHelping dir name note ts first) s asked a h t = h.0
  removing-heard (phase.Removing dir name child ts first) s asked a h t = remove-heard dir name child ts first s a h.0 h.1
  removing-heard (phase.RecDropping dir name child ts first at) s asked a h t = h.0
  removing-heard (phase.RecClearing dir name child ts first at) s asked a h t = tt

  -- ---- a call
  first-heard : (c : Call) (s : Stamp) (ts : Ts) (a : Answer) → CallThere counts c → AnswerThere counts place a → PhaseThere counts (heard_first c s ts a)
  first-heard (call.Lookup dir name) s ts a h t = lookup-heard dir name s a h.0 t
  first-heard (call.List dir) s ts a h t = list-heard dir s a h.0 t
  first-heard call.StatRoot s ts a h t = root-heard s s a
  first-heard (call.Stat dir name) s ts a h t = row-heard dir name s s a h.0 t
  first-heard (call.Create dir name) s ts a h t = put-heard (call.Create dir name) dir name ts s a h h.0 t
  first-heard (call.Mkdir dir name) s ts a h t = put-heard (call.Mkdir dir name) dir name ts s a h h.0 t
  first-heard (call.Unlink dir name) s ts a h t = delete-heard dir name ts s a h.0 t
  first-heard (call.Rmdir dir name) s ts a h t = name-heard dir name None s s a h.0 t
  first-heard (call.Truncate file size) s ts a h t = size-heard file size ts s a h.0
  first-heard (call.Rename dir name to_dir to_name) s ts a h t = rename-heard dir name to_dir to_name ts s a h.0 h.1.0 t

  pub phase-heard : (p : Phase) (s : Stamp) (ts : Ts) (a : Answer) → PhaseThere counts p → AnswerThere counts place a → PhaseThere counts (heard_as p s ts a)
  phase-heard (Asking c) s ts a h t = first-heard c s ts a h t
  phase-heard (Reads p) s ts a h t = reading-heard p s a h t
  phase-heard (Writes p) s ts a h t = writing-heard p s a h t
  phase-heard (Removes p) s ts a h t = removing-heard p s ts a h t
  phase-heard (Finished done) s ts a h t = h
