-- What a call makes of an answer, as far as its first and its last step go: from its first step on it keeps that, and it ends at
-- the step that it hears last.
use Rattle.std.proofs.Common.{◌≡◌, Bool, true, false, refl, subst}
use Rattle.std.specs.Prelude.{◌==◌, ◌&&◌, if◌then◌else◌, Option, Some, None}
use Rattle.next_ids.specs.declared.ids.FileId.{FileId}
use Rattle.next_ids.specs.declared.ids.DirId.{DirId}
use Rattle.next_ids.specs.declared.ids.Stamp.{Stamp}
use Rattle.next_ids.specs.declared.ids.Node.TheVariants.{Dir, File}
use Rattle.next_ids.specs.declared.time.Ts.{Ts}
use Rattle.next_ids.specs.declared.call.Call.{Call}
use Rattle.next_ids.specs.declared.call.Call.TheVariants as call
use Rattle.next_ids.specs.declared.call.Reply.TheVariants as reply
use Rattle.next_ids.specs.declared.ids.At.TheVariants.{Before}
use Rattle.next_steps.specs.declared.answer.Answer.{Answer}
use Rattle.next_steps.specs.declared.answer.Answer.TheVariants as answer
use Rattle.next_steps.specs.Phases.{Phase, Asking, Reads, Writes, Removes, Finished, ReaderPhase, WriterPhase, RemoverPhase}
use Rattle.next_steps.specs.Phases as phase
use Rattle.next_steps.specs.Ends.{is_stamp, replied}
use Rattle.next_steps.specs.Readers.{begun_reading, heard_lookup, heard_list, heard_row, heard_look, heard_get, heard_check, heard_root, heard_reading}
use Rattle.next_steps.specs.Writers.{begun_writing, heard_put, heard_delete, heard_size, heard_rename, heard_insert, heard_submit, heard_collect, heard_writing}
use Rattle.next_steps.specs.Removers.{begun_removing, heard_name, heard_mark, heard_remove, heard_removing}
use Rattle.next_steps.specs.Calls.{heard_first, heard_as}

-- the call has begun with its first step, and if it has ended, then at the step s
abbrev pub Continues : (first s : Stamp) → Phase → Type 0
Continues first s (Asking c) = ⊥
Continues first s (Reads p) = (begun_reading p).1 ≡ first
Continues first s (Writes p) = (begun_writing p).1 ≡ first
Continues first s (Removes p) = (begun_removing p).1 ≡ first
Continues first s (Finished done) = (done.first ≡ first) × (done.last ≡ s)

-- the call has made no step, or has forgotten it
abbrev pub is_asking : Phase → Bool
is_asking (Asking c) = true
is_asking p = false

-- ---- calls that read
row-continues : (dir : DirId) (name : _) (first s : Stamp) (a : Answer) → Continues first s (heard_row dir name first s a)
row-continues dir name first s answer.Absent = (refl, refl)
row-continues dir name first s (answer.Locked job) = (refl, refl)
row-continues dir name first s (answer.Found (Dir child) row) = refl
row-continues dir name first s (answer.Found (File file) row) = refl
row-continues dir name first s a = refl

look-continues : (dir : DirId) (name : _) (child : DirId) (first s : Stamp) (a : Answer) → Continues first s (heard_look dir name child first s a)
look-continues dir name child first s (answer.Attr attr) = (refl, refl)
look-continues dir name child first s (answer.Locked job) = (refl, refl)
look-continues dir name child first s answer.NoDir = refl
look-continues dir name child first s answer.Moved = refl
look-continues dir name child first s (answer.Leaving note) = refl
look-continues dir name child first s a = refl

get-continues : (dir : DirId) (name : _) (file : FileId) (row first s : Stamp) (a : Answer) → Continues first s (heard_get dir name file row first s a)
get-continues dir name file row first s (answer.File size time) = refl
get-continues dir name file row first s answer.None = refl
get-continues dir name file row first s a = refl

root-continues : (first s : Stamp) (a : Answer) → Continues first s (heard_root first s a)
root-continues first s (answer.Attr attr) = (refl, refl)
root-continues first s (answer.Locked job) = (refl, refl)
root-continues first s a = refl

check-continues : (dir : DirId) (name : _) (file : FileId) (row : Stamp) (found : _) (got first s : Stamp) (a : Answer) → Continues first s (heard_check dir name file row found got first s a)
check-continues dir name file row (Some found) got first s (answer.Found (File other) again) = by_test ((other.0 == file.0) && is_stamp again row)
  where
    by_test : (b : Bool) → Continues first s (if b then replied (call.Stat dir name) first (Before got) s (reply.FileStat found.0 found.1) else heard_row dir name first s (answer.Found (File other) again))
    by_test true = (refl, refl)
    by_test false = row-continues dir name first s (answer.Found (File other) again)
check-continues dir name file row (Some found) got first s (answer.Found (Dir child) again) = row-continues dir name first s (answer.Found (Dir child) again)
check-continues dir name file row None got first s (answer.Found node again) = row-continues dir name first s (answer.Found node again)
check-continues dir name file row found got first s a = row-continues dir name first s a

reading-continues : (p : ReaderPhase) (s : Stamp) (a : Answer) → Continues (begun_reading p).1 s (heard_reading p s a)
reading-continues (phase.ListHelping dir note first) s a = (refl, refl)
reading-continues (phase.RootLooking first) s a = root-continues first s a
reading-continues (phase.StatReading dir name first) s a = row-continues dir name first s a
reading-continues (phase.StatLooking dir name child first) s a = look-continues dir name child first s a
reading-continues (phase.StatHelping dir name note first) s a = refl
reading-continues (phase.StatGetting dir name file row first) s a = get-continues dir name file row first s a
reading-continues (phase.StatChecking dir name file row found got first) s a = check-continues dir name file row found got first s a

-- ---- calls that write
insert-continues : (dir : DirId) (name : _) (node : _) (ts : Ts) (first s : Stamp) (a : Answer) → Continues first s (heard_insert dir name node ts first s a)
insert-continues dir name node ts first s (answer.Done replaced) = refl
insert-continues dir name node ts first s answer.Exists = refl
insert-continues dir name node ts first s answer.Full = refl
insert-continues dir name node ts first s answer.NoDir = refl
insert-continues dir name node ts first s (answer.Locked job) = refl
insert-continues dir name node ts first s (answer.Leaving note) = refl
insert-continues dir name node ts first s a = refl

submit-continues : (dir : DirId) (name : _) (to_dir : DirId) (to_name : _) (ts : Ts) (first s : Stamp) (a : Answer) → Continues first s (heard_submit dir name to_dir to_name ts first a)
submit-continues dir name to_dir to_name ts first s (answer.Submitted job) = refl
submit-continues dir name to_dir to_name ts first s a = refl

collect-continues : (p : WriterPhase) (c : Call) (ts : Ts) (first s : Stamp) (a : Answer) → (begun_writing p).1 ≡ first → Continues first s (heard_collect p c ts first s a)
collect-continues p c ts first s (answer.Answered reply at) is = (refl, refl)
collect-continues p c ts first s a is = is

writing-continues : (p : WriterPhase) (s : Stamp) (a : Answer) → Continues (begun_writing p).1 s (heard_writing p s a)
writing-continues (phase.Inserting dir name node ts first) s a = insert-continues dir name node ts first s a
writing-continues (phase.Settling dir name node ts first at) s a = (refl, refl)
writing-continues (phase.MakeHelping dir name node note first) s a = refl
writing-continues (phase.TakingBack dir name node reply at first) s a = (refl, refl)
writing-continues (phase.Dropping c file ts first at) s a = refl
writing-continues (phase.Clearing c file ts first at) s a = (refl, refl)
writing-continues (phase.Submitting dir name to_dir to_name ts first) s a = submit-continues dir name to_dir to_name ts first s a
writing-continues (phase.Collecting dir name to_dir to_name job ts first) s a = collect-continues _ _ ts first s a refl

-- ---- rmdir
name-continues : (dir : DirId) (name : _) (ts : Option Ts) (first s : Stamp) (a : Answer) → Continues first s (heard_name dir name ts first s a)
name-continues dir name ts first s answer.Absent = (refl, refl)
name-continues dir name ts first s (answer.Found (File file) row) = (refl, refl)
name-continues dir name ts first s (answer.Found (Dir child) row) = refl
name-continues dir name ts first s (answer.Locked job) = (refl, refl)
name-continues dir name ts first s a = refl

mark-continues : (dir : DirId) (name : _) (child : DirId) (ts : Ts) (first s : Stamp) (a : Answer) → Continues first s (heard_mark dir name child ts first s a)
mark-continues dir name child ts first s answer.Gone = refl
mark-continues dir name child ts first s (answer.Leaving note) = refl
mark-continues dir name child ts first s (answer.Locked job) = (refl, refl)
mark-continues dir name child ts first s answer.NotEmpty = (refl, refl)
mark-continues dir name child ts first s (answer.Done replaced) = refl
mark-continues dir name child ts first s a = refl

remove-continues : (dir : DirId) (name : _) (child : DirId) (ts : Ts) (first s : Stamp) (a : Answer) → Continues first s (heard_remove dir name child ts first s a)
remove-continues dir name child ts first s (answer.Done replaced) = refl
remove-continues dir name child ts first s (answer.Already stamp) = refl
remove-continues dir name child ts first s a = refl

removing-continues : (p : RemoverPhase) (s : Stamp) (ts : Ts) (a : Answer) → Continues (begun_removing p).1 s (heard_removing p s ts a)
removing-continues (phase.RowReading dir name ts first) s asked a = name-continues dir name ts first s a
removing-continues (phase.Marking dir name child ts first) s asked a = mark-continues dir name child asked first s a
removing-continues (phase.MarkHelping dir name note ts first) s asked a = refl
removing-continues (phase.Removing dir name child ts first) s asked a = remove-continues dir name child ts first s a
removing-continues (phase.RecDropping dir name child ts first at) s asked a = refl
removing-continues (phase.RecClearing dir name child ts first at) s asked a = (refl, refl)

-- ---- the first step: a call that no longer asks has begun with it
lookup-begins : (dir : DirId) (name : _) (s : Stamp) (a : Answer) → is_asking (heard_lookup dir name s a) ≡ false → Continues s s (heard_lookup dir name s a)
lookup-begins dir name s (answer.Found node row) h = (refl, refl)
lookup-begins dir name s answer.Absent h = (refl, refl)
lookup-begins dir name s (answer.Locked job) h = (refl, refl)
lookup-begins dir name s a h = absurd (cc)

list-begins : (dir : DirId) (s : Stamp) (a : Answer) → is_asking (heard_list dir s a) ≡ false → Continues s s (heard_list dir s a)
list-begins dir s (answer.Rows rows) h = (refl, refl)
list-begins dir s answer.NoDir h = (refl, refl)
list-begins dir s (answer.Locked job) h = (refl, refl)
list-begins dir s (answer.Leaving note) h = refl
list-begins dir s a h = absurd (cc)

put-begins : (c : Call) (dir : DirId) (name : _) (ts : Ts) (s : Stamp) (a : Answer) → is_asking (heard_put c dir name ts s a) ≡ false → Continues s s (heard_put c dir name ts s a)
put-begins c dir name ts s (answer.New node) h = refl
put-begins c dir name ts s a h = absurd (cc)

delete-begins : (dir : DirId) (name : _) (ts : Ts) (s : Stamp) (a : Answer) → is_asking (heard_delete dir name ts s a) ≡ false → Continues s s (heard_delete dir name ts s a)
delete-begins dir name ts s (answer.Done (Some (File file))) h = refl
delete-begins dir name ts s answer.Absent h = (refl, refl)
delete-begins dir name ts s answer.IsDir h = (refl, refl)
delete-begins dir name ts s (answer.Locked job) h = (refl, refl)
delete-begins dir name ts s a h = absurd (cc)

size-begins : (file : FileId) (size : _) (ts : Ts) (s : Stamp) (a : Answer) → is_asking (heard_size file size ts s a) ≡ false → Continues s s (heard_size file size ts s a)
size-begins file size ts s (answer.Done replaced) h = (refl, refl)
size-begins file size ts s answer.None h = (refl, refl)
size-begins file size ts s a h = absurd (cc)

rename-begins : (dir : DirId) (name : _) (to_dir : DirId) (to_name : _) (ts : Ts) (s : Stamp) (a : Answer) → is_asking (heard_rename dir name to_dir to_name ts s a) ≡ false → Continues s s (heard_rename dir name to_dir to_name ts s a)
rename-begins dir name to_dir to_name ts s (answer.Done None) h = (refl, refl)
rename-begins dir name to_dir to_name ts s (answer.Done (Some (File file))) h = refl
rename-begins dir name to_dir to_name ts s answer.Same h = (refl, refl)
rename-begins dir name to_dir to_name ts s answer.Absent h = (refl, refl)
rename-begins dir name to_dir to_name ts s answer.TargetIsDir h = (refl, refl)
rename-begins dir name to_dir to_name ts s (answer.Locked job) h = (refl, refl)
rename-begins dir name to_dir to_name ts s answer.SourceIsDir h = refl
rename-begins dir name to_dir to_name ts s (answer.Submitted job) h = refl
rename-begins dir name to_dir to_name ts s a h = absurd (cc)

pub first-begins : (c : Call) (s : Stamp) (ts : Ts) (a : Answer) → is_asking (heard_first c s ts a) ≡ false → Continues s s (heard_first c s ts a)
first-begins (call.Lookup dir name) s ts a h = lookup-begins dir name s a h
first-begins (call.List dir) s ts a h = list-begins dir s a h
first-begins call.StatRoot s ts a h = root-continues s s a
first-begins (call.Stat dir name) s ts a h = row-continues dir name s s a
first-begins (call.Create dir name) s ts a h = put-begins _ dir name ts s a h
first-begins (call.Mkdir dir name) s ts a h = put-begins _ dir name ts s a h
first-begins (call.Unlink dir name) s ts a h = delete-begins dir name ts s a h
first-begins (call.Rmdir dir name) s ts a h = name-continues dir name None s s a
first-begins (call.Truncate file size) s ts a h = size-begins file size ts s a h
first-begins (call.Rename dir name to_dir to_name) s ts a h = rename-begins dir name to_dir to_name ts s a h

-- ---- later ones
abbrev pub FirstIs : Stamp → Phase → Type 0
FirstIs first (Asking c) = ⊥
FirstIs first (Reads p) = (begun_reading p).1 ≡ first
FirstIs first (Writes p) = (begun_writing p).1 ≡ first
FirstIs first (Removes p) = (begun_removing p).1 ≡ first
FirstIs first (Finished done) = ⊥

pub later-continues : (p : Phase) (first s : Stamp) (ts : Ts) (a : Answer) → FirstIs first p → Continues first s (heard_as p s ts a)
later-continues (Asking c) first s ts a is = absurd is
later-continues (Reads p) first s ts a is = subst (λ f. Continues f s (heard_reading p s a)) is (reading-continues p s a)
later-continues (Writes p) first s ts a is = subst (λ f. Continues f s (heard_writing p s a)) is (writing-continues p s a)
later-continues (Removes p) first s ts a is = subst (λ f. Continues f s (heard_removing p s ts a)) is (removing-continues p s ts a)
later-continues (Finished done) first s ts a is = absurd is
