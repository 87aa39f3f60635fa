-- The course of a command: which calls it makes, each by the replies before it, and what it is answered.
use Rattle.std.specs.Prelude.{ℕ, suc, zero, ◌-◌, List, [], ◌∷◌, length, nat_lt, Bool, true, false, ◌||◌, Option, Some, None, if◌then◌else◌}
use Rattle.std.specs.List.{list_any}
use Rattle.next_ids.specs.declared.ids.DirId.{DirId}
use Rattle.next_ids.specs.declared.ids.FileId.{FileId}
use Rattle.next_ids.specs.declared.ids.Node.TheVariants.{Dir, File}
use Rattle.next_ids.specs.declared.errno.Errno.TheVariants.{Enoent, Enotdir, Eisdir, Enametoolong}
use Rattle.next_ids.specs.declared.call.Call.{Call}
use Rattle.next_ids.specs.declared.call.Call.TheVariants as call
use Rattle.next_ids.specs.declared.call.Reply.{Reply}
use Rattle.next_ids.specs.declared.call.Reply.TheVariants.{Node, Refused, Busy}
use Rattle.next_walk.specs.declared.command.Command.{Command}
use Rattle.next_walk.specs.declared.command.Command.TheVariants.{Lookup, List as ListCommand, Stat, Create, Mkdir, Unlink, Rmdir, Truncate, Rename}

-- it makes a call and goes on by the reply, or it is answered
pub data Course : Type 0 where
  Makes : Call → (Reply → Course) → Course
  Answered : Reply → Course

abbrev pub root : DirId
root = record { 0 = 0 }

abbrev pub is_busy : Reply → Bool
is_busy (Busy job) = true
is_busy reply = false

-- the call, which is made again where it is answered Busy, up to so many times more
abbrev pub calling : ℕ → Call → (Reply → Course) → Course
calling zero call next = Makes call next
calling (suc more) call next = Makes call (λ reply. if is_busy reply then calling more call next else next reply)

-- into the directory that a look-up found; a file there, and what else a look-up is answered, ends the command
abbrev pub into_dir : Reply → (DirId → Course) → Course
into_dir (Node (Dir dir)) go = go dir
into_dir (Node (File file)) go = Answered (Refused Enotdir)
into_dir reply go = Answered reply

-- on to the file that a look-up found; a directory there, and what else a look-up is answered, ends the command
abbrev pub to_file : Reply → (FileId → Course) → Course
to_file (Node (File file)) go = go file
to_file (Node (Dir dir)) go = Answered (Refused Eisdir)
to_file reply go = Answered reply

-- each component but the last is looked up, from this directory on; the last is a name in the directory reached
abbrev pub at_entry : ℕ → DirId → List (List ℕ) → (DirId → List ℕ → Course) → Course
at_entry more dir [] go = Answered (Refused Enoent)
at_entry more dir (name ∷ []) go = go dir name
at_entry more dir (name ∷ next ∷ names) go = calling more (call.Lookup dir name) (λ reply. into_dir reply (λ child. at_entry more child (next ∷ names) go))

-- what the directory, the file or the second name that was reached is for
abbrev pub then_list : ℕ → Reply → Course
then_list more reply = into_dir reply (λ dir. calling more (call.List dir) Answered)

abbrev pub then_truncate : ℕ → (size : ℕ) → Reply → Course
then_truncate more size reply = to_file reply (λ file. calling more (call.Truncate file size) Answered)

abbrev pub then_rename : ℕ → DirId → List ℕ → DirId → List ℕ → Course
then_rename more dir name to_dir to_name = calling more (call.Rename dir name to_dir to_name) Answered

-- a call of the last component's name
abbrev pub one_call : ℕ → List (List ℕ) → (DirId → List ℕ → Call) → Course
one_call more path make = at_entry more root path (λ dir name. calling more (make dir name) Answered)

-- the last component is looked up too
abbrev pub looked_up : ℕ → List (List ℕ) → (Reply → Course) → Course
looked_up more path go = at_entry more root path (λ dir name. calling more (call.Lookup dir name) go)

abbrev pub listing : ℕ → List (List ℕ) → Course
listing more [] = calling more (call.List root) Answered
listing more path = looked_up more path (then_list more)

abbrev pub stating : ℕ → List (List ℕ) → Course
stating more [] = calling more call.StatRoot Answered
stating more path = one_call more path call.Stat

abbrev pub truncating : ℕ → List (List ℕ) → ℕ → Course
truncating more path size = looked_up more path (then_truncate more size)

abbrev pub renaming : ℕ → List (List ℕ) → List (List ℕ) → Course
renaming more path to = at_entry more root path (λ dir name. at_entry more root to (then_rename more dir name))

-- the calls of a command, of whose components none is too long
abbrev pub calls_of : ℕ → Command → Course
calls_of more (Lookup path) = one_call more path call.Lookup
calls_of more (ListCommand path) = listing more path
calls_of more (Stat path) = stating more path
calls_of more (Create path) = one_call more path call.Create
calls_of more (Mkdir path) = one_call more path call.Mkdir
calls_of more (Unlink path) = one_call more path call.Unlink
calls_of more (Rmdir path) = one_call more path call.Rmdir
calls_of more (Truncate path size) = truncating more path size
calls_of more (Rename path to) = renaming more path to

-- a component has more bytes than a name may
abbrev pub is_too_long : List (List ℕ) → Bool
is_too_long path = list_any (λ component. nat_lt 255 (length component)) path

abbrev pub has_too_long : Command → Bool
has_too_long (Lookup path) = is_too_long path
has_too_long (ListCommand path) = is_too_long path
has_too_long (Stat path) = is_too_long path
has_too_long (Create path) = is_too_long path
has_too_long (Mkdir path) = is_too_long path
has_too_long (Unlink path) = is_too_long path
has_too_long (Rmdir path) = is_too_long path
has_too_long (Truncate path size) = is_too_long path
has_too_long (Rename path to) = is_too_long path || is_too_long to

-- the course of a command, which makes each call up to `tries` times; a component that is too long is answered without a call
abbrev pub course_of : (tries : ℕ) → Command → Course
course_of tries command = if has_too_long command then Answered (Refused Enametoolong) else calls_of (tries - 1) command

-- ---- a course, reply by reply
-- the call that it makes next
abbrev pub call_in : Course → Option Call
call_in (Makes call next) = Some call
call_in (Answered reply) = None

-- what the command is answered, once it makes no more calls
abbrev pub reply_in : Course → Option Reply
reply_in (Makes call next) = None
reply_in (Answered reply) = Some reply

-- the course once its call is answered
abbrev pub heard_in : Course → Reply → Course
heard_in (Makes call next) reply = next reply
heard_in (Answered answer) reply = Answered answer

-- the reply of the command, where it has one, and the replies that are left for the next
abbrev pub followed : Course → List Reply → Option Reply × List Reply
followed (Answered reply) replies = (Some reply, replies)
followed (Makes call next) [] = (None, [])
followed (Makes call next) (reply ∷ replies) = followed (next reply) replies
