-- The course that a walk still has before it, told by what it keeps.
use Rattle.std.specs.Prelude.{ℕ, List}
use Rattle.next_ids.specs.declared.ids.DirId.{DirId}
use Rattle.next_ids.specs.declared.call.Call.{Call}
use Rattle.next_ids.specs.declared.call.Call.TheVariants as call
use Rattle.next_ids.specs.declared.call.Reply.{Reply}
use Rattle.next_walk.specs.declared.aim.NameCall.{NameCall}
use Rattle.next_walk.specs.declared.aim.NameCall.TheVariants.{Lookup, Stat, Create, Mkdir, Unlink, Rmdir}
use Rattle.next_walk.specs.declared.aim.Aim.{Aim}
use Rattle.next_walk.specs.declared.aim.Aim.TheVariants.{Call as CallAim, List as ListAim, Truncate as TruncateAim, Rename as RenameAim}
use Rattle.next_walk.specs.declared.stage.Next.{Next}
use Rattle.next_walk.specs.declared.stage.Next.TheVariants.{Answer, Entry, Target, List as ListNext, Truncate as TruncateNext}
use Rattle.next_walk.specs.declared.stage.Stage.{Stage}
use Rattle.next_walk.specs.declared.stage.Stage.TheVariants.{Makes as MakesStage, Answered as AnsweredStage}
use Rattle.next_walk.specs.declared.walk.Walk.{Walk}
use Rattle.next_walk.specs.Walks.{Course, Answered, root, calling, into_dir, at_entry, then_list, then_truncate, then_rename}

-- the call of a name
abbrev pub call_of : NameCall → DirId → List ℕ → Call
call_of Lookup dir name = call.Lookup dir name
call_of Stat dir name = call.Stat dir name
call_of Create dir name = call.Create dir name
call_of Mkdir dir name = call.Mkdir dir name
call_of Unlink dir name = call.Unlink dir name
call_of Rmdir dir name = call.Rmdir dir name

-- what a command does at the last name of its path
abbrev pub at_aim : ℕ → Aim → DirId → List ℕ → Course
at_aim more (CallAim kind) dir name = calling more (call_of kind dir name) Answered
at_aim more ListAim dir name = calling more (call.Lookup dir name) (then_list more)
at_aim more (TruncateAim size) dir name = calling more (call.Lookup dir name) (then_truncate more size)
at_aim more (RenameAim to) dir name = at_entry more root to.items (then_rename more dir name)

-- what the reply to the call leads to
abbrev pub after_reply : ℕ → Next → Reply → Course
after_reply more Answer reply = Answered reply
after_reply more (Entry names aim) reply = into_dir reply (λ dir. at_entry more dir names.items (at_aim more aim))
after_reply more (Target names dir name) reply = into_dir reply (λ to_dir. at_entry more to_dir names.items (then_rename more dir name))
after_reply more ListNext reply = then_list more reply
after_reply more (TruncateNext size) reply = then_truncate more size reply

abbrev pub from_stage : ℕ → Stage → Course
from_stage more (MakesStage call left next) = calling left call (after_reply more next)
from_stage more (AnsweredStage reply) = Answered reply

abbrev pub course_in : Walk → Course
course_in walk = from_stage walk.more walk.stage
