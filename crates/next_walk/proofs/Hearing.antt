-- What ends a command.
use Rattle.std.proofs.Common.{◌≡◌, ℕ, suc, zero, Bool, true, false, refl, ◌∙◌, arith}
use Rattle.next_ids.specs.declared.ids.JobNo.{JobNo}
use Rattle.next_ids.specs.declared.ids.Node.{Node}
use Rattle.next_ids.specs.declared.call.Call.{Call}
use Rattle.next_ids.specs.declared.call.Reply.{Reply}
use Rattle.next_ids.specs.declared.call.Reply.TheVariants.{Node as NodeReply, Busy}
use Rattle.next_walk.specs.declared.stage.Next.{Next}
use Rattle.next_walk.specs.Walks.{Course, Answered, is_busy, calling, heard_in}
use Rattle.next_walk.specs.Stages.{after_reply}

-- a call that is answered otherwise than Busy is not made again
heard-on : (left : ℕ) (call : Call) (next : Reply → Course) (reply : Reply) → is_busy reply ≡ false → heard_in (calling left call next) reply ≡ next reply
heard-on zero call next reply other = refl
heard-on (suc left) call next reply other = rw other refl

abbrev is_node : Reply → Bool
is_node (NodeReply node) = true
is_node reply = false

after_reply-ends : (more : ℕ) (next : Next) (reply : Reply) → is_node reply ≡ false → after_reply more next reply ≡ Answered reply
after_reply-ends more next reply other = grind arith

not_busy : (reply : Reply) → ((job : JobNo) → reply ≡ Busy job → ⊥) → is_busy reply ≡ false
not_busy (Busy job) other = absurd (other job refl)
not_busy reply other = refl

not_node : (reply : Reply) → ((node : Node) → reply ≡ NodeReply node → ⊥) → is_node reply ≡ false
not_node (NodeReply node) other = absurd (other node refl)
not_node reply other = refl

pub ends-otherwise : (more left : ℕ) (call : Call) (next : Next) (reply : Reply) → ((node : Node) → reply ≡ NodeReply node → ⊥) → ((job : JobNo) → reply ≡ Busy job → ⊥)
    → heard_in (calling left call (after_reply more next)) reply ≡ Answered reply
ends-otherwise more left call next reply no_node no_busy =
    heard-on left call (after_reply more next) reply (not_busy reply no_busy) ∙ after_reply-ends more next reply (not_node reply no_node)
