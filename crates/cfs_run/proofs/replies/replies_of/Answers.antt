use Rattle.std.proofs.Common.{◌≡◌, ◌+◌, ◌++◌, ◌∙◌, sym, ap, arith, drop, List, append_assoc, append-nil}
use Rattle.cfs_print.specs.declared.commands.CommandReply.{CommandReply}
use Rattle.cfs_run.specs.Replies.{replies_of, replies_of_client}
use Rattle.cfs_run.proofs.Following.{replies-next, replies-end}
use Rattle.cfs_run.proofs.replies.replies_of.Goals as goal

pub loop-i-init : goal.loop-i-init
loop-i-init c = ap (λ (table : List CommandReply). table ++ replies_of c.args.lists.now c.args.calls.now) c.new-table.ensures

pub loop-i-preserved : goal.loop-i-preserved
loop-i-preserved c =
    let i = c.loop-i.i in
    let later = replies_of (drop (i + 1) c.args.lists.now) (drop (i + 1) c.args.calls.now) in
    let list = c.index-lists-i.result in
    let added : c.add_replies.new.table ≡ c.loop-i.table ++ replies_of_client list c.index-calls-i.result = c.in_ok-add_replies.ensures ∙ ap (λ commands. c.loop-i.table ++ replies_of_client (list.0, commands) c.index-calls-i.result) c.as_slice.ensures in
    ap (λ (table : List CommandReply). table ++ later) added
    ∙ append_assoc c.loop-i.table (replies_of_client list c.index-calls-i.result) later
    ∙ ap (λ (more : List CommandReply). c.loop-i.table ++ more) (sym (replies-next c.args.lists.now c.args.calls.now i list c.index-calls-i.result c.index-lists-i.is c.index-calls-i.is (omega (arith, c.loop-i-test.true, c.min-i-end.ensures)) (omega (arith, c.loop-i-test.true, c.min-i-end.ensures))))
    ∙ c.loop-i.invariant

pub returns : goal.returns
returns c =
    let i = c.loop-i.i in
    sym (append-nil c.loop-i.table)
    ∙ ap (λ (more : List CommandReply). c.loop-i.table ++ more) (sym (replies-end c.args.lists.now c.args.calls.now i (omega (arith, c.loop-i-test.false, c.min-i-end.ensures))))
    ∙ c.loop-i.invariant
