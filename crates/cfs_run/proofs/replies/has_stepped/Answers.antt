use Rattle.std.proofs.Common.{◌≡◌, ◌∙◌, sym, arith, length, drop, true}
use Rattle.std.specs.Prelude.{nat_lt}
use Rattle.std.proofs.lemmas.Bool.Decides.{nat_tests}
use Rattle.std.proofs.lemmas.List.{length-drop}
use Rattle.cfs_run.proofs.Following.{stepped-some}
use Rattle.cfs_run.proofs.replies.has_stepped.Goals as goal

pub returns-then-at-calls : goal.returns-then-at-calls
returns-then-at-calls c =
    let below : nat_lt c.args.at (length c.args.calls.now) ≡ true = grind (arith, nat_tests, c.if-at-calls.true) in
    below ∙ sym (stepped-some (drop c.args.at c.args.calls.now) c.args.begun (omega (arith, c.if-at-calls.true, length-drop c.args.at c.args.calls.now)))
