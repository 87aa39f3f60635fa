use Rattle.std.proofs.Common.{◌≡◌, sym, ◌∙◌, ap, subst}
use Rattle.std.specs.FinMap.{get, insert}
use Rattle.next_ids.specs.declared.ids.PlaceNo.{PlaceNo}
use Rattle.next_steps.specs.declared.contents.Debt.{Debt}
use Rattle.next_rules.specs.Contents.{Shard, debt_key}
use Rattle.next_contents.specs.Shown.{contents_of, place_of}
use Rattle.next_changes.proofs.Undone.{is-set, debt-there}
use Rattle.next_changes.proofs.owing.leave_both.Goals as goal

pub undo_debt-requires : goal.undo_debt-requires
undo_debt-requires c =
    let place = c.in-Err.ensures.place ∙ c.in_ok-before.ensures.place in
    let there = debt-there _ _ _ _ c.args.node (record { owner = c.args.owner; stamp = c.args.at }) (ap contents_of c.in-Err.ensures.err ∙ c.in_ok-before.ensures.ok) place in
    is-set _ _ _ _ (ap (λ (t : Shard). t.debts) there)

pub returns-in-Err-clause-err : goal.returns-in-Err-clause-err
returns-in-Err-clause-err c =
    let place = c.in-Err.ensures.place ∙ c.in_ok-before.ensures.place in
    let there = debt-there _ _ _ _ c.args.node (record { owner = c.args.owner; stamp = c.args.at }) (ap contents_of c.in-Err.ensures.err ∙ c.in_ok-before.ensures.ok) place in
    c.undo_debt.ensures.contents (contents_of c.args.contents.now) (record { owner = c.args.owner; stamp = c.args.at }) there
    (c.in_ok-before.ensures.before ∙ ap (λ (p : PlaceNo). get (contents_of c.args.contents.now).debts (debt_key p c.args.node)) (sym place))
