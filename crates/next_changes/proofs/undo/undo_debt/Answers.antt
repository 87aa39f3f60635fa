use Rattle.std.proofs.Common.{sym, ◌∙◌, ap}
use Rattle.std.specs.FinMap.{insert}
use Rattle.next_ids.specs.Maps.{Names}
use Rattle.next_steps.specs.declared.contents.Debt.{Debt}
use Rattle.next_rules.specs.Contents.{Shard, debt_key}
use Rattle.next_rules.specs.Changes.{end_debt}
use Rattle.next_contents.specs.Shown.{place_of}
use Rattle.next_changes.proofs.Undone.{set-back, cut-back, on-ok}
use Rattle.next_changes.proofs.undo.undo_debt.Goals as goal

pub returns-in-Some-clause-contents : goal.returns-in-Some-clause-contents
returns-in-Some-clause-contents c s debt set before =
    on-ok c.set_debt.result (c.set_debt.ensures.there c.requires) c.set_debt.ensures.ok
    ∙ ap (λ (t : Shard). record t { debts = insert t.debts (debt_key (place_of c.args.contents.now) c.args.node) c.in-Some.debt }) set
    ∙ ap (λ (debts : Names Debt). record s { debts = debts }) (set-back s.debts (debt_key (place_of c.args.contents.now) c.args.node) debt c.in-Some.debt (sym c.in-Some.is ∙ before))

pub returns-in-None-clause-contents : goal.returns-in-None-clause-contents
returns-in-None-clause-contents c s debt set before =
    c.end_debt.ensures.contents
    ∙ ap (λ (t : Shard). end_debt t (place_of c.args.contents.now) c.args.node) set
    ∙ ap (λ (debts : Names Debt). record s { debts = debts }) (cut-back s.debts (debt_key (place_of c.args.contents.now) c.args.node) debt (sym c.in-None.is ∙ before))
