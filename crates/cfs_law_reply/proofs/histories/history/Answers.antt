use Rattle.std.proofs.Common.{◌≡◌, ℕ, List, Result, Ok, Err, subst, sym, reverse}
use Rattle.std.specs.Result.{IfOk}
use Rattle.cfs_rules.specs.Histories.{history_of}
use Rattle.cfs_rules.specs.Members.{HasCallers, IsRising}
use Rattle.cfs_rules.specs.Worlds.{Setup, IsSetup, played}
use Rattle.cfs_core.specs.Finished.{IsRunOf}
use Rattle.cfs_law_reply.specs.Judged.{IsJudged}
use Rattle.cfs_law_reply.proofs.Judging.{of-run}
use Rattle.cfs_law_reply.proofs.histories.history.Goals as goal

-- what holds of a value holds of the result that has it
carried : {A E : Type 0} (r : Result A E) (x : A) (P : A → Type 0) → IfOk r (λ y. y ≡ x) → P x → IfOk r P
carried (Ok y) x P is p = subst P (sym is) p
carried (Err e) x P is p = _

pub returns-clause-judged : goal.returns-clause-judged
returns-clause-judged c = carried c.items_of.result (history_of (reverse c.args.run.now.entries) c.args.run.now.calls.items)
    (λ items. (setup : Setup) → IsSetup setup → (turns members : List ℕ) → IsRising members → HasCallers setup.plans members → IsRunOf members (played setup turns) c.args.run.now → IsJudged members (played setup turns) items)
    c.items_of.ensures
    (λ setup good turns members rising callers of_world. of-run setup good turns members rising callers c.args.run.now of_world)
