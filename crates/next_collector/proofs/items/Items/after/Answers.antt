use Rattle.std.proofs.Common.{◌≡◌, ◌∙◌, sym, add-one}
use Rattle.std.specs.Prelude.{None}
use Rattle.next_collector.specs.Works.{work_after}
use Rattle.next_collector.proofs.Working.{heard-done}
use Rattle.next_collector.proofs.items.Items.after.Goals as goal

pub returns-in-None : goal.returns-in-None
returns-in-None c = λ counts v.
    let done : work_after c.args.self.work c.args.answer.now ≡ None = sym c.work_after.ensures ∙ c.in-None.is in
    rw add-one at (c.from.ensures counts v)
    ∙ heard-done counts v _ c.args.self.work _ c.args.answer.now c.args.self.suited done
