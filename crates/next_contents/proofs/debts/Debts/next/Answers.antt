use Rattle.std.proofs.Common.{◌∙◌, sym, ap}
use Rattle.std.specs.Ordering.{nat_cmp}
use Rattle.std.specs.FinMap.{entries}
use Rattle.next_maps.specs.Walks.{first_of}
use Rattle.next_maps.proofs.Walking.{after-none}
use Rattle.next_steps.specs.declared.contents.Debt.{Debt}
use Rattle.std.specs.Prelude.{ℕ, List}
use Rattle.next_table.specs.Flat.{keyed}
use Rattle.next_contents.specs.Owed.{by_node}
use Rattle.next_contents.proofs.OwingWalk.{shown-whole, after-start}
use Rattle.next_contents.proofs.debts.Debts.next.Goals as goal

pub returns-in-None : goal.returns-in-None
returns-in-None c =
    let whole = shown-whole c.args.self.now.place c.next_file.result _ c.next_file.ensures in
    let files = ap (λ (es : List (ℕ × Debt)). first_of (keyed c.args.self.now.place.0 (by_node es (entries c.args.self.now.dirs)))) (after-none nat_cmp (entries c.args.self.now.files)) in
    rw c.in-None.is (whole ∙ files ∙ ap first_of (sym (after-start c.args.self.now.place.0 c.args.self.now.files c.args.self.now.dirs)))
