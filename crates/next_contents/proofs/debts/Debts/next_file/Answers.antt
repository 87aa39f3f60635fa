use Rattle.std.proofs.Common.{◌∙◌, sym, ap}
use Rattle.std.specs.Ordering.{nat_cmp}
use Rattle.std.specs.FinMap.{entries}
use Rattle.next_maps.specs.Walks.{first_of}
use Rattle.next_maps.proofs.Walking.{after-none}
use Rattle.next_steps.specs.declared.contents.Debt.{Debt}
use Rattle.std.specs.Prelude.{ℕ, List}
use Rattle.next_table.specs.Flat.{keyed}
use Rattle.next_contents.specs.Owed.{single}
use Rattle.next_contents.proofs.OwingWalk.{files-done}
use Rattle.next_contents.proofs.debts.Debts.next_file.Goals as goal

pub returns-in-None : goal.returns-in-None
returns-in-None c =
    c.next_dir.ensures ∙ ap (λ (es : List (ℕ × Debt)). first_of (keyed 1 (single es))) (after-none nat_cmp (entries c.args.self.now.dirs))
    ∙ ap first_of (sym (files-done _ (entries c.args.self.now.dirs) c.in-None.ensures))
