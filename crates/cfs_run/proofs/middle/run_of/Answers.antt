use Rattle.std.proofs.Common.{ℕ, List, IsTrue, subst, sym, ap, ◌∙◌, map, Ok}
use Rattle.std.specs.List.{list_all}
use Rattle.cfs_rules.specs.Worlds.{World, run_of}
use Rattle.cfs_core.specs.Clients.{number_in}
use Rattle.cfs_core.specs.Cores.{members_of}
use Rattle.cfs_core.specs.Finished.{IsRunOf}
use Rattle.cfs_law_tree.specs.Drives.{are_turns_of}
use Rattle.cfs_setup.specs.Lists.{turns_in}
use Rattle.cfs_run.proofs.Members.{turns-of}
use Rattle.cfs_run.proofs.Setups.{counts-of}
use Rattle.cfs_run.specs.Runs.{world_after}
use Rattle.cfs_run.proofs.middle.run_of.Goals as goal

pub begin-requires : goal.begin-requires
begin-requires c = record { counts = counts-of c.args.script.now c.requires.form; built = c.requires.form.built }

pub drive-requires : goal.drive-requires
drive-requires c = subst (λ (ms : List ℕ). IsTrue (list_all (are_turns_of ms) c.args.script.now.turns)) (sym c.in-Ok.ensures.members) (turns-of c.args.script.now.commands c.args.script.now.turns c.requires.form.members)

pub returns-clause-run : goal.returns-clause-run
returns-clause-run c =
    let world = c.drive.ensures.done (c.in-Ok-Done.is ∙ ap Ok c.in-Ok-Done.field-0-is) ∙ (λ j. run_of (c.in-Ok.ensures.counts j) (map number_in (turns_in c.args.script.now.turns)) (c.in-Ok.ensures.world j)) in
    subst (λ (ms : List ℕ). IsRunOf ms (world_after c.args.script.now) c.in-Ok-finish.run') (c.drive.ensures.members ∙ c.in-Ok.ensures.members)
    (subst (λ (w : World). IsRunOf (members_of c.drive.new.core) w c.in-Ok-finish.run') world c.in-Ok-finish.ensures.run)
