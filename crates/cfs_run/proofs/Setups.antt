-- A script that is in form has a setup.
use Rattle.std.proofs.Common.{List, [], ◌∷◌, refl}
use Rattle.std.specs.Prelude.{IsTrue}
use Rattle.std.specs.List.{list_all}
use Rattle.cfs_ids.specs.declared.ids.Client.{Client}
use Rattle.cfs_walk.specs.declared.command.Command.{Command}
use Rattle.cfs_rules.specs.Worlds.{AreCounts, IsSetup}
use Rattle.cfs_setup.specs.declared.script.Script.{Script}
use Rattle.cfs_setup.specs.Built.{are_built}
use Rattle.cfs_script.specs.Outcomes.{IsInForm}
use Rattle.cfs_core.specs.Opening.{setup_of}
use Rattle.cfs_core.proofs.Built.{is-setup, all-formed}
use Rattle.cfs_core.proofs.Truths.{and_left, and_right, both}
use Rattle.cfs_run.specs.Replies.{are_in_form}

pub counts-of : (script : Script) → IsInForm script → AreCounts (setup_of script).counts
counts-of script form = record { shards = form.shards; stores = form.stores }

pub setup-of : (script : Script) → IsInForm script → IsSetup (setup_of script)
setup-of script form = is-setup script (counts-of script form) form.built

pub all-in-form : (lists : List (Client × List Command)) → IsTrue (list_all are_built lists) → IsTrue (list_all are_in_form lists)
all-in-form [] built = refl
all-in-form (list ∷ lists) built = both _ _ (all-formed list.1 (and_left (are_built list) _ built)) (all-in-form lists (and_right (are_built list) _ built))
