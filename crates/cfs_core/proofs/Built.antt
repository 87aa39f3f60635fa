-- Commands that are built are in form, and make calls whose steps are built, in directories that the client knows.
use Rattle.std.proofs.Common.{◌≡◌, ℕ, List, [], ◌∷◌, Bool, true, false, ◌-◌, ◌==◌, refl, if◌then◌else◌}
use Rattle.std.specs.Prelude.{IsTrue}
use Rattle.std.specs.List.{list_all}
use Rattle.cfs_ids.specs.declared.ids.Client.{Client}
use Rattle.cfs_ids.specs.declared.call.Call.TheVariants as call
use Rattle.cfs_ids.specs.declared.call.Reply.TheVariants.{Refused}
use Rattle.cfs_ids.specs.declared.errno.Errno.TheVariants.{Enametoolong}
use Rattle.cfs_rules.specs.Worlds.{AreCounts, IsSetup, KeepsTo, knows}
use Rattle.cfs_walk.specs.declared.command.Command.{Command}
use Rattle.cfs_walk.specs.declared.command.Command.TheVariants.{Lookup, List as ListCommand, Create, Mkdir}
use Rattle.cfs_walk.specs.Commands.{is_in_form}
use Rattle.cfs_walk.specs.Walks.{Answered, calls_of, has_too_long, course_of}
use Rattle.cfs_setup.specs.declared.script.Script.{Script}
use Rattle.cfs_setup.specs.Built.{is_built, are_built}
use Rattle.cfs_actor.specs.Plans.{HasSteps, plan_of}
use Rattle.cfs_actor.proofs.Keeping.{Keeps, followed-keeps, one_call-keeps, listing-keeps}
use Rattle.cfs_actor.proofs.Steps.{keeps-steps}
use Rattle.cfs_core.specs.Opening.{plans_in, setup_of, tries}
use Rattle.cfs_core.proofs.Truths.{and_left, and_right, both}

formed : (command : Command) → IsTrue (is_built command) → IsTrue (is_in_form command)
formed (Lookup path) built = built
formed (ListCommand path) built = built
formed (Create path) built = built
formed (Mkdir path) built = built
formed command built = cc

pub all-formed : (commands : List Command) → IsTrue (list_all is_built commands) → IsTrue (list_all is_in_form commands)
all-formed [] built = refl
all-formed (command ∷ commands) built = both _ _ (formed command (and_left (is_built command) _ built)) (all-formed commands (and_right (is_built command) _ built))

-- ---- the directories that they ask in
calls-keep : (more : ℕ) (command : Command) → IsTrue (is_built command) → (dirs : List ℕ) → knows dirs 0 ≡ true → Keeps dirs (calls_of more command)
calls-keep more (Lookup path) built dirs known = one_call-keeps more path call.Lookup (λ dir name. refl) (λ dir name. refl) dirs known
calls-keep more (ListCommand path) built dirs known = listing-keeps more path dirs known
calls-keep more (Create path) built dirs known = one_call-keeps more path call.Create (λ dir name. refl) (λ dir name. refl) dirs known
calls-keep more (Mkdir path) built dirs known = one_call-keeps more path call.Mkdir (λ dir name. refl) (λ dir name. refl) dirs known
calls-keep more command built dirs known = cc

course-keeps : (tries : ℕ) (command : Command) → IsTrue (is_built command) → (dirs : List ℕ) → knows dirs 0 ≡ true → Keeps dirs (course_of tries command)
course-keeps tries command built dirs known = by_test (has_too_long command)
  where
    by_test : (b : Bool) → Keeps dirs (if b then Answered (Refused Enametoolong) else calls_of (tries - 1) command)
    by_test true = tt
    by_test false = calls-keep (tries - 1) command built dirs known

pub plan-keeps : (tries : ℕ) (commands : List Command) → IsTrue (list_all is_built commands) → (dirs : List ℕ) → knows dirs 0 ≡ true → KeepsTo dirs (plan_of tries commands)
plan-keeps tries [] built dirs known = tt
plan-keeps tries (command ∷ commands) built dirs known =
    followed-keeps dirs (course_of tries command) (plan_of tries commands) (course-keeps tries command (and_left (is_built command) _ built) dirs known) known
    (λ more told. plan-keeps tries commands (and_right (is_built command) _ built) more told)

pub all-steps : (tries : ℕ) (commands : List Command) → IsTrue (list_all is_built commands) → HasSteps (plan_of tries commands)
all-steps tries commands built = keeps-steps (0 ∷ []) (plan_of tries commands) (plan-keeps tries commands built (0 ∷ []) refl)

-- ---- the plans of a script's clients
pub plans-keep : (lists : List (Client × List Command)) → IsTrue (list_all are_built lists) → (c : ℕ) → KeepsTo (0 ∷ []) (plans_in lists c)
plans-keep [] built c = tt
plans-keep (list ∷ lists) built c = by_test (list.0.0 == c) (plans-keep lists (and_right (are_built list) _ built) c)
  where
    by_test : (b : Bool) → KeepsTo (0 ∷ []) (plans_in lists c) → KeepsTo (0 ∷ []) (if b then plan_of tries list.1 else plans_in lists c)
    by_test true later = plan-keeps 1 list.1 (and_left (are_built list) _ built) (0 ∷ []) refl
    by_test false later = later

pub is-setup : (script : Script) → AreCounts (setup_of script).counts → IsTrue (list_all are_built script.commands) → IsSetup (setup_of script)
is-setup script counts built = record { counts = counts; plans = plans-keep script.commands built }
