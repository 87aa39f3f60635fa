-- The core of a script before its first turn.
use Rattle.std.proofs.Common.{◌≡◌, ℕ, suc, zero, List, [], ◌∷◌, refl, sym, arith, subst}
use Rattle.std.specs.Prelude.{IsTrue}
use Rattle.std.specs.List.{list_all}
use Rattle.cfs_ids.specs.declared.ids.Client.{Client}
use Rattle.cfs_walk.specs.declared.command.Command.{Command}
use Rattle.cfs_setup.specs.declared.script.Script.{Script}
use Rattle.cfs_setup.specs.Built.{are_built}
use Rattle.cfs_rules.specs.Worlds.{AreCounts, Progress, opening}
use Rattle.cfs_view.specs.Held.{Held, opening_held}
use Rattle.cfs_actor.specs.declared.client_state.ClientState.{ClientState}
use Rattle.cfs_core.specs.Clients.{progress_in}
use Rattle.cfs_core.specs.Counted.{IsCounted, sum_below}
use Rattle.cfs_core.specs.Opening.{setup_of, plans_in, StartsAs}
use Rattle.cfs_core.specs.Reach.{ProgressThere}
use Rattle.cfs_core.specs.Weave.{world_from}
use Rattle.cfs_core.proofs.Built.{plans-keep}
use Rattle.cfs_core.proofs.Plans.{keeps-there, starts-there}
use Rattle.cfs_core.proofs.Reaching.{root_there}
use Rattle.cfs_core.proofs.Shown.{progress_in-started}
use Rattle.cfs_core.proofs.Truths.{both}

sum_of_none : (n : ℕ) → sum_below n (λ p. 0) ≡ 0
sum_of_none zero = refl
sum_of_none (suc n) = let low = sum_of_none n in omega arith

-- nothing is counted at the start
pub opens-counted : (states : List ClientState) (lists : List (Client × List Command)) (h : Held) → h ≡ opening_held → StartsAs states lists → IsCounted [] h (progress_in states)
opens-counted states lists h is e =
    subst (λ (k : Held). IsCounted [] k (progress_in states)) (sym is)
    (subst (λ (cs : ℕ → Progress). IsCounted [] opening_held cs) (sym (progress_in-started states lists e))
    (record { total = sum_of_none 130; short = λ p. omega arith; low = λ p. omega arith; clients_low = λ c. omega arith }))

pub opens-world : (states : List ClientState) (script : Script) (h : Held) → h ≡ opening_held → StartsAs states script.commands → world_from [] h (progress_in states) ≡ opening (setup_of script)
opens-world states script h is e = λ j. world_from [] (is j) (progress_in-started states script.commands e j)

-- what the clients of a script ask is there
pub opens-there : (script : Script) → AreCounts (setup_of script).counts → IsTrue (list_all are_built script.commands) → (states : List ClientState) → StartsAs states script.commands → (c : ℕ) → ProgressThere (setup_of script).counts (progress_in states c)
opens-there script good built states e c =
    let counts = (setup_of script).counts in
    subst (λ (cs : ℕ → Progress). ProgressThere counts (cs c)) (sym (progress_in-started states script.commands e))
    (starts-there counts (plans_in script.commands c) (keeps-there counts (0 ∷ []) (plans_in script.commands c) (both _ _ (root_there counts good) refl) (plans-keep script.commands built c)))
