-- What the clients of a script do.
use Rattle.std.specs.Prelude.{ℕ, List, [], ◌∷◌, map, ◌==◌, if◌then◌else◌, Bool, Option, None}
use Rattle.std.specs.List.{list_all}
use Rattle.next_ids.specs.declared.ids.Client.{Client}
use Rattle.next_ids.specs.declared.counts.Counts.{Counts}
use Rattle.next_steps.specs.JobPhases.{Waiting}
use Rattle.next_steps.specs.Rounds.{Starting}
use Rattle.next_rules.specs.Actors.{Plan, Ends, starts}
use Rattle.next_rules.specs.Worlds.{Setup}
use Rattle.next_walk.specs.declared.command.Command.{Command}
use Rattle.next_walk.specs.Commands.{is_in_form}
use Rattle.next_setup.specs.declared.script.Script.{Script}
use Rattle.next_setup.specs.Stops.{stop_in}
use Rattle.next_actor.specs.Plans.{plan_of}
use Rattle.next_actor.specs.Standings.{Standing, OfClient, OfRenamer, OfCollector}

-- a client carries out its commands in order, each call being made up to `tries` times
abbrev pub plans_in : (tries : ℕ) → List (Client × List Command) → ℕ → Plan
plans_in tries [] c = Ends
plans_in tries (list ∷ lists) c = if list.0.0 == c then plan_of tries list.1 else plans_in tries lists c

abbrev pub counts_in : Script → Counts
counts_in script = record { shards = script.shards; stores = script.stores }

-- a client stops where the list says; one without commands has nothing to stop in
abbrev pub stops_in : List (Client × ℕ) → List (Client × List Command) → ℕ → Option ℕ
stops_in stops [] c = None
stops_in stops (list ∷ lists) c = if list.0.0 == c then stop_in stops c else stops_in stops lists c

-- the setup of a script
abbrev pub setup_of : (tries : ℕ) → Script → Setup
setup_of tries script = record {
  counts = counts_in script;
  plans = plans_in tries script.commands;
  stops = stops_in script.stops script.commands;
}

-- all commands of the client are in form
abbrev pub are_in_form : Client × List Command → Bool
are_in_form list = list_all is_in_form list.1

-- the clients of these lists at their start, and before them the Renamer and the collector
abbrev pub started : (tries : ℕ) → Counts → List (Client × ℕ) → Client × List Command → Standing
started tries counts stops list = OfClient counts list.0 (starts (plan_of tries list.1) (stop_in stops list.0.0))

abbrev pub opening_cast : (tries : ℕ) → Counts → List (Client × ℕ) → List (Client × List Command) → List Standing
opening_cast tries counts stops lists =
    OfRenamer Waiting 0 ∷ OfCollector counts Starting 0 ∷ map (started tries counts stops) lists

abbrev pub members_in : List (Client × List Command) → List ℕ
members_in lists = map (λ list. list.0.0) lists
