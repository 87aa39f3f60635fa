-- What the clients of a script do.
use Rattle.std.specs.Prelude.{◌≡◌, ℕ, List, [], ◌∷◌, map, ◌==◌, if◌then◌else◌}
use Rattle.cfs_ids.specs.declared.ids.Client.{Client}
use Rattle.cfs_rules.specs.Worlds.{Plan, Ends, Progress, Setup, starts}
use Rattle.cfs_walk.specs.declared.command.Command.{Command}
use Rattle.cfs_setup.specs.declared.script.Script.{Script}
use Rattle.cfs_actor.specs.declared.client_state.ClientState.{ClientState}
use Rattle.cfs_actor.specs.Clients.{client_of, progress_of}
use Rattle.cfs_actor.specs.Plans.{plan_of}

-- how often a call that is answered Busy is made in all
abbrev pub tries : ℕ
tries = 1

-- a client carries out its commands in order
abbrev pub plans_in : List (Client × List Command) → ℕ → Plan
plans_in [] c = Ends
plans_in (list ∷ lists) c = if list.0.0 == c then plan_of tries list.1 else plans_in lists c

abbrev pub members_in : List (Client × List Command) → List ℕ
members_in lists = map (λ list. list.0.0) lists

-- the setup of a script
abbrev pub setup_of : Script → Setup
setup_of script = record { counts = record { shards = script.shards; stores = script.stores }; plans = plans_in script.commands }

-- a client with its progress
abbrev pub shown : ClientState → Client × Progress
shown state = (client_of state, progress_of state)

abbrev pub started : Client × List Command → Client × Progress
started list = (list.0, starts (plan_of tries list.1))

-- the states are those of the lists' clients, one after the other, at their start
abbrev pub StartsAs : List ClientState → List (Client × List Command) → Type 0
StartsAs states lists = map shown states ≡ map started lists
