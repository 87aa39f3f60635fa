-- Runs of clients alone, whose calls are no renames.
use Rattle.std.specs.Prelude.{◌≡◌, ℕ, Bool, true, false}
use Rattle.next_ids.specs.declared.ids.Actor.{Actor}
use Rattle.next_ids.specs.declared.ids.Actor.TheVariants.{Client as ClientActor, Renamer, Collector}
use Rattle.next_ids.specs.declared.call.Call.{Call}
use Rattle.next_ids.specs.declared.call.Call.TheVariants.{Rename}
use Rattle.next_ids.specs.declared.call.Reply.{Reply}
use Rattle.next_rules.specs.Actors.{Plan, Ends, Calls}
use Rattle.next_rules.specs.Setups.{IsSetup}
use Rattle.next_rules.specs.Worlds.{Setup, Turn}

abbrev pub is_plain : Call → Bool
is_plain (Rename dir name to_dir to_name) = false
is_plain call = true

-- whatever the replies are, no call of the plan is a rename
abbrev pub KeepsPlain : Plan → Type 0
KeepsPlain Ends = Unit {0}
KeepsPlain (Calls call next) = (is_plain call ≡ true) × ((reply : Reply) → KeepsPlain (next reply))

pub record IsPlain (setup : Setup) : Type 0 where
  pub good : IsSetup setup
  pub plans : (c : ℕ) → KeepsPlain (setup.plans c)

abbrev pub is_client : Actor → Bool
is_client (ClientActor client) = true
is_client Renamer = false
is_client Collector = false

-- the turn is a client's
abbrev pub by_client : Turn → Bool
by_client t = is_client t.actor
