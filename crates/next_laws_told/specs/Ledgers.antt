-- A ledger: for each client and each world, what the client's call has come to. What each turn tells of it.
use Rattle.std.specs.Prelude.{◌≡◌, ◌≢◌, ℕ, ◌<◌, ◌∷◌, ◌++◌, List, [], Bool, true, Option, ◌⊎◌}
use Rattle.std.specs.List.{list_all}
use Rattle.next_ids.specs.declared.ids.PlaceNo.{PlaceNo}
use Rattle.next_ids.specs.declared.ids.Stamp.{Stamp}
use Rattle.next_ids.specs.declared.call.Call.{Call}
use Rattle.next_ids.specs.declared.call.Reply.TheVariants.{Moved as MovedReply}
use Rattle.next_ids.specs.declared.ids.At.{At}
use Rattle.next_ids.specs.declared.ids.At.TheVariants.{Step}
use Rattle.next_ids.specs.declared.call.Reply.{Reply}
use Rattle.next_steps.specs.declared.call_done.CallDone.{CallDone}
use Rattle.next_steps.specs.declared.entry.Entry.{Entry}
use Rattle.next_steps.specs.declared.moves.Moved.{Moved}
use Rattle.next_steps.specs.Ends.{stamp_of}
use Rattle.next_rules.specs.Actors.{begun_in}
use Rattle.next_rules.specs.Worlds.{World, Turn, Setup, set_last, turn, opening, played}
use Rattle.next_laws_told.specs.Claims.{Claim, Idle, Open, begun_claim, claim_at, Leads}

abbrev pub Ledger : Type 0
Ledger = World → ℕ → Claim

-- a finished call has moved exactly where its point is a step
abbrev pub IsFormed : Reply → At → Type 0
IsFormed reply (Step s) = reply ≡ MovedReply
IsFormed reply at = reply ≢ MovedReply

-- the claim from which a step leads on: it is the client's, or the step begins a call of a client that has none
abbrev pub Starts : (s : Stamp) → (claim from : Claim) → Type 0
Starts s claim from = (from ≡ claim) ⊎ ((claim ≡ Idle) × ((call : Call) × (from ≡ Open call s)))

-- a call that the step ends, with what it had come to
pub record Ends (c : ℕ) (s : Stamp) (run : List (PlaceNo × Entry)) (moved : Option Moved) (from claim : Claim)
    (done done' : List CallDone) : Type 0 where
  pub call : CallDone
  pub more : done' ≡ done ++ call ∷ []
  pub last : call.last ≡ s
  pub formed : IsFormed call.reply call.at
  pub leads : Leads c s run moved from (claim_at call call.at)
  pub idle : claim ≡ Idle

-- what a step tells of a client: its calls that are done stay and its claim goes on, or its call ends
pub record ClientTold (c : ℕ) (s : Stamp) (run : List (PlaceNo × Entry)) (moved : Option Moved) (before after : Claim)
    (done done' : List CallDone) : Type 0 where
  pub from : Claim
  pub starts : Starts s before from
  pub goes : ((done' ≡ done) × Leads c s run moved from after) ⊎ Ends c s run moved from after done done'

-- what a step tells of all clients
pub record StepTold (claims : Ledger) (w w' : World) : Type 0 where
  pub place : PlaceNo
  pub entry : Entry
  pub later : w.lasts place.0 < entry.number
  pub run : w'.run ≡ (place, entry) ∷ w.run
  pub lasts : w'.lasts ≡ set_last w.lasts place.0 entry.number
  pub clients : (c : ℕ) → ClientTold c (stamp_of place entry) w'.run entry.moved (claims w c) (claims w' c)
      (w.actors.clients c).done (w'.actors.clients c).done

-- a turn is no step, or tells of all clients
abbrev pub TurnTold : Ledger → (w w' : World) → Type 0
TurnTold claims w w' = (w' ≡ w) ⊎ StepTold claims w w'

-- the ledger is right about all runs of the setup whose turns pass the test
pub record IsRight (setup : Setup) (may : Turn → Bool) (claims : Ledger) : Type 0 where
  pub opening : (c : ℕ) → claims (opening setup) c ≡ Idle
  pub begun : (turns : List Turn) → list_all may turns ≡ true → (c : ℕ)
      → begun_claim (claims (played setup turns) c) ≡ begun_in ((played setup turns).actors.clients c).current
  pub told : (turns : List Turn) → list_all may turns ≡ true → (t : Turn) → may t ≡ true
      → TurnTold claims (played setup turns) (turn setup.counts (played setup turns) t)
