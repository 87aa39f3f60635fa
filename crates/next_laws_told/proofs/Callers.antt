-- A client whose plan has no call makes none, so that the client of each move is a member.
use Rattle.std.proofs.Common.{◌≡◌, ℕ, List, [], ◌∷◌, Bool, true, false, refl, sym, ◌∙◌, ap, arith}
use Rattle.std.specs.Prelude.{if◌then◌else◌, ◌==◌, Option, Some, None}
use Rattle.std.proofs.lemmas.Bool.Decides.{nat_tests}
use Rattle.next_ids.specs.declared.ids.Actor.{Actor}
use Rattle.next_ids.specs.declared.ids.Actor.TheVariants.{Client as ClientActor, Renamer, Collector}
use Rattle.next_ids.specs.declared.ids.PlaceNo.{PlaceNo}
use Rattle.next_ids.specs.declared.counts.Counts.{Counts}
use Rattle.next_steps.specs.declared.ask.Ask.{Ask}
use Rattle.next_steps.specs.declared.call_done.CallDone.{CallDone}
use Rattle.next_steps.specs.declared.entry.Entry.{Entry}
use Rattle.next_steps.specs.declared.moves.Moved.{Moved}
use Rattle.next_steps.specs.declared.moves.Move.{Move as MoveFacts}
use Rattle.next_steps.specs.declared.moves.Moved.TheVariants.{Move, Forget}
use Rattle.next_steps.specs.Phases.{Phase}
use Rattle.next_rules.specs.Actors.{Ends, Actors, Progress, Doing, Nothing, Stops, Leaves, Goes, first_of, doing_of, doing, is_due, hears_doing, hears, heard_by, next_ask, begun_in}
use Rattle.next_rules.specs.Contents.{Served}
use Rattle.next_rules.specs.Members.{HasCallers}
use Rattle.next_rules.specs.Worlds.{Service, World, Turn, Setup, after_served, turn_asking, turn, run_of, opening, played, serve, stamped, step_number}
use Rattle.next_laws_order.proofs.Lines.{client_lines}
use Rattle.next_laws_told.proofs.Runs.{moved_in}
use Rattle.next_laws_told.proofs.Keys.{keys_at, own_keys}
use Rattle.next_laws_told.proofs.AllLines.{HasMover}

-- a client that has made no call
pub record IsIdle (p : Progress) : Type 0 where
  pub current : p.current ≡ None
  pub done : p.done ≡ []

goes_no_call : (ended due : Bool) (current : Option Phase) (q : Phase) → current ≡ None → doing_of ended due current ≡ Goes q → ⊥
goes_no_call true due current q none h = cc
goes_no_call false true current q none h = cc
goes_no_call false false None q none h = cc
goes_no_call false false (Some r) q none h = cc

hears-idle : (p : Progress) (place : PlaceNo) (entry : Entry) → IsIdle p → IsIdle (hears p place entry)
hears-idle p place entry h = by_doing (doing p) refl
  where
    by_doing : (d : Doing) → doing p ≡ d → IsIdle (hears_doing p place entry d)
    by_doing Nothing is = h
    by_doing Stops is = record { current = h.current; done = h.done }
    by_doing Leaves is = record { current = h.current; done = h.done }
    by_doing (Goes q) is = absurd (goes_no_call p.ended (is_due p.stop p.steps) p.current q h.current is)

module _ (setup : Setup) where
  abbrev pub CallersOnly : (ℕ → Progress) → Type 0
  CallersOnly clients = (i : ℕ) → setup.plans i ≡ Ends → IsIdle (clients i)

  heard-idle : (counts : Counts) (actors : Actors) (actor : Actor) (place : PlaceNo) (entry : Entry) → CallersOnly actors.clients → CallersOnly (heard_by counts actors actor place entry).clients
  heard-idle counts actors Renamer place entry h i none = h i none
  heard-idle counts actors Collector place entry h i none = h i none
  heard-idle counts actors (ClientActor c) place entry h i none = by_test (i == c.0) refl
    where
      by_test : (b : Bool) → (i == c.0) ≡ b → IsIdle (if b then hears (actors.clients c.0) place entry else actors.clients i)
      by_test true t = let same : i ≡ c.0 = grind (arith, nat_tests) in hears-idle (actors.clients c.0) place entry (h c.0 (ap setup.plans (sym same) ∙ none))
      by_test false t = h i none

  served-idle : (counts : Counts) (w : World) (actor : Actor) (ask : Ask) (number moment : ℕ) (s : Option (Served Service)) → CallersOnly w.actors.clients → CallersOnly (after_served counts w actor ask number moment s).actors.clients
  served-idle counts w actor ask number moment None h = h
  served-idle counts w actor ask number moment (Some s) h = heard-idle counts w.actors actor _ _ h

  asking-idle : (counts : Counts) (w : World) (actor : Actor) (moment : ℕ) (ask : Option Ask) → CallersOnly w.actors.clients → CallersOnly (turn_asking counts w actor moment ask).actors.clients
  asking-idle counts w actor moment None h = h
  asking-idle counts w actor moment (Some ask) h =
      served-idle counts w actor ask (step_number w actor ask) moment (serve w.service (stamped (step_number w actor ask) ask) moment ask) h

  run-idle : (turns : List Turn) (w : World) → CallersOnly w.actors.clients → CallersOnly (run_of setup.counts turns w).actors.clients
  run-idle [] w h = h
  run-idle (t ∷ turns) w h = run-idle turns (turn setup.counts w t) (asking-idle setup.counts w t.actor t.moment (next_ask setup.counts w.actors t.moment t.actor) h)

  pub idle_of : (turns : List Turn) → CallersOnly (played setup turns).actors.clients
  idle_of turns = run-idle turns (opening setup) (λ i none. record { current = ap first_of none; done = refl })

  -- so the client of each move has calls
  pub mover_of : (run : List (PlaceNo × Entry)) (clients : ℕ → Progress) (members : List ℕ) → CallersOnly clients → HasCallers setup.plans members → (q : ℕ)
      → ((c : ℕ) → keys_at q (client_lines run c (clients c).done (begun_in (clients c).current)) ≡ own_keys c (moved_in run q)) → HasMover members (moved_in run q)
  mover_of run clients members idle has q told = by_move (moved_in run q) told
    where
      no_lines : (i : ℕ) (done : List CallDone) (current : Option Phase) → done ≡ [] → current ≡ None → keys_at q (client_lines run i done (begun_in current)) ≡ []
      no_lines i done current none nothing = rw (none, nothing) refl

      a_key : (m : MoveFacts) → own_keys m.client.0 (Some (Move m)) ≡ [] → ⊥
      a_key m h = let same : (m.client.0 == m.client.0) ≡ true = grind (arith, nat_tests) in let e = rw same at h in cc

      by_move : (moved : Option Moved) → ((i : ℕ) → keys_at q (client_lines run i (clients i).done (begun_in (clients i).current)) ≡ own_keys i moved) → HasMover members moved
      by_move None told = tt
      by_move (Some (Forget file)) told = tt
      by_move (Some (Move m)) told = has m.client.0 (λ none. let idle_one = idle m.client.0 none in a_key m (sym (told m.client.0) ∙ no_lines m.client.0 (clients m.client.0).done (clients m.client.0).current idle_one.done idle_one.current))
