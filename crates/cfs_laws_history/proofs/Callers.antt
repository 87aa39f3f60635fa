-- A client without calls makes no move.
use Rattle.std.proofs.Common.{◌≡◌, ℕ, List, [], ◌∷◌, Bool, true, false, refl, sym, ◌∙◌, ap, subst, arith}
use Rattle.std.specs.Prelude.{if◌then◌else◌, ◌==◌, nat_lt, Option, Some, None}
use Rattle.std.proofs.lemmas.Bool.Decides.{nat_tests}
use Rattle.cfs_ids.specs.declared.ids.PlaceNo.{PlaceNo}
use Rattle.cfs_ids.specs.declared.call.Reply.{Reply}
use Rattle.cfs_steps.specs.declared.ask.Ask.{Ask}
use Rattle.cfs_steps.specs.declared.ask.Ask.TheVariants.{End}
use Rattle.cfs_steps.specs.declared.entry.Entry.{Entry}
use Rattle.cfs_steps.specs.declared.moves.Moved.{Moved}
use Rattle.cfs_steps.specs.declared.moves.Move.{Move as MoveFacts}
use Rattle.cfs_steps.specs.declared.moves.Moved.TheVariants.{Move}
use Rattle.cfs_steps.specs.declared.call_done.CallDone.{CallDone}
use Rattle.cfs_steps.specs.Asks.{place_of}
use Rattle.cfs_steps.specs.Phases.{Phase, ask_of}
use Rattle.cfs_rules.specs.Worlds.{World, Plan, Ends, Progress, client_of, Setup, first_of, opening, put_index, set_client, hears, step_in, step, turn_of, turn, run_of, played}
use Rattle.cfs_rules.specs.Places.{number_after}
use Rattle.cfs_rules.specs.Members.{HasCallers}
use Rattle.cfs_laws_history.proofs.Stamps.{moved_in}
use Rattle.cfs_laws_history.proofs.Keys.{keys_at, own_keys}
use Rattle.cfs_laws_history.proofs.Pasts.{own_lines, ClientPast}
use Rattle.cfs_laws_history.proofs.AllLines.{HasMover}

-- a client that has made no call
pub record IsIdle (p : Progress) : Type 0 where
  pub current : p.current ≡ None
  pub done : p.done ≡ []

-- a step sets the actor to what it has heard
record SetsActor (w : World) (c : ℕ) (p : Progress) (after : World) : Type 0 where
  place : PlaceNo
  entry : Entry
  same : after.clients ≡ set_client w.clients c (hears p place entry)

step_sets : (in_shard in_store : Bool) (w : World) (c : ℕ) (p : Progress) (ask : Ask) (number : ℕ) → SetsActor w c p (step_in in_shard in_store w c p ask number)
step_sets true in_store w c p ask number = record { place = place_of ask; entry = _; same = refl }
step_sets false true w c p ask number = record { place = place_of ask; entry = _; same = refl }
step_sets false false w c p ask number = record { place = place_of ask; entry = _; same = refl }

module _ (setup : Setup) where
  abbrev pub CallersOnly : (ℕ → Progress) → Type 0
  CallersOnly clients = (i : ℕ) → setup.plans i ≡ Ends → IsIdle (clients i)

  set_idle : (clients : ℕ → Progress) (c : ℕ) (p : Progress) → CallersOnly clients → (setup.plans c ≡ Ends → IsIdle p) → CallersOnly (set_client clients c p)
  set_idle clients c p h own i none = by_test (i == c) refl
    where
      by_test : (b : Bool) → (i == c) ≡ b → IsIdle (if b then p else clients i)
      by_test true t = let same : i ≡ c = grind (arith, nat_tests) in own (ap setup.plans (sym same) ∙ none)
      by_test false t = h i none

  step_idle : (w : World) (c : ℕ) (p : Progress) (ask : Ask) → CallersOnly w.clients → ((place : PlaceNo) (entry : Entry) → setup.plans c ≡ Ends → IsIdle (hears p place entry)) → CallersOnly (step w c p ask).clients
  step_idle w c p ask h own =
      let sets = step_sets (nat_lt (place_of ask).0 64) (nat_lt (place_of ask).0 128) w c p ask (number_after p.last (w.lasts (place_of ask).0)) in
      subst CallersOnly (sym sets.same) (set_idle w.clients c (hears p sets.place sets.entry) h (own sets.place sets.entry))

  turn_idle : (w : World) (c : ℕ) (ended : Bool) (current : Option Phase) (rest : Reply → Plan) (last puts : ℕ) (done : List CallDone) → CallersOnly w.clients → (setup.plans c ≡ Ends → IsIdle (record { current = current; rest = rest; ended = ended; last = last; puts = puts; done = done }))
      → CallersOnly (turn_of setup.counts w c (record { current = current; rest = rest; ended = ended; last = last; puts = puts; done = done })).clients
  turn_idle w c true current rest last puts done h own = h
  turn_idle w c false None rest last puts done h own =
      step_idle w c (record { current = None; rest = rest; ended = false; last = last; puts = puts; done = done }) (End (client_of c)) h (λ place entry none. record { current = refl; done = (own none).done })
  turn_idle w c false (Some phase) rest last puts done h own =
      step_idle w c (record { current = Some phase; rest = rest; ended = false; last = last; puts = puts; done = done }) (ask_of (client_of c) (put_index setup.counts (client_of c) puts phase) phase) h (λ place entry none. absurd (not_idle phase (own none).current))
    where
      not_idle : (q : Phase) → Some q ≡ None → ⊥
      not_idle q e = cc

  run_idle : (cs : List ℕ) (w : World) → CallersOnly w.clients → CallersOnly (run_of setup.counts cs w).clients
  run_idle [] w h = h
  run_idle (c ∷ cs) w h = let p = w.clients c in run_idle cs (turn setup.counts w c) (turn_idle w c p.ended p.current p.rest p.last p.puts p.done h (h c))

  pub idle_of : (turns : List ℕ) → CallersOnly (played setup turns).clients
  idle_of turns = run_idle turns (opening setup) (λ i none. record { current = ap first_of none; done = refl })

  -- so the client of each move has calls
  pub mover_of : (run : List (PlaceNo × Entry)) (clients : ℕ → Progress) (members : List ℕ) → CallersOnly clients → HasCallers setup.plans members
      → ((i : ℕ) → ClientPast run i (clients i).done (clients i).current) → (q : ℕ) → HasMover members (moved_in run q)
  mover_of run clients members idle has past q = by_move (moved_in run q) (λ i. (past i).told q)
    where
      no_lines : (i : ℕ) (done : List CallDone) (current : Option Phase) → done ≡ [] → current ≡ None → keys_at q (own_lines run i done current) ≡ []
      no_lines i done current none nothing = rw (none, nothing) refl

      a_key : (m : MoveFacts) → own_keys m.client.0 (Some (Move m)) ≡ [] → ⊥
      a_key m h = let same : (m.client.0 == m.client.0) ≡ true = grind (arith, nat_tests) in let e = rw same at h in cc

      by_move : (moved : Option Moved) → ((i : ℕ) → keys_at q (own_lines run i (clients i).done (clients i).current) ≡ own_keys i moved) → HasMover members moved
      by_move None told = tt
      by_move (Some (Move m)) told = has m.client.0 (λ none. let idle_one = idle m.client.0 none in a_key m (sym (told m.client.0) ∙ no_lines m.client.0 (clients m.client.0).done (clients m.client.0).current idle_one.done idle_one.current))
