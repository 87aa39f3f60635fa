-- Each turn leaves what is there.
use Rattle.std.proofs.Common.{◌≡◌, ℕ, List, [], ◌∷◌, Bool, true, false, subst}
use Rattle.std.specs.Prelude.{Option, Some, None, if◌then◌else◌, ◌==◌}
use Rattle.std.specs.Ordering.{nat_cmp}
use Rattle.std.specs.Cmp.{nat_cmp_total}
use Rattle.std.specs.Cmp.Lexicographic.{slice_cmp}
use Rattle.std.specs.FinMap.{empty, nat_cmp-IsAntisymmetric}
use Rattle.next_ids.specs.declared.ids.Actor.{Actor}
use Rattle.next_ids.specs.declared.ids.Actor.TheVariants.{Client as ClientActor, Renamer, Collector}
use Rattle.next_ids.specs.declared.ids.Node.TheVariants.{Dir}
use Rattle.next_ids.specs.declared.ids.PlaceNo.{PlaceNo}
use Rattle.next_ids.specs.declared.counts.Counts.{Counts}
use Rattle.next_ids.specs.Times.{ts_at}
use Rattle.next_steps.specs.declared.ask.Ask.{Ask}
use Rattle.next_steps.specs.declared.entry.Entry.{Entry}
use Rattle.next_steps.specs.Asks.{place_of, suits, ts_of}
use Rattle.next_steps.specs.Ends.{stamp_of}
use Rattle.next_steps.specs.Phases.{Phase}
use Rattle.next_steps.specs.Calls.{is_going}
use Rattle.next_steps.specs.JobAsks.{ask_job}
use Rattle.next_steps.specs.Rounds.{ask_round}
use Rattle.next_rules.specs.Contents.{Served, entry_by, root_rec}
use Rattle.next_rules.specs.Setups.{AreCounts, IsSetup, has_place}
use Rattle.next_rules.specs.Actors.{Progress, Doing, Nothing, Stops, Leaves, Goes, client_of, is_due, doing_of, doing, asked, hears_doing, hears, next_ask, set_client}
use Rattle.next_rules.specs.Worlds.{Service, World, Turn, Setup, opening_service, serve, stamped, after_served, step_number, turn_asking, turn, run_of, opening, played}
use Rattle.next_laws_order.proofs.Turns.{IsGoing, played-holds}
use Rattle.next_laws_reach.proofs.Maps.{IfThere, each-empty, each-insert}
use Rattle.next_laws_reach.proofs.There.{PhaseThere, ProgressThere, RowThere, RecThere, DebtThere, FileRecThere, ServiceThere, AskThere, AnswerThere, ServedThere, WorldThere}
use Rattle.next_laws_reach.proofs.Shards.{root_there}
use Rattle.next_laws_reach.proofs.Services.{service-serves}
use Rattle.next_laws_reach.proofs.Asked.{ask-has_place, phase_asks, job_asks, round_asks}
use Rattle.next_laws_reach.proofs.Heard.{phase-heard}
use Rattle.next_laws_reach.proofs.Jobs.{job-heard}
use Rattle.next_laws_reach.proofs.Rounds.{round-heard}
use Rattle.next_laws_reach.proofs.Plans.{keeps-there, starts-there, with_phase-there}

module _ (counts : Counts) (good : AreCounts counts) where
  -- ---- a client's next step
  abbrev DoingThere : Doing → Type 0
  DoingThere (Goes phase) = PhaseThere counts phase
  DoingThere d = Unit {0}

  doing-there : (ended due : Bool) (current : Option Phase) → IfThere (PhaseThere counts) current → DoingThere (doing_of ended due current)
  doing-there true due current h = tt
  doing-there false true current h = tt
  doing-there false false None h = tt
  doing-there false false (Some phase) h = h

  client_doing : (p : Progress) → ProgressThere counts p → DoingThere (doing p)
  client_doing p h = doing-there p.ended (is_due p.stop p.steps) p.current h.current

  doing_asks : (c moment : ℕ) (p : Progress) (d : Doing) → DoingThere d → IfThere (AskThere counts) (asked counts (client_of c) moment p d)
  doing_asks c moment p Nothing h = tt
  doing_asks c moment p Stops h = tt
  doing_asks c moment p Leaves h = tt
  doing_asks c moment p (Goes phase) h = phase_asks counts good (client_of c) p.puts (ts_at moment p.last) phase h

  doing_hears : (p : Progress) (place : PlaceNo) (e : Entry) (d : Doing) → ProgressThere counts p → DoingThere d → AnswerThere counts place.0 e.answer → ProgressThere counts (hears_doing p place e d)
  doing_hears p place e Nothing h i a = h
  doing_hears p place e Stops h i a = record { current = h.current; rest = h.rest }
  doing_hears p place e Leaves h i a = record { current = h.current; rest = h.rest }
  doing_hears p place e (Goes phase) h i a = with_phase-there counts p e _ (phase-heard counts place.0 phase (stamp_of place e) (ts_of e) e.answer i a) h.rest

  next_asks : (w : World) → WorldThere counts w → (moment : ℕ) (actor : Actor) → IfThere (AskThere counts) (next_ask counts w.actors moment actor)
  next_asks w h moment (ClientActor c) = doing_asks c.0 moment (w.actors.clients c.0) (doing (w.actors.clients c.0)) (client_doing (w.actors.clients c.0) (h.clients c.0))
  next_asks w h moment Renamer = job_asks counts good w.actors.job h.job
  next_asks w h moment Collector = round_asks counts good w.actors.round h.round

  -- ---- a step
  module _ (w : World) (h : WorldThere counts w) (moment : ℕ) where
    all_clients : (c : ℕ) (q : Progress) → ProgressThere counts q → (i : ℕ) → ProgressThere counts (set_client w.actors.clients c q i)
    all_clients c q own i = by_test (i == c)
      where
        by_test : (b : Bool) → ProgressThere counts (if b then q else w.actors.clients i)
        by_test true = own
        by_test false = h.clients i

    client-step : (c : ℕ) (a : Ask) (o : Option (Served Service)) → IfThere (ServedThere counts (ServiceThere counts) (place_of a).0) o
        → WorldThere counts (after_served counts w (ClientActor (client_of c)) a (step_number w (ClientActor (client_of c)) a) moment o)
    client-step c a None served = h
    client-step c a (Some s) served = record {
      service = served.contents;
      clients = all_clients c (hears (w.actors.clients c) (place_of a) (entry_by (ClientActor (client_of c)) (step_number w (ClientActor (client_of c)) a) moment a s))
          (doing_hears (w.actors.clients c) (place_of a) (entry_by (ClientActor (client_of c)) (step_number w (ClientActor (client_of c)) a) moment a s) (doing (w.actors.clients c))
          (h.clients c) (client_doing (w.actors.clients c) (h.clients c)) served.answer);
      job = h.job;
      round = h.round;
    }

    job-step : (o : Option (Served Service)) → IfThere (ServedThere counts (ServiceThere counts) (place_of (ask_job w.actors.job)).0) o
        → WorldThere counts (after_served counts w Renamer (ask_job w.actors.job) (step_number w Renamer (ask_job w.actors.job)) moment o)
    job-step None served = h
    job-step (Some s) served = record {
      service = served.contents;
      clients = h.clients;
      job = job-heard counts (place_of (ask_job w.actors.job)).0 w.actors.job _ s.answer h.job served.answer;
      round = h.round;
    }

    round-step : (o : Option (Served Service)) → IfThere (ServedThere counts (ServiceThere counts) (place_of (ask_round w.actors.round)).0) o
        → WorldThere counts (after_served counts w Collector (ask_round w.actors.round) (step_number w Collector (ask_round w.actors.round)) moment o)
    round-step None served = h
    round-step (Some s) served = record {
      service = served.contents;
      clients = h.clients;
      job = h.job;
      round = round-heard counts good w.actors.round s.answer h.round served.answer;
    }

    served : (actor : Actor) (a : Ask) → AskThere counts a → IfThere (ServedThere counts (ServiceThere counts) (place_of a).0) (serve w.service (stamped (step_number w actor a) a) moment a)
    served actor a there = service-serves counts good w.service (step_number w actor a) moment a there h.service

    -- ---- a turn
    client-turn : (c : ℕ) (o : Option Ask) → IfThere (AskThere counts) o → WorldThere counts (turn_asking counts w (ClientActor (client_of c)) moment o)
    client-turn c None there = h
    client-turn c (Some a) there = client-step c a (serve w.service (stamped (step_number w (ClientActor (client_of c)) a) a) moment a) (served (ClientActor (client_of c)) a there)

    turn-there : (actor : Actor) → WorldThere counts (turn counts w (record { actor = actor; moment = moment }))
    turn-there (ClientActor c) = client-turn c.0 (next_ask counts w.actors moment (ClientActor c)) (next_asks w h moment (ClientActor c))
    turn-there Renamer = job-step (serve w.service (stamped (step_number w Renamer (ask_job w.actors.job)) (ask_job w.actors.job)) moment (ask_job w.actors.job)) (served Renamer (ask_job w.actors.job) (next_asks w h moment Renamer))
    turn-there Collector =
        round-step (serve w.service (stamped (step_number w Collector (ask_round w.actors.round)) (ask_round w.actors.round)) moment (ask_round w.actors.round)) (served Collector (ask_round w.actors.round) (next_asks w h moment Collector))

  -- ---- a run
  run-there : (turns : List Turn) (w : World) → WorldThere counts w → WorldThere counts (run_of counts turns w)
  run-there [] w h = h
  run-there (t ∷ turns) w h = run-there turns (turn counts w t) (turn-there w h t.moment t.actor)

  opening-there : ServiceThere counts opening_service
  opening-there = record {
    shard = record {
      rows = each-empty (slice_cmp nat_cmp) (RowThere counts);
      recs = each-insert (RecThere counts) nat_cmp_total nat_cmp-IsAntisymmetric empty 0 root_rec (root_there counts good, tt, tt) (each-empty nat_cmp (RecThere counts));
      debts = each-empty (slice_cmp nat_cmp) (DebtThere counts);
    };
    store = each-empty nat_cmp (FileRecThere counts);
    desk = tt;
  }

pub played-there : (setup : Setup) → IsSetup setup → (turns : List Turn) → WorldThere setup.counts (played setup turns)
played-there setup is turns = run-there setup.counts is.counts turns (opening setup) (record {
  service = opening-there setup.counts is.counts;
  clients = λ c. starts-there setup.counts (setup.plans c) (setup.stops c) (keeps-there setup.counts (Dir (record { 0 = 0 }) ∷ []) (setup.plans c) (root_there setup.counts is.counts, tt) (is.plans c));
  job = tt;
  round = tt;
})

-- ---- the laws
pub places_there : (setup : Setup) → IsSetup setup → (turns : List Turn) (actor : Actor) (moment : ℕ) (ask : Ask) → next_ask setup.counts (played setup turns).actors moment actor ≡ Some ask
    → (has_place setup.counts (place_of ask).0 ≡ true) × (suits ask ≡ true)
places_there setup is turns actor moment a next =
    ask-has_place setup.counts is.counts a (subst (IfThere (AskThere setup.counts)) next (next_asks setup.counts is.counts (played setup turns) (played-there setup is turns) moment actor))

pub phases_going : (setup : Setup) → AreCounts setup.counts → (turns : List Turn) (c : ℕ) (phase : Phase) → ((played setup turns).actors.clients c).current ≡ Some phase → is_going phase ≡ true
phases_going setup good turns c phase is = subst IsGoing is ((played-holds setup good turns).clients c).going
