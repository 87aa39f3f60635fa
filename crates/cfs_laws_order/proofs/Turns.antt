-- Each turn keeps the spans of each client's calls.
use Rattle.std.proofs.Common.{◌≡◌, ℕ, ◌+◌, ◌<◌, List, [], ◌∷◌, Bool, true, false, refl, sym, subst, arith}
use Rattle.std.specs.Prelude.{if◌then◌else◌, ◌&&◌, ◌==◌, ◌%◌, nat_lt, not, Option, Some, None}
use Rattle.std.specs.FinMap.{get}
use Rattle.std.proofs.lemmas.Bool.Decides.{nat_tests}
use Rattle.cfs_ids.specs.declared.ids.DirId.{DirId}
use Rattle.cfs_ids.specs.declared.ids.PlaceNo.{PlaceNo}
use Rattle.cfs_ids.specs.declared.ids.Stamp.{Stamp}
use Rattle.cfs_ids.specs.declared.call.Call.TheVariants.{Lookup, List as ListCall, Create, Mkdir}
use Rattle.cfs_ids.specs.declared.call.Reply.{Reply}
use Rattle.cfs_ids.specs.Maps.{row_key}
use Rattle.cfs_steps.specs.declared.answer.Answer.{Answer}
use Rattle.cfs_steps.specs.declared.ask.Ask.{Ask}
use Rattle.cfs_steps.specs.declared.ask.Ask.TheVariants.{Read, List as ListAsk, End}
use Rattle.cfs_steps.specs.declared.call_done.CallDone.{CallDone}
use Rattle.cfs_steps.specs.declared.contents.DirRec.{DirRec}
use Rattle.cfs_steps.specs.declared.contents.Row.{Row}
use Rattle.cfs_steps.specs.declared.entry.Entry.{Entry}
use Rattle.cfs_steps.specs.declared.line.Line.{Line}
use Rattle.cfs_steps.specs.Asks.{place_of}
use Rattle.cfs_steps.specs.Phases.{Phase, Asking, Inserting, Settling, TakingBack, Finished, ask_of, answers_first}
use Rattle.cfs_rules.specs.Facts.{Unlocked}
use Rattle.cfs_rules.specs.Known.{Known, Sees}
use Rattle.cfs_rules.specs.Places.{Roster, Shard, Served, number_after, read_row, list_rows, serve_free, serve_shard, serve_store, serve_roster}
use Rattle.cfs_rules.specs.Worlds.{World, Plan, Ends, Calls, Counts, AreCounts, Setup, IsSetup, Progress, client_of, entry_of, first_of, hears, opening, put_index, run_of, set_client, stamped, step_in, turn, turn_of, played}
use Rattle.cfs_rules.proofs.Locks.{serve_shard-unlocked}
use Rattle.cfs_laws_places.proofs.Laws.{known_of}
use Rattle.cfs_laws_history.proofs.Stamps.{IsFresh}
use Rattle.cfs_laws_history.proofs.Pasts.{PhasePast, done_lines}
use Rattle.cfs_laws_history.proofs.Steps.{Past, fresh_step, step_entry}
use Rattle.cfs_laws_history.proofs.Turns.{low_index, own_stamp, past_of, shard_low}
use Rattle.cfs_laws_order.specs.OwnSteps.{is_end}
use Rattle.cfs_laws_order.proofs.Spans.{spans-grown}
use Rattle.cfs_laws_order.proofs.Heard.{spans, HasOwnSpans, IsHeard, spans-heard}

-- ---- what the places answer to a call's first ask
abbrev answer_in : Bool → Bool → World → Stamp → Ask → Answer
answer_in true in_store w at ask = (serve_shard w.shard at ask).answer
answer_in false true w at ask = (serve_store w.store at ask).answer
answer_in false false w at ask = (serve_roster w.roster ask).answer

abbrev answer_to : World → Stamp → Ask → Answer
answer_to w at ask = answer_in (nat_lt (place_of ask).0 64) (nat_lt (place_of ask).0 128) w at ask

read_heard : (dir : DirId) (name : List ℕ) (o : Option Row) → answers_first (Lookup dir name) (read_row o) ≡ true
read_heard dir name None = refl
read_heard dir name (Some row) = refl

list_heard : (s : Shard) (dir : DirId) (o : Option DirRec) → answers_first (ListCall dir) (list_rows s dir.0 o) ≡ true
list_heard s dir None = refl
list_heard s dir (Some r) = refl

free_heard : (s : Shard) → Unlocked s → (at : Stamp) (ask : Ask) (phase : Phase) → IsHeard phase (serve_free s at ask).answer → IsHeard phase (serve_shard s at ask).answer
free_heard s free at ask phase h = subst (λ (served : Served Shard). IsHeard phase served.answer) (sym (serve_shard-unlocked s free at ask)) h

-- what a client asks next of its call
abbrev ask_at : Counts → (c puts : ℕ) → Phase → Ask
ask_at counts c puts phase = ask_of (client_of c) (put_index counts (client_of c) puts phase) phase

module _ (counts : Counts) (w : World) (c puts : ℕ) (lines : List Line) where
  -- a call that is under way can hear the answer
  is_heard : AreCounts counts → Unlocked w.shard → (phase : Phase) (at : Stamp) → Sees w.shard (Some phase) → PhasePast w.run c lines (Some phase) → IsHeard phase (answer_to w at (ask_at counts c puts phase))
  is_heard good free (Asking (Lookup dir name)) at sees h = rw (shard_low dir.0) (free_heard w.shard free at (Read dir name) (Asking (Lookup dir name)) (read_heard dir name (get w.shard.rows (row_key dir name))))
  is_heard good free (Asking (ListCall dir)) at sees h = rw (shard_low dir.0) (free_heard w.shard free at (ListAsk dir) (Asking (ListCall dir)) (list_heard w.shard dir (get w.shard.recs dir.0)))
  is_heard good free (Asking (Create dir name)) at sees h =
      let low = low_index (c + puts) counts.stores good.stores in
      let above : nat_lt (64 + (c + puts) % counts.stores) 64 ≡ false = grind (arith, nat_tests) in
      let below : nat_lt (64 + (c + puts) % counts.stores) 128 ≡ true = grind (arith, nat_tests, low) in
      rw (above, below) refl
  is_heard good free (Asking (Mkdir dir name)) at sees h =
      let low = low_index (c + puts) counts.shards good.shards in
      let below : nat_lt ((c + puts) % counts.shards) 64 ≡ true = grind (arith, nat_tests, low) in
      rw below refl
  is_heard good free (Asking call) at sees h = let built = sees.built in absurd (cc)
  is_heard good free (Inserting dir name node ts first) at sees h = tt
  is_heard good free (Settling dir name node ts first at_step) at sees h = tt
  is_heard good free (TakingBack dir name node errno first at_step) at sees h = tt
  is_heard good free (Finished done) at sees h = absurd h

  -- and none of its asks is End
  not_end : (phase : Phase) → Sees w.shard (Some phase) → PhasePast w.run c lines (Some phase) → is_end (ask_at counts c puts phase) ≡ false
  not_end (Asking (Lookup dir name)) sees h = refl
  not_end (Asking (ListCall dir)) sees h = refl
  not_end (Asking (Create dir name)) sees h = refl
  not_end (Asking (Mkdir dir name)) sees h = refl
  not_end (Asking call) sees h = let built = sees.built in absurd (cc)
  not_end (Inserting dir name node ts first) sees h = refl
  not_end (Settling dir name node ts first at) sees h = refl
  not_end (TakingBack dir name node errno first at) sees h = refl
  not_end (Finished done) sees h = absurd h

-- ---- one step
abbrev AllOwn : List (PlaceNo × Entry) → (ℕ → Progress) → Type 0
AllOwn run clients = (i : ℕ) → HasOwnSpans run i (clients i).done (clients i).current

own_step : (c : ℕ) (ask : Ask) → is_end ask ≡ false → ((c == c) && not (is_end ask)) ≡ true
own_step c ask h = rw h (grind (arith, nat_tests))

no_call_step : (a : Bool) (ask : Ask) → is_end ask ≡ true → (a && not (is_end ask)) ≡ false
no_call_step true ask h = rw h refl
no_call_step false ask h = refl

other_step : (c i : ℕ) (b : Bool) → (i == c) ≡ false → ((c == i) && b) ≡ false
other_step c i b h = let differ : (c == i) ≡ false = grind (arith, nat_tests) in rw differ refl

module _ (w : World) (c : ℕ) (p : Progress) (ask : Ask) (number : ℕ) (past : Past w) (new : w.lasts (place_of ask).0 < number) (all : AllOwn w.run w.clients) where
  abbrev after : {C : Type 0} → Served C → Progress
  after s = hears p (place_of ask) (entry_of c number ask s)

  new_entry : {C : Type 0} (s : Served C) → IsFresh w.run (step_entry c number ask s)
  new_entry s = fresh_step w.lasts w.run (step_entry c number ask s) past.low new

  -- the actor's spans are enough: the step is no other client's
  step_own : {C : Type 0} (s : Served C) → HasOwnSpans (step_entry c number ask s ∷ w.run) c (after s).done (after s).current → AllOwn (step_entry c number ask s ∷ w.run) (set_client w.clients c (after s))
  step_own s own i = by_test (i == c) refl
    where
      by_test : (b : Bool) → (i == c) ≡ b → HasOwnSpans (step_entry c number ask s ∷ w.run) i (if b then after s else w.clients i).done (if b then after s else w.clients i).current
      by_test true t = let same : c ≡ i = grind (arith, nat_tests) in subst (λ j. HasOwnSpans (step_entry c number ask s ∷ w.run) j (after s).done (after s).current) same own
      by_test false t = spans-grown w.run (step_entry c number ask s) (new_entry s) (client_of i) (spans (w.clients i).done (w.clients i).current) (other_step c i (not (is_end ask)) t) (all i)

  -- a step of a call
  call_own : {C : Type 0} (s : Served C) (phase : Phase) → p.current ≡ Some phase → is_end ask ≡ false → IsHeard phase s.answer → HasOwnSpans w.run c p.done (Some phase) → AllOwn (step_entry c number ask s ∷ w.run) (set_client w.clients c (after s))
  call_own s phase current going heard own = step_own s (rw current (spans-heard w.run (step_entry c number ask s) (new_entry s) c (own_step c ask going) (stamped number ask) (own_stamp number (place_of ask).0) p phase s.answer heard own))

  in_place : (in_shard in_store : Bool) (phase : Phase) → p.current ≡ Some phase → is_end ask ≡ false → IsHeard phase (answer_in in_shard in_store w (stamped number ask) ask) → HasOwnSpans w.run c p.done (Some phase)
      → AllOwn (step_in in_shard in_store w c p ask number).run (step_in in_shard in_store w c p ask number).clients
  in_place true in_store phase current going heard own = call_own (serve_shard w.shard (stamped number ask) ask) phase current going heard own
  in_place false true phase current going heard own = call_own (serve_store w.store (stamped number ask) ask) phase current going heard own
  in_place false false phase current going heard own = call_own (serve_roster w.roster ask) phase current going heard own

-- ---- a turn
module _ (counts : Counts) (good : AreCounts counts) (w : World) (c : ℕ) (known : Known w) (past : Past w) (all : AllOwn w.run w.clients) where
  newer : (last : ℕ) (ask : Ask) → w.lasts (place_of ask).0 < number_after last (w.lasts (place_of ask).0)
  newer last ask = omega arith

  turn_own : (ended : Bool) (current : Option Phase) (rest : Reply → Plan) (last puts : ℕ) (done : List CallDone) → Sees w.shard current → PhasePast w.run c (done_lines w.run c done) current → HasOwnSpans w.run c done current
      → (let after = turn_of counts w c (record { current = current; rest = rest; ended = ended; last = last; puts = puts; done = done }) in AllOwn after.run after.clients)
  turn_own true current rest last puts done sees h own = all
  turn_own false None rest last puts done sees h own =
      let p : Progress = record { current = None; rest = rest; ended = false; last = last; puts = puts; done = done } in
      let ask : Ask = End (client_of c) in
      let number : ℕ = number_after last (w.lasts (place_of ask).0) in
      let s : Served Roster = serve_roster w.roster ask in
      step_own w c p ask number past (newer last ask) all s
      (spans-grown w.run (step_entry c number ask s) (new_entry w c p ask number past (newer last ask) all s) (client_of c) (spans done None) (no_call_step (c == c) ask refl) own)
  turn_own false (Some phase) rest last puts done sees h own =
      let p : Progress = record { current = Some phase; rest = rest; ended = false; last = last; puts = puts; done = done } in
      let ask : Ask = ask_at counts c puts phase in
      in_place w c p ask (number_after last (w.lasts (place_of ask).0)) past (newer last ask) all (nat_lt (place_of ask).0 64) (nat_lt (place_of ask).0 128) phase refl
      (not_end counts w c puts (done_lines w.run c done) phase sees h)
      (is_heard counts w c puts (done_lines w.run c done) good known.free phase _ sees h) own

-- ---- a run
module _ (setup : Setup) (good : IsSetup setup) where
  run_own : (cs : List ℕ) (w : World) → ((ds : List ℕ) → Known (run_of setup.counts ds w)) → ((ds : List ℕ) → Past (run_of setup.counts ds w)) → AllOwn w.run w.clients
      → AllOwn (run_of setup.counts cs w).run (run_of setup.counts cs w).clients
  run_own [] w known past all = all
  run_own (c ∷ cs) w known past all =
      let p = w.clients c in
      run_own cs (turn setup.counts w c) (λ ds. known (c ∷ ds)) (λ ds. past (c ∷ ds))
      (turn_own setup.counts good.counts w c (known []) (past []) all p.ended p.current p.rest p.last p.puts p.done ((known []).sees c) ((past []).clients c).phase (all c))

  opening_own : (i : ℕ) (plan : Plan) → HasOwnSpans [] i [] (first_of plan)
  opening_own i Ends = record { own = tt; steps = λ p h. absurd (cc) }
  opening_own i (Calls call next) = record { own = tt; steps = λ p h. absurd (cc) }

  pub own_of : (turns : List ℕ) → (i : ℕ) → (let w = played setup turns in HasOwnSpans w.run i (w.clients i).done (w.clients i).current)
  own_of turns = run_own turns (opening setup) (known_of setup good) (λ ds. past_of setup good ds (known_of setup good)) (λ i. opening_own i (setup.plans i))
