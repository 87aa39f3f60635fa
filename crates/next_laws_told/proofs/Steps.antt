-- What a step makes of a client's past: its call goes on from claim to claim, and ends with what it had come to.
use Rattle.std.proofs.Common.{◌≡◌, ◌≢◌, ℕ, ◌≤◌, List, [], ◌∷◌, ◌++◌, length, Bool, true, false, refl, sym, ◌∙◌, ap, subst, arith, ◌⊎◌, inl, inr}
use Rattle.std.specs.Prelude.{if◌then◌else◌, ◌==◌, Option, Some, None}
use Rattle.std.proofs.lemmas.Bool.Decides.{nat_tests}
use Rattle.std.proofs.lemmas.List.{append-nil}
use Rattle.next_ids.specs.declared.ids.Stamp.{Stamp}
use Rattle.next_ids.specs.declared.ids.At.{At}
use Rattle.next_ids.specs.declared.ids.At.TheVariants.{Step, Before, After}
use Rattle.next_ids.specs.declared.ids.PlaceNo.{PlaceNo}
use Rattle.next_ids.specs.declared.ids.Node.{Node}
use Rattle.next_ids.specs.declared.time.Ts.{Ts}
use Rattle.next_ids.specs.declared.call.Call.{Call}
use Rattle.next_ids.specs.declared.call.Reply.{Reply}
use Rattle.next_ids.specs.declared.call.Reply.TheVariants.{Moved as MovedReply}
use Rattle.next_steps.specs.declared.entry.Entry.{Entry}
use Rattle.next_steps.specs.declared.moves.Move.{Move as MoveFacts}
use Rattle.next_steps.specs.declared.call_done.CallDone.{CallDone}
use Rattle.next_steps.specs.declared.line.Line.{Line}
use Rattle.next_steps.specs.declared.line.Outcome.TheVariants as outcome
use Rattle.next_rules.specs.Actors.{client_of}
use Rattle.next_rules.specs.Laws.{space_at}
use Rattle.next_rules.specs.Histories.{is_at, position_of, point_of, line_of, outcome_of, own_move, move_from, unfinished, begun_line, begun_lines}
use Rattle.next_laws_order.proofs.Lists.{Every, Every-append}
use Rattle.next_laws_order.proofs.Stamps.{stands, IsFresh, position-within, position-grown, position-new, stands-grown, stands-new}
use Rattle.next_laws_told.specs.Claims.{Claim, Idle, Open, Said, Made, begun_claim, claim_at, stamp_at, IsReplyIn, IsTold, IsOthers, move_of, Leads}
use Rattle.next_laws_told.specs.Ledgers.{IsFormed, Starts, Ends, ClientTold}
use Rattle.next_laws_told.proofs.Runs.{moved_in, moved_in-beyond, move_from-grown, move_from-now, move_from-beyond}
use Rattle.next_laws_told.proofs.SameCall.{call_same}
use Rattle.next_laws_told.proofs.Keys.{own_keys, keys_of, keys_at, keys_at-append}
use Rattle.next_laws_told.proofs.Pasts.{IsDone, IsSaid, IsMade, done_lines, MovesTold, ClientPast, own_move-others, calls-grown, done_lines-grown, MovesTold-grown, ClientPast-grown}

none_if : (b : Bool) (ks : List MoveFacts) → ks ≡ [] → (if b then ks else []) ++ [] ≡ []
none_if true ks h = rw h refl
none_if false ks h = refl

-- a begun call without a move tells of none
told_without : (run : List (PlaceNo × Entry)) (c : ℕ) (done : List CallDone) (call : Call) (first : Stamp) (q : ℕ) → move_from (client_of c) call (position_of first run) run ≡ None
    → keys_at q (done_lines run c done ++ begun_line run (client_of c) call first ∷ []) ≡ keys_at q (done_lines run c done)
told_without run c done call first q none =
    keys_at-append q (done_lines run c done) (begun_line run (client_of c) call first ∷ [])
    ∙ ap (λ o. keys_at q (done_lines run c done) ++ keys_at q (unfinished (client_of c) call (position_of first run) o ∷ [])) none
    ∙ append-nil (keys_at q (done_lines run c done))

own_keys-own : (c : ℕ) (call : Call) (ts : Ts) (made : Option Node) → own_keys c (move_of c call ts made) ≡ record { client = client_of c; call = call; ts = ts; made = made } ∷ []
own_keys-own c call ts made = let same : (c == c) ≡ true = grind (arith, nat_tests) in rw same refl

own_move-own : (c n : ℕ) (call : Call) (ts : Ts) (made : Option Node) → own_move (client_of c) call n (move_of c call ts made) ≡ Some (n, ts, made)
own_move-own c n call ts made = let same : (c == c) ≡ true = grind (arith, nat_tests) in rw (same, call_same call) refl

-- ---- a step, whose stamp is s
module _ (run : List (PlaceNo × Entry)) (e : PlaceNo × Entry) (fresh : IsFresh run e) (s : Stamp) (is : is_at s e ≡ true) (c : ℕ) (done : List CallDone) where
  -- what is known after the step of a call that had no move before it
  record Ready (call : Call) (first : Stamp) : Type 0 where
    calls : Every (IsDone (e ∷ run)) done
    begun : stands first (e ∷ run) ≡ true
    none : move_from (client_of c) call (position_of first (e ∷ run)) run ≡ None
    le : position_of first (e ∷ run) ≤ length run
    told : MovesTold run c (done_lines (e ∷ run) c done)

  ready_open : (call : Call) (first : Stamp) → ClientPast run c done (Open call first) → Ready call first
  ready_open call first h = record {
    calls = calls-grown run e fresh done h.calls;
    begun = stands-grown first run e h.call.begun;
    none = ap (λ p. move_from (client_of c) call p run) (position-grown first run e fresh h.call.begun) ∙ h.call.none;
    le = (let lt = position-within first run h.call.begun in omega (arith, position-grown first run e fresh h.call.begun));
    told = λ q. ap (keys_at q) (done_lines-grown run e fresh c done h.calls) ∙ sym (told_without run c done call first q h.call.none) ∙ h.told q;
  }

  ready_new : (call : Call) → ClientPast run c done Idle → Ready call s
  ready_new call h = record {
    calls = calls-grown run e fresh done h.calls;
    begun = stands-new s run e is;
    none = ap (λ p. move_from (client_of c) call p run) (position-new s run e is) ∙ move_from-beyond (client_of c) call (length run) run (omega arith);
    le = omega (arith, position-new s run e is);
    told = λ q. ap (keys_at q) (done_lines-grown run e fresh c done h.calls) ∙ ap (keys_at q) (sym (append-nil (done_lines run c done))) ∙ h.told q;
  }

  -- ---- what it comes to
  module _ (call : Call) (first : Stamp) (r : Ready call first) where
    still_none : IsOthers c e.1.moved → move_from (client_of c) call (position_of first (e ∷ run)) (e ∷ run) ≡ None
    still_none others = move_from-grown (client_of c) call (position_of first (e ∷ run)) e run (own_move-others c call (length run) e.1.moved others) ∙ r.none

    no_move_told : IsOthers c e.1.moved → MovesTold (e ∷ run) c (done_lines (e ∷ run) c done ++ begun_line (e ∷ run) (client_of c) call first ∷ [])
    no_move_told others q = told_without (e ∷ run) c done call first q (still_none others) ∙ MovesTold-grown run e fresh c (done_lines (e ∷ run) c done) others r.told q

    stays_open : IsOthers c e.1.moved → ClientPast (e ∷ run) c done (Open call first)
    stays_open others = record { calls = r.calls; call = record { begun = r.begun; none = still_none others }; told = no_move_told others }

    is_said : (at : At) (reply : Reply) → IsOthers c e.1.moved → IsTold (e ∷ run) call first at reply → ClientPast (e ∷ run) c done (Said call first at reply)
    is_said at reply others t = record {
      calls = r.calls;
      call = record { still = record { begun = r.begun; none = still_none others }; there = t.there; order = t.order; right = t.right };
      told = no_move_told others;
    }

    is_made : (ts : Ts) (made : Option Node) → e.1.moved ≡ move_of c call ts made → ClientPast (e ∷ run) c done (Made call first s ts made)
    is_made ts made moves = record {
      calls = r.calls;
      call = record { begun = r.begun; there = stands-new s run e is; order = omega (arith, r.le, position-new s run e is); found = found ∙ ap (λ p. Some (p, ts, made)) (sym (position-new s run e is)) };
      told = λ q.
          keys_at-append q (done_lines (e ∷ run) c done) (begun_line (e ∷ run) (client_of c) call first ∷ [])
          ∙ ap (λ o. keys_at q (done_lines (e ∷ run) c done) ++ keys_at q (unfinished (client_of c) call (position_of first (e ∷ run)) o ∷ [])) found
          ∙ by_test q (length run == q) refl (q == length run) refl (r.told q);
    }
      where
        found : move_from (client_of c) call (position_of first (e ∷ run)) (e ∷ run) ≡ Some (length run, ts, made)
        found = move_from-now (client_of c) call (position_of first (e ∷ run)) e run r.le r.none ∙ ap (own_move (client_of c) call (length run)) moves ∙ own_move-own c (length run) call ts made

        by_test : (q : ℕ) (a : Bool) → (length run == q) ≡ a → (b : Bool) → (q == length run) ≡ b → keys_at q (done_lines (e ∷ run) c done) ≡ own_keys c (moved_in run q)
            → keys_at q (done_lines (e ∷ run) c done) ++ ((if a then record { client = client_of c; call = call; ts = ts; made = made } ∷ [] else []) ++ []) ≡ own_keys c (if b then e.1.moved else moved_in run q)
        by_test q true t true u told = let now : q ≡ length run = grind (arith, nat_tests) in
            ap (λ k. k ++ record { client = client_of c; call = call; ts = ts; made = made } ∷ []) (told ∙ ap (own_keys c) (moved_in-beyond run q (omega arith))) ∙ sym (ap (own_keys c) moves ∙ own_keys-own c call ts made)
        by_test q true t false u told = absurd (grind (arith, nat_tests))
        by_test q false t true u told = absurd (grind (arith, nat_tests))
        by_test q false t false u told = append-nil (keys_at q (done_lines (e ∷ run) c done)) ∙ told

    same_call : (call' : Call) (first' : Stamp) → Open call first ≡ Open call' first' → call ≡ call'
    same_call call' first' p = cc

    same_first : (call' : Call) (first' : Stamp) → Open call first ≡ Open call' first' → first ≡ first'
    same_first call' first' p = cc

    -- from the open call to the claim of the same call
    as_told : (to : Call → Stamp → Claim) (call' : Call) (first' : Stamp) → Open call first ≡ Open call' first' → ClientPast (e ∷ run) c done (to call first) → ClientPast (e ∷ run) c done (to call' first')
    as_told to call' first' p h = subst (λ f. ClientPast (e ∷ run) c done (to call' f)) (same_first call' first' p) (subst (λ k. ClientPast (e ∷ run) c done (to k first)) (same_call call' first' p) h)

    lead : (next : Claim) → Leads c s (e ∷ run) e.1.moved (Open call first) next → ClientPast (e ∷ run) c done next
    lead Idle l = absurd l
    lead (Open call' first') l = as_told Open call' first' l.0 (stays_open l.1)
    lead (Said call' first' at reply) l = as_told (λ k f. Said k f at reply) call' first' l.0 (is_said at reply l.1 l.2)
    lead (Made call' first' at ts made) l = as_told (λ k f. Made k f at ts made) call' first' l.0 (subst (λ t. ClientPast (e ∷ run) c done (Made call first t ts made)) (sym l.1) (is_made ts made l.2))

  -- whatever the call had come to
  from_claim : (claim next : Claim) → Leads c s (e ∷ run) e.1.moved claim next → ClientPast run c done claim → ClientPast (e ∷ run) c done next
  from_claim Idle Idle l h = ClientPast-grown run e fresh c done Idle l h
  from_claim Idle (Open call first) l h = absurd l
  from_claim Idle (Said call first at reply) l h = absurd l
  from_claim Idle (Made call first at ts made) l h = absurd l
  from_claim (Open call first) next l h = lead call first (ready_open call first h) next l
  from_claim (Said call first at reply) (Said call' first' at' reply') l h = subst (ClientPast (e ∷ run) c done) l.0 (ClientPast-grown run e fresh c done (Said call first at reply) l.1 h)
  from_claim (Said call first at reply) Idle l h = absurd l
  from_claim (Said call first at reply) (Open call' first') l h = absurd l
  from_claim (Said call first at reply) (Made call' first' at' ts' made') l h = absurd l
  from_claim (Made call first at ts made) (Made call' first' at' ts' made') l h = subst (ClientPast (e ∷ run) c done) l.0 (ClientPast-grown run e fresh c done (Made call first at ts made) l.1 h)
  from_claim (Made call first at ts made) Idle l h = absurd l
  from_claim (Made call first at ts made) (Open call' first') l h = absurd l
  from_claim (Made call first at ts made) (Said call' first' at' reply') l h = absurd l

  pub leads-past : (claim from next : Claim) → Starts s claim from → Leads c s (e ∷ run) e.1.moved from next → ClientPast run c done claim → ClientPast (e ∷ run) c done next
  leads-past claim from next (inl same) l h = from_claim from next l (subst (ClientPast run c done) (sym same) h)
  leads-past claim from next (inr new) l h =
      let idle : ClientPast run c done Idle = subst (ClientPast run c done) new.0 h in
      let led : Leads c s (e ∷ run) e.1.moved (Open new.1.0 s) next = subst (λ f. Leads c s (e ∷ run) e.1.moved f next) new.1.1 l in
      lead new.1.0 s (ready_new new.1.0 idle) next led

-- ---- a call ends
done_lines-end : (run : List (PlaceNo × Entry)) (c : ℕ) (done : List CallDone) (d : CallDone) → done_lines run c (done ++ d ∷ []) ≡ done_lines run c done ++ line_of run (client_of c) d ∷ []
done_lines-end run c [] d = refl
done_lines-end run c (x ∷ done) d = ap (λ l. line_of run (client_of c) x ∷ l) (done_lines-end run c done d)

-- the line of the call tells of the move that the line of the begun call told of
finish : (run : List (PlaceNo × Entry)) (c : ℕ) (done : List CallDone) (claim : Claim) (d : CallDone) → ClientPast run c done claim → IsDone run d
    → ((q : ℕ) → keys_at q (line_of run (client_of c) d ∷ []) ≡ keys_at q (begun_lines run (client_of c) (begun_claim claim)))
    → ClientPast run c (done ++ d ∷ []) Idle
finish run c done claim d h is keys = record {
  calls = Every-append (IsDone run) done (d ∷ []) h.calls (is, tt);
  call = tt;
  told = λ q.
      ap (keys_at q) (append-nil (done_lines run c (done ++ d ∷ [])) ∙ done_lines-end run c done d)
      ∙ keys_at-append q (done_lines run c done) (line_of run (client_of c) d ∷ [])
      ∙ ap (λ k. keys_at q (done_lines run c done) ++ k) (keys q)
      ∙ sym (keys_at-append q (done_lines run c done) (begun_lines run (client_of c) (begun_claim claim)))
      ∙ h.told q;
}

replied_keys : (line : Line) (reply : Reply) (ts : Ts) (made : Option Node) → reply ≢ MovedReply → keys_of line (outcome_of reply ts made) ≡ []
replied_keys line MovedReply ts made formed = absurd (formed refl)
replied_keys line reply ts made formed = refl

begun_without : (run : List (PlaceNo × Entry)) (c : ℕ) (call : Call) (first : Stamp) (q : ℕ) → move_from (client_of c) call (position_of first run) run ≡ None → keys_at q (begun_line run (client_of c) call first ∷ []) ≡ []
begun_without run c call first q none = ap (λ o. keys_at q (unfinished (client_of c) call (position_of first run) o ∷ [])) none

module _ (run : List (PlaceNo × Entry)) (c : ℕ) (done : List CallDone) (d : CallDone) (last_there : stands d.last run ≡ true) (newest : (t : Stamp) → stands t run ≡ true → position_of t run ≤ position_of d.last run) where
  finish_said : (at : At) → d.at ≡ at → IsFormed d.reply at → d.reply ≢ MovedReply → ClientPast run c done (Said d.call d.first at d.reply) → ClientPast run c (done ++ d ∷ []) Idle
  finish_said at same formed kind h =
      let said : IsSaid run c d.call d.first at d.reply = h.call in
      finish run c done (Said d.call d.first at d.reply) d h
      (record {
        first = said.still.begun;
        at = ap (λ a. stands (stamp_at a) run) same ∙ said.there;
        last = last_there;
        low = subst (λ a. position_of d.first run ≤ position_of (stamp_at a) run) (sym same) said.order;
        high = subst (λ a. position_of (stamp_at a) run ≤ position_of d.last run) (sym same) (newest (stamp_at at) said.there);
        formed = subst (IsFormed d.reply) (sym same) formed;
        right = λ not_moved. subst (λ a. IsReplyIn (space_at run (point_of a run)) d.call d.reply) (sym same) said.right;
      })
      (λ q. none_if (point_of d.at run == q) _ (replied_keys (line_of run (client_of c) d) d.reply d.ts d.made kind) ∙ sym (begun_without run c d.call d.first q said.still.none))

  finish_made : (s : Stamp) → d.at ≡ Step s → d.reply ≡ MovedReply → ClientPast run c done (Made d.call d.first s d.ts d.made) → ClientPast run c (done ++ d ∷ []) Idle
  finish_made s same formed h =
      let made : IsMade run c d.call d.first s d.ts d.made = h.call in
      let outcome_is : outcome_of d.reply d.ts d.made ≡ outcome.Moved d.ts d.made = ap (λ r. outcome_of r d.ts d.made) formed in
      finish run c done (Made d.call d.first s d.ts d.made) d h
      (record {
        first = made.begun;
        at = ap (λ a. stands (stamp_at a) run) same ∙ made.there;
        last = last_there;
        low = subst (λ a. position_of d.first run ≤ position_of (stamp_at a) run) (sym same) made.order;
        high = subst (λ a. position_of (stamp_at a) run ≤ position_of d.last run) (sym same) (newest s made.there);
        formed = subst (IsFormed d.reply) (sym same) formed;
        right = λ not_moved. absurd (not_moved formed);
      })
      (λ q. ap (λ o. (if point_of d.at run == q then keys_of (line_of run (client_of c) d) o else []) ++ []) outcome_is
      ∙ ap (λ a. (if point_of a run == q then record { client = client_of c; call = d.call; ts = d.ts; made = d.made } ∷ [] else []) ++ []) same
      ∙ ap (λ found. keys_at q (unfinished (client_of c) d.call (position_of d.first run) found ∷ [])) (sym made.found))

  pub finished : (at : At) → d.at ≡ at → IsFormed d.reply at → ClientPast run c done (claim_at d at) → ClientPast run c (done ++ d ∷ []) Idle
  finished (Step s) same formed h = finish_made s same formed h
  finished (Before s) same formed h = finish_said (Before s) same formed formed h
  finished (After s) same formed h = finish_said (After s) same formed formed h

-- ---- what a step tells of a client
pub told-past : (run : List (PlaceNo × Entry)) (e : PlaceNo × Entry) → IsFresh run e → (s : Stamp) → is_at s e ≡ true → (c : ℕ) (claim claim' : Claim) (done done' : List CallDone)
    → ClientTold c s (e ∷ run) e.1.moved claim claim' done done' → ClientPast run c done claim → ClientPast (e ∷ run) c done' claim'
told-past run e fresh s is c claim claim' done done' t h = by_case t.goes
  where
    newest : (x : Stamp) → stands x (e ∷ run) ≡ true → position_of x (e ∷ run) ≤ position_of s (e ∷ run)
    newest x there = let within = position-within x (e ∷ run) there in omega (arith, position-new s run e is)

    by_case : ((done' ≡ done) × Leads c s (e ∷ run) e.1.moved t.from claim') ⊎ Ends c s (e ∷ run) e.1.moved t.from claim' done done' → ClientPast (e ∷ run) c done' claim'
    by_case (inl goes) = subst (λ d. ClientPast (e ∷ run) c d claim') (sym goes.0) (leads-past run e fresh s is c done claim t.from claim' t.starts goes.1 h)
    by_case (inr ends) =
        let d : CallDone = ends.call in
        let over = finished (e ∷ run) c done d (ap (λ x. stands x (e ∷ run)) ends.last ∙ stands-new s run e is) (λ x there. subst (λ z. position_of x (e ∷ run) ≤ position_of z (e ∷ run)) (sym ends.last) (newest x there)) d.at refl ends.formed
        (leads-past run e fresh s is c done claim t.from (claim_at d d.at) t.starts ends.leads h) in
        subst (λ x. ClientPast (e ∷ run) c x claim') (sym ends.more) (subst (ClientPast (e ∷ run) c (done ++ d ∷ [])) (sym ends.idle) over)
