-- From what holds of each client's past to what holds of all lines.
use Rattle.std.proofs.Common.{◌≡◌, ◌≢◌, ℕ, ◌+◌, ◌≤◌, ◌<◌, List, [], ◌∷◌, ◌++◌, map, Bool, true, false, refl, sym, ◌∙◌, ap, subst, arith, ◌⊎◌, inl, inr}
use Rattle.std.specs.Prelude.{if◌then◌else◌, ◌||◌, ◌==◌, Option, Some, None}
use Rattle.std.specs.List.{list_any}
use Rattle.std.proofs.lemmas.Bool.Decides.{nat_tests}
use Rattle.next_ids.specs.declared.ids.At.{At}
use Rattle.next_ids.specs.declared.ids.At.TheVariants.{Step, Before, After}
use Rattle.next_ids.specs.declared.ids.Stamp.{Stamp}
use Rattle.next_ids.specs.declared.ids.PlaceNo.{PlaceNo}
use Rattle.next_ids.specs.declared.ids.Node.{Node}
use Rattle.next_ids.specs.declared.time.Ts.{Ts}
use Rattle.next_ids.specs.declared.call.Call.{Call}
use Rattle.next_ids.specs.declared.call.Reply.{Reply}
use Rattle.next_ids.specs.declared.call.Reply.TheVariants.{Moved as MovedReply}
use Rattle.next_ids.specs.Namespace.{Namespace}
use Rattle.next_steps.specs.declared.entry.Entry.{Entry}
use Rattle.next_steps.specs.declared.moves.Moved.{Moved}
use Rattle.next_steps.specs.declared.moves.Moved.TheVariants.{Move, Forget}
use Rattle.next_steps.specs.declared.moves.Move.{Move as MoveFacts}
use Rattle.next_steps.specs.declared.call_done.CallDone.{CallDone}
use Rattle.next_steps.specs.declared.line.Line.{Line}
use Rattle.next_steps.specs.declared.line.Outcome.TheVariants as outcome
use Rattle.next_steps.specs.declared.line.HistoryItem.TheVariants.{Line as LineItem}
use Rattle.next_rules.specs.Actors.{client_of, begun_in}
use Rattle.next_rules.specs.Histories.{position_of, point_of, line_of, outcome_of, move_from, unfinished, begun_line, begun_lines}
use Rattle.next_rules.specs.Laws.{space_at, IsAnswered}
use Rattle.next_rules.specs.Legal.{Positions, HasPositions, Follows, IsReply}
use Rattle.next_rules.specs.Members.{IsBelowAll, IsRising}
use Rattle.next_rules.specs.Worlds.{World}
use Rattle.next_laws_order.proofs.Lists.{Every, Pairs, Every-like, Every-append, Pairs-like, Pairs-with, Pairs-append, Across-always}
use Rattle.next_laws_order.proofs.Orders.{Comes}
use Rattle.next_laws_order.proofs.Turns.{span_of, begun_spans, Holds}
use Rattle.next_laws_order.proofs.Lines.{client_lines, members_lines}
use Rattle.next_laws_told.specs.Claims.{Claim, Idle, Open, Said, Made, begun_claim, stamp_at, IsReplyIn}
use Rattle.next_laws_told.specs.Ledgers.{Ledger, IsFormed}
use Rattle.next_laws_told.proofs.Runs.{moved_in}
use Rattle.next_laws_told.proofs.Keys.{keys_at, own_keys, all_keys, keys_at-append}
use Rattle.next_laws_told.proofs.Pasts.{IsDone, IsOpen, ClaimIs}
use Rattle.next_laws_told.proofs.Turns.{PastOf}

abbrev pub IsPlaced : Line → Type 0
IsPlaced line = HasPositions (LineItem line)

abbrev pub IsToldRight : List (PlaceNo × Entry) → Line → Type 0
IsToldRight run line = IsAnswered run (LineItem line)

abbrev pub IsOf : ℕ → Line → Type 0
IsOf c line = line.client ≡ client_of c

-- ---- the line of a finished call
replied_placed : (reply : Reply) (ts : Ts) (made : Option Node) (first at last : ℕ) → reply ≢ MovedReply → first ≤ at → at ≤ last + 1 → Positions (outcome_of reply ts made) first (Some at) (Some last)
replied_placed MovedReply ts made first at last formed le to = absurd (formed refl)
replied_placed reply ts made first at last formed le to = (formed, le, to)

done_answered : (n : Namespace) (call : Call) (r : Reply) (ts : Ts) (made : Option Node) → (r ≢ MovedReply → IsReplyIn n call r) → (reply : Reply) → outcome_of r ts made ≡ outcome.Reply reply → IsReplyIn n call reply
done_answered n call MovedReply ts made h reply is = absurd (cc)
done_answered n call r ts made h reply is = let same : r ≡ reply = cc in subst (IsReplyIn n call) same (h (λ moved. cc))

module _ (run : List (PlaceNo × Entry)) (c : ℕ) where
  done_placed : (d : CallDone) (at : At) → d.at ≡ at → IsFormed d.reply at → IsDone run d → IsPlaced (line_of run (client_of c) d)
  done_placed d (Step s) same formed h =
      subst (λ o. Positions o (position_of d.first run) (Some (point_of d.at run)) (Some (position_of d.last run))) (sym (ap (λ r. outcome_of r d.ts d.made) formed))
      (rw same (subst (λ a. position_of d.first run ≤ position_of (stamp_at a) run) same h.low, subst (λ a. position_of (stamp_at a) run ≤ position_of d.last run) same h.high))
  done_placed d (Before s) same formed h =
      rw same (replied_placed d.reply d.ts d.made (position_of d.first run) (position_of s run) (position_of d.last run) formed
      (subst (λ a. position_of d.first run ≤ position_of (stamp_at a) run) same h.low) (let le = subst (λ a. position_of (stamp_at a) run ≤ position_of d.last run) same h.high in omega arith))
  done_placed d (After s) same formed h =
      rw same (replied_placed d.reply d.ts d.made (position_of d.first run) (position_of s run + 1) (position_of d.last run) formed
      (let le = subst (λ a. position_of d.first run ≤ position_of (stamp_at a) run) same h.low in omega arith) (let le = subst (λ a. position_of (stamp_at a) run ≤ position_of d.last run) same h.high in omega arith))

  done_right : (d : CallDone) → IsDone run d → IsToldRight run (line_of run (client_of c) d)
  done_right d h = λ p reply at is. let point : point_of d.at run ≡ p = cc in
      is_reply (space_at run p) (line_of run (client_of c) d) reply (subst (λ q. IsReplyIn (space_at run q) d.call reply) point (done_answered (space_at run (point_of d.at run)) d.call d.reply d.ts d.made h.right reply is))
    where
      is_reply : (n : Namespace) (line : Line) (reply : Reply) → IsReplyIn n line.call reply → IsReply n line reply
      is_reply n line reply h = h

  -- ---- the line of a call that has begun
  unfinished_right : (call : Call) (first : ℕ) (found : Option (ℕ × Ts × Option Node)) → IsToldRight run (unfinished (client_of c) call first found)
  unfinished_right call first None = λ p reply at is. absurd (cc)
  unfinished_right call first (Some found) = λ p reply at is. absurd (cc)

  unfinished_of : (call : Call) (first : ℕ) (found : Option (ℕ × Ts × Option Node)) → IsOf c (unfinished (client_of c) call first found)
  unfinished_of call first None = refl
  unfinished_of call first (Some found) = refl

  open_placed : (call : Call) (first : Stamp) → IsOpen run c call first → IsPlaced (begun_line run (client_of c) call first)
  open_placed call first h = subst (λ o. IsPlaced (unfinished (client_of c) call (position_of first run) o)) (sym h.none) tt

  begun_placed : (claim : Claim) → ClaimIs run c claim → Every IsPlaced (begun_lines run (client_of c) (begun_claim claim))
  begun_placed Idle h = tt
  begun_placed (Open call first) h = (open_placed call first h, tt)
  begun_placed (Said call first at reply) h = (open_placed call first h.still, tt)
  begun_placed (Made call first at ts made) h = (subst (λ o. IsPlaced (unfinished (client_of c) call (position_of first run) o)) (sym h.found) h.order, tt)

  -- ---- the lines of a client
  lines_placed : (done : List CallDone) (claim : Claim) → Every (IsDone run) done → ClaimIs run c claim → Every IsPlaced (client_lines run c done (begun_claim claim))
  lines_placed [] claim h k = begun_placed claim k
  lines_placed (d ∷ done) claim h k = (done_placed d d.at refl h.0.formed h.0, lines_placed done claim h.1 k)

  lines_right : (done : List CallDone) (begun : Option (Call × Stamp)) → Every (IsDone run) done → Every (IsToldRight run) (client_lines run c done begun)
  lines_right [] None h = tt
  lines_right [] (Some begun) h = (unfinished_right begun.0 (position_of begun.1 run) (move_from (client_of c) begun.0 (position_of begun.1 run) run), tt)
  lines_right (d ∷ done) begun h = (done_right d h.0, lines_right done begun h.1)

  lines_of_it : (done : List CallDone) (begun : Option (Call × Stamp)) → Every (IsOf c) (client_lines run c done begun)
  lines_of_it [] None = tt
  lines_of_it [] (Some begun) = (unfinished_of begun.0 (position_of begun.1 run) (move_from (client_of c) begun.0 (position_of begun.1 run) run), tt)
  lines_of_it (d ∷ done) begun = (refl, lines_of_it done begun)

  unfinished_follows : (d : CallDone) (call : Call) (first : Stamp) (found : Option (ℕ × Ts × Option Node)) → Comes run (span_of d) (record { first = first; last = None }) → Follows (line_of run (client_of c) d) (unfinished (client_of c) call (position_of first run) found)
  unfinished_follows d call first None h = h
  unfinished_follows d call first (Some found) h = h

  each_follows : (d : CallDone) (done : List CallDone) (begun : Option (Call × Stamp)) → Every (Comes run (span_of d)) (map span_of done ++ begun_spans begun) → Every (Follows (line_of run (client_of c) d)) (client_lines run c done begun)
  each_follows d [] None h = tt
  each_follows d [] (Some begun) h = (unfinished_follows d begun.0 begun.1 (move_from (client_of c) begun.0 (position_of begun.1 run) run) h.0, tt)
  each_follows d (x ∷ done) begun h = (h.0, each_follows d done begun h.1)

  lines_follow : (done : List CallDone) (begun : Option (Call × Stamp)) → Pairs (Comes run) (map span_of done ++ begun_spans begun) → Pairs Follows (client_lines run c done begun)
  lines_follow [] None h = tt
  lines_follow [] (Some begun) h = (tt, tt)
  lines_follow (d ∷ done) begun h = (each_follows d done begun h.0, lines_follow done begun h.1)

-- ---- all lines
-- the clients rise, and the calls of each follow one another
abbrev pub InOrder : Line → Line → Type 0
InOrder x y = (x.client.0 < y.client.0) ⊎ ((x.client ≡ y.client) × Follows x y)

pub record LineFacts (run : List (PlaceNo × Entry)) (lines : List Line) : Type 0 where
  pub placed : Every IsPlaced lines
  pub order : Pairs InOrder lines
  pub right : Every (IsToldRight run) lines

-- the client of what a step moved is a member
abbrev pub HasMover : List ℕ → Option Moved → Type 0
HasMover members None = Unit {0}
HasMover members (Some (Move m)) = list_any (λ x. x == m.client.0) members ≡ true
HasMover members (Some (Forget file)) = Unit {0}

module _ (claims : Ledger) (w : World) (past : PastOf claims w) (begun : (c : ℕ) → begun_claim (claims w c) ≡ begun_in (w.actors.clients c).current) (h : Holds w) where
  abbrev lines_of_one : ℕ → List Line
  lines_of_one c = client_lines w.run c (w.actors.clients c).done (begun_in (w.actors.clients c).current)

  one_placed : (c : ℕ) → Every IsPlaced (lines_of_one c)
  one_placed c = subst (λ b. Every IsPlaced (client_lines w.run c (w.actors.clients c).done b)) (begun c) (lines_placed w.run c (w.actors.clients c).done (claims w c) (past c).calls (past c).call)

  pub one_told : (c q : ℕ) → keys_at q (lines_of_one c) ≡ own_keys c (moved_in w.run q)
  one_told c q = subst (λ b. keys_at q (client_lines w.run c (w.actors.clients c).done b) ≡ own_keys c (moved_in w.run q)) (begun c) ((past c).told q)

  one_of : (c : ℕ) → Every (IsOf c) (lines_of_one c)
  one_of c = lines_of_it w.run c (w.actors.clients c).done (begun_in (w.actors.clients c).current)

  above : (c : ℕ) (members : List ℕ) → IsBelowAll c members → Every (λ line. c < line.client.0) (members_lines w members)
  above c [] low = tt
  above c (m ∷ members) low = Every-append (λ line. c < line.client.0) (lines_of_one m) (members_lines w members)
      (Every-like (IsOf m) (λ line. c < line.client.0) (lines_of_one m) (λ line is. let at : line.client.0 ≡ m = ap (λ x. x.0) is in omega (arith, low.0)) (one_of m))
      (above c members low.1)

  same_client : (c : ℕ) (x y : Line) → IsOf c x → IsOf c y → Follows x y → InOrder x y
  same_client c x y a b f = inr (a ∙ sym b, f)

  other_client : (c : ℕ) (x y : Line) → IsOf c x → c < y.client.0 → InOrder x y
  other_client c x y a lt = let at : x.client.0 ≡ c = ap (λ z. z.0) a in inl (omega arith)

  pub facts_of_members : (members : List ℕ) → IsRising members → LineFacts w.run (members_lines w members)
  facts_of_members [] rising = record { placed = tt; order = tt; right = tt }
  facts_of_members (c ∷ members) rising =
      let rest : LineFacts w.run (members_lines w members) = facts_of_members members rising.1 in
      record {
        placed = Every-append IsPlaced (lines_of_one c) (members_lines w members) (one_placed c) rest.placed;
        order = Pairs-append InOrder (lines_of_one c) (members_lines w members)
            (Pairs-like (λ x y. IsOf c x × (IsOf c y × Follows x y)) InOrder (lines_of_one c) (λ x y e. same_client c x y e.0 e.1.0 e.1.1)
            (Pairs-with (IsOf c) Follows (lines_of_one c) (one_of c) (lines_follow w.run c (w.actors.clients c).done (begun_in (w.actors.clients c).current) (h.clients c).order)))
            rest.order
            (Across-always InOrder (IsOf c) (λ y. c < y.client.0) (lines_of_one c) (members_lines w members) (other_client c) (one_of c) (above c members rising.0));
        right = Every-append (IsToldRight w.run) (lines_of_one c) (members_lines w members) (lines_right w.run c (w.actors.clients c).done (begun_in (w.actors.clients c).current) (past c).calls) rest.right;
      }

  -- ---- the moves
  abbrev keys_if : List ℕ → Option Moved → List MoveFacts
  keys_if members None = []
  keys_if members (Some (Move m)) = if list_any (λ x. x == m.client.0) members then m ∷ [] else []
  keys_if members (Some (Forget file)) = []

  not_below : (c : ℕ) (members : List ℕ) → IsBelowAll c members → list_any (λ x. x == c) members ≡ false
  not_below c [] low = refl
  not_below c (m ∷ members) low = let differ : (m == c) ≡ false = grind (arith, nat_tests, low.0) in rw differ (not_below c members low.1)

  keys_more : (c : ℕ) (members : List ℕ) (moved : Option Moved) → IsBelowAll c members → own_keys c moved ++ keys_if members moved ≡ keys_if (c ∷ members) moved
  keys_more c members None low = refl
  keys_more c members (Some (Forget file)) low = refl
  keys_more c members (Some (Move m)) low = by_test (m.client.0 == c) refl (c == m.client.0) refl
    where
      by_test : (a : Bool) → (m.client.0 == c) ≡ a → (b : Bool) → (c == m.client.0) ≡ b
          → (if a then m ∷ [] else []) ++ (if list_any (λ x. x == m.client.0) members then m ∷ [] else []) ≡ (if (b || list_any (λ x. x == m.client.0) members) then m ∷ [] else [])
      by_test true t true u = let same : c ≡ m.client.0 = grind (arith, nat_tests) in ap (λ b. m ∷ (if b then m ∷ [] else [])) (ap (λ x. list_any (λ y. y == x) members) (sym same) ∙ not_below c members low)
      by_test true t false u = absurd (grind (arith, nat_tests))
      by_test false t true u = absurd (grind (arith, nat_tests))
      by_test false t false u = refl

  keys_of_members : (q : ℕ) (members : List ℕ) → IsRising members → keys_at q (members_lines w members) ≡ keys_if members (moved_in w.run q)
  keys_of_members q [] rising = none (moved_in w.run q)
    where
      none : (moved : Option Moved) → [] ≡ keys_if [] moved
      none None = refl
      none (Some (Move m)) = refl
      none (Some (Forget file)) = refl
  keys_of_members q (c ∷ members) rising =
      keys_at-append q (lines_of_one c) (members_lines w members)
      ∙ ap (λ k. k ++ keys_at q (members_lines w members)) (one_told c q)
      ∙ ap (λ k. own_keys c (moved_in w.run q) ++ k) (keys_of_members q members rising.1)
      ∙ keys_more c members (moved_in w.run q) rising.0

  all_of : (members : List ℕ) (moved : Option Moved) → HasMover members moved → keys_if members moved ≡ all_keys moved
  all_of members None has = refl
  all_of members (Some (Forget file)) has = refl
  all_of members (Some (Move m)) has = rw has refl

  pub all_keys_told : (members : List ℕ) → IsRising members → ((q : ℕ) → HasMover members (moved_in w.run q)) → (q : ℕ) → keys_at q (members_lines w members) ≡ all_keys (moved_in w.run q)
  all_keys_told members rising has q = keys_of_members q members rising ∙ all_of members (moved_in w.run q) (has q)
