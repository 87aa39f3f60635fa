-- What holds of a client's finished calls and of what its current call has come to, and that another's step leaves it.
use Rattle.std.proofs.Common.{◌≡◌, ◌≢◌, ℕ, ◌≤◌, List, [], ◌∷◌, ◌++◌, map, length, Bool, true, false, refl, sym, ◌∙◌, ap, subst, arith}
use Rattle.std.specs.Prelude.{if◌then◌else◌, ◌==◌, Option, Some, None}
use Rattle.std.proofs.lemmas.Bool.Decides.{nat_tests}
use Rattle.next_ids.specs.declared.ids.Stamp.{Stamp}
use Rattle.next_ids.specs.declared.ids.At.{At}
use Rattle.next_ids.specs.declared.ids.PlaceNo.{PlaceNo}
use Rattle.next_ids.specs.declared.ids.Node.{Node}
use Rattle.next_ids.specs.declared.time.Ts.{Ts}
use Rattle.next_ids.specs.declared.call.Call.{Call}
use Rattle.next_ids.specs.declared.call.Reply.{Reply}
use Rattle.next_ids.specs.declared.call.Reply.TheVariants.{Moved as MovedReply}
use Rattle.next_steps.specs.declared.entry.Entry.{Entry}
use Rattle.next_steps.specs.declared.moves.Moved.{Moved}
use Rattle.next_steps.specs.declared.moves.Moved.TheVariants.{Move, Forget}
use Rattle.next_steps.specs.declared.call_done.CallDone.{CallDone}
use Rattle.next_steps.specs.declared.line.Line.{Line}
use Rattle.next_rules.specs.Actors.{client_of}
use Rattle.next_rules.specs.Laws.{space_at}
use Rattle.next_rules.specs.Histories.{position_of, point_of, line_of, own_move, move_from, unfinished, begun_line, begun_lines}
use Rattle.next_laws_order.proofs.Lists.{Every, Every-like}
use Rattle.next_laws_order.proofs.Stamps.{stands, IsFresh, position-grown, stands-grown}
use Rattle.next_laws_told.specs.Claims.{Claim, Idle, Open, Said, Made, begun_claim, stamp_at, IsReplyIn, IsOthers}
use Rattle.next_laws_told.specs.Ledgers.{IsFormed}
use Rattle.next_laws_told.proofs.Runs.{space_at-before, point-within, point-grown, moved_in, moved_in-beyond, move_from-grown}
use Rattle.next_laws_told.proofs.Keys.{own_keys, keys_at}

-- a finished call: its point lies between its first and its last step, and a reply that is no move's is right there
pub record IsDone (run : List (PlaceNo × Entry)) (d : CallDone) : Type 0 where
  pub first : stands d.first run ≡ true
  pub at : stands (stamp_at d.at) run ≡ true
  pub last : stands d.last run ≡ true
  pub low : position_of d.first run ≤ position_of (stamp_at d.at) run
  pub high : position_of (stamp_at d.at) run ≤ position_of d.last run
  pub formed : IsFormed d.reply d.at
  pub right : d.reply ≢ MovedReply → IsReplyIn (space_at run (point_of d.at run)) d.call d.reply

-- ---- what a call has come to
-- a call that has begun, without a move
pub record IsOpen (run : List (PlaceNo × Entry)) (c : ℕ) (call : Call) (first : Stamp) : Type 0 where
  pub begun : stands first run ≡ true
  pub none : move_from (client_of c) call (position_of first run) run ≡ None

pub record IsSaid (run : List (PlaceNo × Entry)) (c : ℕ) (call : Call) (first : Stamp) (point : At) (reply : Reply) : Type 0 where
  pub still : IsOpen run c call first
  pub there : stands (stamp_at point) run ≡ true
  pub order : position_of first run ≤ position_of (stamp_at point) run
  pub right : IsReplyIn (space_at run (point_of point run)) call reply

pub record IsMade (run : List (PlaceNo × Entry)) (c : ℕ) (call : Call) (first at : Stamp) (ts : Ts) (made : Option Node) : Type 0 where
  pub begun : stands first run ≡ true
  pub there : stands at run ≡ true
  pub order : position_of first run ≤ position_of at run
  pub found : move_from (client_of c) call (position_of first run) run ≡ Some (position_of at run, ts, made)

abbrev pub ClaimIs : List (PlaceNo × Entry) → ℕ → Claim → Type 0
ClaimIs run c Idle = Unit {0}
ClaimIs run c (Open call first) = IsOpen run c call first
ClaimIs run c (Said call first at reply) = IsSaid run c call first at reply
ClaimIs run c (Made call first at ts made) = IsMade run c call first at ts made

abbrev pub done_lines : List (PlaceNo × Entry) → ℕ → List CallDone → List Line
done_lines run c done = map (line_of run (client_of c)) done

abbrev pub own_lines : List (PlaceNo × Entry) → ℕ → List CallDone → Claim → List Line
own_lines run c done claim = done_lines run c done ++ begun_lines run (client_of c) (begun_claim claim)

-- each of the client's moves is told of by just one of its lines, at its position
abbrev pub MovesTold : List (PlaceNo × Entry) → ℕ → List Line → Type 0
MovesTold run c lines = (q : ℕ) → keys_at q lines ≡ own_keys c (moved_in run q)

pub record ClientPast (run : List (PlaceNo × Entry)) (c : ℕ) (done : List CallDone) (claim : Claim) : Type 0 where
  pub calls : Every (IsDone run) done
  pub call : ClaimIs run c claim
  pub told : MovesTold run c (own_lines run c done claim)

-- ---- one more step
keys-others : (c : ℕ) (moved : Option Moved) → IsOthers c moved → own_keys c moved ≡ []
keys-others c None h = refl
keys-others c (Some (Move m)) h = rw h refl
keys-others c (Some (Forget file)) h = refl

pub own_move-others : (c : ℕ) (call : Call) (n : ℕ) (moved : Option Moved) → IsOthers c moved → own_move (client_of c) call n moved ≡ None
own_move-others c call n None h = refl
own_move-others c call n (Some (Move m)) h = rw h refl
own_move-others c call n (Some (Forget file)) h = refl

module _ (run : List (PlaceNo × Entry)) (e : PlaceNo × Entry) (fresh : IsFresh run e) where
  pub order-grown : (first at : Stamp) → stands first run ≡ true → stands at run ≡ true → position_of first run ≤ position_of at run → position_of first (e ∷ run) ≤ position_of at (e ∷ run)
  order-grown first at h k le = omega (arith, position-grown first run e fresh h, position-grown at run e fresh k)

  pub reply-grown : (call : Call) (at : At) (reply : Reply) → stands (stamp_at at) run ≡ true → IsReplyIn (space_at run (point_of at run)) call reply → IsReplyIn (space_at (e ∷ run) (point_of at (e ∷ run))) call reply
  reply-grown call at reply there h =
      subst (λ n. IsReplyIn n call reply) (sym (ap (space_at (e ∷ run)) (point-grown run e fresh at there) ∙ space_at-before e run (point_of at run) (point-within at run there))) h

  pub IsDone-grown : (d : CallDone) → IsDone run d → IsDone (e ∷ run) d
  IsDone-grown d h = record {
    first = stands-grown d.first run e h.first;
    at = stands-grown (stamp_at d.at) run e h.at;
    last = stands-grown d.last run e h.last;
    low = order-grown d.first (stamp_at d.at) h.first h.at h.low;
    high = order-grown (stamp_at d.at) d.last h.at h.last h.high;
    formed = h.formed;
    right = λ kind. reply-grown d.call d.at d.reply h.at (h.right kind);
  }

  pub calls-grown : (done : List CallDone) → Every (IsDone run) done → Every (IsDone (e ∷ run)) done
  calls-grown done h = Every-like (IsDone run) (IsDone (e ∷ run)) done IsDone-grown h

  pub done_lines-grown : (c : ℕ) (done : List CallDone) → Every (IsDone run) done → done_lines (e ∷ run) c done ≡ done_lines run c done
  done_lines-grown c [] h = refl
  done_lines-grown c (d ∷ done) h =
      let line : line_of (e ∷ run) (client_of c) d ≡ line_of run (client_of c) d = cc (position-grown d.first run e fresh h.0.first, point-grown run e fresh d.at h.0.at, position-grown d.last run e fresh h.0.last) in
      cc (line, done_lines-grown c done h.1)

  -- the move of a call that has begun
  pub found-grown : (c : ℕ) (call : Call) (first : Stamp) → stands first run ≡ true → IsOthers c e.1.moved → move_from (client_of c) call (position_of first (e ∷ run)) (e ∷ run) ≡ move_from (client_of c) call (position_of first run) run
  found-grown c call first h others =
      ap (λ p. move_from (client_of c) call p (e ∷ run)) (position-grown first run e fresh h)
      ∙ move_from-grown (client_of c) call (position_of first run) e run (own_move-others c call (length run) e.1.moved others)

  ClaimIs-grown : (c : ℕ) (claim : Claim) → IsOthers c e.1.moved → ClaimIs run c claim → ClaimIs (e ∷ run) c claim
  ClaimIs-grown c Idle others h = tt
  ClaimIs-grown c (Open call first) others h = record { begun = stands-grown first run e h.begun; none = found-grown c call first h.begun others ∙ h.none }
  ClaimIs-grown c (Said call first at reply) others h = record {
    still = record { begun = stands-grown first run e h.still.begun; none = found-grown c call first h.still.begun others ∙ h.still.none };
    there = stands-grown (stamp_at at) run e h.there;
    order = order-grown first (stamp_at at) h.still.begun h.there h.order;
    right = reply-grown call at reply h.there h.right;
  }
  ClaimIs-grown c (Made call first at ts made) others h = record {
    begun = stands-grown first run e h.begun;
    there = stands-grown at run e h.there;
    order = order-grown first at h.begun h.there h.order;
    found = found-grown c call first h.begun others ∙ h.found ∙ ap (λ p. Some (p, ts, made)) (sym (position-grown at run e fresh h.there));
  }

  begun_line-grown : (c : ℕ) (call : Call) (first : Stamp) → stands first run ≡ true → IsOthers c e.1.moved → begun_line (e ∷ run) (client_of c) call first ∷ [] ≡ begun_line run (client_of c) call first ∷ []
  begun_line-grown c call first h others =
      ap (λ found. unfinished (client_of c) call (position_of first (e ∷ run)) found ∷ []) (found-grown c call first h others)
      ∙ ap (λ p. unfinished (client_of c) call p (move_from (client_of c) call (position_of first run) run) ∷ []) (position-grown first run e fresh h)

  begun_lines-grown : (c : ℕ) (claim : Claim) → IsOthers c e.1.moved → ClaimIs run c claim → begun_lines (e ∷ run) (client_of c) (begun_claim claim) ≡ begun_lines run (client_of c) (begun_claim claim)
  begun_lines-grown c Idle others h = refl
  begun_lines-grown c (Open call first) others h = begun_line-grown c call first h.begun others
  begun_lines-grown c (Said call first at reply) others h = begun_line-grown c call first h.still.begun others
  begun_lines-grown c (Made call first at ts made) others h = begun_line-grown c call first h.begun others

  pub MovesTold-grown : (c : ℕ) (lines : List Line) → IsOthers c e.1.moved → MovesTold run c lines → MovesTold (e ∷ run) c lines
  MovesTold-grown c lines others h q = by_test (q == length run) refl
    where
      by_test : (b : Bool) → (q == length run) ≡ b → keys_at q lines ≡ own_keys c (if b then e.1.moved else moved_in run q)
      by_test true t = let now : q ≡ length run = grind (arith, nat_tests) in h q ∙ ap (own_keys c) (moved_in-beyond run q (omega arith)) ∙ sym (keys-others c e.1.moved others)
      by_test false t = h q

  -- a step that is no move of the client leaves what its call has come to
  pub ClientPast-grown : (c : ℕ) (done : List CallDone) (claim : Claim) → IsOthers c e.1.moved → ClientPast run c done claim → ClientPast (e ∷ run) c done claim
  ClientPast-grown c done claim others h = record {
    calls = calls-grown done h.calls;
    call = ClaimIs-grown c claim others h.call;
    told = subst (MovesTold (e ∷ run) c) (sym same) (MovesTold-grown c (own_lines run c done claim) others h.told);
  }
    where
      same : own_lines (e ∷ run) c done claim ≡ own_lines run c done claim
      same = cc (done_lines-grown c done h.calls, begun_lines-grown c claim others h.call)
