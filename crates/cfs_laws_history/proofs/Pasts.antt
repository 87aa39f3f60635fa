-- What holds of a client's lines and of its call that has begun, and that a step which is not its move leaves it.
use Rattle.std.proofs.Common.{◌≡◌, ℕ, suc, ◌≤◌, ◌<◌, List, [], ◌∷◌, ◌++◌, map, length, Bool, true, false, refl, sym, ◌∙◌, ap, subst, arith}
use Rattle.std.specs.Prelude.{if◌then◌else◌, ◌==◌, Option, Some, None}
use Rattle.std.proofs.lemmas.Bool.Decides.{nat_tests}
use Rattle.cfs_ids.specs.declared.ids.Client.{Client}
use Rattle.cfs_ids.specs.declared.ids.Stamp.{Stamp}
use Rattle.cfs_ids.specs.declared.ids.DirId.{DirId}
use Rattle.cfs_ids.specs.declared.ids.PlaceNo.{PlaceNo}
use Rattle.cfs_ids.specs.declared.ids.Node.{Node}
use Rattle.cfs_ids.specs.declared.errno.Errno.{Errno}
use Rattle.cfs_ids.specs.declared.call.Call.{Call}
use Rattle.cfs_ids.specs.declared.call.Reply.TheVariants.{Refused}
use Rattle.cfs_ids.specs.Namespace.{answer}
use Rattle.cfs_steps.specs.declared.entry.Entry.{Entry}
use Rattle.cfs_steps.specs.declared.moves.Moved.{Moved}
use Rattle.cfs_steps.specs.declared.moves.Moved.TheVariants.{Move}
use Rattle.cfs_steps.specs.declared.call_done.CallDone.{CallDone}
use Rattle.cfs_steps.specs.declared.line.Line.{Line}
use Rattle.cfs_steps.specs.declared.line.Outcome.{Outcome}
use Rattle.cfs_steps.specs.declared.line.Outcome.TheVariants as outcome
use Rattle.cfs_steps.specs.declared.line.HistoryItem.TheVariants.{Line as LineItem}
use Rattle.cfs_steps.specs.Phases.{Phase, Asking, Inserting, Settling, TakingBack, Finished, maker}
use Rattle.cfs_rules.specs.Worlds.{client_of, begun_of}
use Rattle.cfs_rules.specs.Histories.{position_of, stamp_at, line_of, own_move, move_from, unfinished, begun_line, begun_lines}
use Rattle.cfs_rules.specs.Legal.{EndsBelow, Follows, HasPositions}
use Rattle.cfs_laws_history.proofs.Lists.{Every, Pairs, Every-like}
use Rattle.cfs_laws_history.proofs.Stamps.{stands, space_at, moved_in, IsFresh, position-within, position-grown, stands-grown, space_at-before, moved_in-beyond, move_from-grown}
use Rattle.cfs_laws_history.proofs.Keys.{own_keys, keys_at}

-- the line's steps are below a position
abbrev pub EndsIn : ℕ → Line → Type 0
EndsIn bound line = (line.first < bound) × EndsBelow line.last bound

abbrev pub RightAt : List (PlaceNo × Entry) → Line → Outcome → Option ℕ → Type 0
RightAt run line (outcome.Reply reply) (Some p) = (p ≤ length run) × (answer (space_at run p) line.call ≡ reply)
RightAt run line _ _ = Unit {0}

-- the reply is the namespace's at its position
abbrev pub IsRight : List (PlaceNo × Entry) → Line → Type 0
IsRight run line = RightAt run line line.outcome line.at

abbrev pub IsPlaced : Line → Type 0
IsPlaced line = HasPositions (LineItem line)

-- a client's lines of finished calls
pub record LinesHold (run : List (PlaceNo × Entry)) (lines : List Line) : Type 0 where
  pub positions : Every IsPlaced lines
  pub ended : Every (EndsIn (length run)) lines
  pub follow : Pairs Follows lines
  pub right : Every (IsRight run) lines

pub record StampsStand (run : List (PlaceNo × Entry)) (d : CallDone) : Type 0 where
  pub first : stands d.first run ≡ true
  pub at : stands (stamp_at d.at) run ≡ true
  pub last : stands d.last run ≡ true

-- a call that has begun, after the finished ones
pub record Begun (run : List (PlaceNo × Entry)) (lines : List Line) (first : Stamp) : Type 0 where
  pub there : stands first run ≡ true
  pub after : Every (EndsIn (position_of first run)) lines

pub record IsInserting (run : List (PlaceNo × Entry)) (c : ℕ) (lines : List Line) (first : Stamp) : Type 0 where
  pub begun : Begun run lines first
  pub none : move_from (client_of c) (position_of first run) run ≡ None

pub record IsSettling (run : List (PlaceNo × Entry)) (c : ℕ) (lines : List Line) (node : Node) (ts : ℕ) (first at : Stamp) : Type 0 where
  pub begun : Begun run lines first
  pub there : stands at run ≡ true
  pub order : position_of first run ≤ position_of at run
  pub found : move_from (client_of c) (position_of first run) run ≡ Some (position_of at run, ts, Some node)

pub record IsRefused (run : List (PlaceNo × Entry)) (c : ℕ) (lines : List Line) (dir : DirId) (name : List ℕ) (node : Node) (errno : Errno) (first at : Stamp) : Type 0 where
  pub begun : Begun run lines first
  pub there : stands at run ≡ true
  pub order : position_of first run ≤ position_of at run
  pub none : move_from (client_of c) (position_of first run) run ≡ None
  pub answered : answer (space_at run (position_of at run)) (maker dir name node) ≡ Refused errno

abbrev pub PhasePast : List (PlaceNo × Entry) → ℕ → List Line → Option Phase → Type 0
PhasePast run c lines None = Unit {0}
PhasePast run c lines (Some (Asking call)) = Unit {0}
PhasePast run c lines (Some (Inserting dir name node ts first)) = IsInserting run c lines first
PhasePast run c lines (Some (Settling dir name node ts first at)) = IsSettling run c lines node ts first at
PhasePast run c lines (Some (TakingBack dir name node errno first at)) = IsRefused run c lines dir name node errno first at
PhasePast run c lines (Some (Finished done)) = ⊥

abbrev pub done_lines : List (PlaceNo × Entry) → ℕ → List CallDone → List Line
done_lines run c done = map (line_of run (client_of c)) done

abbrev pub own_lines : List (PlaceNo × Entry) → ℕ → List CallDone → Option Phase → List Line
own_lines run c done current = done_lines run c done ++ begun_lines run (client_of c) (begun_of current)

-- each of the client's moves is told of by just one of its lines, at its position
abbrev pub MovesTold : List (PlaceNo × Entry) → ℕ → List Line → Type 0
MovesTold run c lines = (q : ℕ) → keys_at q lines ≡ own_keys c (moved_in run q)

pub record ClientPast (run : List (PlaceNo × Entry)) (c : ℕ) (done : List CallDone) (current : Option Phase) : Type 0 where
  pub there : Every (StampsStand run) done
  pub lines : LinesHold run (done_lines run c done)
  pub phase : PhasePast run c (done_lines run c done) current
  pub told : MovesTold run c (own_lines run c done current)

-- ---- one more step
-- what a step moved is not the client's
abbrev pub IsOthers : ℕ → Option Moved → Type 0
IsOthers c None = Unit {0}
IsOthers c (Some (Move m)) = (m.client.0 == c) ≡ false

keys-others : (c : ℕ) (moved : Option Moved) → IsOthers c moved → own_keys c moved ≡ []
keys-others c None h = refl
keys-others c (Some (Move m)) h = rw h refl

pub own_move-others : (c n : ℕ) (moved : Option Moved) → IsOthers c moved → own_move (client_of c) n moved ≡ None
own_move-others c n None h = refl
own_move-others c n (Some (Move m)) h = rw h refl

module _ (run : List (PlaceNo × Entry)) (e : PlaceNo × Entry) (fresh : IsFresh run e) where
  pub StampsStand-grown : (d : CallDone) → StampsStand run d → StampsStand (e ∷ run) d
  StampsStand-grown d h = record { first = stands-grown d.first run e h.first; at = stands-grown (stamp_at d.at) run e h.at; last = stands-grown d.last run e h.last }

  line-grown : (client : Client) (d : CallDone) → StampsStand run d → line_of (e ∷ run) client d ≡ line_of run client d
  line-grown client d h = rw (fresh d.first h.first, fresh (stamp_at d.at) h.at, fresh d.last h.last) refl

  pub done_lines-grown : (c : ℕ) (done : List CallDone) → Every (StampsStand run) done → done_lines (e ∷ run) c done ≡ done_lines run c done
  done_lines-grown c [] h = refl
  done_lines-grown c (d ∷ done) h = cc (line-grown (client_of c) d h.0, done_lines-grown c done h.1)

  EndsIn-more : (line : Line) (last : Option ℕ) (n : ℕ) → EndsBelow last n → EndsBelow last (suc n)
  EndsIn-more line None n h = h
  EndsIn-more line (Some last) n h = omega arith

  RightAt-grown : (line : Line) (o : Outcome) (at : Option ℕ) → RightAt run line o at → RightAt (e ∷ run) line o at
  RightAt-grown line (outcome.Reply reply) (Some p) h = (omega (arith, h.0), ap (λ n. answer n line.call) (space_at-before e run p h.0) ∙ h.1)
  RightAt-grown line (outcome.Reply reply) None h = tt
  RightAt-grown line (outcome.Moved ts made) at h = tt
  RightAt-grown line (outcome.Unfinished found) at h = tt

  pub LinesHold-grown : (lines : List Line) → LinesHold run lines → LinesHold (e ∷ run) lines
  LinesHold-grown lines h = record {
    positions = h.positions;
    ended = Every-like (EndsIn (length run)) (EndsIn (suc (length run))) lines (λ line l. (omega (arith, l.0), EndsIn-more line line.last (length run) l.1)) h.ended;
    follow = h.follow;
    right = Every-like (IsRight run) (IsRight (e ∷ run)) lines (λ line r. RightAt-grown line line.outcome line.at r) h.right;
  }

  pub Begun-grown : (lines : List Line) (first : Stamp) → Begun run lines first → Begun (e ∷ run) lines first
  Begun-grown lines first h = record {
    there = stands-grown first run e h.there;
    after = subst (λ p. Every (EndsIn p) lines) (sym (position-grown first run e fresh h.there)) h.after;
  }

  -- the move of a call that has begun
  pub found-grown : (c : ℕ) (first : Stamp) → stands first run ≡ true → IsOthers c e.1.moved → move_from (client_of c) (position_of first (e ∷ run)) (e ∷ run) ≡ move_from (client_of c) (position_of first run) run
  found-grown c first h others =
      ap (λ p. move_from (client_of c) p (e ∷ run)) (position-grown first run e fresh h)
      ∙ move_from-grown (client_of c) (position_of first run) e run (own_move-others c (length run) e.1.moved others)

  pub order-grown : (first at : Stamp) → stands first run ≡ true → stands at run ≡ true → position_of first run ≤ position_of at run → position_of first (e ∷ run) ≤ position_of at (e ∷ run)
  order-grown first at h k le = omega (arith, position-grown first run e fresh h, position-grown at run e fresh k)

  PhasePast-grown : (c : ℕ) (lines : List Line) (current : Option Phase) → IsOthers c e.1.moved → PhasePast run c lines current → PhasePast (e ∷ run) c lines current
  PhasePast-grown c lines None others h = tt
  PhasePast-grown c lines (Some (Asking call)) others h = tt
  PhasePast-grown c lines (Some (Inserting dir name node ts first)) others h = record {
    begun = Begun-grown lines first h.begun;
    none = found-grown c first h.begun.there others ∙ h.none;
  }
  PhasePast-grown c lines (Some (Settling dir name node ts first at)) others h = record {
    begun = Begun-grown lines first h.begun;
    there = stands-grown at run e h.there;
    order = order-grown first at h.begun.there h.there h.order;
    found = found-grown c first h.begun.there others ∙ h.found ∙ ap (λ p. Some (p, ts, Some node)) (sym (position-grown at run e fresh h.there));
  }
  PhasePast-grown c lines (Some (TakingBack dir name node errno first at)) others h = record {
    begun = Begun-grown lines first h.begun;
    there = stands-grown at run e h.there;
    order = order-grown first at h.begun.there h.there h.order;
    none = found-grown c first h.begun.there others ∙ h.none;
    answered = let at_then = position-within at run h.there in
        ap (λ p. answer (space_at (e ∷ run) p) (maker dir name node)) (position-grown at run e fresh h.there)
        ∙ ap (λ n. answer n (maker dir name node)) (space_at-before e run (position_of at run) (omega arith)) ∙ h.answered;
  }
  PhasePast-grown c lines (Some (Finished done)) others h = absurd h

  begun_line-grown : (c : ℕ) (call : Call) (first : Stamp) → stands first run ≡ true → IsOthers c e.1.moved → begun_line (e ∷ run) (client_of c) call first ≡ begun_line run (client_of c) call first
  begun_line-grown c call first h others =
      ap (λ found. unfinished (client_of c) call (position_of first (e ∷ run)) found) (found-grown c first h others)
      ∙ ap (λ p. unfinished (client_of c) call p (move_from (client_of c) (position_of first run) run)) (position-grown first run e fresh h)

  begun_lines-grown : (c : ℕ) (lines : List Line) (current : Option Phase) → IsOthers c e.1.moved → PhasePast run c lines current → begun_lines (e ∷ run) (client_of c) (begun_of current) ≡ begun_lines run (client_of c) (begun_of current)
  begun_lines-grown c lines None others h = refl
  begun_lines-grown c lines (Some (Asking call)) others h = refl
  begun_lines-grown c lines (Some (Inserting dir name node ts first)) others h = ap (λ l. l ∷ []) (begun_line-grown c (maker dir name node) first h.begun.there others)
  begun_lines-grown c lines (Some (Settling dir name node ts first at)) others h = ap (λ l. l ∷ []) (begun_line-grown c (maker dir name node) first h.begun.there others)
  begun_lines-grown c lines (Some (TakingBack dir name node errno first at)) others h = ap (λ l. l ∷ []) (begun_line-grown c (maker dir name node) first h.begun.there others)
  begun_lines-grown c lines (Some (Finished done)) others h = absurd h

  MovesTold-grown : (c : ℕ) (lines : List Line) → IsOthers c e.1.moved → MovesTold run c lines → MovesTold (e ∷ run) c lines
  MovesTold-grown c lines others h q = by_test (q == length run) refl
    where
      by_test : (b : Bool) → (q == length run) ≡ b → keys_at q lines ≡ own_keys c (if b then e.1.moved else moved_in run q)
      by_test true t = let now : q ≡ length run = grind (arith, nat_tests) in h q ∙ ap (own_keys c) (moved_in-beyond run q (omega arith)) ∙ sym (keys-others c e.1.moved others)
      by_test false t = h q

  pub ClientPast-grown : (c : ℕ) (done : List CallDone) (current : Option Phase) → IsOthers c e.1.moved → ClientPast run c done current → ClientPast (e ∷ run) c done current
  ClientPast-grown c done current others h = record {
    there = Every-like (StampsStand run) (StampsStand (e ∷ run)) done StampsStand-grown h.there;
    lines = subst (LinesHold (e ∷ run)) (sym same) (LinesHold-grown (done_lines run c done) h.lines);
    phase = subst (λ lines. PhasePast (e ∷ run) c lines current) (sym same) (PhasePast-grown c (done_lines run c done) current others h.phase);
    told = subst (MovesTold (e ∷ run) c) (sym all_same) (MovesTold-grown c (own_lines run c done current) others h.told);
  }
    where
      same : done_lines (e ∷ run) c done ≡ done_lines run c done
      same = done_lines-grown c done h.there

      all_same : own_lines (e ∷ run) c done current ≡ own_lines run c done current
      all_same = cc (same, begun_lines-grown c (done_lines run c done) current others h.phase)
