-- What a client's own step makes of its lines and of its call that has begun.
use Rattle.std.proofs.Common.{◌≡◌, ℕ, ◌≤◌, List, [], ◌∷◌, ◌++◌, length, Bool, true, false, refl, sym, ◌∙◌, ap, subst, arith}
use Rattle.std.specs.Prelude.{if◌then◌else◌, ◌==◌, Option, Some, None}
use Rattle.cfs_ids.specs.declared.ids.Stamp.{Stamp}
use Rattle.cfs_ids.specs.declared.ids.At.TheVariants.{Step, Before}
use Rattle.cfs_ids.specs.declared.ids.DirId.{DirId}
use Rattle.cfs_ids.specs.declared.ids.PlaceNo.{PlaceNo}
use Rattle.cfs_ids.specs.declared.ids.Node.{Node}
use Rattle.cfs_ids.specs.declared.errno.Errno.{Errno}
use Rattle.cfs_ids.specs.declared.call.Call.{Call}
use Rattle.cfs_ids.specs.declared.call.Reply.{Reply}
use Rattle.cfs_ids.specs.declared.call.Reply.TheVariants.{Moved as MovedReply, Refused}
use Rattle.cfs_ids.specs.Namespace.{answer}
use Rattle.cfs_steps.specs.declared.entry.Entry.{Entry}
use Rattle.cfs_steps.specs.declared.moves.Move.{Move as MoveFacts}
use Rattle.cfs_steps.specs.declared.call_done.CallDone.{CallDone}
use Rattle.cfs_steps.specs.declared.line.Line.{Line}
use Rattle.cfs_steps.specs.Phases.{Phase, Inserting, Settling, TakingBack, maker}
use Rattle.cfs_rules.specs.Worlds.{Plan, Ends, Calls, client_of, begun_of, first_of}
use Rattle.cfs_rules.specs.Histories.{position_of, line_of, outcome_of, move_from, unfinished, begun_line, begun_lines}
use Rattle.cfs_rules.specs.Legal.{Follows, Positions}
use Rattle.cfs_laws_history.proofs.Lists.{Every, Every-append, Pairs-end}
use Rattle.cfs_laws_history.proofs.Stamps.{stands, space_at, position-within}
use Rattle.cfs_laws_history.proofs.Keys.{keys_of, keys_at, append-none, keys_at-append}
use Rattle.cfs_laws_history.proofs.Pasts.{EndsIn, RightAt, IsRight, IsPlaced, LinesHold, StampsStand, Begun, IsInserting, IsSettling, PhasePast, done_lines, own_lines, ClientPast}

LinesHold-end : (run : List (PlaceNo × Entry)) (lines : List Line) (x : Line) → LinesHold run lines → IsPlaced x → EndsIn (length run) x → Every (EndsIn x.first) lines → IsRight run x → LinesHold run (lines ++ x ∷ [])
LinesHold-end run lines x h placed ends after right = record {
  positions = Every-append IsPlaced lines (x ∷ []) h.positions (placed, tt);
  ended = Every-append (EndsIn (length run)) lines (x ∷ []) h.ended (ends, tt);
  follow = Pairs-end Follows lines x h.follow after;
  right = Every-append (IsRight run) lines (x ∷ []) h.right (right, tt);
}

done_lines-end : (run : List (PlaceNo × Entry)) (c : ℕ) (done : List CallDone) (d : CallDone) → done_lines run c (done ++ d ∷ []) ≡ done_lines run c done ++ line_of run (client_of c) d ∷ []
done_lines-end run c [] d = refl
done_lines-end run c (x ∷ done) d = ap (λ l. line_of run (client_of c) x ∷ l) (done_lines-end run c done d)

begun-first : (run : List (PlaceNo × Entry)) (c : ℕ) (plan : Plan) → begun_lines run (client_of c) (begun_of (first_of plan)) ≡ []
begun-first run c Ends = refl
begun-first run c (Calls call next) = refl

phase-first : (run : List (PlaceNo × Entry)) (c : ℕ) (lines : List Line) (plan : Plan) → PhasePast run c lines (first_of plan)
phase-first run c lines Ends = tt
phase-first run c lines (Calls call next) = tt

-- a call finishes, and its line tells of the move that the line of the begun call told of
finish : (run : List (PlaceNo × Entry)) (c : ℕ) (done : List CallDone) (current : Option Phase) (plan : Plan) (d : CallDone) → ClientPast run c done current
    → StampsStand run d → IsPlaced (line_of run (client_of c) d) → EndsIn (length run) (line_of run (client_of c) d)
    → Every (EndsIn (position_of d.first run)) (done_lines run c done) → IsRight run (line_of run (client_of c) d)
    → ((q : ℕ) → keys_at q (line_of run (client_of c) d ∷ []) ≡ keys_at q (begun_lines run (client_of c) (begun_of current)))
    → ClientPast run c (done ++ d ∷ []) (first_of plan)
finish run c done current plan d h stand placed ends after right keys = record {
  there = Every-append (StampsStand run) done (d ∷ []) h.there (stand, tt);
  lines = subst (LinesHold run) (sym (done_lines-end run c done d)) (LinesHold-end run (done_lines run c done) (line_of run (client_of c) d) h.lines placed ends after right);
  phase = phase-first run c (done_lines run c (done ++ d ∷ [])) plan;
  told = λ q.
      ap (keys_at q) all_same
      ∙ keys_at-append q (done_lines run c done) (line_of run (client_of c) d ∷ [])
      ∙ ap (λ k. keys_at q (done_lines run c done) ++ k) (keys q)
      ∙ sym (keys_at-append q (done_lines run c done) (begun_lines run (client_of c) (begun_of current)))
      ∙ h.told q;
}
  where
    all_same : own_lines run c (done ++ d ∷ []) (first_of plan) ≡ done_lines run c done ++ line_of run (client_of c) d ∷ []
    all_same = ap (λ b. done_lines run c (done ++ d ∷ []) ++ b) (begun-first run c plan) ∙ append-none (done_lines run c (done ++ d ∷ [])) ∙ done_lines-end run c done d

-- ---- a call that ends without a move
abbrev pub IsReply : Reply → Type 0
IsReply MovedReply = ⊥
IsReply _ = Unit {0}

replied_placed : (reply : Reply) (first at last : ℕ) → IsReply reply → first ≤ at → at ≤ last → Positions (outcome_of reply 0 None) first (Some at) (Some last)
replied_placed MovedReply first at last is le to = absurd is
replied_placed reply first at last is le to = ((λ e. cc), le, omega arith)

replied_right : (run : List (PlaceNo × Entry)) (line : Line) (reply : Reply) (at : ℕ) → IsReply reply → at ≤ length run → answer (space_at run at) line.call ≡ reply → RightAt run line (outcome_of reply 0 None) (Some at)
replied_right run line MovedReply at is le h = absurd is
replied_right run line reply at is le h = (le, h)

none_if : (b : Bool) (ks : List MoveFacts) → ks ≡ [] → (if b then ks else []) ++ [] ≡ []
none_if true ks h = rw h refl
none_if false ks h = refl

replied_keys : (line : Line) (reply : Reply) → IsReply reply → keys_of line (outcome_of reply 0 None) ≡ []
replied_keys line MovedReply is = absurd is
replied_keys line reply is = refl

pub finish_replied : (run : List (PlaceNo × Entry)) (c : ℕ) (done : List CallDone) (current : Option Phase) (plan : Plan) (call : Call) (first at last : Stamp) (reply : Reply)
    → ClientPast run c done current → IsReply reply
    → Begun run (done_lines run c done) first → stands at run ≡ true → stands last run ≡ true
    → position_of first run ≤ position_of at run → position_of at run ≤ position_of last run
    → answer (space_at run (position_of at run)) call ≡ reply
    → ((q : ℕ) → keys_at q (begun_lines run (client_of c) (begun_of current)) ≡ [])
    → ClientPast run c (done ++ record { call = call; first = first; at = Before at; last = last; reply = reply; ts = 0; made = None } ∷ []) (first_of plan)
finish_replied run c done current plan call first at last reply h is begun at_there last_there le to answered none =
    let d : CallDone = record { call = call; first = first; at = Before at; last = last; reply = reply; ts = 0; made = None } in
    let first_within = position-within first run begun.there in
    let at_within = position-within at run at_there in
    let last_within = position-within last run last_there in
    finish run c done current plan d h
    (record { first = begun.there; at = at_there; last = last_there })
    (replied_placed reply (position_of first run) (position_of at run) (position_of last run) is le to)
    (first_within, last_within)
    begun.after
    (replied_right run (line_of run (client_of c) d) reply (position_of at run) is (omega arith) answered)
    (λ q. none_if (position_of at run == q) _ (replied_keys (line_of run (client_of c) d) reply is) ∙ sym (none q))

-- ---- a call that ends with its move
pub finish_moved : (run : List (PlaceNo × Entry)) (c : ℕ) (done : List CallDone) (plan : Plan) (dir : DirId) (name : List ℕ) (node : Node) (ts : ℕ) (first at last : Stamp)
    → ClientPast run c done (Some (Settling dir name node ts first at))
    → stands last run ≡ true → position_of at run ≤ position_of last run
    → ClientPast run c (done ++ record { call = maker dir name node; first = first; at = Step at; last = last; reply = MovedReply; ts = ts; made = Some node } ∷ []) (first_of plan)
finish_moved run c done plan dir name node ts first at last h last_there to =
    let settling : IsSettling run c (done_lines run c done) node ts first at = h.phase in
    let d : CallDone = record { call = maker dir name node; first = first; at = Step at; last = last; reply = MovedReply; ts = ts; made = Some node } in
    let first_within = position-within first run settling.begun.there in
    let last_within = position-within last run last_there in
    finish run c done (Some (Settling dir name node ts first at)) plan d h
    (record { first = settling.begun.there; at = settling.there; last = last_there })
    (settling.order, to)
    (first_within, last_within)
    settling.begun.after
    tt
    (λ q. ap (λ found. keys_at q (unfinished (client_of c) (maker dir name node) (position_of first run) found ∷ [])) (sym settling.found))

-- ---- a create that was refused
pub refuse : (run : List (PlaceNo × Entry)) (c : ℕ) (done : List CallDone) (dir : DirId) (name : List ℕ) (node : Node) (ts : ℕ) (errno : Errno) (first at : Stamp)
    → ClientPast run c done (Some (Inserting dir name node ts first)) → stands at run ≡ true → position_of first run ≤ position_of at run
    → answer (space_at run (position_of at run)) (maker dir name node) ≡ Refused errno
    → ClientPast run c done (Some (TakingBack dir name node errno first at))
refuse run c done dir name node ts errno first at h there le answered =
    let inserting : IsInserting run c (done_lines run c done) first = h.phase in
    record {
      there = h.there;
      lines = h.lines;
      phase = record { begun = inserting.begun; there = there; order = le; none = inserting.none; answered = answered };
      told = h.told;
    }

pub begun_without : (run : List (PlaceNo × Entry)) (c : ℕ) (call : Call) (first : Stamp) (q : ℕ) → move_from (client_of c) (position_of first run) run ≡ None → keys_at q (begun_line run (client_of c) call first ∷ []) ≡ []
begun_without run c call first q none = ap (λ found. keys_at q (unfinished (client_of c) call (position_of first run) found ∷ [])) none

-- the lines of a client whose begun call has made no move tell what its finished calls tell
pub told_without : (run : List (PlaceNo × Entry)) (c : ℕ) (done : List CallDone) (call : Call) (first : Stamp) (q : ℕ) → move_from (client_of c) (position_of first run) run ≡ None
    → keys_at q (done_lines run c done ++ begun_line run (client_of c) call first ∷ []) ≡ keys_at q (done_lines run c done)
told_without run c done call first q none =
    keys_at-append q (done_lines run c done) (begun_line run (client_of c) call first ∷ [])
    ∙ ap (λ k. keys_at q (done_lines run c done) ++ k) (begun_without run c call first q none)
    ∙ append-none (keys_at q (done_lines run c done))
