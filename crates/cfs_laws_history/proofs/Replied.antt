-- Calls that are answered, refused or ended by a step that moves nothing.
use Rattle.std.proofs.Common.{◌≡◌, ℕ, ◌≤◌, List, [], ◌∷◌, ◌++◌, length, true, refl, sym, ◌∙◌, ap, subst, arith}
use Rattle.std.specs.Prelude.{Some, None}
use Rattle.cfs_ids.specs.declared.ids.Stamp.{Stamp}
use Rattle.cfs_ids.specs.declared.ids.At.TheVariants.{Step, Before}
use Rattle.cfs_ids.specs.declared.ids.DirId.{DirId}
use Rattle.cfs_ids.specs.declared.ids.PlaceNo.{PlaceNo}
use Rattle.cfs_ids.specs.declared.ids.Node.{Node}
use Rattle.cfs_ids.specs.declared.errno.Errno.{Errno}
use Rattle.cfs_ids.specs.declared.call.Call.{Call}
use Rattle.cfs_ids.specs.declared.call.Reply.{Reply}
use Rattle.cfs_ids.specs.declared.call.Reply.TheVariants.{Moved as MovedReply, Refused}
use Rattle.cfs_ids.specs.Namespace.{answer}
use Rattle.cfs_steps.specs.declared.entry.Entry.{Entry}
use Rattle.cfs_steps.specs.declared.call_done.CallDone.{CallDone}
use Rattle.cfs_steps.specs.Phases.{Asking, Inserting, Settling, TakingBack, maker}
use Rattle.cfs_rules.specs.Worlds.{Plan, first_of}
use Rattle.cfs_rules.specs.Histories.{is_at, position_of}
use Rattle.cfs_laws_history.proofs.Lists.{Every}
use Rattle.cfs_laws_history.proofs.Stamps.{stands, space_at, IsFresh, position-within, position-new, stands-grown, stands-new}
use Rattle.cfs_laws_history.proofs.Pasts.{EndsIn, IsInserting, IsSettling, IsRefused, done_lines, ClientPast, ClientPast-grown, done_lines-grown}
use Rattle.cfs_rules.specs.Facts.{space}
use Rattle.cfs_laws_history.proofs.Stamps.{space_at-now, space_at-before}
use Rattle.cfs_laws_history.proofs.Pasts.{IsOthers}
use Rattle.cfs_laws_history.proofs.OwnSteps.{IsReply, finish_replied, finish_moved, refuse, begun_without}

module _ (run : List (PlaceNo × Entry)) (e : PlaceNo × Entry) (c : ℕ) (done : List CallDone) (s : Stamp) (fresh : IsFresh run e) (is : is_at s e ≡ true) (others : IsOthers c e.1.moved) where
  -- the namespace before the step
  space_now : space_at (e ∷ run) (position_of s (e ∷ run)) ≡ space run
  space_now = ap (space_at (e ∷ run)) (position-new s run e is) ∙ space_at-before e run (length run) (omega arith) ∙ space_at-now run

  -- a call that is answered at its only step
  pub answer_now : (plan : Plan) (call : Call) (reply : Reply) → ClientPast run c done (Some (Asking call)) → IsReply reply → answer (space run) call ≡ reply
      → ClientPast (e ∷ run) c (done ++ record { call = call; first = s; at = Before s; last = s; reply = reply; ts = 0; made = None } ∷ []) (first_of plan)
  answer_now plan call reply h is_reply right =
      finish_replied (e ∷ run) c done (Some (Asking call)) plan call s s s reply
      (ClientPast-grown run e fresh c done (Some (Asking call)) others h) is_reply
      (record { there = stands-new s run e is; after = after }) (stands-new s run e is) (stands-new s run e is)
      (omega arith) (omega arith) (ap (λ n. answer n call) space_now ∙ right) (λ q. refl)
    where
      after : Every (EndsIn (position_of s (e ∷ run))) (done_lines (e ∷ run) c done)
      after = subst (λ p. Every (EndsIn p) (done_lines (e ∷ run) c done)) (sym (position-new s run e is)) (subst (Every (EndsIn (length run))) (sym (done_lines-grown run e fresh c done h.there)) h.lines.ended)

  below_new : (t : Stamp) → stands t run ≡ true → position_of t (e ∷ run) ≤ position_of s (e ∷ run)
  below_new t there = let within = position-within t (e ∷ run) (stands-grown t run e there) in omega (arith, position-new s run e is)

  -- a create that is refused at this step
  pub refuse_now : (dir : DirId) (name : List ℕ) (node : Node) (ts : ℕ) (errno : Errno) (first : Stamp) → ClientPast run c done (Some (Inserting dir name node ts first)) → answer (space run) (maker dir name node) ≡ Refused errno
      → ClientPast (e ∷ run) c done (Some (TakingBack dir name node errno first s))
  refuse_now dir name node ts errno first h right =
      let inserting : IsInserting run c (done_lines run c done) first = h.phase in
      refuse (e ∷ run) c done dir name node ts errno first s
      (ClientPast-grown run e fresh c done (Some (Inserting dir name node ts first)) others h) (stands-new s run e is)
      (below_new first inserting.begun.there) (ap (λ n. answer n (maker dir name node)) space_now ∙ right)

  -- a create that was refused ends
  pub end_refused : (plan : Plan) (dir : DirId) (name : List ℕ) (node : Node) (errno : Errno) (first at : Stamp) → ClientPast run c done (Some (TakingBack dir name node errno first at))
      → ClientPast (e ∷ run) c (done ++ record { call = maker dir name node; first = first; at = Before at; last = s; reply = Refused errno; ts = 0; made = None } ∷ []) (first_of plan)
  end_refused plan dir name node errno first at h =
      let before : IsRefused run c (done_lines run c done) dir name node errno first at = h.phase in
      let grown : ClientPast (e ∷ run) c done (Some (TakingBack dir name node errno first at)) = ClientPast-grown run e fresh c done (Some (TakingBack dir name node errno first at)) others h in
      let now : IsRefused (e ∷ run) c (done_lines (e ∷ run) c done) dir name node errno first at = grown.phase in
      finish_replied (e ∷ run) c done (Some (TakingBack dir name node errno first at)) plan (maker dir name node) first at s (Refused errno)
      grown tt now.begun now.there (stands-new s run e is) now.order (below_new at before.there) now.answered
      (λ q. begun_without (e ∷ run) c (maker dir name node) first q now.none)

  -- a create that has moved ends
  pub end_moved : (plan : Plan) (dir : DirId) (name : List ℕ) (node : Node) (ts : ℕ) (first at : Stamp) → ClientPast run c done (Some (Settling dir name node ts first at))
      → ClientPast (e ∷ run) c (done ++ record { call = maker dir name node; first = first; at = Step at; last = s; reply = MovedReply; ts = ts; made = Some node } ∷ []) (first_of plan)
  end_moved plan dir name node ts first at h =
      let before : IsSettling run c (done_lines run c done) node ts first at = h.phase in
      finish_moved (e ∷ run) c done plan dir name node ts first at s
      (ClientPast-grown run e fresh c done (Some (Settling dir name node ts first at)) others h) (stands-new s run e is) (below_new at before.there)
