-- A create that begins, and one that moves.
use Rattle.std.proofs.Common.{◌≡◌, ℕ, ◌<◌, List, [], ◌∷◌, ◌++◌, length, Bool, true, false, refl, sym, ◌∙◌, ap, subst, arith}
use Rattle.std.specs.Prelude.{if◌then◌else◌, ◌==◌, Some, None}
use Rattle.std.proofs.lemmas.Bool.Decides.{nat_tests}
use Rattle.cfs_ids.specs.declared.ids.Stamp.{Stamp}
use Rattle.cfs_ids.specs.declared.ids.DirId.{DirId}
use Rattle.cfs_ids.specs.declared.ids.PlaceNo.{PlaceNo}
use Rattle.cfs_ids.specs.declared.ids.Node.{Node}
use Rattle.cfs_ids.specs.declared.call.Call.{Call}
use Rattle.cfs_steps.specs.declared.entry.Entry.{Entry}
use Rattle.cfs_steps.specs.declared.moves.Moved.TheVariants.{Move}
use Rattle.cfs_steps.specs.declared.moves.Move.{Move as MoveFacts}
use Rattle.cfs_steps.specs.declared.call_done.CallDone.{CallDone}
use Rattle.cfs_steps.specs.Phases.{Asking, Inserting, Settling, maker}
use Rattle.cfs_rules.specs.Worlds.{client_of}
use Rattle.cfs_rules.specs.Histories.{is_at, position_of, own_move, move_from, unfinished, begun_line}
use Rattle.cfs_laws_history.proofs.Lists.{Every}
use Rattle.cfs_laws_history.proofs.Stamps.{moved_in, IsFresh, position-within, position-grown, position-new, stands-new, moved_in-beyond, move_from-beyond, move_from-grown, move_from-now}
use Rattle.cfs_laws_history.proofs.Keys.{keys_at, own_keys, append-none, keys_at-append}
use Rattle.cfs_laws_history.proofs.Pasts.{EndsIn, LinesHold, StampsStand, Begun, IsInserting, done_lines, ClientPast, ClientPast-grown, done_lines-grown, LinesHold-grown, StampsStand-grown, Begun-grown}
use Rattle.cfs_laws_history.proofs.Lists.{Every-like}
use Rattle.cfs_laws_history.proofs.Pasts.{IsOthers, own_move-others}
use Rattle.cfs_laws_history.proofs.OwnSteps.{told_without}

-- a create has made its first step
pub begin : (run : List (PlaceNo × Entry)) (e : PlaceNo × Entry) (c : ℕ) (done : List CallDone) (call : Call) (dir : DirId) (name : List ℕ) (node : Node) (ts : ℕ) (s : Stamp)
    → IsFresh run e → is_at s e ≡ true → IsOthers c e.1.moved
    → ClientPast run c done (Some (Asking call))
    → ClientPast (e ∷ run) c done (Some (Inserting dir name node ts s))
begin run e c done call dir name node ts s fresh is others h = record {
  there = grown.there;
  lines = grown.lines;
  phase = record { begun = record { there = stands-new s run e is; after = after }; none = none };
  told = λ q. told_without (e ∷ run) c done (maker dir name node) s q none ∙ ap (keys_at q) (sym (append-none (done_lines (e ∷ run) c done))) ∙ grown.told q;
}
  where
    grown : ClientPast (e ∷ run) c done (Some (Asking call))
    grown = ClientPast-grown run e fresh c done (Some (Asking call)) others h

    after : Every (EndsIn (position_of s (e ∷ run))) (done_lines (e ∷ run) c done)
    after = subst (λ p. Every (EndsIn p) (done_lines (e ∷ run) c done)) (sym (position-new s run e is)) (subst (Every (EndsIn (length run))) (sym (done_lines-grown run e fresh c done h.there)) h.lines.ended)

    none : move_from (client_of c) (position_of s (e ∷ run)) (e ∷ run) ≡ None
    none = ap (λ p. move_from (client_of c) p (e ∷ run)) (position-new s run e is)
        ∙ move_from-grown (client_of c) (length run) e run (own_move-others c (length run) e.1.moved others)
        ∙ move_from-beyond (client_of c) (length run) run (omega arith)

abbrev pub move_by : ℕ → DirId → List ℕ → Node → ℕ → MoveFacts
move_by c dir name node ts = record { client = client_of c; call = maker dir name node; ts = ts; made = Some node }

keys_at-own : (c : ℕ) (dir : DirId) (name : List ℕ) (node : Node) (ts : ℕ) → own_keys c (Some (Move (move_by c dir name node ts))) ≡ move_by c dir name node ts ∷ []
keys_at-own c dir name node ts = let same : (c == c) ≡ true = grind (arith, nat_tests) in rw same refl

own_move-own : (c n : ℕ) (dir : DirId) (name : List ℕ) (node : Node) (ts : ℕ) → own_move (client_of c) n (Some (Move (move_by c dir name node ts))) ≡ Some (n, ts, Some node)
own_move-own c n dir name node ts = let same : (c == c) ≡ true = grind (arith, nat_tests) in rw same refl

-- a create has moved
pub settle : (run : List (PlaceNo × Entry)) (e : PlaceNo × Entry) (c : ℕ) (done : List CallDone) (dir : DirId) (name : List ℕ) (node : Node) (ts : ℕ) (first s : Stamp)
    → IsFresh run e → is_at s e ≡ true → e.1.moved ≡ Some (Move (move_by c dir name node ts))
    → ClientPast run c done (Some (Inserting dir name node ts first))
    → ClientPast (e ∷ run) c done (Some (Settling dir name node ts first s))
settle run e c done dir name node ts first s fresh is moves h = record {
  there = Every-like (StampsStand run) (StampsStand (e ∷ run)) done (StampsStand-grown run e fresh) h.there;
  lines = subst (LinesHold (e ∷ run)) (sym same) (LinesHold-grown run e fresh (done_lines run c done) h.lines);
  phase = record {
    begun = subst (λ lines. Begun (e ∷ run) lines first) (sym same) (Begun-grown run e fresh (done_lines run c done) first inserting.begun);
    there = stands-new s run e is;
    order = omega (arith, position-grown first run e fresh inserting.begun.there, position-new s run e is, within);
    found = found ∙ ap (λ p. Some (p, ts, Some node)) (sym (position-new s run e is));
  };
  told = λ q.
      keys_at-append q (done_lines (e ∷ run) c done) (begun_line (e ∷ run) (client_of c) (maker dir name node) first ∷ [])
      ∙ ap (λ lines. keys_at q lines ++ keys_at q (begun_line (e ∷ run) (client_of c) (maker dir name node) first ∷ [])) same
      ∙ ap (λ o. keys_at q (done_lines run c done) ++ keys_at q (unfinished (client_of c) (maker dir name node) (position_of first (e ∷ run)) o ∷ [])) found
      ∙ by_test q (length run == q) refl (q == length run) refl (sym (told_without run c done (maker dir name node) first q inserting.none) ∙ h.told q);
}
  where
    inserting : IsInserting run c (done_lines run c done) first
    inserting = h.phase

    within : position_of first run < length run
    within = position-within first run inserting.begun.there

    same : done_lines (e ∷ run) c done ≡ done_lines run c done
    same = done_lines-grown run e fresh c done h.there

    found : move_from (client_of c) (position_of first (e ∷ run)) (e ∷ run) ≡ Some (length run, ts, Some node)
    found = ap (λ p. move_from (client_of c) p (e ∷ run)) (position-grown first run e fresh inserting.begun.there)
        ∙ move_from-now (client_of c) (position_of first run) e run (omega (arith, within)) inserting.none
        ∙ ap (own_move (client_of c) (length run)) moves
        ∙ own_move-own c (length run) dir name node ts

    by_test : (q : ℕ) (a : Bool) → (length run == q) ≡ a → (b : Bool) → (q == length run) ≡ b → keys_at q (done_lines run c done) ≡ own_keys c (moved_in run q)
        → keys_at q (done_lines run c done) ++ ((if a then move_by c dir name node ts ∷ [] else []) ++ []) ≡ own_keys c (if b then e.1.moved else moved_in run q)
    by_test q true t true u told = let now : q ≡ length run = grind (arith, nat_tests) in
        ap (λ k. k ++ move_by c dir name node ts ∷ []) (told ∙ ap (own_keys c) (moved_in-beyond run q (omega arith))) ∙ sym (ap (own_keys c) moves ∙ keys_at-own c dir name node ts)
    by_test q true t false u told = absurd (grind (arith, nat_tests))
    by_test q false t true u told = absurd (grind (arith, nat_tests))
    by_test q false t false u told = append-none (keys_at q (done_lines run c done)) ∙ told
