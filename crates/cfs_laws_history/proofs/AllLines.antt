-- From what holds of each client to what holds of all lines.
use Rattle.std.proofs.Common.{◌≡◌, ℕ, ◌<◌, List, [], ◌∷◌, ◌++◌, map, Bool, true, false, refl, sym, ◌∙◌, ap, subst, arith, ◌⊎◌, inl, inr}
use Rattle.std.specs.Prelude.{if◌then◌else◌, ◌||◌, ◌==◌, Option, Some, None}
use Rattle.std.proofs.lemmas.Bool.Decides.{nat_tests}
use Rattle.cfs_ids.specs.declared.ids.Stamp.{Stamp}
use Rattle.cfs_ids.specs.declared.ids.PlaceNo.{PlaceNo}
use Rattle.cfs_ids.specs.declared.ids.Node.{Node}
use Rattle.cfs_ids.specs.declared.call.Call.{Call}
use Rattle.cfs_steps.specs.declared.entry.Entry.{Entry}
use Rattle.cfs_steps.specs.declared.moves.Moved.{Moved}
use Rattle.cfs_steps.specs.declared.moves.Moved.TheVariants.{Move}
use Rattle.cfs_steps.specs.declared.moves.Move.{Move as MoveFacts}
use Rattle.cfs_steps.specs.declared.call_done.CallDone.{CallDone}
use Rattle.cfs_steps.specs.declared.line.Line.{Line}
use Rattle.cfs_steps.specs.Phases.{Phase, Asking, Inserting, Settling, TakingBack, Finished, maker}
use Rattle.cfs_rules.specs.Worlds.{Progress, client_of}
use Rattle.cfs_rules.specs.Histories.{position_of, move_from, unfinished, begun_line}
use Rattle.cfs_rules.specs.Legal.{Follows}
use Rattle.cfs_laws_history.proofs.Lists.{Every, Pairs, Every-append, Pairs-end}
use Rattle.cfs_laws_history.proofs.Stamps.{moved_in}
use Rattle.cfs_laws_history.proofs.Keys.{keys_at, own_keys, append-none, keys_at-append}
use Rattle.cfs_laws_history.proofs.Pasts.{EndsIn, IsRight, IsPlaced, LinesHold, Begun, PhasePast, done_lines, own_lines, ClientPast}
use Rattle.std.specs.List.{list_any}
use Rattle.cfs_rules.specs.Worlds.{calls_of}
use Rattle.cfs_rules.specs.Histories.{lines_of}
use Rattle.cfs_rules.specs.Members.{IsBelowAll, IsRising}
use Rattle.cfs_laws_history.proofs.Lists.{Every-like, Pairs-like, Pairs-with, Pairs-append, Across-always}
use Rattle.cfs_laws_history.proofs.Keys.{all_keys}

-- ---- the lines of a client
abbrev pub IsOf : ℕ → Line → Type 0
IsOf c line = line.client ≡ client_of c

pub record OwnFacts (run : List (PlaceNo × Entry)) (c : ℕ) (lines : List Line) : Type 0 where
  pub placed : Every IsPlaced lines
  pub follow : Pairs Follows lines
  pub right : Every (IsRight run) lines
  pub own : Every (IsOf c) lines

own_done : (run : List (PlaceNo × Entry)) (c : ℕ) (done : List CallDone) → Every (IsOf c) (done_lines run c done)
own_done run c [] = tt
own_done run c (d ∷ done) = (refl, own_done run c done)

facts_done : (run : List (PlaceNo × Entry)) (c : ℕ) (lines : List Line) → LinesHold run lines → Every (IsOf c) lines → OwnFacts run c (lines ++ [])
facts_done run c lines h own = subst (OwnFacts run c) (sym (append-none lines)) (record { placed = h.positions; follow = h.follow; right = h.right; own = own })

facts_with : (run : List (PlaceNo × Entry)) (c : ℕ) (lines : List Line) (x : Line) → LinesHold run lines → Every (IsOf c) lines → IsPlaced x → Every (EndsIn x.first) lines → IsRight run x → IsOf c x → OwnFacts run c (lines ++ x ∷ [])
facts_with run c lines x h own placed after right is = record {
  placed = Every-append IsPlaced lines (x ∷ []) h.positions (placed, tt);
  follow = Pairs-end Follows lines x h.follow after;
  right = Every-append (IsRight run) lines (x ∷ []) h.right (right, tt);
  own = Every-append (IsOf c) lines (x ∷ []) own (is, tt);
}

-- the line of a call that has begun, by whether it has moved
facts_begun : (run : List (PlaceNo × Entry)) (c : ℕ) (lines : List Line) (call : Call) (first : Stamp) → LinesHold run lines → Every (IsOf c) lines → Begun run lines first → (found : Option (ℕ × ℕ × Option Node))
    → move_from (client_of c) (position_of first run) run ≡ found → IsPlaced (unfinished (client_of c) call (position_of first run) found)
    → OwnFacts run c (lines ++ begun_line run (client_of c) call first ∷ [])
facts_begun run c lines call first h own begun None e placed =
    subst (λ o. OwnFacts run c (lines ++ unfinished (client_of c) call (position_of first run) o ∷ [])) (sym e) (facts_with run c lines (unfinished (client_of c) call (position_of first run) None) h own placed begun.after tt refl)
facts_begun run c lines call first h own begun (Some found) e placed =
    subst (λ o. OwnFacts run c (lines ++ unfinished (client_of c) call (position_of first run) o ∷ [])) (sym e) (facts_with run c lines (unfinished (client_of c) call (position_of first run) (Some found)) h own placed begun.after tt refl)

facts_of : (run : List (PlaceNo × Entry)) (c : ℕ) (done : List CallDone) (current : Option Phase) → LinesHold run (done_lines run c done) → PhasePast run c (done_lines run c done) current → OwnFacts run c (own_lines run c done current)
facts_of run c done None h p = facts_done run c (done_lines run c done) h (own_done run c done)
facts_of run c done (Some (Asking call)) h p = facts_done run c (done_lines run c done) h (own_done run c done)
facts_of run c done (Some (Inserting dir name node ts first)) h p = facts_begun run c (done_lines run c done) (maker dir name node) first h (own_done run c done) p.begun None p.none tt
facts_of run c done (Some (Settling dir name node ts first at)) h p = facts_begun run c (done_lines run c done) (maker dir name node) first h (own_done run c done) p.begun (Some _) p.found p.order
facts_of run c done (Some (TakingBack dir name node errno first at)) h p = facts_begun run c (done_lines run c done) (maker dir name node) first h (own_done run c done) p.begun None p.none tt
facts_of run c done (Some (Finished d)) h p = absurd p

-- ---- all lines
-- the clients rise, and the calls of each follow one another
abbrev pub InOrder : Line → Line → Type 0
InOrder x y = (x.client.0 < y.client.0) ⊎ ((x.client ≡ y.client) × Follows x y)

pub record LineFacts (run : List (PlaceNo × Entry)) (lines : List Line) : Type 0 where
  pub placed : Every IsPlaced lines
  pub order : Pairs InOrder lines
  pub right : Every (IsRight run) lines

abbrev pub lines_of_members : List (PlaceNo × Entry) → (ℕ → Progress) → List ℕ → List Line
lines_of_members run clients members = lines_of run (map (λ c. calls_of (client_of c) (clients c)) members)

-- the client of what a step moved is a member
abbrev pub HasMover : List ℕ → Option Moved → Type 0
HasMover members None = Unit {0}
HasMover members (Some (Move m)) = list_any (λ x. x == m.client.0) members ≡ true

module _ (run : List (PlaceNo × Entry)) (clients : ℕ → Progress) (past : (i : ℕ) → ClientPast run i (clients i).done (clients i).current) where
  own : (c : ℕ) → OwnFacts run c (own_lines run c (clients c).done (clients c).current)
  own c = facts_of run c (clients c).done (clients c).current (past c).lines (past c).phase

  above : (c : ℕ) (members : List ℕ) → IsBelowAll c members → Every (λ line. c < line.client.0) (lines_of_members run clients members)
  above c [] h = tt
  above c (m ∷ members) h = Every-append (λ line. c < line.client.0) (own_lines run m (clients m).done (clients m).current) (lines_of_members run clients members)
      (Every-like (IsOf m) (λ line. c < line.client.0) (own_lines run m (clients m).done (clients m).current) (λ line is. let at : line.client.0 ≡ m = ap (λ x. x.0) is in omega (arith, h.0)) (own m).own)
      (above c members h.1)

  same_client : (c : ℕ) (x y : Line) → IsOf c x → IsOf c y → Follows x y → InOrder x y
  same_client c x y a b f = inr (a ∙ sym b, f)

  other_client : (c : ℕ) (x y : Line) → IsOf c x → c < y.client.0 → InOrder x y
  other_client c x y a lt = let at : x.client.0 ≡ c = ap (λ z. z.0) a in inl (omega arith)

  pub facts_of_members : (members : List ℕ) → IsRising members → LineFacts run (lines_of_members run clients members)
  facts_of_members [] h = record { placed = tt; order = tt; right = tt }
  facts_of_members (c ∷ members) h =
      let lines : List Line = own_lines run c (clients c).done (clients c).current in
      let rest : LineFacts run (lines_of_members run clients members) = facts_of_members members h.1 in
      record {
        placed = Every-append IsPlaced lines (lines_of_members run clients members) (own c).placed rest.placed;
        order = Pairs-append InOrder lines (lines_of_members run clients members)
            (Pairs-like (λ x y. IsOf c x × (IsOf c y × Follows x y)) InOrder lines (λ x y e. same_client c x y e.0 e.1.0 e.1.1) (Pairs-with (IsOf c) Follows lines (own c).own (own c).follow))
            rest.order
            (Across-always InOrder (IsOf c) (λ y. c < y.client.0) lines (lines_of_members run clients members) (other_client c) (own c).own (above c members h.0));
        right = Every-append (IsRight run) lines (lines_of_members run clients members) (own c).right rest.right;
      }

  -- ---- the moves
  abbrev keys_if : List ℕ → Option Moved → List MoveFacts
  keys_if members None = []
  keys_if members (Some (Move m)) = if list_any (λ x. x == m.client.0) members then m ∷ [] else []

  not_below : (c : ℕ) (members : List ℕ) → IsBelowAll c members → list_any (λ x. x == c) members ≡ false
  not_below c [] h = refl
  not_below c (m ∷ members) h = let differ : (m == c) ≡ false = grind (arith, nat_tests, h.0) in rw differ (not_below c members h.1)

  keys_more : (c : ℕ) (members : List ℕ) (moved : Option Moved) → IsBelowAll c members → own_keys c moved ++ keys_if members moved ≡ keys_if (c ∷ members) moved
  keys_more c members None h = refl
  keys_more c members (Some (Move m)) h = by_test (m.client.0 == c) refl (c == m.client.0) refl
    where
      by_test : (a : Bool) → (m.client.0 == c) ≡ a → (b : Bool) → (c == m.client.0) ≡ b
          → (if a then m ∷ [] else []) ++ (if list_any (λ x. x == m.client.0) members then m ∷ [] else []) ≡ (if (b || list_any (λ x. x == m.client.0) members) then m ∷ [] else [])
      by_test true t true u = let same : c ≡ m.client.0 = grind (arith, nat_tests) in ap (λ b. m ∷ (if b then m ∷ [] else [])) (ap (λ x. list_any (λ y. y == x) members) (sym same) ∙ not_below c members h)
      by_test true t false u = absurd (grind (arith, nat_tests))
      by_test false t true u = absurd (grind (arith, nat_tests))
      by_test false t false u = refl

  keys_of_members : (q : ℕ) (members : List ℕ) → IsRising members → keys_at q (lines_of_members run clients members) ≡ keys_if members (moved_in run q)
  keys_of_members q [] h = none (moved_in run q)
    where
      none : (moved : Option Moved) → [] ≡ keys_if [] moved
      none None = refl
      none (Some (Move m)) = refl
  keys_of_members q (c ∷ members) h =
      keys_at-append q (own_lines run c (clients c).done (clients c).current) (lines_of_members run clients members)
      ∙ ap (λ k. k ++ keys_at q (lines_of_members run clients members)) ((past c).told q)
      ∙ ap (λ k. own_keys c (moved_in run q) ++ k) (keys_of_members q members h.1)
      ∙ keys_more c members (moved_in run q) h.0

  all_of : (members : List ℕ) (moved : Option Moved) → HasMover members moved → keys_if members moved ≡ all_keys moved
  all_of members None h = refl
  all_of members (Some (Move m)) h = rw h refl

  pub all_keys_told : (members : List ℕ) → IsRising members → ((q : ℕ) → HasMover members (moved_in run q)) → (q : ℕ) → keys_at q (lines_of_members run clients members) ≡ all_keys (moved_in run q)
  all_keys_told members rising has q = keys_of_members q members rising ∙ all_of members (moved_in run q) (has q)
