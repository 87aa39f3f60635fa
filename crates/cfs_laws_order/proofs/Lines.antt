-- From the spans of each client's calls to the lines of the history.
use Rattle.std.proofs.Common.{◌≡◌, ◌≢◌, ℕ, suc, ◌≤◌, List, [], ◌∷◌, ◌++◌, map, length, Bool, true, false, refl, sym, ◌∙◌, ap, subst, arith}
use Rattle.std.specs.Prelude.{if◌then◌else◌, ◌||◌, ◌&&◌, ◌==◌, Option, Some, None}
use Rattle.std.specs.List.{list_any}
use Rattle.std.proofs.Math.Bool.{or-true}
use Rattle.std.proofs.lemmas.Bool.Decides.{nat_tests}
use Rattle.std.proofs.lemmas.List.Folds.{list_any-append}
use Rattle.cfs_ids.specs.declared.ids.Node.{Node}
use Rattle.cfs_ids.specs.declared.ids.PlaceNo.{PlaceNo}
use Rattle.cfs_ids.specs.declared.ids.Stamp.{Stamp}
use Rattle.cfs_ids.specs.declared.call.Call.{Call}
use Rattle.cfs_ids.specs.Maps.{how_many}
use Rattle.cfs_steps.specs.declared.call_done.CallDone.{CallDone}
use Rattle.cfs_steps.specs.declared.entry.Entry.{Entry}
use Rattle.cfs_steps.specs.declared.line.Line.{Line}
use Rattle.cfs_steps.specs.declared.line.HistoryItem.TheVariants.{Line as LineItem}
use Rattle.cfs_rules.specs.Histories.{position_of, move_from, unfinished, begun_lines, ordered, world_history}
use Rattle.cfs_rules.specs.Legal.{Each}
use Rattle.cfs_rules.specs.Members.{HasCallers}
use Rattle.cfs_rules.specs.Worlds.{Ends, Progress, Setup, IsSetup, World, calls_of, client_of, begun_of, played}
use Rattle.cfs_laws_history.specs.EachLine.{passes}
use Rattle.cfs_laws_history.proofs.AllLines.{lines_of_members}
use Rattle.cfs_laws_history.proofs.Callers.{idle_of}
use Rattle.cfs_laws_history.proofs.EachLine.{each-line}
use Rattle.cfs_laws_history.proofs.Lists.{Every, Every-append}
use Rattle.cfs_laws_history.proofs.Ordered.{each_item, every_ordered}
use Rattle.cfs_laws_history.proofs.Pasts.{done_lines, own_lines}
use Rattle.cfs_laws_order.specs.OwnSteps.{HasOwnEnds, IsInALine, holds_step, steps_at}
use Rattle.cfs_laws_order.proofs.Spans.{IsOwnSpan, covers}
use Rattle.cfs_laws_order.proofs.Heard.{span_of, begun_spans, spans, HasOwnSpans}
use Rattle.cfs_laws_order.proofs.Turns.{own_of}

-- ---- the lines of a client
abbrev LineOwn : List (PlaceNo × Entry) → Line → Type 0
LineOwn run line = HasOwnEnds run (LineItem line)

module _ (run : List (PlaceNo × Entry)) (c : ℕ) where
  unfinished_own : (call : Call) (first : ℕ) (found : Option (ℕ × ℕ × Option Node)) → steps_at (client_of c) run first ≡ true → LineOwn run (unfinished (client_of c) call first found)
  unfinished_own call first None h = (h, tt)
  unfinished_own call first (Some found) h = (h, tt)

  lines_own : (done : List CallDone) (begun : Option (Call × Stamp)) → Every (IsOwnSpan run (client_of c)) (map span_of done ++ begun_spans begun) → Every (LineOwn run) (done_lines run c done ++ begun_lines run (client_of c) begun)
  lines_own [] None h = tt
  lines_own [] (Some begun) h = (unfinished_own begun.0 (position_of begun.1 run) (move_from (client_of c) (position_of begun.1 run) run) h.0.first.own, tt)
  lines_own (d ∷ done) begun h = ((h.0.first.own, h.0.last.own), lines_own done begun h.1)

  same_client : (b : Bool) → ((c == c) && b) ≡ b
  same_client b = let same : (c == c) ≡ true = grind (arith, nat_tests) in rw same refl

  unfinished_holds : (p : ℕ) (call : Call) (first : Stamp) (found : Option (ℕ × ℕ × Option Node)) → holds_step (client_of c) p (unfinished (client_of c) call (position_of first run) found) ≡ covers run p (record { first = first; last = None })
  unfinished_holds p call first None = same_client _
  unfinished_holds p call first (Some found) = same_client _

  lines_hold : (p : ℕ) (done : List CallDone) (begun : Option (Call × Stamp)) → list_any (holds_step (client_of c) p) (done_lines run c done ++ begun_lines run (client_of c) begun) ≡ list_any (covers run p) (map span_of done ++ begun_spans begun)
  lines_hold p [] None = refl
  lines_hold p [] (Some begun) = ap (λ b. b || false) (unfinished_holds p begun.0 begun.1 (move_from (client_of c) (position_of begun.1 run) run))
  lines_hold p (d ∷ done) begun = cc (same_client (covers run p (span_of d)), lines_hold p done begun)

-- ---- the lines of all members
module _ (run : List (PlaceNo × Entry)) (clients : ℕ → Progress) (own : (i : ℕ) → HasOwnSpans run i (clients i).done (clients i).current) where
  members_own : (members : List ℕ) → Every (LineOwn run) (lines_of_members run clients members)
  members_own [] = tt
  members_own (m ∷ members) = Every-append (LineOwn run) (own_lines run m (clients m).done (clients m).current) (lines_of_members run clients members)
      (lines_own run m (clients m).done (begun_of (clients m).current) (own m).own) (members_own members)

  members_hold : (c p : ℕ) → steps_at (client_of c) run p ≡ true → (members : List ℕ) → list_any (λ m. m == c) members ≡ true → list_any (holds_step (client_of c) p) (lines_of_members run clients members) ≡ true
  members_hold c p h [] is = cc
  members_hold c p h (m ∷ members) is =
      list_any-append (holds_step (client_of c) p) (own_lines run m (clients m).done (clients m).current) (lines_of_members run clients members)
      ∙ by_test (m == c) refl is (members_hold c p h members)
    where
      by_test : (b : Bool) → (m == c) ≡ b → (b || list_any (λ x. x == c) members) ≡ true → (list_any (λ x. x == c) members ≡ true → list_any (holds_step (client_of c) p) (lines_of_members run clients members) ≡ true)
          → (list_any (holds_step (client_of c) p) (own_lines run m (clients m).done (clients m).current) || list_any (holds_step (client_of c) p) (lines_of_members run clients members)) ≡ true
      by_test true t is rest =
          let same : c ≡ m = grind (arith, nat_tests) in
          let holds : list_any (holds_step (client_of c) p) (own_lines run c (clients c).done (clients c).current) ≡ true = lines_hold run c p (clients c).done (begun_of (clients c).current) ∙ (own c).steps p h in
          rw (subst (λ i. list_any (holds_step (client_of c) p) (own_lines run i (clients i).done (clients i).current) ≡ true) same holds) refl
      by_test false t is rest = rw (rest is) (or-true (list_any (holds_step (client_of c) p) (own_lines run m (clients m).done (clients m).current)))

-- ---- in order
-- where some element passes a test the count is above none, and the other way round: a line is found again in order
module _ {X : Type 0} (test : X → Bool) where
  counted : (xs : List X) → list_any test xs ≡ true → 1 ≤ how_many test xs
  counted [] h = cc
  counted (x ∷ xs) h = by_test (test x) h (counted xs)
    where
      by_test : (b : Bool) → (b || list_any test xs) ≡ true → (list_any test xs ≡ true → 1 ≤ how_many test xs) → 1 ≤ (if b then suc (how_many test xs) else how_many test xs)
      by_test true h rest = omega arith
      by_test false h rest = rest h

  one_counted : (xs : List X) → 1 ≤ how_many test xs → list_any test xs ≡ true
  one_counted [] h = absurd (omega arith)
  one_counted (x ∷ xs) h = by_test (test x) h (one_counted xs)
    where
      by_test : (b : Bool) → 1 ≤ (if b then suc (how_many test xs) else how_many test xs) → (1 ≤ how_many test xs → list_any test xs ≡ true) → (b || list_any test xs) ≡ true
      by_test true h rest = refl
      by_test false h rest = rest h

module _ (setup : Setup) (good : IsSetup setup) (turns members : List ℕ) where
  pub ends_own : (let w = played setup turns in Each (HasOwnEnds w.run) (world_history members w))
  ends_own =
      let w : World = played setup turns in
      let lines : List Line = lines_of_members w.run w.clients members in
      each_item (HasOwnEnds w.run) (ordered (length w.run) lines) (every_ordered (LineOwn w.run) (length w.run) lines (members_own w.run w.clients (own_of setup good turns) members))

  -- a client without calls makes no step of one
  makes_calls : (c p : ℕ) → steps_at (client_of c) (played setup turns).run p ≡ true → setup.plans c ≢ Ends
  makes_calls c p h none =
      let idle = idle_of setup turns c none in
      no_span (played setup turns) idle.done idle.current ((own_of setup good turns c).steps p h)
    where
      no_span : (w : World) → (w.clients c).done ≡ [] → (w.clients c).current ≡ None → list_any (covers w.run p) (spans (w.clients c).done (w.clients c).current) ≡ true → ⊥
      no_span w done current any = let e = rw (done, current) at any in cc

  pub steps_in_lines : HasCallers setup.plans members → (c p : ℕ) → steps_at (client_of c) (played setup turns).run p ≡ true → IsInALine (world_history members (played setup turns)) (client_of c) p
  steps_in_lines has c p h =
      let w : World = played setup turns in
      let test : Line → Bool = holds_step (client_of c) p in
      let lines : List Line = lines_of_members w.run w.clients members in
      let held : 1 ≤ how_many test lines = counted test lines (members_hold w.run w.clients (own_of setup good turns) c p h members (has c (makes_calls c p h))) in
      one_counted (passes test) (world_history members w) (subst (λ n. 1 ≤ n) (sym (each-line w.run (map (λ m. calls_of (client_of m) (w.clients m)) members) test)) held)
