-- From the spans of each client's calls to the lines of the history.
use Rattle.std.proofs.Common.{◌≡◌, ℕ, suc, zero, ◌+◌, ◌≤◌, ◌<◌, List, [], ◌∷◌, ◌++◌, map, filter, length, Bool, true, false, cond, refl, ◌∙◌, ap, subst, arith, ◌⊎◌, inl, inr}
use Rattle.std.specs.Prelude.{if◌then◌else◌, ◌||◌, ◌&&◌, ◌==◌, not, nat_le, is_none, Option, Some, None}
use Rattle.std.specs.List.{list_any}
use Rattle.std.proofs.Math.Bool.{or-true}
use Rattle.std.proofs.lemmas.Bool.Decides.{nat_tests}
use Rattle.std.proofs.lemmas.Bool.{cases_lt}
use Rattle.std.proofs.lemmas.List.Folds.{list_any-append}
use Rattle.next_ids.specs.declared.ids.At.{At}
use Rattle.next_ids.specs.declared.ids.At.TheVariants.{Step, Before, After}
use Rattle.next_ids.specs.declared.ids.Node.{Node}
use Rattle.next_ids.specs.declared.ids.PlaceNo.{PlaceNo}
use Rattle.next_ids.specs.declared.ids.Stamp.{Stamp}
use Rattle.next_ids.specs.declared.time.Ts.{Ts}
use Rattle.next_ids.specs.declared.call.Call.{Call}
use Rattle.next_steps.specs.declared.call_done.CallDone.{CallDone}
use Rattle.next_steps.specs.declared.entry.Entry.{Entry}
use Rattle.next_steps.specs.declared.moves.Moved.{Moved}
use Rattle.next_steps.specs.declared.moves.Move.{Move as MoveFacts}
use Rattle.next_steps.specs.declared.moves.Moved.TheVariants.{Move, Forget}
use Rattle.next_steps.specs.declared.line.Line.{Line}
use Rattle.next_steps.specs.declared.line.HistoryItem.{HistoryItem}
use Rattle.next_steps.specs.declared.line.HistoryItem.TheVariants.{Line as LineItem, Forget as ForgetItem}
use Rattle.next_rules.specs.Histories.{is_at, position_of, point_of, line_of, own_move, or_later, move_from, unfinished, begun_lines, is_move, stands_at, told_at, moved_at, forgets, forgotten_at, items_at, placed, unplaced, ordered, lines_of, world_history}
use Rattle.next_rules.specs.SameCalls.{is_call}
use Rattle.next_rules.specs.Legal.{Each}
use Rattle.next_rules.specs.Actors.{calls_of, client_of, begun_in}
use Rattle.next_rules.specs.Setups.{AreCounts}
use Rattle.next_rules.specs.Worlds.{Setup, World, Turn, played}
use Rattle.next_laws_order.specs.OwnSteps.{HasOwnEnds, IsInALine, is_in_line, holds_step, steps_at}
use Rattle.next_laws_order.proofs.Lists.{Every, Every-append, Every-filter}
use Rattle.next_laws_order.proofs.Spans.{IsOwnSpan, covers}
use Rattle.next_laws_order.proofs.Turns.{span_of, begun_spans, Holds, played-holds}

-- ---- items of a history
pub each_append : (P : HistoryItem → Type 0) (xs ys : List HistoryItem) → Each P xs → Each P ys → Each P (xs ++ ys)
each_append P [] ys h k = k
each_append P (x ∷ xs) ys h k = (h.0, each_append P xs ys h.1 k)

pub each_line : (P : HistoryItem → Type 0) (lines : List Line) → Every (λ line. P (LineItem line)) lines → Each P (map LineItem lines)
each_line P [] h = tt
each_line P (line ∷ lines) h = (h.0, each_line P lines h.1)

-- a fact of each line, and of every forgotten file, is a fact of each item
module _ (P : HistoryItem → Type 0) (forgotten : (p : ℕ) (file : _) → P (ForgetItem p file)) (run : List (PlaceNo × Entry)) (lines : List Line) (h : Every (λ line. P (LineItem line)) lines) where
  each_forgotten : (p : ℕ) (es : List (PlaceNo × Entry)) → Each P (forgotten_at p es)
  each_forgotten p [] = tt
  each_forgotten p (e ∷ es) = by_test (length es == p) (each_forgotten p es)
    where
      by_moved : (moved : Option Moved) → Each P (forgets p moved)
      by_moved None = tt
      by_moved (Some (Move m)) = tt
      by_moved (Some (Forget file)) = (forgotten p file, tt)

      by_test : (b : Bool) → Each P (forgotten_at p es) → Each P (if b then forgets p e.1.moved else forgotten_at p es)
      by_test true rest = by_moved e.1.moved
      by_test false rest = rest

  of_filter : (test : Line → Bool) → Every (λ line. P (LineItem line)) (filter test lines)
  of_filter test = Every-filter test (λ line. P (LineItem line)) (λ line. P (LineItem line)) lines (λ x e p. p) h

  each_placed : (n : ℕ) → Each P (placed n run lines)
  each_placed zero = tt
  each_placed (suc n) = each_append P (placed n run lines) (items_at n run lines) (each_placed n)
      (each_append P (map LineItem (told_at n lines ++ moved_at n lines)) (forgotten_at n run)
      (each_line P (told_at n lines ++ moved_at n lines) (Every-append (λ line. P (LineItem line)) (told_at n lines) (moved_at n lines) (of_filter _) (of_filter _)))
      (each_forgotten n run))

  each_ordered : Each P (ordered run lines)
  each_ordered = each_append P (placed (length run + 1) run lines) (map LineItem (unplaced lines)) (each_placed (length run + 1)) (each_line P (unplaced lines) (of_filter _))

-- ---- a line that is there is in the history
-- an element that passes, with a fact of it, and each other test that it passes
record Found {A : Type 0} (P : A → Type 0) (test : A → Bool) (xs : List A) : Type 0 where
  it : A
  fact : P it
  passes : test it ≡ true
  other : (q : A → Bool) → q it ≡ true → list_any q xs ≡ true

found : {A : Type 0} (P : A → Type 0) (test : A → Bool) (xs : List A) → Every P xs → list_any test xs ≡ true → Found P test xs
found P test [] h any = cc
found P test (x ∷ xs) h any = by_test (test x) refl any (found P test xs h.1)
  where
    by_test : (b : Bool) → test x ≡ b → (b || list_any test xs) ≡ true → (list_any test xs ≡ true → Found P test xs) → Found P test (x ∷ xs)
    by_test true is any rest = record { it = x; fact = h.0; passes = is; other = λ q e. rw e refl }
    by_test false is any rest = let f = rest any in record { it = f.it; fact = f.fact; passes = f.passes; other = λ q e. rw (f.other q e) (or-true (q x)) }

any-filter : {A : Type 0} (p test : A → Bool) (xs : List A) → list_any test (filter p xs) ≡ list_any (λ x. p x && test x) xs
any-filter p test [] = refl
any-filter p test (x ∷ xs) = by_test (p x) (any-filter p test xs)
  where
    by_test : (b : Bool) → list_any test (filter p xs) ≡ list_any (λ x. p x && test x) xs → list_any test (cond b (x ∷ filter p xs) (filter p xs)) ≡ ((b && test x) || list_any (λ x. p x && test x) xs)
    by_test true e = ap (λ r. test x || r) e
    by_test false e = e

module _ (test : HistoryItem → Bool) (run : List (PlaceNo × Entry)) (lines : List Line) where
  abbrev of_line : Line → Bool
  of_line line = test (LineItem line)

  any-lines : (xs : List Line) → list_any test (map LineItem xs) ≡ list_any of_line xs
  any-lines [] = refl
  any-lines (x ∷ xs) = ap (λ r. of_line x || r) (any-lines xs)

  left : (a b : Bool) → a ≡ true → (a || b) ≡ true
  left a b h = rw h refl

  right : (a b : Bool) → b ≡ true → (a || b) ≡ true
  right a b h = rw h (or-true a)

  both : (a b : Bool) → a ≡ true → b ≡ true → (a && b) ≡ true
  both a b h k = rw (h, k) refl

  -- at its position
  in_items : (p : ℕ) (line : Line) → line.at ≡ Some p → of_line line ≡ true → ((q : Line → Bool) → q line ≡ true → list_any q lines ≡ true) → list_any test (items_at p run lines) ≡ true
  in_items p line at passes other =
      list_any-append test (map LineItem (told_at p lines ++ moved_at p lines)) (forgotten_at p run)
      ∙ left (list_any test (map LineItem (told_at p lines ++ moved_at p lines))) (list_any test (forgotten_at p run)) (any-lines (told_at p lines ++ moved_at p lines) ∙ list_any-append of_line (told_at p lines) (moved_at p lines) ∙ by_kind (is_move line.outcome) refl)
    where
      stands_here : stands_at p line.at ≡ true
      stands_here = ap (stands_at p) at ∙ grind (arith, nat_tests)

      by_kind : (b : Bool) → is_move line.outcome ≡ b → (list_any of_line (told_at p lines) || list_any of_line (moved_at p lines)) ≡ true
      by_kind true is = right (list_any of_line (told_at p lines)) (list_any of_line (moved_at p lines))
          (any-filter (λ l. stands_at p l.at && is_move l.outcome) of_line lines ∙ other (λ l. (stands_at p l.at && is_move l.outcome) && of_line l) (rw (stands_here, is, passes) refl))
      by_kind false is = left (list_any of_line (told_at p lines)) (list_any of_line (moved_at p lines))
          (any-filter (λ l. stands_at p l.at && not (is_move l.outcome)) of_line lines ∙ other (λ l. (stands_at p l.at && not (is_move l.outcome)) && of_line l) (rw (stands_here, is, passes) refl))

  in_placed : (n p : ℕ) → p < n → list_any test (items_at p run lines) ≡ true → list_any test (placed n run lines) ≡ true
  in_placed zero p lt h = absurd (omega arith)
  in_placed (suc n) p lt h = list_any-append test (placed n run lines) (items_at n run lines) ∙ by_place (cases_lt p n) (λ below. in_placed n p below h)
    where
      by_place : (p < n) ⊎ (n ≤ p) → (p < n → list_any test (placed n run lines) ≡ true) → (list_any test (placed n run lines) || list_any test (items_at n run lines)) ≡ true
      by_place (inl below) rest = left (list_any test (placed n run lines)) (list_any test (items_at n run lines)) (rest below)
      by_place (inr at) rest = let same : p ≡ n = omega arith in right (list_any test (placed n run lines)) (list_any test (items_at n run lines)) (subst (λ k. list_any test (items_at k run lines) ≡ true) same h)

  -- no line's point is past the end
  abbrev IsNear : Line → Type 0
  IsNear line = (p : ℕ) → line.at ≡ Some p → p ≤ length run

  in_ordered : Every IsNear lines → list_any of_line lines ≡ true → list_any test (ordered run lines) ≡ true
  in_ordered near any =
      let f = found IsNear of_line lines near any in
      list_any-append test (placed (length run + 1) run lines) (map LineItem (unplaced lines)) ∙ by_at f f.it.at refl
    where
      by_at : (f : Found IsNear of_line lines) (o : Option ℕ) → f.it.at ≡ o → (list_any test (placed (length run + 1) run lines) || list_any test (map LineItem (unplaced lines))) ≡ true
      by_at f None at = right (list_any test (placed (length run + 1) run lines)) (list_any test (map LineItem (unplaced lines)))
          (any-lines (unplaced lines) ∙ any-filter (λ l. is_none l.at) of_line lines ∙ f.other (λ l. is_none l.at && of_line l) (both (is_none f.it.at) (of_line f.it) (ap is_none at) f.passes))
      by_at f (Some p) at = left (list_any test (placed (length run + 1) run lines)) (list_any test (map LineItem (unplaced lines)))
          (let le = f.fact p at in in_placed (length run + 1) p (omega arith) (in_items p f.it at f.passes f.other))

-- ---- the lines of a client
module _ (run : List (PlaceNo × Entry)) (c : ℕ) where
  abbrev LineOwn : Line → Type 0
  LineOwn line = HasOwnEnds run (LineItem line)

  abbrev pub client_lines : List CallDone → Option (Call × Stamp) → List Line
  client_lines done begun = map (line_of run (client_of c)) done ++ begun_lines run (client_of c) begun

  unfinished_own : (x : Call) (first : ℕ) (found : Option (ℕ × Ts × Option Node)) → steps_at (client_of c) run first ≡ true → LineOwn (unfinished (client_of c) x first found)
  unfinished_own x first None h = (h, tt)
  unfinished_own x first (Some found) h = (h, tt)

  lines_own : (done : List CallDone) (begun : Option (Call × Stamp)) → Every (IsOwnSpan run (client_of c)) (map span_of done ++ begun_spans begun) → Every LineOwn (client_lines done begun)
  lines_own [] None h = tt
  lines_own [] (Some begun) h = (unfinished_own begun.0 (position_of begun.1 run) (move_from (client_of c) begun.0 (position_of begun.1 run) run) h.0.first.own, tt)
  lines_own (d ∷ done) begun h = ((h.0.first.own, h.0.last.own), lines_own done begun h.1)

  same_client : (b : Bool) → ((c == c) && b) ≡ b
  same_client b = let same : (c == c) ≡ true = grind (arith, nat_tests) in rw same refl

  unfinished_holds : (p : ℕ) (x : Call) (first : Stamp) (found : Option (ℕ × Ts × Option Node)) → holds_step (client_of c) p (unfinished (client_of c) x (position_of first run) found) ≡ covers run p (record { first = first; last = None })
  unfinished_holds p x first None = same_client _
  unfinished_holds p x first (Some found) = same_client _

  lines_hold : (p : ℕ) (done : List CallDone) (begun : Option (Call × Stamp)) → list_any (holds_step (client_of c) p) (client_lines done begun) ≡ list_any (covers run p) (map span_of done ++ begun_spans begun)
  lines_hold p [] None = refl
  lines_hold p [] (Some begun) = ap (λ b. b || false) (unfinished_holds p begun.0 begun.1 (move_from (client_of c) begun.0 (position_of begun.1 run) run))
  lines_hold p (d ∷ done) begun = cc (same_client (covers run p (span_of d)), lines_hold p done begun)

  -- the points lie in the run
  abbrev Near : Line → Type 0
  Near line = (p : ℕ) → line.at ≡ Some p → p ≤ length run

  position_near : (s : Stamp) (es : List (PlaceNo × Entry)) → position_of s es ≤ length es
  position_near s [] = omega arith
  position_near s (e ∷ es) = by_test (is_at s e) (position_near s es)
    where
      by_test : (b : Bool) → position_of s es ≤ length es → (if b then length es else position_of s es) ≤ suc (length es)
      by_test true h = omega arith
      by_test false h = omega (arith, h)

  position_low : (s : Stamp) (es : List (PlaceNo × Entry)) → 1 ≤ length es → position_of s es + 1 ≤ length es
  position_low s [] some = absurd (omega arith)
  position_low s (e ∷ es) some = by_test (is_at s e) (position_near s es)
    where
      by_test : (b : Bool) → position_of s es ≤ length es → (if b then length es else position_of s es) + 1 ≤ suc (length es)
      by_test true h = omega arith
      by_test false h = omega (arith, h)

  point_near : (at : At) → 1 ≤ length run → point_of at run ≤ length run
  point_near (Step s) some = position_near s run
  point_near (Before s) some = position_near s run
  point_near (After s) some = position_low s run some

  move_near : (x : Call) (first : ℕ) (es : List (PlaceNo × Entry)) (move : ℕ × Ts × Option Node) → move_from (client_of c) x first es ≡ Some move → move.0 ≤ length es
  move_near x first [] move is = cc
  move_near x first (e ∷ es) move is = by_older (move_from (client_of c) x first es) refl is (λ g h. move_near x first es g h)
    where
      by_client : (m : MoveFacts) (b : Bool) → (if b then Some (length es, m.ts, m.made) else None) ≡ Some move → move.0 ≤ suc (length es)
      by_client m true is = let same : (length es, m.ts, m.made) ≡ move = cc in let at : length es ≡ move.0 = ap (λ (g : ℕ × Ts × Option Node). g.0) same in omega arith
      by_client m false is = cc

      by_test : (b : Bool) (moved : Option Moved) → (if b then own_move (client_of c) x (length es) moved else None) ≡ Some move → move.0 ≤ suc (length es)
      by_test false moved is = cc
      by_test true None is = cc
      by_test true (Some (Forget file)) is = cc
      by_test true (Some (Move m)) is = by_client m ((m.client.0 == c) && is_call m.call x) is

      by_older : (o : Option (ℕ × Ts × Option Node)) → move_from (client_of c) x first es ≡ o → or_later o (if nat_le first (length es) then own_move (client_of c) x (length es) e.1.moved else None) ≡ Some move
          → ((g : ℕ × Ts × Option Node) → move_from (client_of c) x first es ≡ Some g → g.0 ≤ length es) → move.0 ≤ suc (length es)
      by_older (Some g) at is rest = let same : g ≡ move = cc in let first_at : g.0 ≡ move.0 = ap (λ (h : ℕ × Ts × Option Node). h.0) same in let le = rest g at in omega arith
      by_older None at is rest = by_test (nat_le first (length es)) e.1.moved is

  unfinished_near : (x : Call) (first : ℕ) (move : Option (ℕ × Ts × Option Node)) → move_from (client_of c) x first run ≡ move → Near (unfinished (client_of c) x first move)
  unfinished_near x first None at p is = cc
  unfinished_near x first (Some move) at p is = let same : move.0 ≡ p = cc in let le = move_near x first run move at in omega arith

  lines_near : 1 ≤ length run → (done : List CallDone) (begun : Option (Call × Stamp)) → Every Near (client_lines done begun)
  lines_near some [] None = tt
  lines_near some [] (Some begun) = (unfinished_near begun.0 (position_of begun.1 run) (move_from (client_of c) begun.0 (position_of begun.1 run) run) refl, tt)
  lines_near some (d ∷ done) begun = ((λ p is. let same : point_of d.at run ≡ p = cc in let le = point_near d.at some in omega arith), lines_near some done begun)

-- ---- the lines of all members
abbrev pub members_lines : World → List ℕ → List Line
members_lines w members = lines_of w.run (map (λ c. calls_of (client_of c) (w.actors.clients c)) members)

module _ (w : World) (h : Holds w) where
  abbrev lines_of_one : ℕ → List Line
  lines_of_one m = client_lines w.run m (w.actors.clients m).done (begun_in (w.actors.clients m).current)

  members_own : (members : List ℕ) → Every (λ line. HasOwnEnds w.run (LineItem line)) (members_lines w members)
  members_own [] = tt
  members_own (m ∷ members) = Every-append (λ line. HasOwnEnds w.run (LineItem line)) (lines_of_one m) (members_lines w members)
      (lines_own w.run m (w.actors.clients m).done (begun_in (w.actors.clients m).current) (h.clients m).spans.own) (members_own members)

  members_near : 1 ≤ length w.run → (members : List ℕ) → Every (λ line. (p : ℕ) → line.at ≡ Some p → p ≤ length w.run) (members_lines w members)
  members_near some [] = tt
  members_near some (m ∷ members) = Every-append (λ line. (p : ℕ) → line.at ≡ Some p → p ≤ length w.run) (lines_of_one m) (members_lines w members)
      (lines_near w.run m some (w.actors.clients m).done (begun_in (w.actors.clients m).current)) (members_near some members)

  members_hold : (c p : ℕ) → steps_at (client_of c) w.run p ≡ true → (members : List ℕ) → list_any (λ m. m == c) members ≡ true → list_any (holds_step (client_of c) p) (members_lines w members) ≡ true
  members_hold c p step [] is = cc
  members_hold c p step (m ∷ members) is =
      list_any-append (holds_step (client_of c) p) (lines_of_one m) (members_lines w members)
      ∙ by_test (m == c) refl is (members_hold c p step members)
    where
      by_test : (b : Bool) → (m == c) ≡ b → (b || list_any (λ x. x == c) members) ≡ true → (list_any (λ x. x == c) members ≡ true → list_any (holds_step (client_of c) p) (members_lines w members) ≡ true)
          → (list_any (holds_step (client_of c) p) (lines_of_one m) || list_any (holds_step (client_of c) p) (members_lines w members)) ≡ true
      by_test true t is rest =
          let same : c ≡ m = grind (arith, nat_tests) in
          let holds : list_any (holds_step (client_of c) p) (lines_of_one c) ≡ true = lines_hold w.run c p (w.actors.clients c).done (begun_in (w.actors.clients c).current) ∙ (h.clients c).spans.steps p step in
          rw (subst (λ i. list_any (holds_step (client_of c) p) (lines_of_one i) ≡ true) same holds) refl
      by_test false t is rest = rw (rest is) (or-true (list_any (holds_step (client_of c) p) (lines_of_one m)))

some_step : (c p : ℕ) (run : List (PlaceNo × Entry)) → steps_at (client_of c) run p ≡ true → 1 ≤ length run
some_step c p [] h = cc
some_step c p (e ∷ run) h = omega arith

module _ (setup : Setup) (good : AreCounts setup.counts) (turns : List Turn) (members : List ℕ) where
  pub ends_own : Each (HasOwnEnds (played setup turns).run) (world_history members (played setup turns))
  ends_own =
      let w : World = played setup turns in
      each_ordered (HasOwnEnds w.run) (λ p file. tt) w.run (members_lines w members) (members_own w (played-holds setup good turns) members)

  pub steps_in_lines : (c p : ℕ) → list_any (λ m. m == c) members ≡ true → steps_at (client_of c) (played setup turns).run p ≡ true → IsInALine (world_history members (played setup turns)) (client_of c) p
  steps_in_lines c p member step =
      let w : World = played setup turns in
      let h : Holds w = played-holds setup good turns in
      in_ordered (is_in_line (client_of c) p) w.run (members_lines w members) (members_near w h (some_step c p w.run step) members) (members_hold w h c p step members member)
