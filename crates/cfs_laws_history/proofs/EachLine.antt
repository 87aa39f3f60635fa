-- No line is lost where lines are put in order, and none is made.
use Rattle.std.proofs.Common.{◌≡◌, ℕ, zero, suc, ◌+◌, ◌≤◌, List, [], ◌∷◌, ◌++◌, map, length, Bool, true, false, cond, refl, sym, ap, ◌∙◌, arith}
use Rattle.std.specs.Prelude.{if◌then◌else◌, ◌==◌, ◌&&◌, not, is_none, nat_le, nat_lt, Option, Some, None}
use Rattle.std.specs.List.{filter}
use Rattle.std.proofs.Math.Bool.{and-true}
use Rattle.std.proofs.lemmas.Bool.Decides.{nat_tests}
use Rattle.cfs_ids.specs.Maps.{how_many}
use Rattle.cfs_ids.specs.declared.ids.Client.{Client}
use Rattle.cfs_ids.specs.declared.ids.Node.{Node}
use Rattle.cfs_ids.specs.declared.ids.PlaceNo.{PlaceNo}
use Rattle.cfs_ids.specs.declared.ids.Stamp.{Stamp}
use Rattle.cfs_ids.specs.declared.call.Call.{Call}
use Rattle.cfs_steps.specs.declared.call_done.CallDone.{CallDone}
use Rattle.cfs_steps.specs.declared.call_done.ClientCalls.{ClientCalls}
use Rattle.cfs_steps.specs.declared.entry.Entry.{Entry}
use Rattle.cfs_steps.specs.declared.line.Line.{Line}
use Rattle.cfs_steps.specs.declared.line.HistoryItem.TheVariants.{Line as LineItem}
use Rattle.cfs_steps.specs.declared.moves.Moved.{Moved}
use Rattle.cfs_steps.specs.declared.moves.Moved.TheVariants.{Move}
use Rattle.cfs_rules.specs.Histories.{is_at, position_of, stamp_at, line_of, own_move, or_later, move_from, unfinished, begun_lines, lines_of_client, lines_of, is_move, stands_at, told_at, moved_at, placed, unplaced, ordered, history_of}
use Rattle.cfs_laws_history.specs.EachLine.{passes, HasEachLine}
use Rattle.cfs_laws_history.proofs.Lists.{Every, Every-append}

-- ---- counting
module _ {X : Type 0} (p : X → Bool) where
  count-append : (xs ys : List X) → how_many p (xs ++ ys) ≡ how_many p xs + how_many p ys
  count-append [] ys = omega arith
  count-append (x ∷ xs) ys = step (p x) (count-append xs ys)
    where
      step : (b : Bool) → how_many p (xs ++ ys) ≡ how_many p xs + how_many p ys → cond b (suc (how_many p (xs ++ ys))) (how_many p (xs ++ ys)) ≡ cond b (suc (how_many p xs)) (how_many p xs) + how_many p ys
      step true e = omega (arith, e)
      step false e = omega (arith, e)

  count-one : (x : X) (xs : List X) → how_many p (x ∷ xs) ≡ how_many p xs + cond (p x) 1 0
  count-one x xs = step (p x)
    where
      step : (b : Bool) → cond b (suc (how_many p xs)) (how_many p xs) ≡ how_many p xs + cond b 1 0
      step true = omega arith
      step false = omega arith

  -- one more that is put through a test
  count-filter : (q : X → Bool) (x : X) (xs : List X) → how_many p (filter q (x ∷ xs)) ≡ how_many p (filter q xs) + cond (p x && q x) 1 0
  count-filter q x xs = step (q x) (p x) refl
    where
      step : (a b : Bool) → p x ≡ b → how_many p (cond a (x ∷ filter q xs) (filter q xs)) ≡ how_many p (filter q xs) + cond (b && a) 1 0
      step true b e = count-one x (filter q xs) ∙ ap (λ (c : Bool). how_many p (filter q xs) + cond c 1 0) (e ∙ sym (and-true b))
      step false true e = omega arith
      step false false e = omega arith

-- ---- points
-- the point is none past n
abbrev IsThere : ℕ → Option ℕ → Type 0
IsThere n None = Unit {0}
IsThere n (Some k) = k ≤ n

-- the point is among the first n
abbrev before : ℕ → Option ℕ → Bool
before n None = false
before n (Some k) = nat_lt k n

-- of the next point: it is among those before, or stands there
before-next : (b : Bool) (n : ℕ) (o : Option ℕ) (m : Bool) → ◌≡◌ {A = ℕ} (cond (b && before n o) 1 0 + (cond (b && (stands_at n o && not m)) 1 0 + cond (b && (stands_at n o && m)) 1 0)) (cond (b && before (suc n) o) 1 0)
before-next false n o m = omega arith
before-next true n None m = omega arith
before-next true n (Some k) true = by_tests (nat_lt k n) (k == n) (nat_lt k (suc n)) refl refl refl
  where
    by_tests : (a s t : Bool) → nat_lt k n ≡ a → (k == n) ≡ s → nat_lt k (suc n) ≡ t → ◌≡◌ {A = ℕ} (cond (true && a) 1 0 + (cond (true && (s && not true)) 1 0 + cond (true && (s && true)) 1 0)) (cond (true && t) 1 0)
    by_tests a s t e f g = grind (arith, nat_tests)
before-next true n (Some k) false = by_tests (nat_lt k n) (k == n) (nat_lt k (suc n)) refl refl refl
  where
    by_tests : (a s t : Bool) → nat_lt k n ≡ a → (k == n) ≡ s → nat_lt k (suc n) ≡ t → ◌≡◌ {A = ℕ} (cond (true && a) 1 0 + (cond (true && (s && not false)) 1 0 + cond (true && (s && false)) 1 0)) (cond (true && t) 1 0)
    by_tests a s t e f g = grind (arith, nat_tests)

module _ (p : Line → Bool) where
  count-told : (n : ℕ) (x : Line) (xs : List Line) → how_many p (told_at n (x ∷ xs)) ≡ how_many p (told_at n xs) + cond (p x && (stands_at n x.at && not (is_move x.outcome))) 1 0
  count-told n x xs = count-filter p (λ line. stands_at n line.at && not (is_move line.outcome)) x xs

  count-moved : (n : ℕ) (x : Line) (xs : List Line) → how_many p (moved_at n (x ∷ xs)) ≡ how_many p (moved_at n xs) + cond (p x && (stands_at n x.at && is_move x.outcome)) 1 0
  count-moved n x xs = count-filter p (λ line. stands_at n line.at && is_move line.outcome) x xs

  count-unplaced : (x : Line) (xs : List Line) → how_many p (unplaced (x ∷ xs)) ≡ how_many p (unplaced xs) + cond (p x && is_none x.at) 1 0
  count-unplaced x xs = count-filter p (λ line. is_none line.at) x xs

  count-here : (n : ℕ) (xs : List Line) → how_many p (placed (suc n) xs) ≡ how_many p (placed n xs) + (how_many p (told_at n xs) + how_many p (moved_at n xs))
  count-here n xs = count-append p (placed n xs) (told_at n xs ++ moved_at n xs) ∙ ap (λ (k : ℕ). how_many p (placed n xs) + k) (count-append p (told_at n xs) (moved_at n xs))

  none-before : (b : Bool) (o : Option ℕ) → ◌≡◌ {A = ℕ} (cond (b && before zero o) 1 0) 0
  none-before b None = by_test b
    where
      by_test : (c : Bool) → ◌≡◌ {A = ℕ} (cond (c && false) 1 0) 0
      by_test true = refl
      by_test false = refl
  none-before b (Some k) = by_test b (nat_lt k 0) refl
    where
      by_test : (c d : Bool) → nat_lt k 0 ≡ d → ◌≡◌ {A = ℕ} (cond (c && d) 1 0) 0
      by_test true true e = grind (arith, nat_tests)
      by_test true false e = refl
      by_test false d e = refl

  count-placed : (n : ℕ) (x : Line) (xs : List Line) → how_many p (placed n (x ∷ xs)) ≡ how_many p (placed n xs) + cond (p x && before n x.at) 1 0
  count-placed zero x xs = let none = none-before (p x) x.at in omega (arith, none)
  count-placed (suc n) x xs =
      let here = count-here n (x ∷ xs) in
      let less = count-placed n x xs in
      let told = count-told n x xs in
      let moved = count-moved n x xs in
      let rest = count-here n xs in
      let next = before-next (p x) n x.at (is_move x.outcome) in
      omega (arith, here, less, told, moved, rest, next)

  -- ---- of all lines whose points are there
  once : (b : Bool) (n : ℕ) (o : Option ℕ) → IsThere n o → ◌≡◌ {A = ℕ} (cond (b && before (n + 1) o) 1 0 + cond (b && is_none o) 1 0) (cond b 1 0)
  once false n o h = omega arith
  once true n None h = omega arith
  once true n (Some k) h = by_test (nat_lt k (n + 1)) refl
    where
      by_test : (a : Bool) → nat_lt k (n + 1) ≡ a → ◌≡◌ {A = ℕ} (cond (true && a) 1 0 + cond (true && false) 1 0) 1
      by_test true e = omega arith
      by_test false e = grind (arith, nat_tests)

  nothing-placed : (n : ℕ) → how_many p (placed n []) ≡ 0
  nothing-placed zero = refl
  nothing-placed (suc n) = let here = count-here n [] in let rest = nothing-placed n in omega (arith, here, rest)

  count-ordered : (n : ℕ) (xs : List Line) → Every (λ x. IsThere n x.at) xs → how_many p (ordered n xs) ≡ how_many p xs
  count-ordered n [] h = let all = count-append p (placed (n + 1) []) (unplaced []) in let none = nothing-placed (n + 1) in omega (arith, all, none)
  count-ordered n (x ∷ xs) h =
      let all = count-append p (placed (n + 1) (x ∷ xs)) (unplaced (x ∷ xs)) in
      let rest = count-append p (placed (n + 1) xs) (unplaced xs) in
      let points = count-placed (n + 1) x xs in
      let none = count-unplaced x xs in
      let later = count-ordered n xs h.1 in
      let one = once (p x) n x.at h.0 in
      let own = count-one p x xs in
      omega (arith, all, rest, points, none, later, one, own)

  count-items : (xs : List Line) → how_many (passes p) (map LineItem xs) ≡ how_many p xs
  count-items [] = refl
  count-items (x ∷ xs) = ap (λ (k : ℕ). cond (p x) (suc k) k) (count-items xs)

-- ---- the points of a run's lines are there
position-low : (s : Stamp) (run : List (PlaceNo × Entry)) → position_of s run ≤ length run
position-low s [] = omega arith
position-low s (e ∷ older) = step (is_at s e) (position-low s older)
  where
    step : (b : Bool) → position_of s older ≤ length older → (if b then length older else position_of s older) ≤ suc (length older)
    step true h = omega arith
    step false h = omega (arith, h)

abbrev IsFoundThere : ℕ → Option (ℕ × ℕ × Option Node) → Type 0
IsFoundThere n None = Unit {0}
IsFoundThere n (Some found) = found.0 ≤ n

own-there : (client : Client) (n : ℕ) (o : Option Moved) → IsFoundThere n (own_move client n o)
own-there client n None = tt
own-there client n (Some (Move m)) = step (m.client.0 == client.0)
  where
    step : (b : Bool) → IsFoundThere n (if b then Some (n, m.ts, m.made) else None)
    step true = omega arith
    step false = tt

more-there : (n : ℕ) (o : Option (ℕ × ℕ × Option Node)) → IsFoundThere n o → IsFoundThere (suc n) o
more-there n None h = tt
more-there n (Some found) h = omega (arith, h)

either-there : (n : ℕ) (o l : Option (ℕ × ℕ × Option Node)) → IsFoundThere n o → IsFoundThere n l → IsFoundThere n (or_later o l)
either-there n None l h k = k
either-there n (Some found) l h k = h

moved-there : (client : Client) (first : ℕ) (run : List (PlaceNo × Entry)) → IsFoundThere (length run) (move_from client first run)
moved-there client first [] = tt
moved-there client first (e ∷ older) = more-there (length older) _ (either-there (length older) (move_from client first older) _ (moved-there client first older) (step (nat_le first (length older))))
  where
    step : (b : Bool) → IsFoundThere (length older) (if b then own_move client (length older) e.1.moved else None)
    step true = own-there client (length older) e.1.moved
    step false = tt

unfinished-there : (n : ℕ) (client : Client) (call : Call) (first : ℕ) (o : Option (ℕ × ℕ × Option Node)) → IsFoundThere n o → IsThere n (unfinished client call first o).at
unfinished-there n client call first None h = tt
unfinished-there n client call first (Some found) h = h

done-there : (run : List (PlaceNo × Entry)) (client : Client) (done : List CallDone) → Every (λ (x : Line). IsThere (length run) x.at) (map (line_of run client) done)
done-there run client [] = tt
done-there run client (d ∷ done) = (position-low (stamp_at d.at) run, done-there run client done)

begun-there : (run : List (PlaceNo × Entry)) (client : Client) (begun : Option (Call × Stamp)) → Every (λ (x : Line). IsThere (length run) x.at) (begun_lines run client begun)
begun-there run client None = tt
begun-there run client (Some begun) = (unfinished-there (length run) client begun.0 (position_of begun.1 run) _ (moved-there client (position_of begun.1 run) run), tt)

lines-there : (run : List (PlaceNo × Entry)) (calls : List ClientCalls) → Every (λ (x : Line). IsThere (length run) x.at) (lines_of run calls)
lines-there run [] = tt
lines-there run (c ∷ calls) = Every-append (λ (x : Line). IsThere (length run) x.at) (lines_of_client run c) (lines_of run calls)
    (Every-append (λ (x : Line). IsThere (length run) x.at) (map (line_of run c.client) c.done) (begun_lines run c.client c.begun) (done-there run c.client c.done) (begun-there run c.client c.begun))
    (lines-there run calls)

pub each-line : (run : List (PlaceNo × Entry)) (calls : List ClientCalls) → HasEachLine (history_of run calls) (lines_of run calls)
each-line run calls p = count-items p (ordered (length run) (lines_of run calls)) ∙ count-ordered p (length run) (lines_of run calls) (lines-there run calls)
