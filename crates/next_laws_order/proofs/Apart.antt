-- Of two calls of a client in a history one is finished before the other's first step.
use Rattle.std.proofs.Common.{◌≡◌, ◌≢◌, ℕ, suc, zero, ◌+◌, ◌≤◌, ◌<◌, List, [], ◌∷◌, ◌++◌, map, filter, length, Bool, true, false, refl, sym, ap, arith, ◌⊎◌, inl, inr}
use Rattle.std.specs.Prelude.{◌&&◌, ◌==◌, not, is_none, if◌then◌else◌, Option, Some, None}
use Rattle.std.proofs.lemmas.Bool.Decides.{nat_tests}
use Rattle.next_ids.specs.declared.ids.Node.{Node}
use Rattle.next_ids.specs.declared.ids.PlaceNo.{PlaceNo}
use Rattle.next_ids.specs.declared.ids.Stamp.{Stamp}
use Rattle.next_ids.specs.declared.time.Ts.{Ts}
use Rattle.next_ids.specs.declared.call.Call.{Call}
use Rattle.next_steps.specs.declared.call_done.CallDone.{CallDone}
use Rattle.next_steps.specs.declared.entry.Entry.{Entry}
use Rattle.next_steps.specs.declared.moves.Moved.{Moved}
use Rattle.next_steps.specs.declared.moves.Moved.TheVariants.{Move, Forget}
use Rattle.next_steps.specs.declared.line.Line.{Line}
use Rattle.next_steps.specs.declared.line.HistoryItem.{HistoryItem}
use Rattle.next_steps.specs.declared.line.HistoryItem.TheVariants.{Line as LineItem, Forget as ForgetItem}
use Rattle.next_rules.specs.Histories.{position_of, line_of, move_from, unfinished, is_move, stands_at, told_at, moved_at, forgets, forgotten_at, items_at, placed, unplaced, ordered, world_history}
use Rattle.next_rules.specs.Legal.{Each, EachPair, Follows, Apart}
use Rattle.next_rules.specs.Members.{IsBelowAll, IsRising}
use Rattle.next_rules.specs.Actors.{client_of, begun_in}
use Rattle.next_rules.specs.Setups.{AreCounts}
use Rattle.next_rules.specs.Worlds.{Setup, World, Turn, played}
use Rattle.next_laws_order.proofs.Lists.{Every, Pairs, Across, Every-like, Every-append, Pairs-append, Pairs-like, Across-always, Across-append, Across-onto, Pairs-filter, Across-filters}
use Rattle.next_laws_order.proofs.Orders.{Comes}
use Rattle.next_laws_order.proofs.Turns.{span_of, begun_spans, Holds, played-holds}
use Rattle.next_laws_order.proofs.Lines.{client_lines, members_lines, each_append, each_line}

-- ---- the lines of a client
module _ (run : List (PlaceNo × Entry)) (c : ℕ) where
  follows-begun : (d : CallDone) (x : Call) (first : Stamp) (found : Option (ℕ × Ts × Option Node)) → Comes run (span_of d) (record { first = first; last = None }) → Follows (line_of run (client_of c) d) (unfinished (client_of c) x (position_of first run) found)
  follows-begun d x first None h = h
  follows-begun d x first (Some found) h = h

  follows-each : (d : CallDone) (done : List CallDone) (begun : Option (Call × Stamp)) → Every (Comes run (span_of d)) (map span_of done ++ begun_spans begun) → Every (Follows (line_of run (client_of c) d)) (client_lines run c done begun)
  follows-each d [] None h = tt
  follows-each d [] (Some begun) h = (follows-begun d begun.0 begun.1 (move_from (client_of c) begun.0 (position_of begun.1 run) run) h.0, tt)
  follows-each d (x ∷ done) begun h = (h.0, follows-each d done begun h.1)

  lines_follow : (done : List CallDone) (begun : Option (Call × Stamp)) → Pairs (Comes run) (map span_of done ++ begun_spans begun) → Pairs Follows (client_lines run c done begun)
  lines_follow [] None h = tt
  lines_follow [] (Some begun) h = (tt, tt)
  lines_follow (d ∷ done) begun h = (follows-each d done begun h.0, lines_follow done begun h.1)

  abbrev IsOf : Line → Type 0
  IsOf line = line.client ≡ client_of c

  unfinished_of : (x : Call) (first : ℕ) (found : Option (ℕ × Ts × Option Node)) → IsOf (unfinished (client_of c) x first found)
  unfinished_of x first None = refl
  unfinished_of x first (Some found) = refl

  lines_of_it : (done : List CallDone) (begun : Option (Call × Stamp)) → Every IsOf (client_lines run c done begun)
  lines_of_it [] None = tt
  lines_of_it [] (Some begun) = (unfinished_of begun.0 (position_of begun.1 run) (move_from (client_of c) begun.0 (position_of begun.1 run) run), tt)
  lines_of_it (d ∷ done) begun = (refl, lines_of_it done begun)

-- ---- the lines of all members, who rise
abbrev AreApart : Line → Line → Type 0
AreApart x y = Apart (LineItem x) (LineItem y)

module _ (w : World) (h : Holds w) where
  abbrev lines_of_one : ℕ → List Line
  lines_of_one m = client_lines w.run m (w.actors.clients m).done (begun_in (w.actors.clients m).current)

  above : (c : ℕ) (members : List ℕ) → IsBelowAll c members → Every (λ line. c < line.client.0) (members_lines w members)
  above c [] low = tt
  above c (m ∷ members) low = Every-append (λ line. c < line.client.0) (lines_of_one m) (members_lines w members)
      (Every-like (IsOf w.run m) (λ line. c < line.client.0) (lines_of_one m) (λ line is. let at : line.client.0 ≡ m = ap (λ x. x.0) is in omega (arith, low.0)) (lines_of_it w.run m (w.actors.clients m).done (begun_in (w.actors.clients m).current)))
      (above c members low.1)

  others : (c : ℕ) (x y : Line) → IsOf w.run c x → c < y.client.0 → AreApart x y
  others c x y is lt = λ same. let at : x.client.0 ≡ c = ap (λ z. z.0) is in let one : x.client.0 ≡ y.client.0 = ap (λ z. z.0) same in absurd (omega arith)

  members_apart : (members : List ℕ) → IsRising members → Pairs AreApart (members_lines w members)
  members_apart [] rising = tt
  members_apart (m ∷ members) rising = Pairs-append AreApart (lines_of_one m) (members_lines w members)
      (Pairs-like Follows AreApart (lines_of_one m) (λ x y f same. inl f) (lines_follow w.run m (w.actors.clients m).done (begun_in (w.actors.clients m).current) (h.clients m).order))
      (members_apart members rising.1)
      (Across-always AreApart (IsOf w.run m) (λ y. m < y.client.0) (lines_of_one m) (members_lines w members) (others m) (lines_of_it w.run m (w.actors.clients m).done (begun_in (w.actors.clients m).current)) (above m members rising.0))

-- ---- in the order of the history
turned : (x y : Line) → AreApart y x → AreApart x y
turned x y h = λ same. swap (h (sym same))
  where
    swap : Follows y x ⊎ Follows x y → Follows x y ⊎ Follows y x
    swap (inl f) = inr f
    swap (inr f) = inl f

module _ (run : List (PlaceNo × Entry)) (lines : List Line) (h : Pairs AreApart lines) where
  -- two kinds of lines that no line is both of
  kinds_apart : (p q : Line → Bool) → ((x : Line) → p x ≡ true → q x ≡ true → ⊥) → Across AreApart (filter p lines) (filter q lines)
  kinds_apart p q none = Across-filters p q AreApart AreApart lines (λ x y e f r. r) (λ x y e f r. turned x y r) none h

  kind_apart : (p : Line → Bool) → Pairs AreApart (filter p lines)
  kind_apart p = Pairs-filter p AreApart AreApart lines (λ x y e f r. r) h

  first_true : (a b : Bool) → (a && b) ≡ true → a ≡ true
  first_true true b e = refl
  first_true false b e = e

  two_places : (p q : ℕ) → p ≢ q → (at : Option ℕ) → stands_at p at ≡ true → stands_at q at ≡ true → ⊥
  two_places p q apart None e f = cc
  two_places p q apart (Some a) e f = apart (grind (arith, nat_tests))

  nowhere : (p : ℕ) (at : Option ℕ) → stands_at p at ≡ true → is_none at ≡ true → ⊥
  nowhere p None e f = cc
  nowhere p (Some a) e f = cc

  both_kinds : (a b : Bool) → (a && not b) ≡ true → (a && b) ≡ true → ⊥
  both_kinds true true e f = cc
  both_kinds true false e f = cc
  both_kinds false b e f = cc

  abbrev at_place : ℕ → List Line
  at_place p = told_at p lines ++ moved_at p lines

  place_apart : (p : ℕ) → Pairs AreApart (at_place p)
  place_apart p = Pairs-append AreApart (told_at p lines) (moved_at p lines) (kind_apart _) (kind_apart _)
      (kinds_apart (λ l. stands_at p l.at && not (is_move l.outcome)) (λ l. stands_at p l.at && is_move l.outcome) (λ x e f. both_kinds (stands_at p x.at) (is_move x.outcome) e f))

  elsewhere : (p q : ℕ) → p ≢ q → (a b : Bool) (x : Line) → (stands_at p x.at && a) ≡ true → (stands_at q x.at && b) ≡ true → ⊥
  elsewhere p q apart a b x e f = two_places p q apart x.at (first_true (stands_at p x.at) a e) (first_true (stands_at q x.at) b f)

  abbrev told : ℕ → Line → Bool
  told p l = stands_at p l.at && not (is_move l.outcome)

  abbrev moved : ℕ → Line → Bool
  moved p l = stands_at p l.at && is_move l.outcome

  places_apart : (p q : ℕ) → p ≢ q → Across AreApart (at_place p) (at_place q)
  places_apart p q apart =
      Across-append AreApart (told_at p lines) (moved_at p lines) (at_place q)
      (Across-onto AreApart (told_at p lines) (told_at q lines) (moved_at q lines)
      (kinds_apart (told p) (told q) (λ x e f. elsewhere p q apart (not (is_move x.outcome)) (not (is_move x.outcome)) x e f))
      (kinds_apart (told p) (moved q) (λ x e f. elsewhere p q apart (not (is_move x.outcome)) (is_move x.outcome) x e f)))
      (Across-onto AreApart (moved_at p lines) (told_at q lines) (moved_at q lines)
      (kinds_apart (moved p) (told q) (λ x e f. elsewhere p q apart (is_move x.outcome) (not (is_move x.outcome)) x e f))
      (kinds_apart (moved p) (moved q) (λ x e f. elsewhere p q apart (is_move x.outcome) (is_move x.outcome) x e f)))

  last_apart : (p : ℕ) → Across AreApart (at_place p) (unplaced lines)
  last_apart p = Across-append AreApart (told_at p lines) (moved_at p lines) (unplaced lines)
      (kinds_apart (λ l. stands_at p l.at && not (is_move l.outcome)) (λ l. is_none l.at) (λ x e f. nowhere p x.at (first_true (stands_at p x.at) (not (is_move x.outcome)) e) f))
      (kinds_apart (λ l. stands_at p l.at && is_move l.outcome) (λ l. is_none l.at) (λ x e f. nowhere p x.at (first_true (stands_at p x.at) (is_move x.outcome) e) f))

-- ---- items
abbrev EachAcross : List HistoryItem → List HistoryItem → Type 0
EachAcross xs ys = Each (λ x. Each (Apart x) ys) xs

pair_append : (xs ys : List HistoryItem) → EachPair Apart xs → EachPair Apart ys → EachAcross xs ys → EachPair Apart (xs ++ ys)
pair_append [] ys h k across = k
pair_append (x ∷ xs) ys h k across = (each_append (Apart x) xs ys h.0 across.0, pair_append xs ys h.1 k across.1)

line_pairs : (xs : List Line) → Pairs AreApart xs → EachPair Apart (map LineItem xs)
line_pairs [] h = tt
line_pairs (x ∷ xs) h = (each_line (Apart (LineItem x)) xs h.0, line_pairs xs h.1)

line_across : (xs ys : List Line) → Across AreApart xs ys → EachAcross (map LineItem xs) (map LineItem ys)
line_across [] ys h = tt
line_across (x ∷ xs) ys h = (each_line (Apart (LineItem x)) ys h.0, line_across xs ys h.1)

-- a forgotten file is no call
forget_each : (p : ℕ) (file : _) (xs : List HistoryItem) → Each (Apart (ForgetItem p file)) xs
forget_each p file [] = tt
forget_each p file (x ∷ xs) = (tt, forget_each p file xs)

abbrev IsForget : HistoryItem → Type 0
IsForget (LineItem line) = ⊥
IsForget (ForgetItem p file) = Unit {0}

forgotten-are : (p : ℕ) (es : List (PlaceNo × Entry)) → Each IsForget (forgotten_at p es)
forgotten-are p [] = tt
forgotten-are p (e ∷ es) = by_test (length es == p) (forgotten-are p es)
  where
    by_moved : (moved : Option Moved) → Each IsForget (forgets p moved)
    by_moved None = tt
    by_moved (Some (Move m)) = tt
    by_moved (Some (Forget file)) = (tt, tt)

    by_test : (b : Bool) → Each IsForget (forgotten_at p es) → Each IsForget (if b then forgets p e.1.moved else forgotten_at p es)
    by_test true rest = by_moved e.1.moved
    by_test false rest = rest

from_forget : (x : HistoryItem) → IsForget x → (ys : List HistoryItem) → Each (Apart x) ys
from_forget (LineItem line) is ys = absurd is
from_forget (ForgetItem p file) is ys = forget_each p file ys

across_forget : (xs ys : List HistoryItem) → Each IsForget xs → EachAcross xs ys
across_forget [] ys h = tt
across_forget (x ∷ xs) ys h = (from_forget x h.0 ys, across_forget xs ys h.1)

to_forget : (x y : HistoryItem) → IsForget y → Apart x y
to_forget (LineItem a) (LineItem b) is = absurd is
to_forget (LineItem a) (ForgetItem p file) is = tt
to_forget (ForgetItem q f) y is = tt

onto_forget : (x : HistoryItem) (ys : List HistoryItem) → Each IsForget ys → Each (Apart x) ys
onto_forget x [] h = tt
onto_forget x (y ∷ ys) h = (to_forget x y h.0, onto_forget x ys h.1)

pair_forget : (xs : List HistoryItem) → Each IsForget xs → EachPair Apart xs
pair_forget [] h = tt
pair_forget (x ∷ xs) h = (from_forget x h.0 xs, pair_forget xs h.1)

each_both : (xs ys zs : List HistoryItem) → EachAcross xs ys → EachAcross xs zs → EachAcross xs (ys ++ zs)
each_both [] ys zs h k = tt
each_both (x ∷ xs) ys zs h k = (each_append (Apart x) ys zs h.0 k.0, each_both xs ys zs h.1 k.1)

each_onto : (xs ys : List HistoryItem) → Each IsForget ys → EachAcross xs ys
each_onto [] ys h = tt
each_onto (x ∷ xs) ys h = (onto_forget x ys h, each_onto xs ys h)

module _ (run : List (PlaceNo × Entry)) (lines : List Line) (h : Pairs AreApart lines) where
  abbrev here : ℕ → List HistoryItem
  here p = map LineItem (told_at p lines ++ moved_at p lines)

  items_apart : (p : ℕ) → EachPair Apart (items_at p run lines)
  items_apart p = pair_append (here p) (forgotten_at p run) (line_pairs (told_at p lines ++ moved_at p lines) (place_apart run lines h p)) (pair_forget (forgotten_at p run) (forgotten-are p run)) (each_onto (here p) (forgotten_at p run) (forgotten-are p run))

  items_across : (p : ℕ) (ys : List Line) → Across AreApart (told_at p lines ++ moved_at p lines) ys → EachAcross (items_at p run lines) (map LineItem ys)
  items_across p ys across = each_append (λ x. Each (Apart x) (map LineItem ys)) (here p) (forgotten_at p run)
      (line_across (told_at p lines ++ moved_at p lines) ys across) (across_forget (forgotten_at p run) (map LineItem ys) (forgotten-are p run))

  placed_across : (n m : ℕ) → n ≤ m → EachAcross (placed n run lines) (items_at m run lines)
  placed_across zero m le = tt
  placed_across (suc n) m le = each_append (λ x. Each (Apart x) (items_at m run lines)) (placed n run lines) (items_at n run lines) (placed_across n m (omega arith))
      (each_both (items_at n run lines) (here m) (forgotten_at m run) (items_across n (told_at m lines ++ moved_at m lines) (places_apart run lines h n m (λ same. omega (arith, same)))) (each_onto (items_at n run lines) (forgotten_at m run) (forgotten-are m run)))

  placed_apart : (n : ℕ) → EachPair Apart (placed n run lines)
  placed_apart zero = tt
  placed_apart (suc n) = pair_append (placed n run lines) (items_at n run lines) (placed_apart n) (items_apart n) (placed_across n n (omega arith))

  placed_last : (n : ℕ) → EachAcross (placed n run lines) (map LineItem (unplaced lines))
  placed_last zero = tt
  placed_last (suc n) = each_append (λ x. Each (Apart x) (map LineItem (unplaced lines))) (placed n run lines) (items_at n run lines) (placed_last n) (items_across n (unplaced lines) (last_apart run lines h n))

  ordered_apart : EachPair Apart (ordered run lines)
  ordered_apart = pair_append (placed (length run + 1) run lines) (map LineItem (unplaced lines)) (placed_apart (length run + 1)) (line_pairs (unplaced lines) (kind_apart run lines h (λ line. is_none line.at))) (placed_last (length run + 1))

pub calls_apart : (setup : Setup) → AreCounts setup.counts → (turns : List Turn) (members : List ℕ) → IsRising members → EachPair Apart (world_history members (played setup turns))
calls_apart setup good turns members rising =
    let w : World = played setup turns in
    ordered_apart w.run (members_lines w members) (members_apart w (played-holds setup good turns) members rising)
