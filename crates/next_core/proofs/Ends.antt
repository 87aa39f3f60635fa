-- The newest of the entries that are left of a log.
use Rattle.std.proofs.Common.{◌≡◌, ℕ, suc, zero, ◌+◌, ◌-◌, ◌<◌, ◌≤◌, List, [], ◌∷◌, length, reverse, take, get_or, sym, ap, ◌∙◌, arith, add-one}
use Rattle.std.specs.Prelude.{Option, Some, None, slice_get}
use Rattle.std.proofs.lemmas.List.{take_more, reverse-append}
use Rattle.next_ids.specs.declared.ids.PlaceNo.{PlaceNo}
use Rattle.next_steps.specs.declared.entry.Entry.{Entry}
use Rattle.next_core.specs.Ends.{placed}
use Rattle.next_core.specs.Weave.{first_entry, without_first}

reverse-take : {X : Type 0} (xs : List X) (i : ℕ) (d : X) → i < length xs → reverse (take (i + 1) xs) ≡ get_or xs i d ∷ reverse (take i xs)
reverse-take xs i d lt = ap reverse (take_more xs i d lt) ∙ reverse-append (take i xs) (get_or xs i d ∷ [])

got : {X : Type 0} (xs : List X) (i : ℕ) (x d : X) → Some x ≡ slice_get xs i → (i < length xs) × (x ≡ get_or xs i d)
got [] i x d e = cc
got (y ∷ ys) zero x d e = (omega arith, cc)
got (y ∷ ys) (suc i) x d e = let r = got ys i x d e in (omega (arith, r.0), r.1)

-- the newest entry of the first n
newest-first : (log : List Entry) (n : ℕ) (entry : Entry) → Some entry ≡ slice_get log n → (place : PlaceNo) → first_entry place (reverse (take (n + 1) log)) ≡ placed place (Some entry)
newest-first log n entry e place = let r = got log n entry entry e in
    ap (first_entry place) (reverse-take log n entry r.0) ∙ ap (λ (x : Entry). (place, x) ∷ []) (sym r.1)

newest-rest : (log : List Entry) (n : ℕ) (d : Entry) → n < length log → reverse (take n log) ≡ without_first (reverse (take (n + 1) log))
newest-rest log n d lt = sym (ap without_first (reverse-take log n d lt))

none_past : {X : Type 0} (xs : List X) (i : ℕ) → None ≡ slice_get xs i → length xs ≤ i
none_past [] i e = omega arith
none_past (y ∷ ys) zero e = cc
none_past (y ∷ ys) (suc i) e = let r = none_past ys i e in omega (arith, r)

less-one : (m : ℕ) → suc m - 1 ≡ m
less-one m = omega arith

-- the newest entry of those that are left, where some are
pub first-of-left : (log : List Entry) (n : ℕ) (o : Option Entry) → 0 < n → n ≤ length log → o ≡ slice_get log (n - 1) → (place : PlaceNo) → first_entry place (reverse (take n log)) ≡ placed place o
first-of-left log zero o some le is place = absurd (omega arith)
first-of-left log (suc m) None some le is place = let past = none_past log m (is ∙ ap (slice_get log) (less-one m)) in absurd (omega (arith, past))
first-of-left log (suc m) (Some entry) some le is place = rw (sym (add-one m)) (newest-first log m entry (is ∙ ap (slice_get log) (less-one m)) place)

-- and those that are left then
pub rest-of-left : (log : List Entry) (n m : ℕ) → m + 1 ≡ n → n ≤ length log → reverse (take m log) ≡ without_first (reverse (take n log))
rest-of-left [] n m is le = absurd (omega arith)
rest-of-left (e ∷ es) n m is le = newest-rest (e ∷ es) m e (omega arith) ∙ ap (λ (k : ℕ). without_first (reverse (take k (e ∷ es)))) is
