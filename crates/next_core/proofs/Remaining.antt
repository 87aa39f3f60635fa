-- The entries that are left of the logs, where one place's newest is taken.
use Rattle.std.proofs.Common.{◌≡◌, ◌≢◌, ℕ, suc, zero, ◌+◌, ◌-◌, ◌<◌, ◌≤◌, List, [], ◌∷◌, ◌++◌, length, reverse, take, set, get_or, Bool, true, false, refl, sym, ap, ◌∙◌, subst, arith, Result, Ok, Err}
use Rattle.std.specs.Prelude.{Option, Some, None, is_some, slice_get, ◌==◌, if◌then◌else◌, nat_lt, IfOk, OnOk}
use Rattle.std.proofs.lemmas.Bool.Decides.{nat_tests}
use Rattle.std.proofs.lemmas.List.{take_all, length-append}
use Rattle.next_ids.specs.declared.ids.PlaceNo.{PlaceNo}
use Rattle.next_ids.specs.declared.memory.NoMemory.{NoMemory}
use Rattle.next_steps.specs.declared.entry.Entry.{Entry}
use Rattle.next_places.specs.declared.place.Place.{Place}
use Rattle.next_rules.specs.Setups.{has_place}
use Rattle.next_places.specs.Held.{set_log}
use Rattle.next_places.specs.PlaceLists.{place_in, counts_in, AreService}
use Rattle.next_places.specs.PlaceViews.{log_of}
use Rattle.next_places.specs.Views.{logs_in, log_shown}
use Rattle.next_places.proofs.Finding.{there}
use Rattle.next_core.specs.Ends.{count_shown, first_shown, placed}
use Rattle.next_core.specs.Weave.{first_entry, without_first}
use Rattle.next_core.proofs.Counting.{low_there}

-- ---- counts, one for each number
pub at_end : (xs : List ℕ) (x : ℕ) → get_or (xs ++ x ∷ []) (length xs) 0 ≡ x
at_end [] x = refl
at_end (y ∷ xs) x = at_end xs x

before_end : (xs : List ℕ) (x i : ℕ) → i < length xs → get_or (xs ++ x ∷ []) i 0 ≡ get_or xs i 0
before_end [] x i lt = absurd (omega arith)
before_end (y ∷ xs) x zero lt = refl
before_end (y ∷ xs) x (suc i) lt = before_end xs x i (omega arith)

past_end : (xs : List ℕ) (i : ℕ) → length xs ≤ i → get_or xs i 0 ≡ 0
past_end [] i past = refl
past_end (x ∷ xs) zero past = absurd (omega arith)
past_end (x ∷ xs) (suc i) past = past_end xs i (omega arith)

get_or-set : (xs : List ℕ) (i x j : ℕ) → i < length xs → get_or (set xs i x) j 0 ≡ (if j == i then x else get_or xs j 0)
get_or-set [] i x j lt = absurd (omega arith)
get_or-set (y ∷ xs) zero x zero lt = refl
get_or-set (y ∷ xs) zero x (suc j) lt = let differ : (suc j == 0) ≡ false = grind (arith, nat_tests) in rw differ refl
get_or-set (y ∷ xs) (suc i) x zero lt = let differ : (0 == suc i) ≡ false = grind (arith, nat_tests) in rw differ refl
get_or-set (y ∷ xs) (suc i) x (suc j) lt = get_or-set xs i x j (omega arith) ∙ ap (λ b. if b then x else get_or xs j 0) (same_test (j == i) refl)
  where
    same_test : (b : Bool) → (j == i) ≡ b → b ≡ (suc j == suc i)
    same_test true t = grind (arith, nat_tests)
    same_test false t = grind (arith, nat_tests)

-- the counts so far are those of the places with these numbers
pub record AreCounted (ps : List Place) (counts : List ℕ) (end : ℕ) : Type 0 where
  pub size : length counts ≡ end
  pub each : (n : ℕ) → n < end → get_or counts n 0 ≡ count_shown (place_in ps n)

pub counted_more : (ps : List Place) (counts : List ℕ) (end count : ℕ) → AreCounted ps counts end → count ≡ count_shown (place_in ps end) → AreCounted ps (counts ++ count ∷ []) (end + 1)
counted_more ps counts end count h is = record {
  size = length-append counts (count ∷ []) ∙ omega (arith, h.size);
  each = λ n lt. by_test n lt (n == end) refl;
}
  where
    by_test : (n : ℕ) → n < end + 1 → (b : Bool) → (n == end) ≡ b → get_or (counts ++ count ∷ []) n 0 ≡ count_shown (place_in ps n)
    by_test n lt true t = let same : n ≡ end = grind (arith, nat_tests) in rw same (ap (λ k. get_or (counts ++ count ∷ []) k 0) (sym h.size) ∙ at_end counts count ∙ is)
    by_test n lt false t = let differ : n ≢ end = grind (arith, nat_tests) in before_end counts count n (omega (arith, differ, lt, h.size)) ∙ h.each n (omega (arith, differ, lt))

-- ---- no place has a number from 130 on
none_high : (ps : List Place) → AreService ps → (n : ℕ) → 130 ≤ n → place_in ps n ≡ None
none_high ps good n high = by_option (place_in ps n) refl
  where
    by_option : (o : Option Place) → place_in ps n ≡ o → o ≡ None
    by_option None e = refl
    by_option (Some p) e = let low = low_there (counts_in ps) n good.counts (sym (there ps good n) ∙ ap is_some e) in absurd (omega (arith, low, high))

pub number_low : (ps : List Place) → AreService ps → (n : ℕ) → has_place (counts_in ps) n ≡ true → n < 130
number_low ps good n h = low_there (counts_in ps) n good.counts h

module _ (ps : List Place) (good : AreService ps) (counts : List ℕ) (h : AreCounted ps counts 130) where
  each_count : (n : ℕ) → get_or counts n 0 ≡ count_shown (place_in ps n)
  each_count n = by_test (nat_lt n 130) refl
    where
      by_test : (b : Bool) → nat_lt n 130 ≡ b → get_or counts n 0 ≡ count_shown (place_in ps n)
      by_test true t = h.each n (grind (arith, nat_tests))
      by_test false t = let high : 130 ≤ n = grind (arith, nat_tests) in past_end counts n (omega (arith, high, h.size)) ∙ sym (ap count_shown (none_high ps good n high))

  pub all_within : (n : ℕ) → get_or counts n 0 ≤ count_shown (place_in ps n)
  all_within n = let is = each_count n in omega (arith, is)

  pub all_left : (n : ℕ) → first_shown (get_or counts n 0) (place_in ps n) ≡ logs_in ps n
  all_left n = by_option (place_in ps n) (each_count n)
    where
      by_option : (o : Option Place) → get_or counts n 0 ≡ count_shown o → first_shown (get_or counts n 0) o ≡ log_shown o
      by_option None is = refl
      by_option (Some p) is = ap reverse (take_all (get_or counts n 0) (log_of p) (omega (arith, is)))

-- ---- the newest of one place's entries is taken
module _ (ps : List Place) (counts : List ℕ) (place : PlaceNo) (p : Place) (count count' : ℕ) (found : Some p ≡ place_in ps place.0) (lt : place.0 < length counts) (is : count ≡ get_or counts place.0 count)
    (within : (n : ℕ) → get_or counts n 0 ≤ count_shown (place_in ps n)) where
  any_default : (xs : List ℕ) (i : ℕ) (d : ℕ) → i < length xs → get_or xs i d ≡ get_or xs i 0
  any_default [] i d lt = absurd (omega arith)
  any_default (x ∷ xs) zero d lt = refl
  any_default (x ∷ xs) (suc i) d lt = any_default xs i d (omega arith)

  count_is : get_or counts place.0 0 ≡ count
  count_is = sym (is ∙ any_default counts place.0 count lt)

  own_log : first_shown (get_or counts place.0 0) (place_in ps place.0) ≡ reverse (take count (log_of p))
  own_log = ap (λ n. first_shown n (place_in ps place.0)) count_is ∙ ap (first_shown count) (sym found)

  enough : count ≤ length (log_of p)
  enough = let w = within place.0 in let same = ap count_shown (sym found) in omega (arith, w, same, count_is)

  pub place_taken : (r : Result (Option Entry) NoMemory) (entry : Option Entry) → entry ≡ slice_get (log_of p) (count - 1)
      → IfOk r (λ newest. (log : List Entry) → count ≤ length log → entry ≡ slice_get log (count - 1) → (q : PlaceNo) → first_entry q (reverse (take count log)) ≡ placed q newest)
      → IfOk r (λ newest. first_entry place (first_shown (get_or counts place.0 0) (place_in ps place.0)) ≡ placed place newest)
  place_taken (Ok newest) entry at first = ap (first_entry place) own_log ∙ first (log_of p) enough at place
  place_taken (Err e) entry at first = tt

  pub place_left : (r : Result (Option Entry) NoMemory) → OnOk r ((log : List Entry) → count ≤ length log → reverse (take count' log) ≡ without_first (reverse (take count log)))
      → OnOk r ((λ n. first_shown (get_or (set counts place.0 count') n 0) (place_in ps n)) ≡ set_log (λ n. first_shown (get_or counts n 0) (place_in ps n)) place.0 (without_first (first_shown (get_or counts place.0 0) (place_in ps place.0))))
  place_left (Ok newest) rest = λ j n. (ap (λ k. first_shown k (place_in ps n)) (get_or-set counts place.0 count' n lt) ∙ by_test n (n == place.0) refl) j
    where
      by_test : (n : ℕ) (b : Bool) → (n == place.0) ≡ b → first_shown (if b then count' else get_or counts n 0) (place_in ps n) ≡ (if b then without_first (first_shown (get_or counts place.0 0) (place_in ps place.0)) else first_shown (get_or counts n 0) (place_in ps n))
      by_test n true t = let same : n ≡ place.0 = grind (arith, nat_tests) in ap (λ k. first_shown count' (place_in ps k)) same ∙ ap (first_shown count') (sym found) ∙ rest (log_of p) enough ∙ sym (ap without_first own_log)
      by_test n false t = refl
  place_left (Err e) rest = tt

  pub still_within : count' ≤ count → (n : ℕ) → get_or (set counts place.0 count') n 0 ≤ count_shown (place_in ps n)
  still_within less n = subst (λ k. k ≤ count_shown (place_in ps n)) (sym (get_or-set counts place.0 count' n lt)) (by_test (n == place.0) refl)
    where
      by_test : (b : Bool) → (n == place.0) ≡ b → (if b then count' else get_or counts n 0) ≤ count_shown (place_in ps n)
      by_test true t = let same : n ≡ place.0 = grind (arith, nat_tests) in let w = within n in let own : get_or counts n 0 ≡ count = ap (λ k. get_or counts k 0) same ∙ count_is in omega (arith, w, own, less)
      by_test false t = within n
