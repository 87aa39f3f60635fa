-- What a list of places shows after the place with a number has changed.
use Rattle.std.proofs.Common.{◌≡◌, ◌≢◌, ℕ, suc, ◌<◌, List, [], ◌∷◌, ◌++◌, length, reverse, set, get_or, Bool, true, false, refl, sym, ◌∙◌, ap, arith}
use Rattle.std.specs.Prelude.{◌==◌, if◌then◌else◌, Option, Some}
use Rattle.std.proofs.lemmas.Bool.Decides.{nat_tests}
use Rattle.std.proofs.lemmas.List.{reverse-append, length-reverse}
use Rattle.next_steps.specs.declared.entry.Entry.{Entry}
use Rattle.next_rules.specs.Contents.{is_full}
use Rattle.next_rules.specs.Worlds.{set_last}
use Rattle.next_places.specs.declared.place.Place.{Place}
use Rattle.next_places.specs.Held.{set_log}
use Rattle.next_places.specs.PlaceViews.{number_of, log_of, last_of}
use Rattle.next_places.specs.PlaceLists.{place_in, index_in}
use Rattle.next_places.specs.Views.{last_shown, log_shown, lasts_in, logs_in}

-- ---- the place that stands at the number's index
pub number_here : (ps : List Place) (n : ℕ) (w : Place) → index_in ps n < length ps → w ≡ get_or ps (index_in ps n) w → number_of w ≡ n
number_here [] n w lt is = absurd (omega arith)
number_here (p ∷ ps) n w lt is = by_test (number_of p == n) refl lt is (number_here ps n w)
  where
    by_test : (b : Bool) → (number_of p == n) ≡ b → (if b then 0 else suc (index_in ps n)) < suc (length ps) → w ≡ get_or (p ∷ ps) (if b then 0 else suc (index_in ps n)) w
        → (index_in ps n < length ps → w ≡ get_or ps (index_in ps n) w → number_of w ≡ n) → number_of w ≡ n
    by_test true t lt is rest = ap number_of is ∙ grind (arith, nat_tests)
    by_test false t lt is rest = rest (omega arith) is

pub found_here : (ps : List Place) (n : ℕ) (w : Place) → index_in ps n < length ps → w ≡ get_or ps (index_in ps n) w → place_in ps n ≡ Some w
found_here [] n w lt is = absurd (omega arith)
found_here (p ∷ ps) n w lt is = by_test (number_of p == n) lt is (found_here ps n w)
  where
    by_test : (b : Bool) → (if b then 0 else suc (index_in ps n)) < suc (length ps) → w ≡ get_or (p ∷ ps) (if b then 0 else suc (index_in ps n)) w
        → (index_in ps n < length ps → w ≡ get_or ps (index_in ps n) w → place_in ps n ≡ Some w) → (if b then Some p else place_in ps n) ≡ Some w
    by_test true lt is rest = ap Some (sym is)
    by_test false lt is rest = rest (omega arith) is

-- ---- after another of the same number stands there
place_in-set : (ps : List Place) (n : ℕ) (w : Place) (q : ℕ) → index_in ps n < length ps → number_of w ≡ n → place_in (set ps (index_in ps n) w) q ≡ (if q == n then Some w else place_in ps q)
place_in-set [] n w q lt at = absurd (omega arith)
place_in-set (p ∷ ps) n w q lt at = by_test (number_of p == n) refl lt (λ lt. place_in-set ps n w q lt at)
  where
    turned : (number_of w == q) ≡ (q == n)
    turned = ap (λ m. m == q) at ∙ by_same (q == n) refl
      where
        by_same : (b : Bool) → (q == n) ≡ b → (n == q) ≡ b
        by_same true t = grind (arith, nat_tests)
        by_same false t = grind (arith, nat_tests)

    hidden : (c : Bool) → (if c then Some w else place_in ps q) ≡ (if c then Some w else (if c then Some p else place_in ps q))
    hidden true = refl
    hidden false = refl

    same_test : number_of p ≡ n → (number_of p == q) ≡ (q == n)
    same_test is = ap (λ m. m == q) (is ∙ sym at) ∙ turned

    later : (number_of p == n) ≡ false → (c : Bool) → (number_of p == q) ≡ c → (b : Bool) → (q == n) ≡ b → place_in (set ps (index_in ps n) w) q ≡ (if b then Some w else place_in ps q)
        → (if c then Some p else place_in (set ps (index_in ps n) w) q) ≡ (if b then Some w else (if c then Some p else place_in ps q))
    later differ true t true u rest = absurd (let a : number_of p ≡ q = grind (arith, nat_tests) in let b : q ≡ n = grind (arith, nat_tests) in let c : number_of p ≢ n = grind (arith, nat_tests) in c (a ∙ b))
    later differ true t false u rest = refl
    later differ false t b u rest = rest

    by_test : (b : Bool) → (number_of p == n) ≡ b → (if b then 0 else suc (index_in ps n)) < suc (length ps) → (index_in ps n < length ps → place_in (set ps (index_in ps n) w) q ≡ (if q == n then Some w else place_in ps q))
        → place_in (set (p ∷ ps) (if b then 0 else suc (index_in ps n)) w) q ≡ (if q == n then Some w else (if number_of p == q then Some p else place_in ps q))
    by_test true t lt rest = let is : number_of p ≡ n = grind (arith, nat_tests) in
        ap (λ c. if c then Some w else place_in ps q) turned ∙ hidden (q == n) ∙ ap (λ c. if q == n then Some w else (if c then Some p else place_in ps q)) (sym (same_test is))
    by_test false t lt rest = later t (number_of p == q) refl (q == n) refl (rest (omega arith))

module _ (ps : List Place) (n : ℕ) (old w : Place) (lt : index_in ps n < length ps) (is : old ≡ get_or ps (index_in ps n) old) where
  pub last_here : lasts_in ps n ≡ last_of old
  last_here = ap last_shown (found_here ps n old lt is)

  pub log_here : logs_in ps n ≡ reverse (log_of old)
  log_here = ap log_shown (found_here ps n old lt is)

  pub full_here : (last : ℕ) → is_full (length (logs_in ps n)) last (lasts_in ps n) ≡ is_full (length (log_of old)) last (last_of old)
  full_here last = ap (λ (log : List Entry). is_full (length log) last (lasts_in ps n)) log_here ∙ ap (λ k. is_full k last (lasts_in ps n)) (length-reverse (log_of old)) ∙ ap (is_full (length (log_of old)) last) last_here

  shown_by : {A : Type 0} (f : Option Place → A) (b : Bool) (q : ℕ) → f (if b then Some w else place_in ps q) ≡ (if b then f (Some w) else f (place_in ps q))
  shown_by f true q = refl
  shown_by f false q = refl

  module _ (at : number_of w ≡ n) where
    pub lasts_step : (number : ℕ) → last_of w ≡ number → lasts_in (set ps (index_in ps n) w) ≡ set_last (lasts_in ps) n number
    lasts_step number last = λ j q. (ap last_shown (place_in-set ps n w q lt at) ∙ shown_by last_shown (q == n) q ∙ ap (λ l. if q == n then l else lasts_in ps q) last) j

    pub logs_step : (entry entry' : Entry) → log_of w ≡ log_of old ++ entry ∷ [] → entry ≡ entry' → logs_in (set ps (index_in ps n) w) ≡ set_log (logs_in ps) n (entry' ∷ logs_in ps n)
    logs_step entry entry' longer same = λ j q. (ap log_shown (place_in-set ps n w q lt at) ∙ shown_by log_shown (q == n) q ∙ ap (λ l. if q == n then l else logs_in ps q) grown) j
      where
        grown : reverse (log_of w) ≡ entry' ∷ logs_in ps n
        grown = ap reverse longer ∙ reverse-append (log_of old) (entry ∷ []) ∙ ap (λ l. entry ∷ l) (sym log_here) ∙ ap (λ e. e ∷ logs_in ps n) same

    -- where the place shows the same
    kept : {A : Type 0} (f : ℕ → A) (v : A) → f n ≡ v → (q : ℕ) (b : Bool) → (q == n) ≡ b → (if b then v else f q) ≡ f q
    kept f v same q true t = let here : q ≡ n = grind (arith, nat_tests) in sym (ap f here ∙ same)
    kept f v same q false t = refl

    pub lasts_kept : last_of w ≡ last_of old → lasts_in (set ps (index_in ps n) w) ≡ lasts_in ps
    lasts_kept same = λ j q. (ap last_shown (place_in-set ps n w q lt at) ∙ shown_by last_shown (q == n) q ∙ kept (lasts_in ps) (last_of w) (last_here ∙ sym same) q (q == n) refl) j

    pub logs_kept : log_of w ≡ log_of old → logs_in (set ps (index_in ps n) w) ≡ logs_in ps
    logs_kept same = λ j q. (ap log_shown (place_in-set ps n w q lt at) ∙ shown_by log_shown (q == n) q ∙ kept (logs_in ps) (reverse (log_of w)) (log_here ∙ ap reverse (sym same)) q (q == n) refl) j
