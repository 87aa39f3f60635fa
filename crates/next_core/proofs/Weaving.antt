-- A step is one more entry of the run.
use Rattle.std.proofs.Common.{◌≡◌, ℕ, List, ◌∷◌, ◌++◌, Bool, true, false, refl, sym, ap, ◌∙◌, arith}
use Rattle.std.specs.Prelude.{◌==◌, if◌then◌else◌}
use Rattle.std.proofs.lemmas.Bool.Decides.{nat_tests}
use Rattle.next_ids.specs.declared.ids.PlaceNo.{PlaceNo}
use Rattle.next_steps.specs.declared.entry.Entry.{Entry}
use Rattle.next_places.specs.Held.{set_log}
use Rattle.next_core.specs.Weave.{first_entry, without_first, woven}

first_of_log : (logs : ℕ → List Entry) (place : ℕ) (log : List Entry) → set_log logs place log place ≡ log
first_of_log logs place log = let same : (place == place) ≡ true = grind (arith, nat_tests) in rw same refl

without_it : (logs : ℕ → List Entry) (place : ℕ) (log : List Entry) → set_log (set_log logs place log) place (logs place) ≡ logs
without_it logs place log = λ j q. by_test q (q == place) refl j
  where
    by_test : (q : ℕ) (b : Bool) → (q == place) ≡ b → (if b then logs place else (if b then log else logs q)) ≡ logs q
    by_test q true t = let same : q ≡ place = grind (arith, nat_tests) in ap logs (sym same)
    by_test q false t = refl

pub woven-more : (place : PlaceNo) (e : Entry) (order : List PlaceNo) (logs : ℕ → List Entry) → woven (place ∷ order) (set_log logs place.0 (e ∷ logs place.0)) ≡ (place, e) ∷ woven order logs
woven-more place e order logs =
    ap (λ l. first_entry place l ++ woven order (set_log (set_log logs place.0 (e ∷ logs place.0)) place.0 (without_first l))) (first_of_log logs place.0 (e ∷ logs place.0))
    ∙ ap (λ ls. (place, e) ∷ woven order ls) (without_it logs place.0 (e ∷ logs place.0))
