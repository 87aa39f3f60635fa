-- What a change in place makes of a map.
use Rattle.std.proofs.Common.{◌≡◌, ℕ, ◌∙◌, ap}
use Rattle.std.specs.Prelude.{Option, Some, Result, Ok, Err, OnOk, OnErr}
use Rattle.std.specs.FinMap.{get, insert}
use Rattle.next_ids.specs.Maps.{Numbers}
use Rattle.next_maps.proofs.Inner.{insert-same}

module _ {X : Type 0} (m n : Numbers X) (key : ℕ) (old new : X) (there : Some old ≡ get m key) (is : n ≡ insert m key new) where
  pub written : (f : Option X → X) → new ≡ f (Some old) → n ≡ insert m key (f (get m key))
  written f e = is ∙ ap (insert m key) (e ∙ ap f there)

  pub written-ok : {A E : Type 0} (r : Result A E) (f : Option X → X) → OnOk r (new ≡ f (Some old)) → OnOk r (n ≡ insert m key (f (get m key)))
  written-ok (Ok a) f e = written f e
  written-ok (Err e) f h = tt

  pub written-err : {A E : Type 0} (r : Result A E) → OnErr r (new ≡ old) → OnErr r (n ≡ m)
  written-err (Ok a) h = tt
  written-err (Err e) h = is ∙ ap (insert m key) h ∙ insert-same m key old there
