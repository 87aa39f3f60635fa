-- What is left of a list from an index on.
use Rattle.std.proofs.Common.{◌≡◌, ℕ, zero, suc, List, [], ◌∷◌, drop}
use Rattle.std.proofs.Math.Seq.{drop-nil}
use Rattle.std.specs.Prelude.{Some, None, slice_get}

pub drop-none : {X : Type 0} (xs : List X) (i : ℕ) → slice_get xs i ≡ None → drop i xs ≡ []
drop-none [] i none = drop-nil i
drop-none (x ∷ xs) zero none = cc
drop-none (x ∷ xs) (suc i) none = drop-none xs i none

pub drop-some : {X : Type 0} (xs : List X) (i : ℕ) (x : X) → slice_get xs i ≡ Some x → drop i xs ≡ x ∷ drop (suc i) xs
drop-some [] i x some = cc
drop-some (y ∷ xs) zero x some = cc
drop-some (y ∷ xs) (suc i) x some = drop-some xs i x some

pub ruleset left = (drop-none, drop-some)
