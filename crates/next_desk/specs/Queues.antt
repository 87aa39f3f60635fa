-- The jobs that were taken are the first.
use Rattle.std.specs.Prelude.{◌≡◌, ℕ, suc, zero, List, [], ◌∷◌, true, false}
use Rattle.next_steps.specs.declared.contents.Job.{Job}

-- the first n jobs were taken, and no others
abbrev pub AreTaken : ℕ → List Job → Type 0
AreTaken zero [] = Unit {0}
AreTaken (suc n) [] = ⊥
AreTaken zero (j ∷ js) = (j.taken ≡ false) × AreTaken zero js
AreTaken (suc n) (j ∷ js) = (j.taken ≡ true) × AreTaken n js
