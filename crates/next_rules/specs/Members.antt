-- The clients whose calls a history has.
use Rattle.std.specs.Prelude.{◌≡◌, ◌≢◌, ℕ, ◌<◌, List, [], ◌∷◌, true, ◌==◌}
use Rattle.std.specs.List.{list_any}
use Rattle.next_rules.specs.Actors.{Plan, Ends}

-- a number below all of a list
abbrev pub IsBelowAll : ℕ → List ℕ → Type 0
IsBelowAll m [] = Unit {0}
IsBelowAll m (n ∷ ns) = (m < n) × IsBelowAll m ns

-- each is below all later ones
abbrev pub IsRising : List ℕ → Type 0
IsRising [] = Unit {0}
IsRising (m ∷ ms) = IsBelowAll m ms × IsRising ms

-- every client that makes a call is a member
abbrev pub HasCallers : (ℕ → Plan) → List ℕ → Type 0
HasCallers plans members = (c : ℕ) → plans c ≢ Ends → list_any (λ m. m == c) members ≡ true
