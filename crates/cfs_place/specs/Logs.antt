-- Logs, and the entries of one maker in them.
use Rattle.std.specs.Prelude.{◌≡◌, ℕ, Bool, true, false, List, [], ◌∷◌, ◌++◌, ◌==◌, All, if◌then◌else◌}

-- the log goes on from what was seen
abbrev pub StartsWith : {E : Type 0} → List E → List E → Type 0
StartsWith {E} log seen = (rest : List E) × (log ≡ seen ++ rest)

-- the number is on the list
abbrev pub is_in : ℕ → List ℕ → Bool
is_in n [] = false
is_in n (m ∷ ms) = if m == n then true else is_in n ms

-- the list without the number
abbrev pub without : ℕ → List ℕ → List ℕ
without n [] = []
without n (m ∷ ms) = if m == n then without n ms else m ∷ without n ms

module _ {E : Type 0} where
  -- what is kept for a number, nothing where it has no list
  abbrev pub list_of : ℕ → List (ℕ × List E) → List E
  list_of n [] = []
  list_of n (l ∷ ls) = if l.0 == n then l.1 else list_of n ls

  -- something is kept for the number
  abbrev pub has_list : ℕ → List (ℕ × List E) → Bool
  has_list n [] = false
  has_list n (l ∷ ls) = if l.0 == n then true else has_list n ls

module _ {E : Type 0} (maker : E → ℕ) where
  -- the entries of one maker, in their order
  abbrev pub entries_by : ℕ → List E → List E
  entries_by n [] = []
  entries_by n (e ∷ es) = if maker e == n then e ∷ entries_by n es else entries_by n es

  -- the log goes on from what was seen by entries of this maker alone
  abbrev pub GrowsBy : ℕ → List E → List E → Type 0
  GrowsBy n seen log = (added : List E) × (log ≡ seen ++ added) × All (λ e. maker e ≡ n) added
