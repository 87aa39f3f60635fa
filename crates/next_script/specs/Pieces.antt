-- Bytes between bytes of one kind.
use Rattle.std.specs.Prelude.{ℕ, ◌==◌, ◌&&◌, if◌then◌else◌, List, [], ◌∷◌, length}
use Rattle.next_grammar.specs.Words.{pieces}

-- all but the last
abbrev pub all_but_last : List (List ℕ) → List (List ℕ)
all_but_last [] = []
all_but_last (part ∷ []) = []
all_but_last (part ∷ next ∷ more) = part ∷ all_but_last (next ∷ more)

abbrev pub last_of : List (List ℕ) → List ℕ
last_of [] = []
last_of (part ∷ []) = part
last_of (part ∷ next ∷ more) = last_of (next ∷ more)

-- the lines that end with LF, each without it
unfoldable pub lines : List ℕ → List (List ℕ)
lines text = all_but_last (pieces 10 text)

-- the bytes after the last LF
unfoldable pub rest_of_lines : List ℕ → List ℕ
rest_of_lines text = last_of (pieces 10 text)

-- the line without the CR at its end, where it has one
unfoldable pub without_return : List ℕ → List ℕ
without_return [] = []
without_return (b ∷ line) = if length line == 0 && b == 13 then [] else b ∷ without_return line
