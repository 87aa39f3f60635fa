-- The words of a line.
use Rattle.std.specs.Prelude.{ℕ, ◌==◌, nat_lt, Bool, false, List, [], ◌∷◌, length, filter, Option, Some, None}
use Rattle.std.specs.List.{slice_split}

-- the parts before, between and after the bytes of this kind
unfoldable pub pieces : ℕ → List ℕ → List (List ℕ)
pieces byte text = slice_split (λ b. b == byte) text

-- the parts between spaces that have bytes
unfoldable pub words : List ℕ → List (List ℕ)
words line = filter (λ word. nat_lt 0 (length word)) (pieces 32 line)

-- the word, where it is the only one
abbrev pub only : List (List ℕ) → Option (List ℕ)
only (word ∷ []) = Some word
only words = None

-- the words, where there are two
abbrev pub pair : List (List ℕ) → Option (List ℕ × List ℕ)
pair (first ∷ second ∷ []) = Some (first, second)
pair words = None

-- whether the line is a comment: its first byte is `#`
abbrev pub is_comment : List ℕ → Bool
is_comment [] = false
is_comment (b ∷ line) = b == 35
