-- What the first line of a text is told as, by its bytes.
use Rattle.std.proofs.Common.{◌≡◌, ◌≤◌, ◌<◌, ◌+◌, ℕ, List, [], ◌∷◌, length, arith}
use Rattle.std.proofs.lemmas.Bool.Decides.{nat_tests}
use Rattle.next_io.specs.Lines.{first_line, behind_line, line_got, first_got}
use Rattle.next_io.specs.declared.line_got.LineGot.TheVariants.{PastLimit}

pub first_got-within : (most : ℕ) (text : List ℕ) → 0 < length text → length text ≤ most + length (behind_line text) → first_got most text ≡ line_got (first_line text)
first_got-within most [] some within = absurd (omega arith)
first_got-within most (b ∷ text) some within = grind (arith, nat_tests)

pub first_got-past : (most : ℕ) (text : List ℕ) → most + length (behind_line text) < length text → first_got most text ≡ PastLimit
first_got-past most [] past = absurd (omega arith)
first_got-past most (b ∷ text) past = grind (arith, nat_tests)
