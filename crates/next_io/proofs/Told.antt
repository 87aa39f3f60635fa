-- What a source that tells its bytes is read for.
use Rattle.std.proofs.Common.{inl, inr, ◌≡◌, ℕ, ◌+◌, List, ◌++◌, Option, Some, None, length, take, take_all, ap, sym, ◌∙◌, append-nil, arith}
use Rattle.std.proofs.lemmas.Bool.{cases_lt}
use Rattle.std.proofs.Math.Seq.{take-append_seam}
use Rattle.next_io.specs.Input.{ReadsWithin}

-- what was read is all that was left, up to the first byte past the limit
pub ReadsWithin-told : (most : ℕ) (old new : Option (List ℕ)) (left bytes : List ℕ) → old ≡ Some left → ReadsWithin most old new bytes → take (most + 1) left ≡ bytes
ReadsWithin-told most None new left bytes e r = cc
ReadsWithin-told most (Some xs) None left bytes e r = absurd r.first
ReadsWithin-told most (Some xs) (Some ys) left bytes e r =
    let same : xs ≡ left = cc in
    let whole : left ≡ bytes ++ ys = sym same ∙ r.first in
    elim (cases_lt most (length bytes)) [
      | inl past ↦ (let len : most + 1 ≡ length bytes = omega (arith, r.bound) in
          rw (len, whole) (take-append_seam bytes ys))
      | inr within ↦ (let all : left ≡ bytes = whole ∙ ap (λ (l : List ℕ). bytes ++ l) (r.all within) ∙ append-nil bytes in
          rw all (take_all (most + 1) bytes (omega (arith, within))))
    ]
