-- The bytes that a device in memory gives are the front of those that it has left.
use Rattle.std.proofs.Common.{◌≡◌, ◌+◌, ◌-◌, ℕ, List, [], ◌++◌, length, take, drop, sym, ap, ◌∙◌, arith}
use Rattle.std.proofs.lemmas.List.{take-append-drop, drop-drop, drop_all, length-drop, take_all}

-- what stands from an index on
module _ (bytes whole : List ℕ) (at count : ℕ) (same : whole ≡ bytes) where
  part_is : take (length whole - at) (drop at whole) ≡ drop at bytes
  part_is = take_all (length whole - at) (drop at whole) (omega (arith, length-drop at whole)) ∙ ap (drop at) same

  pub front_given : (buf : List ℕ) → take count buf ≡ take count (take (length whole - at) (drop at whole)) → drop at bytes ≡ take count buf ++ drop (at + count) bytes
  front_given buf front =
      sym (take-append-drop count (drop at bytes))
      ∙ ap (λ l. l ++ drop count (drop at bytes)) (sym (front ∙ ap (take count) part_is))
      ∙ ap (λ l. take count buf ++ l) (drop-drop count at bytes)

  -- and all of them, where it gives none
  pub none_given : take (length whole - at) (drop at whole) ≡ [] → drop (at + count) bytes ≡ []
  none_given none = sym (drop-drop count at bytes) ∙ ap (drop count) (sym part_is ∙ none) ∙ drop_all count [] (omega arith)
