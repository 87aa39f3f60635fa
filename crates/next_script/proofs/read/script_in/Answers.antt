use Rattle.std.proofs.Common.{◌≡◌, ℕ, None, List, Bool, take, min, length, nat_le, refl, ap, ◌∙◌, arith}
use Rattle.std.proofs.lemmas.List.{take_min}
use Rattle.next_script.specs.Pieces.{lines, rest_of_lines}
use Rattle.next_script.specs.Scripts.{after_lines, script_of, most_bytes}
use Rattle.next_script.proofs.read.script_in.Goals as goal

take_least : (n : ℕ) (xs : List ℕ) → take (min (length xs) n) xs ≡ take n xs
take_least n xs = let e : min (length xs) n ≡ min n (length xs) = omega arith in rw e (take_min n xs)

-- the bytes within the limit
script_of_is : (bytes text : List ℕ) (within : Bool) → text ≡ take (min (length bytes) most_bytes) bytes → within ≡ nat_le (length bytes) most_bytes →
    script_of bytes ≡ after_lines 1 None (lines text) (rest_of_lines text) within
unfolding script_of
script_of_is bytes text within h i = let e : text ≡ take most_bytes bytes = h ∙ take_least most_bytes bytes in rw (e, i) refl

pub returns : goal.returns
unfolding most_bytes
returns c =
    rw (script_of_is c.args.bytes.now (take c.min.result c.args.bytes.now) (nat_le (length c.args.bytes.now) most_bytes) (ap (λ (n : ℕ). take n c.args.bytes.now) c.min.ensures) refl) c.read_text.ensures
