-- A list of stops with one more.
use Rattle.std.proofs.Common.{◌≡◌, ℕ, List, [], ◌∷◌, ◌++◌, false, arith}
use Rattle.std.specs.Prelude.{IsTrue, ◌==◌}
use Rattle.std.proofs.lemmas.Bool.Decides.{nat_tests}
use Rattle.next_ids.specs.declared.ids.Client.{Client}
use Rattle.next_setup.specs.Stops.{has_stop, names_once}

had : (stops : List (Client × ℕ)) (stop : Client × ℕ) (c : Client) → has_stop stops c ≡ false → (stop.0.0 == c.0) ≡ false → has_stop (stops ++ stop ∷ []) c ≡ false
had [] stop c none other = grind (arith, nat_tests)
had (first ∷ stops) stop c none other =
    let fewer : has_stop stops c ≡ false = grind (arith, nat_tests) in
    let rest = had stops stop c fewer other in
    grind (arith, nat_tests)

pub once-more : (stops : List (Client × ℕ)) (stop : Client × ℕ) → IsTrue (names_once stops) → has_stop stops stop.0 ≡ false → IsTrue (names_once (stops ++ stop ∷ []))
once-more [] stop once none = grind (arith, nat_tests)
once-more (first ∷ stops) stop once none =
    let fewer : has_stop stops stop.0 ≡ false = grind (arith, nat_tests) in
    let alone : has_stop stops first.0 ≡ false = grind (arith, nat_tests) in
    let others : IsTrue (names_once stops) = grind (arith, nat_tests) in
    let apart : (stop.0.0 == first.0.0) ≡ false = grind (arith, nat_tests) in
    let rest = once-more stops stop others fewer in
    let there = had stops stop first.0 alone apart in
    grind (arith, nat_tests)

pub ruleset stopping = (once-more)
