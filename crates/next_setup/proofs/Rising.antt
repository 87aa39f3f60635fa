-- A command keeps the clients rising.
use Rattle.std.proofs.Common.{◌≡◌, ℕ, ◌<◌, ◌≤◌, nat_le, ◌==◌, Bool, true, false, cond, List, [], ◌∷◌, ◌++◌, refl, arith}
use Rattle.std.specs.Prelude.{IsTrue}
use Rattle.std.proofs.lemmas.Bool.Decides.{nat_tests}
use Rattle.next_ids.specs.declared.ids.Client.{Client}
use Rattle.next_walk.specs.declared.command.Command.{Command}
use Rattle.next_setup.specs.Lists.{rises_from, with_command}

pub rises_from-with_command : (low : ℕ) (lists : List (Client × List Command)) (c : Client) (x : Command) → low < c.0 → c.0 ≤ 32 → IsTrue (rises_from low lists) → IsTrue (rises_from low (with_command lists c x))
rises_from-with_command low [] c x above few rises = grind (arith, nat_tests)
rises_from-with_command low (l ∷ ls) c x above few rises =
    by_test (nat_le c.0 l.0.0) refl (l.0.0 == c.0) refl (λ over rest. rises_from-with_command l.0.0 ls c x over few rest)
  where
    by_test : (b : Bool) → nat_le c.0 l.0.0 ≡ b → (e : Bool) → (l.0.0 == c.0) ≡ e → (l.0.0 < c.0 → IsTrue (rises_from l.0.0 ls) → IsTrue (rises_from l.0.0 (with_command ls c x))) →
        IsTrue (rises_from low (cond b (cond e ((l.0, l.1 ++ x ∷ []) ∷ ls) ((c, x ∷ []) ∷ l ∷ ls)) (l ∷ with_command ls c x)))
    by_test true test true same rest = rises
    by_test true test false other rest = grind (arith, nat_tests)
    by_test false test e same rest = let over : l.0.0 < c.0 = grind (arith, nat_tests) in let tail : IsTrue (rises_from l.0.0 ls) = grind (arith, nat_tests) in let more = rest over tail in grind (arith, nat_tests)

pub ruleset rising = (rises_from-with_command)
