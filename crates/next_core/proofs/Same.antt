-- Actors that are the same.
use Rattle.std.proofs.Common.{◌≡◌, ℕ, true, refl, ap, arith}
use Rattle.std.proofs.lemmas.Bool.Decides.{nat_tests}
use Rattle.next_ids.specs.declared.ids.Actor.{Actor}
use Rattle.next_ids.specs.declared.ids.Actor.TheVariants.{Client as ClientActor, Renamer, Collector}
use Rattle.next_core.specs.Casts.{is_same}

pub same-is : (a b : Actor) → is_same a b ≡ true → a ≡ b
same-is (ClientActor c) (ClientActor d) e = let n : c.0 ≡ d.0 = grind (arith, nat_tests) in ap (λ (n : ℕ). ClientActor (record { 0 = n })) n
same-is Renamer Renamer e = refl
same-is Collector Collector e = refl
same-is (ClientActor c) Renamer e = cc
same-is (ClientActor c) Collector e = cc
same-is Renamer (ClientActor d) e = cc
same-is Renamer Collector e = cc
same-is Collector (ClientActor d) e = cc
same-is Collector Renamer e = cc

pub same-itself : (a : Actor) → is_same a a ≡ true
same-itself (ClientActor c) = grind (arith, nat_tests)
same-itself Renamer = refl
same-itself Collector = refl
