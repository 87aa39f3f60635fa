-- Clients under their numbers stand by rising number.
use Rattle.std.proofs.Common.{◌≡◌, ℕ, ◌<◌, ◌^◌, List, [], ◌∷◌, ◌++◌, Bool, true, false, refl, arith}
use Rattle.std.specs.Prelude.{T, ◌&&◌, is_some}
use Rattle.std.proofs.lemmas.Bool.Decides.{nat_tests}
use Rattle.std.specs.Ordering.{nat_cmp, is_lt}
use Rattle.std.specs.FinMap.{put, find, is_sorted}
use Rattle.std.specs.FinMap.Entries.{below_all}
use Rattle.next_ids.specs.declared.ids.Client.{Client}
use Rattle.next_steps.specs.ClientSets.{entered, holds, IsAbove}
use Rattle.next_desk.specs.Entered.{clients, AreClients}

pub enter-put : (c : Client) (es : List (ℕ × Unit {0})) → clients (put nat_cmp c.0 tt es) ≡ entered (clients es) c
enter-put c [] = refl
enter-put c (e ∷ es) = grind (arith, nat_tests, enter-put c es)

pub put-clients : (n : ℕ) (es : List (ℕ × Unit {0})) → n < 2 ^ 32 → AreClients es → AreClients (put nat_cmp n tt es)
put-clients n [] low h = (low, tt)
put-clients n (e ∷ es) low h = grind (arith, nat_tests, put-clients n es low h.1)

pub holds-find : (c : Client) (es : List (ℕ × Unit {0})) → is_some (find nat_cmp c.0 es) ≡ holds (clients es) c
holds-find c [] = refl
holds-find c (e ∷ es) = grind (arith, nat_tests, holds-find c es)

-- the next client of a walk is above those before
abbrev pub IsNext : List Client → List (ℕ × Unit {0}) → Type 0
IsNext set [] = Unit {0}
IsNext set (e ∷ es) = IsAbove set (record { 0 = e.0 })

above-push : (set : List Client) (c d : Client) → c.0 < d.0 → IsAbove set c → IsAbove (set ++ c ∷ []) d
above-push [] c d less h = (less, tt)
above-push (x ∷ set) c d less h = (omega (arith, h.0), above-push set c d less h.1)

first : (a b : Bool) → T (a && b) → T a
first true b h = tt
first false b h = h

second : (a b : Bool) → T (a && b) → T b
second true b h = h
second false b h = absurd h

less : (a b : ℕ) → T (is_lt (nat_cmp a b)) → a < b
less a b h = grind (arith, nat_tests)

pub next-push : (set : List Client) (e : ℕ × Unit {0}) (es : List (ℕ × Unit {0})) → T (is_sorted nat_cmp (e ∷ es)) → IsNext set (e ∷ es) → IsNext (set ++ record { 0 = e.0 } ∷ []) es
next-push set e [] sorted h = tt
next-push set e (f ∷ es) sorted h = above-push set (record { 0 = e.0 }) (record { 0 = f.0 }) (less e.0 f.0 (first (is_lt (nat_cmp e.0 f.0)) (below_all nat_cmp e.0 es) (first (below_all nat_cmp e.0 (f ∷ es)) (is_sorted nat_cmp (f ∷ es)) sorted))) h

pub sorted-rest : (e : ℕ × Unit {0}) (es : List (ℕ × Unit {0})) → T (is_sorted nat_cmp (e ∷ es)) → T (is_sorted nat_cmp es)
sorted-rest e es = second (below_all nat_cmp e.0 es) (is_sorted nat_cmp es)

pub next-first : (es : List (ℕ × Unit {0})) → IsNext [] es
next-first [] = tt
next-first (e ∷ es) = tt
