-- The entries of one maker, and the first pass's two lists.
use Rattle.std.proofs.Common.{◌≡◌, ◌≢◌, ℕ, false, List, [], ◌∷◌, ◌++◌, length, drop, refl, ap, ◌∙◌, arith, append_assoc}
use Rattle.std.proofs.lemmas.Bool.Decides.{nat_tests}
use Rattle.std.specs.Prelude.{All}
use Rattle.std.proofs.lemmas.List.Elements.{All-head, All-tail}
use Rattle.cfs_place.specs.Logs.{StartsWith, is_in, without, list_of, has_list, entries_by}

pub is_in-without : (n m : ℕ) (ms : List ℕ) → m ≢ n → is_in m (without n ms) ≡ is_in m ms
is_in-without n m [] differ = refl
is_in-without n m (k ∷ ks) differ = let more = is_in-without n m ks differ in grind (arith, nat_tests)

module _ {E : Type 0} where
  pub list_of-new : (n : ℕ) (ls : List (ℕ × List E)) → has_list n ls ≡ false → list_of n ls ≡ []
  list_of-new n [] new = refl
  list_of-new n (l ∷ ls) new = let more = list_of-new n ls in grind (arith, nat_tests)

  pub drop-seen : (xs ys : List E) → drop (length xs) (xs ++ ys) ≡ ys
  drop-seen [] ys = refl
  drop-seen (x ∷ xs) ys = drop-seen xs ys

  pub StartsWith-grown : (log seen added : List E) → StartsWith log seen → StartsWith (log ++ added) seen
  StartsWith-grown log seen added h = (h.0 ++ added, ap (λ l. l ++ added) h.1 ∙ append_assoc seen h.0 added)

module _ {E : Type 0} (maker : E → ℕ) where
  pub entries_by-append : (n : ℕ) (xs ys : List E) → entries_by maker n (xs ++ ys) ≡ entries_by maker n xs ++ entries_by maker n ys
  entries_by-append n [] ys = refl
  entries_by-append n (x ∷ xs) ys = let more = entries_by-append n xs ys in grind (arith, nat_tests)

  pub entries_by-own : (n : ℕ) (xs : List E) → All (λ e. maker e ≡ n) xs → entries_by maker n xs ≡ xs
  entries_by-own n [] own = refl
  entries_by-own n (x ∷ xs) own =
      let first = All-head (λ e. maker e ≡ n) x xs own in let more = entries_by-own n xs (All-tail (λ e. maker e ≡ n) x xs own) in grind (arith, nat_tests)

  pub entries_by-other : (n m : ℕ) (xs : List E) → n ≢ m → All (λ e. maker e ≡ m) xs → entries_by maker n xs ≡ []
  entries_by-other n m [] differ own = refl
  entries_by-other n m (x ∷ xs) differ own =
      let first = All-head (λ e. maker e ≡ m) x xs own in let more = entries_by-other n m xs differ (All-tail (λ e. maker e ≡ m) x xs own) in grind (arith, nat_tests)
