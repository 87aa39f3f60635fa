-- Counts and lists along the rows of a directory.
use Rattle.std.proofs.Common.{◌≡◌, ℕ, suc, cond, ◌≤◌, ◌<◌, ap, ◌+◌, List, [], ◌∷◌, ◌++◌, length, Bool, true, false, refl, arith}
use Rattle.std.specs.Prelude.{T, ◌&&◌}
use Rattle.std.specs.declared.cmp.Ordering.{Ordering}
use Rattle.std.specs.declared.cmp.Ordering.TheVariants.{Less, Equal, Greater}
use Rattle.std.specs.Ordering.{nat_cmp, is_lt}
use Rattle.std.specs.Cmp.Lexicographic.{slice_cmp}
use Rattle.std.specs.FinMap.{is_sorted}
use Rattle.std.specs.FinMap.Entries.{below_all}
use Rattle.next_ids.specs.declared.ids.Node.{Node}
use Rattle.next_ids.specs.Maps.{how_many}
use Rattle.next_ids.specs.Rows.{IsAbove}

-- no more pass a test than there are
pub how_many_bound : {X : Type 0} (p : X → Bool) (xs : List X) → how_many p xs ≤ length xs
how_many_bound p [] = omega arith
how_many_bound p (x ∷ xs) = by_test (p x) (how_many_bound p xs)
  where
    by_test : (b : Bool) → how_many p xs ≤ length xs → cond b (suc (how_many p xs)) (how_many p xs) ≤ suc (length xs)
    by_test true h = omega (arith, h)
    by_test false h = omega (arith, h)

less : (r : Ordering) → T (is_lt r) → r ≡ Less
less Less h = refl
less Equal h = absurd h
less Greater h = absurd h

first : (a b : Bool) → T (a && b) → T a
first true b h = tt
first false b h = absurd h

second : (a b : Bool) → T (a && b) → T b
second true b h = h
second false b h = absurd h

-- in a list of rising names each is above those before it
below-later : (x : List ℕ) (rows : List (List ℕ × Node)) (row : List ℕ × Node) (rest : List (List ℕ × Node)) → T (below_all (slice_cmp nat_cmp) x (rows ++ row ∷ rest)) → slice_cmp nat_cmp x row.0 ≡ Less
below-later x [] row rest h = less _ (first _ _ h)
below-later x (r ∷ rows) row rest h = below-later x rows row rest (second _ _ h)

pub IsAbove-rising : (rows : List (List ℕ × Node)) (row : List ℕ × Node) (rest : List (List ℕ × Node)) → T (is_sorted (slice_cmp nat_cmp) (rows ++ row ∷ rest)) → IsAbove rows row.0
IsAbove-rising [] row rest h = tt
IsAbove-rising (r ∷ rows) row rest h = (below-later r.0 rows row rest (first _ _ h), IsAbove-rising rows row rest (second _ _ h))

-- at the start of a count
pub count_start : {X : Type 0} (p : X → Bool) (es xs : List X) (most : ℕ) → es ≡ xs → length xs < most → (0 + how_many p es ≡ how_many p xs) × (0 + length es < most)
count_start p es xs most e h = (omega (arith, ap (how_many p) e), omega (arith, ap length e, h))
