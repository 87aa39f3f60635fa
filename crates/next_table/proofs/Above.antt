-- In a sorted list each name is above those before it.
use Rattle.std.proofs.Common.{◌≡◌, ℕ, List, [], ◌∷◌, ◌++◌, map, Bool, true, false, refl, sym, subst}
use Rattle.std.specs.Prelude.{T, ◌&&◌}
use Rattle.std.specs.declared.cmp.Ordering.{Ordering}
use Rattle.std.specs.declared.cmp.Ordering.TheVariants.{Less, Equal, Greater}
use Rattle.std.specs.Ordering.{nat_cmp, is_lt}
use Rattle.std.specs.Cmp.Lexicographic.{slice_cmp}
use Rattle.std.specs.FinMap.{entries, entries_sorted, is_sorted}
use Rattle.std.specs.FinMap.Entries.{below_all}
use Rattle.next_ids.specs.declared.ids.Node.{Node}
use Rattle.next_ids.specs.Maps.{Names}
use Rattle.next_ids.specs.Rows.{IsAbove}
use Rattle.next_steps.specs.declared.contents.Row.{Row}
use Rattle.next_table.proofs.Listed.{is_sorted-changed}

less : (r : Ordering) → T (is_lt r) → r ≡ Less
less Less h = refl
less Equal h = absurd h
less Greater h = absurd h

below_at : (k : List ℕ) (xs : List (List ℕ × Node)) (y : List ℕ × Node) (ys : List (List ℕ × Node)) → T (below_all (slice_cmp nat_cmp) k (xs ++ y ∷ ys)) → slice_cmp nat_cmp k y.0 ≡ Less
below_at k [] y ys h = less (slice_cmp nat_cmp k y.0) (first (is_lt (slice_cmp nat_cmp k y.0)) h)
  where
    first : (a : Bool) → T (a && below_all (slice_cmp nat_cmp) k ys) → T a
    first true h = tt
    first false h = absurd h
below_at k (x ∷ xs) y ys h = below_at k xs y ys (second (is_lt (slice_cmp nat_cmp k x.0)) h)
  where
    second : (a : Bool) → T (a && below_all (slice_cmp nat_cmp) k (xs ++ y ∷ ys)) → T (below_all (slice_cmp nat_cmp) k (xs ++ y ∷ ys))
    second true h = h
    second false h = absurd h

is_above : (xs : List (List ℕ × Node)) (y : List ℕ × Node) (ys : List (List ℕ × Node)) → T (is_sorted (slice_cmp nat_cmp) (xs ++ y ∷ ys)) → IsAbove xs y.0
is_above [] y ys h = tt
is_above (x ∷ xs) y ys h = by_test (below_all (slice_cmp nat_cmp) x.0 (xs ++ y ∷ ys)) refl h (is_above xs y ys)
  where
    by_test : (b : Bool) → below_all (slice_cmp nat_cmp) x.0 (xs ++ y ∷ ys) ≡ b → T (b && is_sorted (slice_cmp nat_cmp) (xs ++ y ∷ ys)) → (T (is_sorted (slice_cmp nat_cmp) (xs ++ y ∷ ys)) → IsAbove xs y.0) → (slice_cmp nat_cmp x.0 y.0 ≡ Less) × IsAbove xs y.0
    by_test true is h rest = (below_at x.0 xs y ys (subst T (sym is) tt), rest h)
    by_test false is h rest = absurd h

-- the next row is above those that were listed
pub next_is_above : (names : Names Row) (xs : List (List ℕ × Node)) (y : List ℕ × Node) (ys : List (List ℕ × Node)) → xs ++ y ∷ ys ≡ map (λ e. (e.0, e.1.node)) (entries names) → IsAbove xs y.0
next_is_above names xs y ys e = is_above xs y ys (subst (λ es. T (is_sorted (slice_cmp nat_cmp) es)) (sym e) (is_sorted-changed (slice_cmp nat_cmp) (λ (row : Row). row.node) (entries names) (entries_sorted names)))
