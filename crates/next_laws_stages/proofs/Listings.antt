-- The names of a directory are its rows in order, and count as they do.
use Rattle.std.proofs.Common.{◌≡◌, ℕ, List, [], ◌∷◌, map, length, Bool, true, false, cond, refl, sym, ◌∙◌, ap, subst, arith}
use Rattle.std.specs.Prelude.{T, ◌&&◌, ◌==◌}
use Rattle.std.proofs.lemmas.Bool.Decides.{nat_tests}
use Rattle.std.specs.Ordering.{nat_cmp}
use Rattle.std.specs.Cmp.Lexicographic.{slice_cmp, nat_list_cmp_total}
use Rattle.std.specs.FinMap.{entries, entries_sorted, is_sorted, from_entries, from_sorted, entries-from_sorted, get-from_sorted, get-from_entries, same_map}
use Rattle.std.specs.FinMap.Entries.{below_all}
use Rattle.next_ids.specs.declared.ids.Node.{Node}
use Rattle.next_ids.specs.Maps.{within, how_many, lies_in}
use Rattle.next_ids.specs.Namespace.{is_dir}
use Rattle.next_steps.specs.declared.contents.Row.{Row}
use Rattle.next_rules.specs.Contents.{Shard}
use Rattle.next_rules.specs.Facts.{rows_in, dir_rows_in}
use Rattle.next_rules.specs.Reading.{names_of}
use Rattle.next_rules.proofs.Names.{bytes_apart}

abbrev named : ℕ → List (List ℕ × Row) → List (List ℕ × Node)
named d es = map (λ e. (e.0, e.1.node)) (within d es)

left_of : (a b : Bool) → T (a && b) → T a
left_of true b h = tt
left_of false b h = absurd h

right_of : (a b : Bool) → T (a && b) → T b
right_of true b h = h
right_of false b h = absurd h

both : (a b : Bool) → T a → T b → T (a && b)
both true b p q = q
both false b p q = absurd p

-- ---- they rise
below-named : (d : ℕ) (n : List ℕ) (es : List (List ℕ × Row)) → T (below_all (slice_cmp nat_cmp) (d ∷ n) es) → T (below_all (slice_cmp nat_cmp) n (named d es))
below-named d n [] h = tt
below-named d n (([], row) ∷ es) h = absurd h
below-named d n ((k ∷ m, row) ∷ es) h = grind (arith, nat_tests, below-named d n es)

sorted-named : (d : ℕ) (es : List (List ℕ × Row)) → T (is_sorted (slice_cmp nat_cmp) es) → T (is_sorted (slice_cmp nat_cmp) (named d es))
sorted-named d [] h = tt
sorted-named d (([], row) ∷ es) h = sorted-named d es (right_of _ _ h)
sorted-named d ((k ∷ m, row) ∷ es) h = by_test (k == d) refl (sorted-named d es (right_of _ _ h))
  where
    by_test : (b : Bool) → (k == d) ≡ b → T (is_sorted (slice_cmp nat_cmp) (named d es))
        → T (is_sorted (slice_cmp nat_cmp) (map (λ (e : List ℕ × Row). (e.0, e.1.node)) (cond b ((m, row) ∷ within d es) (within d es))))
    by_test false e rest = rest
    by_test true e rest =
        let same : k ≡ d = grind (arith, nat_tests) in
        both _ _ (below-named d m es (subst (λ q. T (below_all (slice_cmp nat_cmp) (q ∷ m) es)) same (left_of _ _ h))) rest

pub entries-names : (shard : Shard) (d : ℕ) → entries (names_of shard d) ≡ named d (entries shard.rows)
entries-names shard d =
    ap entries (same_map nat_list_cmp_total bytes_apart (from_entries (named d (entries shard.rows))) (from_sorted (named d (entries shard.rows)))
    (λ q. get-from_entries nat_list_cmp_total (named d (entries shard.rows)) q ∙ sym (get-from_sorted (slice_cmp nat_cmp) (named d (entries shard.rows)) q rising)))
    ∙ entries-from_sorted (slice_cmp nat_cmp) (named d (entries shard.rows)) rising
  where
    rising : T (is_sorted (slice_cmp nat_cmp) (named d (entries shard.rows)))
    rising = sorted-named d (entries shard.rows) (entries_sorted shard.rows)

-- ---- they count as the rows do
length-named : (d : ℕ) (es : List (List ℕ × Row)) → length (named d es) ≡ how_many (λ e. lies_in d e.0) es
length-named d [] = refl
length-named d (([], row) ∷ es) = length-named d es
length-named d ((k ∷ m, row) ∷ es) = grind (arith, length-named d es)

dirs-named : (d : ℕ) (es : List (List ℕ × Row)) → how_many (λ e. is_dir e.1) (named d es) ≡ how_many (λ e. lies_in d e.0 && is_dir e.1.node) es
dirs-named d [] = refl
dirs-named d (([], row) ∷ es) = dirs-named d es
dirs-named d ((k ∷ m, row) ∷ es) = grind (arith, dirs-named d es)

pub names-count : (shard : Shard) (d : ℕ) → length (entries (names_of shard d)) ≡ rows_in shard d
names-count shard d = ap length (entries-names shard d) ∙ length-named d (entries shard.rows)

pub names-dirs : (shard : Shard) (d : ℕ) → how_many (λ e. is_dir e.1) (entries (names_of shard d)) ≡ dir_rows_in shard d
names-dirs shard d = ap (how_many (λ e. is_dir e.1)) (entries-names shard d) ∙ dirs-named d (entries shard.rows)
