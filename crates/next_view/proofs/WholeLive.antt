-- A live row of all places together names a node exactly where a live row of one of the shards does.
use Rattle.std.proofs.Common.{◌≡◌, ℕ, suc, zero, ◌+◌, List, [], ◌∷◌, map, flat_map, Bool, true, false, cond, refl, sym, ◌∙◌, ap, subst, arith}
use Rattle.std.specs.Prelude.{◌||◌, ◌&&◌, ◌==◌, not, Option, Some, None}
use Rattle.std.proofs.lemmas.Cmp.{tied_itself}
use Rattle.std.specs.List.{list_any}
use Rattle.std.specs.declared.cmp.Ordering.{Ordering}
use Rattle.std.specs.declared.cmp.Ordering.TheVariants.{Less, Equal, Greater}
use Rattle.std.specs.Ordering.{is_eq, nat_cmp}
use Rattle.std.specs.Cmp.{IsTotalOrder}
use Rattle.std.specs.Cmp.Lexicographic.{slice_cmp, nat_list_cmp_total}
use Rattle.std.specs.FinMap.{FinMap, IsAntisymmetric, get, entries, find, get-entries, retain_keys, get-retain_keys}
use Rattle.next_ids.specs.declared.ids.JobNo.{JobNo}
use Rattle.next_ids.specs.declared.ids.Node.{Node}
use Rattle.next_ids.specs.Namespace.{is_node}
use Rattle.next_ids.proofs.Entries.{Distinct, distinct-entries, any-append}
use Rattle.next_steps.specs.declared.contents.Row.{Row}
use Rattle.next_steps.specs.declared.contents.RowLock.{RowLock}
use Rattle.next_rules.specs.Contents.{Shard}
use Rattle.next_rules.specs.Room.{is_source}
use Rattle.next_rules.specs.Trees.{has_committed, is_committed, is_dead, is_named}
use Rattle.next_rules.specs.Homes.{home_of_row, AreOwnShards, all_shards}
use Rattle.next_rules.proofs.Names.{bytes_apart}
use Rattle.next_rules.proofs.Homes.{get_in, get-gathered, any-gathered}
use Rattle.next_laws_several.proofs.Whole.{own_rows, own_locks}
use Rattle.next_view.proofs.WholeChecks.{none_passes, all_fail}
use Rattle.next_view.specs.Live.{any_committed, is_dead_in, names_live}

same_bools : (a b : Bool) → (a ≡ false → b ≡ false) → (b ≡ false → a ≡ false) → a ≡ b
same_bools true true there back = refl
same_bools false false there back = refl
same_bools true false there back = back refl
same_bools false true there back = sym (there refl)

-- ---- a test of the entries that are kept
module _ {K X : Type 0} (R : K → K → Ordering) (o : IsTotalOrder R) (same : IsAntisymmetric R) (p : K → Bool) (q : K × X → Bool) (m : FinMap R X) where
  get-kept : (k : K) → get (retain_keys m p) k ≡ cond (p k) (get m k) None
  get-kept k = get-retain_keys m p k (λ x e. ap p (sym (same k x e)))

  none_kept : list_any q (entries (retain_keys m p)) ≡ false → list_any (λ e. p e.0 && q e) (entries m) ≡ false
  none_kept h = all_fail R o same (λ e. p e.0 && q e) (entries m) (distinct-entries R m) (λ k x is. by_test k x (get-entries m k ∙ is) (p k) refl)
    where
      by_test : (k : K) (x : X) → get m k ≡ Some x → (b : Bool) → p k ≡ b → (b && q (k, x)) ≡ false
      by_test k x is false e = refl
      by_test k x is true e =
          none_passes R o same q (entries (retain_keys m p)) h k x (sym (get-entries (retain_keys m p) k) ∙ get-kept k ∙ ap (λ b. cond b (get m k) None) e ∙ is)

  none_left : list_any (λ e. p e.0 && q e) (entries m) ≡ false → list_any q (entries (retain_keys m p)) ≡ false
  none_left h = all_fail R o same q (entries (retain_keys m p)) (distinct-entries R (retain_keys m p)) (λ k x is. by_test k x (p k) refl (sym (get-kept k) ∙ get-entries (retain_keys m p) k ∙ is))
    where
      by_test : (k : K) (x : X) (b : Bool) → p k ≡ b → cond (p k) (get m k) None ≡ Some x → q (k, x) ≡ false
      by_test k x false e is = absurd (let none : cond false (get m k) None ≡ Some x = sym (ap (λ b. cond b (get m k) None) e) ∙ is in cc)
      by_test k x true e is =
          let there : get m k ≡ Some x = sym (ap (λ b. cond b (get m k) None) e) ∙ is in
          let fails = none_passes R o same (λ e. p e.0 && q e) (entries m) h k x (sym (get-entries m k) ∙ there) in
          sym (ap (λ b. b && q (k, x)) e) ∙ fails

  any-retain_keys : list_any q (entries (retain_keys m p)) ≡ list_any (λ e. p e.0 && q e) (entries m)
  any-retain_keys = same_bools _ _ none_kept none_left

-- ---- two tests that agree on all that is found
module _ {K X : Type 0} (R : K → K → Ordering) (o : IsTotalOrder R) (same : IsAntisymmetric R) (p q : K × X → Bool) where
  any_alike : (es : List (K × X)) → Distinct R es → ((k : K) (x : X) → find R k es ≡ Some x → p (k, x) ≡ q (k, x)) → list_any p es ≡ list_any q es
  any_alike [] apart h = refl
  any_alike (e ∷ es) apart h =
      ap (λ b. b || list_any p es) (h e.0 e.1 (rw (tied_itself o e.0) refl))
      ∙ ap (λ b. q e || b) (any_alike es apart.1 (λ k x is. h k x (by_key k x (R k e.0) refl is)))
    where
      by_key : (k : K) (x : X) (r : Ordering) → R k e.0 ≡ r → find R k es ≡ Some x → cond (is_eq r) (Some e.1) (find R k es) ≡ Some x
      by_key k x Less at is = is
      by_key k x Greater at is = is
      by_key k x Equal at is = absurd (let none : find R k es ≡ None = subst (λ q. find R q es ≡ None) (sym (same k e.0 at)) apart.0 in cc)

module _ (ss : List Shard) (own : AreOwnShards 0 ss) where
  -- ---- a job's Committed lock lies in one of the shards
  pub committed_whole : (job : JobNo) → has_committed (all_shards ss) job ≡ any_committed ss job
  committed_whole job =
      any-gathered nat_list_cmp_total bytes_apart home_of_row (λ e. (e.1.job.0 == job.0) && is_committed e.1.side) (map (λ (s : Shard). s.locks) ss) (own_locks 0 ss own) ∙ flat ss
    where
      flat : (ts : List Shard) → list_any (λ e. (e.1.job.0 == job.0) && is_committed e.1.side) (flat_map entries (map (λ (s : Shard). s.locks) ts)) ≡ any_committed ts job
      flat [] = refl
      flat (s ∷ ts) =
          any-append (λ e. (e.1.job.0 == job.0) && is_committed e.1.side) (entries s.locks) (flat_map entries (map (λ (s : Shard). s.locks) ts))
          ∙ ap (λ b. list_any (λ e. (e.1.job.0 == job.0) && is_committed e.1.side) (entries s.locks) || b) (flat ts)

  pub dead_whole : (lock : Option RowLock) → is_dead (all_shards ss) lock ≡ is_dead_in ss lock
  dead_whole None = refl
  dead_whole (Some lock) = ap (λ b. is_source lock.side && b) (committed_whole lock.job)

  -- ---- a row's lock lies in the row's shard
  abbrev LocksFrom : ℕ → List Shard → Type 0
  LocksFrom first ts = (k : List ℕ) (n : ℕ) → home_of_row k ≡ n + first → get (all_shards ss).locks k ≡ get_in (map (λ (s : Shard). s.locks) ts) n k

  named_from : (x : Node) (first : ℕ) (ts : List Shard) → AreOwnShards first ts → LocksFrom first ts
      → list_any (λ e. not (is_dead (all_shards ss) (get (all_shards ss).locks e.0)) && is_node x e.1.node) (flat_map entries (map (λ (s : Shard). s.rows) ts)) ≡ names_live ss ts x
  named_from x first [] h at = refl
  named_from x first (s ∷ ts) h at =
      any-append (λ e. not (is_dead (all_shards ss) (get (all_shards ss).locks e.0)) && is_node x e.1.node) (entries s.rows) (flat_map entries (map (λ (s : Shard). s.rows) ts))
      ∙ ap (λ b. b || list_any (λ e. not (is_dead (all_shards ss) (get (all_shards ss).locks e.0)) && is_node x e.1.node) (flat_map entries (map (λ (s : Shard). s.rows) ts)))
      (any_alike (slice_cmp nat_cmp) nat_list_cmp_total bytes_apart
      (λ e. not (is_dead (all_shards ss) (get (all_shards ss).locks e.0)) && is_node x e.1.node) (λ e. not (is_dead_in ss (get s.locks e.0)) && is_node x e.1.node)
      (entries s.rows) (distinct-entries (slice_cmp nat_cmp) s.rows) (λ k row is. ap (λ b. not b && is_node x row.node) (one k row is)))
      ∙ ap (λ b. list_any (λ e. not (is_dead_in ss (get s.locks e.0)) && is_node x e.1.node) (entries s.rows) || b)
      (named_from x (suc first) ts h.1 (λ k n home. at k (suc n) (omega (arith, home))))
    where
      one : (k : List ℕ) (row : Row) → find (slice_cmp nat_cmp) k (entries s.rows) ≡ Some row → is_dead (all_shards ss) (get (all_shards ss).locks k) ≡ is_dead_in ss (get s.locks k)
      one k row is = ap (is_dead (all_shards ss)) (at k zero (let home = h.0.rows k row (get-entries s.rows k ∙ is) in omega (arith, home))) ∙ dead_whole (get s.locks k)

  pub named_whole : (x : Node) → is_named (all_shards ss) x ≡ names_live ss ss x
  named_whole x =
      any-retain_keys (slice_cmp nat_cmp) nat_list_cmp_total bytes_apart (λ key. not (is_dead (all_shards ss) (get (all_shards ss).locks key))) (λ e. is_node x e.1.node) (all_shards ss).rows
      ∙ any-gathered nat_list_cmp_total bytes_apart home_of_row (λ e. not (is_dead (all_shards ss) (get (all_shards ss).locks e.0)) && is_node x e.1.node) (map (λ (s : Shard). s.rows) ss) (own_rows 0 ss own)
      ∙ named_from x 0 ss own (λ k n home.
      get-gathered nat_list_cmp_total bytes_apart home_of_row (map (λ (s : Shard). s.locks) ss) k (own_locks 0 ss own)
      ∙ ap (λ i. get_in (map (λ (s : Shard). s.locks) ss) i k) (omega (arith, home)))
