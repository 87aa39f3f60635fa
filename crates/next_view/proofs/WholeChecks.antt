-- What is tested shard by shard holds of all places together.
use Rattle.std.proofs.Common.{◌≡◌, ℕ, ◌+◌, List, [], ◌∷◌, map, flat_map, Bool, true, false, cond, refl, sym, ◌∙◌, ap, subst, arith}
use Rattle.std.specs.Prelude.{◌==◌, ◌||◌, ◌&&◌, not, Option, Some, None, is_some}
use Rattle.std.proofs.lemmas.Bool.Decides.{nat_tests}
use Rattle.std.proofs.lemmas.Cmp.{tied_itself}
use Rattle.std.specs.List.{list_any}
use Rattle.std.specs.declared.cmp.Ordering.{Ordering}
use Rattle.std.specs.declared.cmp.Ordering.TheVariants.{Less, Equal, Greater}
use Rattle.std.specs.Ordering.{is_eq, nat_cmp}
use Rattle.std.specs.Cmp.{IsTotalOrder, nat_cmp_total}
use Rattle.std.specs.Cmp.Lexicographic.{slice_cmp, nat_list_cmp_total}
use Rattle.std.specs.FinMap.{IsAntisymmetric, get, entries, find, get-entries, get-from_entries, nat_cmp-IsAntisymmetric}
use Rattle.next_ids.specs.declared.ids.Node.{Node}
use Rattle.next_ids.specs.declared.ids.Node.TheVariants.{Dir, File}
use Rattle.next_ids.specs.Maps.{how_many}
use Rattle.next_ids.proofs.Entries.{or_else, find-append, Distinct, distinct-entries, any-append, many-append}
use Rattle.next_steps.specs.declared.contents.Row.{Row}
use Rattle.next_rules.specs.Facts.{CountsHold, HasRecord, AttributesHold}
use Rattle.next_rules.specs.Contents.{Shard, Store, attr_of}
use Rattle.next_rules.specs.Homes.{home_of_row, home_of_number, gathered, AreOwnShards, all_shards, all_stores}
use Rattle.next_rules.proofs.Names.{bytes_apart}
use Rattle.next_rules.proofs.Homes.{any-gathered, many-gathered}
use Rattle.next_laws_several.proofs.Whole.{own_rows, own_recs}
use Rattle.next_view.specs.Checks.{is_row_of, rows_in, counts_rows, any_miscounts, any_has_dir, any_has_file, has_record, any_lacks}

or_none : (a b : Bool) → (a || b) ≡ false → (a ≡ false) × (b ≡ false)
or_none true b h = cc
or_none false b h = (refl, h)

-- ---- no entry passes a test exactly where none that is found does
module _ {K X : Type 0} (R : K → K → Ordering) (o : IsTotalOrder R) (same : IsAntisymmetric R) (p : K × X → Bool) where
  pub none_passes : (es : List (K × X)) → list_any p es ≡ false → (k : K) (x : X) → find R k es ≡ Some x → p (k, x) ≡ false
  none_passes [] h k x is = cc
  none_passes (e ∷ es) h k x is = by_key (R k e.0) refl is (none_passes es (or_none (p e) (list_any p es) h).1 k x)
    where
      by_key : (r : Ordering) → R k e.0 ≡ r → cond (is_eq r) (Some e.1) (find R k es) ≡ Some x → (find R k es ≡ Some x → p (k, x) ≡ false) → p (k, x) ≡ false
      by_key Less at is rest = rest is
      by_key Greater at is rest = rest is
      by_key Equal at is rest =
          let key : e.0 ≡ k = sym (same k e.0 at) in
          let value : e.1 ≡ x = cc in
          subst (λ q. p (q, x) ≡ false) key (subst (λ y. p (e.0, y) ≡ false) value (or_none (p e) (list_any p es) h).0)

  pub all_fail : (es : List (K × X)) → Distinct R es → ((k : K) (x : X) → find R k es ≡ Some x → p (k, x) ≡ false) → list_any p es ≡ false
  all_fail [] apart h = refl
  all_fail (e ∷ es) apart h = rw (h e.0 e.1 (rw (tied_itself o e.0) refl)) (all_fail es apart.1 (λ k x is. h k x (by_key k x (R k e.0) refl is)))
    where
      by_key : (k : K) (x : X) (r : Ordering) → R k e.0 ≡ r → find R k es ≡ Some x → cond (is_eq r) (Some e.1) (find R k es) ≡ Some x
      by_key k x Less at is = is
      by_key k x Greater at is = is
      by_key k x Equal at is = absurd (let none : find R k es ≡ None = subst (λ q. find R q es ≡ None) (sym (same k e.0 at)) apart.0 in cc)

-- ---- the counts
rows_whole : (ss : List Shard) → AreOwnShards 0 ss → (p : List ℕ × Row → Bool) → rows_in p ss ≡ how_many p (entries (all_shards ss).rows)
rows_whole ss own p = flat ss ∙ sym (many-gathered nat_list_cmp_total bytes_apart home_of_row p (map (λ (s : Shard). s.rows) ss) (own_rows 0 ss own))
  where
    flat : (ss : List Shard) → rows_in p ss ≡ how_many p (flat_map entries (map (λ (s : Shard). s.rows) ss))
    flat [] = refl
    flat (s ∷ ss) = ap (λ n. how_many p (entries s.rows) + n) (flat ss) ∙ sym (many-append p (entries s.rows) (flat_map entries (map (λ (s : Shard). s.rows) ss)))

equal_both : (a b c d : ℕ) → not ((a == b) && (c == d)) ≡ false → (a ≡ b) × (c ≡ d)
equal_both a b c d h = grind (arith, nat_tests)

both_equal : (a b c d : ℕ) → a ≡ b → c ≡ d → not ((a == b) && (c == d)) ≡ false
both_equal a b c d p q = grind (arith, nat_tests)

module _ (ss : List Shard) (own : AreOwnShards 0 ss) where
  miscounts_whole : any_miscounts ss ss ≡ list_any (λ e. not (counts_rows ss e.0 e.1)) (entries (all_shards ss).recs)
  miscounts_whole = flat ss ∙ sym (any-gathered nat_cmp_total nat_cmp-IsAntisymmetric home_of_number (λ e. not (counts_rows ss e.0 e.1)) (map (λ (s : Shard). s.recs) ss) (own_recs 0 ss own))
    where
      flat : (ts : List Shard) → any_miscounts ss ts ≡ list_any (λ e. not (counts_rows ss e.0 e.1)) (flat_map entries (map (λ (s : Shard). s.recs) ts))
      flat [] = refl
      flat (s ∷ ts) = ap (λ b. list_any (λ e. not (counts_rows ss e.0 e.1)) (entries s.recs) || b) (flat ts) ∙ sym (any-append (λ e. not (counts_rows ss e.0 e.1)) (entries s.recs) (flat_map entries (map (λ (s : Shard). s.recs) ts)))

  pub counts_sound : any_miscounts ss ss ≡ false → CountsHold (all_shards ss)
  counts_sound h d r there =
      let passes = none_passes nat_cmp nat_cmp_total nat_cmp-IsAntisymmetric (λ e. not (counts_rows ss e.0 e.1)) (entries (all_shards ss).recs) (sym miscounts_whole ∙ h) d r (sym (get-entries (all_shards ss).recs d) ∙ there) in
      let equal = equal_both (attr_of r).children (rows_in (is_row_of d false) ss) (attr_of r).subdirs (rows_in (is_row_of d true) ss) passes in
      record { children = equal.0 ∙ rows_whole ss own (is_row_of d false); subdirs = equal.1 ∙ rows_whole ss own (is_row_of d true) }

  pub counts_complete : CountsHold (all_shards ss) → any_miscounts ss ss ≡ false
  counts_complete h = miscounts_whole ∙ all_fail nat_cmp nat_cmp_total nat_cmp-IsAntisymmetric (λ e. not (counts_rows ss e.0 e.1)) (entries (all_shards ss).recs) (distinct-entries nat_cmp (all_shards ss).recs) (λ d r is.
      let counted = h d r (get-entries (all_shards ss).recs d ∙ is) in
      both_equal (attr_of r).children (rows_in (is_row_of d false) ss) (attr_of r).subdirs (rows_in (is_row_of d true) ss) (counted.children ∙ sym (rows_whole ss own (is_row_of d false))) (counted.subdirs ∙ sym (rows_whole ss own (is_row_of d true))))

-- ---- the nodes of rows
either_some : {X : Type 0} (a b : Option X) → is_some (or_else a b) ≡ (is_some a || is_some b)
either_some None b = refl
either_some (Some x) b = refl

dir_whole : (ss : List Shard) (d : ℕ) → any_has_dir ss d ≡ is_some (get (all_shards ss).recs d)
unfolding gathered
dir_whole ss d = flat ss ∙ sym (ap is_some (get-from_entries nat_cmp_total (flat_map entries (map (λ (s : Shard). s.recs) ss)) d))
  where
    flat : (ss : List Shard) → any_has_dir ss d ≡ is_some (find nat_cmp d (flat_map entries (map (λ (s : Shard). s.recs) ss)))
    flat [] = refl
    flat (s ∷ ss) = ap (λ b. is_some (get s.recs d) || b) (flat ss) ∙ ap (λ a. is_some a || is_some (find nat_cmp d (flat_map entries (map (λ (s : Shard). s.recs) ss)))) (get-entries s.recs d)
        ∙ sym (ap is_some (find-append nat_cmp d (entries s.recs) (flat_map entries (map (λ (s : Shard). s.recs) ss))) ∙ either_some (find nat_cmp d (entries s.recs)) (find nat_cmp d (flat_map entries (map (λ (s : Shard). s.recs) ss))))

file_whole : (ts : List Store) (f : ℕ) → any_has_file ts f ≡ is_some (get (all_stores ts) f)
unfolding gathered
file_whole ts f = flat ts ∙ sym (ap is_some (get-from_entries nat_cmp_total (flat_map entries ts) f))
  where
    flat : (ts : List Store) → any_has_file ts f ≡ is_some (find nat_cmp f (flat_map entries ts))
    flat [] = refl
    flat (t ∷ ts) = ap (λ b. is_some (get t f) || b) (flat ts) ∙ ap (λ a. is_some a || is_some (find nat_cmp f (flat_map entries ts))) (get-entries t f)
        ∙ sym (ap is_some (find-append nat_cmp f (entries t) (flat_map entries ts)) ∙ either_some (find nat_cmp f (entries t)) (find nat_cmp f (flat_map entries ts)))

some_value : {X : Type 0} (o : Option X) → not (is_some o) ≡ false → (x : X) × (o ≡ Some x)
some_value None h = cc
some_value (Some x) h = (x, refl)

value_some : {X : Type 0} (o : Option X) (x : X) → o ≡ Some x → not (is_some o) ≡ false
value_some None x is = cc
value_some (Some y) x is = refl

module _ (ss : List Shard) (ts : List Store) (own : AreOwnShards 0 ss) where
  record_there : (x : Node) → not (has_record ss ts x) ≡ false → HasRecord (all_shards ss) (all_stores ts) x
  record_there (Dir d) h = some_value (get (all_shards ss).recs d.0) (ap not (sym (dir_whole ss d.0)) ∙ h)
  record_there (File f) h = some_value (get (all_stores ts) f.0) (ap not (sym (file_whole ts f.0)) ∙ h)

  there_record : (x : Node) → HasRecord (all_shards ss) (all_stores ts) x → not (has_record ss ts x) ≡ false
  there_record (Dir d) h = ap not (dir_whole ss d.0) ∙ value_some (get (all_shards ss).recs d.0) h.0 h.1
  there_record (File f) h = ap not (file_whole ts f.0) ∙ value_some (get (all_stores ts) f.0) h.0 h.1

  lacks_whole : any_lacks (has_record ss ts) ss ≡ list_any (λ e. not (has_record ss ts e.1.node)) (entries (all_shards ss).rows)
  lacks_whole = flat ss ∙ sym (any-gathered nat_list_cmp_total bytes_apart home_of_row (λ e. not (has_record ss ts e.1.node)) (map (λ (s : Shard). s.rows) ss) (own_rows 0 ss own))
    where
      flat : (us : List Shard) → any_lacks (has_record ss ts) us ≡ list_any (λ e. not (has_record ss ts e.1.node)) (flat_map entries (map (λ (s : Shard). s.rows) us))
      flat [] = refl
      flat (s ∷ us) = ap (λ b. list_any (λ e. not (has_record ss ts e.1.node)) (entries s.rows) || b) (flat us) ∙ sym (any-append (λ e. not (has_record ss ts e.1.node)) (entries s.rows) (flat_map entries (map (λ (s : Shard). s.rows) us)))

  pub attributes_sound : any_lacks (has_record ss ts) ss ≡ false → AttributesHold (all_shards ss) (all_stores ts)
  attributes_sound h k row there = record_there row.node (none_passes (slice_cmp nat_cmp) nat_list_cmp_total bytes_apart (λ e. not (has_record ss ts e.1.node)) (entries (all_shards ss).rows) (sym lacks_whole ∙ h) k row (sym (get-entries (all_shards ss).rows k) ∙ there))

  pub attributes_complete : AttributesHold (all_shards ss) (all_stores ts) → any_lacks (has_record ss ts) ss ≡ false
  attributes_complete h = lacks_whole ∙ all_fail (slice_cmp nat_cmp) nat_list_cmp_total bytes_apart (λ e. not (has_record ss ts e.1.node)) (entries (all_shards ss).rows) (distinct-entries (slice_cmp nat_cmp) (all_shards ss).rows)
      (λ k row is. there_record row.node (h k row (get-entries (all_shards ss).rows k ∙ is)))

-- a test that is turned round
pub turned_true : (b : Bool) → not b ≡ true → b ≡ false
turned_true true h = cc
turned_true false h = refl

pub turned_false : (b : Bool) → b ≡ false → not b ≡ true
turned_false true h = cc
turned_false false h = refl
