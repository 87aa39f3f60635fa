-- How many rows a directory has after one of its rows is set or cut.
use Rattle.std.proofs.Common.{◌≡◌, ◌≢◌, ℕ, ◌+◌, List, [], ◌∷◌, ◌++◌, length, Bool, true, false, cond, refl, sym, ap, ◌∙◌, subst, arith}
use Rattle.std.specs.Prelude.{◌==◌, ◌&&◌, Option, Some, None}
use Rattle.std.proofs.lemmas.Bool.Decides.{nat_tests}
use Rattle.std.specs.declared.cmp.Ordering.{Ordering}
use Rattle.std.specs.declared.cmp.Ordering.TheVariants.{Less, Equal, Greater}
use Rattle.std.specs.Ordering.{nat_cmp, eq_by_cmp, is_eq}
use Rattle.std.specs.Cmp.Lexicographic.{slice_cmp, nat_list_cmp_total}
use Rattle.std.specs.FinMap.{get, insert, remove, entries, entries_sorted, entries-insert, get-entries, get-insert, get-remove, same_map}
use Rattle.std.proofs.lemmas.Cmp.{tied_itself}
use Rattle.next_ids.specs.declared.ids.Node.{Node}
use Rattle.next_ids.specs.Maps.{Names, lies_in, how_many}
use Rattle.next_ids.specs.Namespace.{is_dir}
use Rattle.next_ids.proofs.Entries.{many-append}
use Rattle.next_ids.proofs.MapLemmas.{how_many-put}
use Rattle.next_ids.proofs.Removed.{entries-remove, how_many-cut}
use Rattle.next_steps.specs.declared.contents.Row.{Row}
use Rattle.next_rules.specs.Changes.{nodes_in}
use Rattle.next_rules.proofs.Names.{bytes_apart}

-- ---- a row that isn't there is cut to no effect, and to set a key is to set it after it is cut
same_key : (q k : List ℕ) → eq_by_cmp (slice_cmp nat_cmp) q k ≡ true → q ≡ k
same_key q k t = bytes_apart q k (equal (slice_cmp nat_cmp q k) t)
  where
    equal : (r : Ordering) → is_eq r ≡ true → r ≡ Equal
    equal Less e = cc
    equal Equal e = refl
    equal Greater e = cc

cut_none : (rows : Names Row) (k : List ℕ) → get rows k ≡ None → remove rows k ≡ rows
cut_none rows k none = same_map nat_list_cmp_total bytes_apart (remove rows k) rows (λ q. get-remove nat_list_cmp_total rows k q ∙ by_test q (eq_by_cmp (slice_cmp nat_cmp) q k) refl)
  where
    by_test : (q : List ℕ) (b : Bool) → eq_by_cmp (slice_cmp nat_cmp) q k ≡ b → cond b None (get rows q) ≡ get rows q
    by_test q true t = sym (ap (get rows) (same_key q k t) ∙ none)
    by_test q false t = refl

set_after_cut : (rows : Names Row) (k : List ℕ) (row : Row) → insert (remove rows k) k row ≡ insert rows k row
set_after_cut rows k row = same_map nat_list_cmp_total bytes_apart (insert (remove rows k) k row) (insert rows k row) (λ q.
    get-insert nat_list_cmp_total (remove rows k) k row q ∙ ap (cond (eq_by_cmp (slice_cmp nat_cmp) q k) (Some row)) (get-remove nat_list_cmp_total rows k q)
    ∙ by_test (eq_by_cmp (slice_cmp nat_cmp) q k) (get rows q) ∙ sym (get-insert nat_list_cmp_total rows k row q))
  where
    by_test : (b : Bool) (o : Option Row) → cond b (Some row) (cond b None o) ≡ cond b (Some row) o
    by_test true o = refl
    by_test false o = refl

pub kept_after_cut : (rows : Names Row) (k q : List ℕ) → k ≢ q → get (remove rows k) q ≡ get rows q
kept_after_cut rows k q differ = get-remove nat_list_cmp_total rows k q ∙ by_test (eq_by_cmp (slice_cmp nat_cmp) q k) refl
  where
    by_test : (b : Bool) → eq_by_cmp (slice_cmp nat_cmp) q k ≡ b → cond b None (get rows q) ≡ get rows q
    by_test true t = absurd (differ (sym (same_key q k t)))
    by_test false t = refl

gone_after_cut : (rows : Names Row) (k : List ℕ) → get (remove rows k) k ≡ None
gone_after_cut rows k = get-remove nat_list_cmp_total rows k k ∙ ap (λ r. cond (is_eq r) None (get rows k)) (tied_itself nat_list_cmp_total k)

-- ---- how many entries pass a test
-- what the test says of a row that may be there
abbrev counted : (List ℕ × Row → Bool) → List ℕ → Option Row → ℕ
counted p k None = 0
counted p k (Some row) = cond (p (k, row)) 1 0

module _ (p : List ℕ × Row → Bool) (k : List ℕ) where
  many_cut : (rows : Names Row) (o : Option Row) → get rows k ≡ o → how_many p (entries (remove rows k)) + counted p k o ≡ how_many p (entries rows)
  many_cut rows None there = let same = ap (λ m. how_many p (entries m)) (cut_none rows k there) in omega arith
  many_cut rows (Some row) there =
      ap (λ es. how_many p es + cond (p (k, row)) 1 0) (entries-remove nat_list_cmp_total bytes_apart rows k)
      ∙ how_many-cut (slice_cmp nat_cmp) nat_list_cmp_total bytes_apart p k row (entries rows) (entries_sorted rows) (sym (get-entries rows k) ∙ there)

  many_new : (rows : Names Row) (row : Row) → get rows k ≡ None → how_many p (entries (insert rows k row)) ≡ how_many p (entries rows) + cond (p (k, row)) 1 0
  many_new rows row none = ap (how_many p) (entries-insert nat_list_cmp_total rows k row) ∙ how_many-put (slice_cmp nat_cmp) p k row (entries rows) (sym (get-entries rows k) ∙ none)

  many_set : (rows : Names Row) (row : Row) (o : Option Row) → get rows k ≡ o → how_many p (entries (insert rows k row)) + counted p k o ≡ how_many p (entries rows) + cond (p (k, row)) 1 0
  many_set rows row o there =
      let whole = ap (λ m. how_many p (entries m)) (set_after_cut rows k row) in
      let set = many_new (remove rows k) row (gone_after_cut rows k) in
      let cut = many_cut rows o there in
      omega arith

-- ---- the rows of a directory, and those that name one
abbrev pub in_dir : ℕ → Names Row → ℕ
in_dir d rows = how_many (λ e. lies_in d e.0) (entries rows)

abbrev pub dirs_in : ℕ → Names Row → ℕ
dirs_in d rows = how_many (λ e. lies_in d e.0 && is_dir e.1.node) (entries rows)

-- rows that name these nodes have come to a directory and gone from it, and no others
pub record Turned (rows new : Names Row) (d : ℕ) (come gone : List Node) : Type 0 where
  pub all : in_dir d new + length gone ≡ in_dir d rows + length come
  pub dirs : dirs_in d new + how_many is_dir gone ≡ dirs_in d rows + how_many is_dir come
  pub other_all : (e : ℕ) → e ≢ d → in_dir e new ≡ in_dir e rows
  pub other_dirs : (e : ℕ) → e ≢ d → dirs_in e new ≡ dirs_in e rows

-- what a row of the directory counts, and what it counts elsewhere
counted_all : (d : ℕ) (name : List ℕ) (o : Option Row) → counted (λ e. lies_in d e.0) (d ∷ name) o ≡ length (nodes_in o)
counted_all d name None = refl
counted_all d name (Some row) = grind (arith, nat_tests)

counted_dirs : (d : ℕ) (name : List ℕ) (o : Option Row) → counted (λ e. lies_in d e.0 && is_dir e.1.node) (d ∷ name) o ≡ how_many is_dir (nodes_in o)
counted_dirs d name None = refl
counted_dirs d name (Some row) = let here : (d == d) ≡ true = grind (arith, nat_tests) in ap (λ b. cond (b && is_dir row.node) 1 0) here

other_all : (e d : ℕ) (name : List ℕ) (o : Option Row) → e ≢ d → counted (λ x. lies_in e x.0) (d ∷ name) o ≡ 0
other_all e d name None differ = refl
other_all e d name (Some row) differ = let away : (d == e) ≡ false = grind (arith, nat_tests) in ap (λ b. cond b 1 0) away

other_dirs : (e d : ℕ) (name : List ℕ) (o : Option Row) → e ≢ d → counted (λ x. lies_in e x.0 && is_dir x.1.node) (d ∷ name) o ≡ 0
other_dirs e d name None differ = refl
other_dirs e d name (Some row) differ = let away : (d == e) ≡ false = grind (arith, nat_tests) in ap (λ b. cond (b && is_dir row.node) 1 0) away

module _ (rows : Names Row) (d : ℕ) (name : List ℕ) where
  pub turn-cut : (o : Option Row) → get rows (d ∷ name) ≡ o → Turned rows (remove rows (d ∷ name)) d [] (nodes_in o)
  turn-cut o there = record {
    all = let cut = many_cut (λ e. lies_in d e.0) (d ∷ name) rows o there in let one = counted_all d name o in omega arith;
    dirs = let cut = many_cut (λ e. lies_in d e.0 && is_dir e.1.node) (d ∷ name) rows o there in let one = counted_dirs d name o in omega arith;
    other_all = λ e differ. let cut = many_cut (λ x. lies_in e x.0) (d ∷ name) rows o there in let none = other_all e d name o differ in omega arith;
    other_dirs = λ e differ. let cut = many_cut (λ x. lies_in e x.0 && is_dir x.1.node) (d ∷ name) rows o there in let none = other_dirs e d name o differ in omega arith;
  }

  pub turn-set : (row : Row) (o : Option Row) → get rows (d ∷ name) ≡ o → Turned rows (insert rows (d ∷ name) row) d (row.node ∷ []) (nodes_in o)
  turn-set row o there = record {
    all = let set = many_set (λ e. lies_in d e.0) (d ∷ name) rows row o there in let old = counted_all d name o in let new = counted_all d name (Some row) in omega arith;
    dirs = let set = many_set (λ e. lies_in d e.0 && is_dir e.1.node) (d ∷ name) rows row o there in let old = counted_dirs d name o in let new = counted_dirs d name (Some row) in omega arith;
    other_all = λ e differ. let set = many_set (λ x. lies_in e x.0) (d ∷ name) rows row o there in let old = other_all e d name o differ in let new = other_all e d name (Some row) differ in omega arith;
    other_dirs = λ e differ. let set = many_set (λ x. lies_in e x.0 && is_dir x.1.node) (d ∷ name) rows row o there in let old = other_dirs e d name o differ in let new = other_dirs e d name (Some row) differ in omega arith;
  }

length_both : (xs ys : List Node) → length (xs ++ ys) ≡ length xs + length ys
length_both [] ys = omega arith
length_both (x ∷ xs) ys = let rest = length_both xs ys in omega arith

-- one change after another
pub turn-twice : (a b c : Names Row) (d : ℕ) (come gone more less : List Node) → Turned a b d come gone → Turned b c d more less → Turned a c d (come ++ more) (gone ++ less)
turn-twice a b c d come gone more less h i = record {
  all = let x = h.all in let y = i.all in let p = length_both come more in let q = length_both gone less in omega arith;
  dirs = let x = h.dirs in let y = i.dirs in let p = many-append is_dir come more in let q = many-append is_dir gone less in omega arith;
  other_all = λ e differ. i.other_all e differ ∙ h.other_all e differ;
  other_dirs = λ e differ. i.other_dirs e differ ∙ h.other_dirs e differ;
}

-- a node of the same kind counts the same
pub turned-alike : (rows new : Names Row) (d : ℕ) (come : List Node) (a b : Node) → is_dir a ≡ is_dir b → Turned rows new d come (a ∷ []) → Turned rows new d come (b ∷ [])
turned-alike rows new d come a b kind h = record {
  all = h.all;
  dirs = subst (λ n. dirs_in d new + n ≡ dirs_in d rows + how_many is_dir come) (ap (λ k. cond k 1 0) kind) h.dirs;
  other_all = h.other_all;
  other_dirs = h.other_dirs;
}
