-- The maps that the records show, shard by shard and store by store, are the tree's.
use Rattle.std.proofs.Common.{◌≡◌, ◌≢◌, ℕ, suc, zero, ◌+◌, ◌<◌, ◌≤◌, List, [], ◌∷◌, map, length, get_or, Bool, true, false, cond, refl, sym, ◌∙◌, ap, arith}
use Rattle.std.proofs.lemmas.List.{length-map}
use Rattle.std.specs.Prelude.{◌||◌, ◌==◌, if◌then◌else◌, nat_lt, Option, Some, None, is_none}
use Rattle.std.proofs.lemmas.Bool.Decides.{nat_tests}
use Rattle.std.specs.Option.{option_map}
use Rattle.std.specs.Ordering.{nat_cmp}
use Rattle.std.specs.Cmp.{nat_cmp_total}
use Rattle.std.specs.FinMap.{get, empty, entries, entries_sorted, get-entries, get-empty, same_map, nat_cmp-IsAntisymmetric}
use Rattle.cfs_ids.specs.declared.ids.Node.{Node}
use Rattle.cfs_ids.specs.declared.ids.Node.TheVariants.{Dir, File}
use Rattle.cfs_ids.specs.Maps.{Numbers}
use Rattle.cfs_ids.specs.Namespace.{Namespace, Directory, FileFacts}
use Rattle.cfs_steps.specs.declared.contents.DirRec.{DirRec}
use Rattle.cfs_steps.specs.declared.contents.FileRec.{FileRec}
use Rattle.cfs_rules.specs.Places.{Shard, Store}
use Rattle.cfs_rules.specs.Trees.{is_named, is_shown, is_settled, directory_of, facts_of, tree}
use Rattle.cfs_rules.specs.Homes.{home_of_number, AreOwnShards, AreOwnStores, all_shards, all_stores}
use Rattle.cfs_rules.proofs.TreeLookups.{get-tree_dirs, get-tree_files}
use Rattle.cfs_rules.proofs.Homes.{get_in, get-gathered}
use Rattle.cfs_rules.proofs.Gathering.{names_alike}
use Rattle.cfs_rules.proofs.Whole.{own_recs, own_files, shard_agrees}
use Rattle.cfs_view.specs.Collected.{with_each}
use Rattle.cfs_view.specs.Shown.{names_in, shown_dir, shown_file, with_shards, with_stores}
use Rattle.cfs_view.proofs.Collected.{given, get-with_each}
use Rattle.cfs_view.proofs.WholeCounts.{named_whole}

-- what one shard's records give at a key, over what stood there
one_shard : (named : Node → Bool) (s : Shard) (m : Numbers Directory) (q : ℕ) → get (with_each (shown_dir named s) m (entries s.recs)) q ≡ given (shown_dir named s q) (get s.recs q) (get m q)
one_shard named s m q = get-with_each nat_cmp_total nat_cmp-IsAntisymmetric (shown_dir named s) m (entries s.recs) q (entries_sorted s.recs) ∙ ap (λ o. given (shown_dir named s q) o (get m q)) (sym (get-entries s.recs q))

none_here : (s : Shard) (q first : ℕ) → ((k : ℕ) (x : DirRec) → get s.recs k ≡ Some x → home_of_number k ≡ first) → home_of_number q ≢ first → get s.recs q ≡ None
none_here s q first own away = by_rec (get s.recs q) refl
  where
    by_rec : (o : Option DirRec) → get s.recs q ≡ o → o ≡ None
    by_rec None e = refl
    by_rec (Some x) e = absurd (away (own q x e))

module _ (named : Node → Bool) where
  passed : (first : ℕ) (ss : List Shard) (m : Numbers Directory) (q : ℕ) → AreOwnShards first ss → home_of_number q < first → get (with_shards named m ss) q ≡ get m q
  passed first [] m q own below = refl
  passed first (s ∷ ss) m q own below =
      passed (suc first) ss (with_each (shown_dir named s) m (entries s.recs)) q own.1 (omega arith)
      ∙ one_shard named s m q ∙ ap (λ o. given (shown_dir named s q) o (get m q)) (none_here s q first own.0.recs (λ same. omega (arith, same)))

  -- the shard of the key alone gives it
  given_at : List Shard → ℕ → ℕ → Option Directory → Option Directory
  given_at [] n q before = before
  given_at (s ∷ ss) zero q before = given (shown_dir named s q) (get s.recs q) before
  given_at (s ∷ ss) (suc n) q before = given_at ss n q before

  all_given : (first : ℕ) (ss : List Shard) (m : Numbers Directory) (q n : ℕ) → AreOwnShards first ss → home_of_number q ≡ n + first → get (with_shards named m ss) q ≡ given_at ss n q (get m q)
  unfolding given_at
  all_given first [] m q n own at = refl
  all_given first (s ∷ ss) m q zero own at = passed (suc first) ss (with_each (shown_dir named s) m (entries s.recs)) q own.1 (omega arith) ∙ one_shard named s m q
  all_given first (s ∷ ss) m q (suc n) own at =
      all_given (suc first) ss (with_each (shown_dir named s) m (entries s.recs)) q n own.1 (omega arith)
      ∙ ap (given_at ss n q) (one_shard named s m q ∙ ap (λ o. given (shown_dir named s q) o (get m q)) (none_here s q first own.0.recs (λ same. omega (arith, same))))

  given_here : (ss : List Shard) (n q : ℕ) (before : Option Directory) (d : Shard) → n < length ss → given_at ss n q before ≡ given (shown_dir named (get_or ss n d) q) (get (get_or ss n d).recs q) before
  unfolding given_at
  given_here [] n q before d lt = absurd (omega arith)
  given_here (s ∷ ss) zero q before d lt = refl
  given_here (s ∷ ss) (suc n) q before d lt = given_here ss n q before d (omega arith)

  given_past : (ss : List Shard) (n q : ℕ) (before : Option Directory) → length ss ≤ n → given_at ss n q before ≡ before
  unfolding given_at
  given_past [] n q before past = refl
  given_past (s ∷ ss) zero q before past = absurd (omega arith)
  given_past (s ∷ ss) (suc n) q before past = given_past ss n q before (omega arith)

no_map : (ms : List (Numbers DirRec)) (n q : ℕ) → length ms ≤ n → get_in ms n q ≡ None
no_map [] n q past = refl
no_map (m ∷ ms) zero q past = absurd (omega arith)
no_map (m ∷ ms) (suc n) q past = no_map ms n q (omega arith)

at_index : (ss : List Shard) (n : ℕ) → n < length ss → (s : Shard) × (s ≡ get_or ss n s)
at_index [] n lt = absurd (omega arith)
at_index (s ∷ ss) zero lt = (s, refl)
at_index (s ∷ ss) (suc n) lt = at_index ss n (omega arith)

dir_case : (shard : Shard) (q : ℕ) (b : Bool) (o : Option DirRec) → given (λ r. if b then Some (directory_of shard q r) else None) o None ≡ option_map (directory_of shard q) (cond b o None)
dir_case shard q true None = refl
dir_case shard q false None = refl
dir_case shard q true (Some r) = refl
dir_case shard q false (Some r) = refl

module _ (ss : List Shard) (own : AreOwnShards 0 ss) (named : Node → Bool) (are : (x : Node) → named x ≡ names_in ss x) (store : Store) where
  shown_alike : (q : ℕ) → ((q == 0) || named (Dir (record { 0 = q }))) ≡ is_shown (all_shards ss) q
  shown_alike q = ap (λ b. (q == 0) || b) (are (Dir (record { 0 = q })) ∙ sym (named_whole ss own (Dir (record { 0 = q }))))

  by_place : (q : ℕ) (b : Bool) → nat_lt (home_of_number q) (length ss) ≡ b → given_at named ss (home_of_number q) q None ≡ option_map (directory_of (all_shards ss) q) (cond (is_shown (all_shards ss) q) (get (all_shards ss).recs q) None)
  by_place q true t =
      let lt : home_of_number q < length ss = grind (arith, nat_tests) in
      let s = at_index ss (home_of_number q) lt in
      let agrees = shard_agrees ss (home_of_number q) s.0 own lt s.1 in
      given_here named ss (home_of_number q) q None s.0 lt
      ∙ ap (λ (x : Shard). given (shown_dir named x q) (get x.recs q) None) (sym s.1)
      ∙ ap (λ o. given (shown_dir named s.0 q) o None) (sym (agrees.recs.here q refl))
      ∙ ap (λ ns. given (λ (r : DirRec). if (q == 0) || named (Dir (record { 0 = q })) then Some (record { names = ns; time = r.attr.time }) else None) (get (all_shards ss).recs q) None) (sym (names_alike (home_of_number q) s.0 (all_shards ss) agrees q refl))
      ∙ ap (λ b. given (λ r. if b then Some (directory_of (all_shards ss) q r) else None) (get (all_shards ss).recs q) None) (shown_alike q)
      ∙ dir_case (all_shards ss) q (is_shown (all_shards ss) q) (get (all_shards ss).recs q)
  by_place q false t =
      let past : length ss ≤ home_of_number q = grind (arith, nat_tests) in
      let none : get (all_shards ss).recs q ≡ None =
      get-gathered nat_cmp_total nat_cmp-IsAntisymmetric home_of_number (map (λ (s : Shard). s.recs) ss) q (own_recs 0 ss own)
      ∙ no_map (map (λ (s : Shard). s.recs) ss) (home_of_number q) q (let same = length-map ss (λ (s : Shard). s.recs) in omega arith) in
      given_past named ss (home_of_number q) q None past
      ∙ sym (ap (λ o. option_map (directory_of (all_shards ss) q) (cond (is_shown (all_shards ss) q) o None)) none ∙ of_none (is_shown (all_shards ss) q))
    where
      of_none : (b : Bool) → option_map (directory_of (all_shards ss) q) (cond b None None) ≡ None
      of_none true = refl
      of_none false = refl

  pub dirs_whole : with_shards named empty ss ≡ (tree (all_shards ss) store).dirs
  dirs_whole = same_map nat_cmp_total nat_cmp-IsAntisymmetric _ _ (λ q.
      all_given named 0 ss empty q (home_of_number q) own (omega arith) ∙ ap (given_at named ss (home_of_number q) q) (get-empty nat_cmp q) ∙ by_place q (nat_lt (home_of_number q) (length ss)) refl ∙ sym (get-tree_dirs (all_shards ss) store q))

-- ---- the files
one_store : (named : Node → Bool) (s : Store) (m : Numbers FileFacts) (q : ℕ) → get (with_each (shown_file named) m (entries s)) q ≡ given (shown_file named q) (get s q) (get m q)
one_store named s m q = get-with_each nat_cmp_total nat_cmp-IsAntisymmetric (shown_file named) m (entries s) q (entries_sorted s) ∙ ap (λ o. given (shown_file named q) o (get m q)) (sym (get-entries s q))

no_file_here : (s : Store) (q first : ℕ) → ((k : ℕ) (x : FileRec) → get s k ≡ Some x → home_of_number k ≡ first) → home_of_number q ≢ first → get s q ≡ None
no_file_here s q first own away = by_rec (get s q) refl
  where
    by_rec : (o : Option FileRec) → get s q ≡ o → o ≡ None
    by_rec None e = refl
    by_rec (Some x) e = absurd (away (own q x e))

module _ (named : Node → Bool) where
  passed_store : (first : ℕ) (ts : List Store) (m : Numbers FileFacts) (q : ℕ) → AreOwnStores first ts → home_of_number q < first → get (with_stores named m ts) q ≡ get m q
  passed_store first [] m q own below = refl
  passed_store first (s ∷ ts) m q own below =
      passed_store (suc first) ts (with_each (shown_file named) m (entries s)) q own.1 (omega arith)
      ∙ one_store named s m q ∙ ap (λ o. given (shown_file named q) o (get m q)) (no_file_here s q first own.0 (λ same. omega (arith, same)))

  all_files_given : (first : ℕ) (ts : List Store) (m : Numbers FileFacts) (q n : ℕ) → AreOwnStores first ts → home_of_number q ≡ n + first → get (with_stores named m ts) q ≡ given (shown_file named q) (get_in ts n q) (get m q)
  all_files_given first [] m q n own at = refl
  all_files_given first (s ∷ ts) m q zero own at = passed_store (suc first) ts (with_each (shown_file named) m (entries s)) q own.1 (omega arith) ∙ one_store named s m q
  all_files_given first (s ∷ ts) m q (suc n) own at =
      all_files_given (suc first) ts (with_each (shown_file named) m (entries s)) q n own.1 (omega arith)
      ∙ ap (given (shown_file named q) (get_in ts n q)) (one_store named s m q ∙ ap (λ o. given (shown_file named q) o (get m q)) (no_file_here s q first own.0 (λ same. omega (arith, same))))

file_case : (named : Bool) (o : Option FileRec) → given (λ r. if is_none r.owner || named then Some (facts_of r) else None) o None ≡ option_map facts_of (cond (is_settled o || named) o None)
file_case true None = refl
file_case false None = refl
file_case named (Some r) = by_test (is_none r.owner || named)
  where
    by_test : (b : Bool) → elim (if b then Some (facts_of r) else None) [ None ↦ None | Some y ↦ Some y ] ≡ option_map facts_of (cond b (Some r) None)
    by_test true = refl
    by_test false = refl

pub files_whole : (ss : List Shard) → AreOwnShards 0 ss → (named : Node → Bool) → ((x : Node) → named x ≡ names_in ss x) → (ts : List Store) → AreOwnStores 0 ts → with_stores named empty ts ≡ (tree (all_shards ss) (all_stores ts)).files
files_whole ss own named are ts own_s = same_map nat_cmp_total nat_cmp-IsAntisymmetric _ _ (λ q.
    all_files_given named 0 ts empty q (home_of_number q) own_s (omega arith)
    ∙ ap (given (shown_file named q) (get_in ts (home_of_number q) q)) (get-empty nat_cmp q)
    ∙ ap (λ o. given (shown_file named q) o None) (sym (get-gathered nat_cmp_total nat_cmp-IsAntisymmetric home_of_number ts q (own_files 0 ts own_s)))
    ∙ ap (λ b. given (λ (r : FileRec). if is_none r.owner || b then Some (facts_of r) else None) (get (all_stores ts) q) None) (are (File (record { 0 = q })) ∙ sym (named_whole ss own (File (record { 0 = q }))))
    ∙ file_case (is_named (all_shards ss) q) (get (all_stores ts) q)
    ∙ sym (get-tree_files (all_shards ss) (all_stores ts) q))

-- the directories first, and then the files
pub tree_whole : (ss : List Shard) → AreOwnShards 0 ss → (named : Node → Bool) → ((x : Node) → named x ≡ names_in ss x) → (ts : List Store) → AreOwnStores 0 ts → (n m k : Namespace)
    → n ≡ record { dirs = empty; files = empty } → m ≡ record { dirs = with_shards named n.dirs ss; files = n.files } → k ≡ record { dirs = m.dirs; files = with_stores named m.files ts } → k ≡ tree (all_shards ss) (all_stores ts)
tree_whole ss own named are ts own_s n m k opens dirs files = rw (files, dirs, opens) (λ j. record { dirs = dirs_whole ss own named are (all_stores ts) j; files = files_whole ss own named are ts own_s j })
