-- What is counted place by place is what the places hold together.
use Rattle.std.proofs.Common.{◌≡◌, ℕ, suc, ◌+◌, List, [], ◌∷◌, map, flat_map, length, Bool, true, refl, sym, ◌∙◌, ap}
use Rattle.std.specs.Prelude.{◌&&◌, not, Option, Some, None, is_some}
use Rattle.std.specs.Cmp.{nat_cmp_total}
use Rattle.std.specs.Cmp.Lexicographic.{nat_list_cmp_total}
use Rattle.std.specs.FinMap.{entries, nat_cmp-IsAntisymmetric}
use Rattle.next_ids.specs.declared.ids.Client.{Client}
use Rattle.next_ids.specs.declared.ids.Node.{Node}
use Rattle.next_ids.specs.Maps.{how_many}
use Rattle.next_ids.proofs.Entries.{many-append}
use Rattle.next_steps.specs.declared.contents.DirRec.{DirRec}
use Rattle.next_steps.specs.declared.contents.FileRec.{FileRec}
use Rattle.next_steps.specs.declared.contents.Debt.{Debt}
use Rattle.next_rules.specs.Contents.{Shard, Store, Desk, Roster}
use Rattle.next_rules.specs.Homes.{home_of_number, home_of_debt, LieFrom, AreOwnShards, AreOwnStores, all_shards, all_stores}
use Rattle.next_rules.specs.Strays.{dir_of_number, file_of_number}
use Rattle.next_rules.specs.Tallies as tallies
use Rattle.next_rules.specs.Worlds.{Service}
use Rattle.next_rules.proofs.Names.{bytes_apart}
use Rattle.next_rules.proofs.Homes.{many-gathered}
use Rattle.next_laws_several.proofs.Whole.{own_recs, own_debts}
use Rattle.next_view.specs.Live.{names_live}
use Rattle.next_view.specs.Tallies.{dirs_in, files_in, debts_in, is_left_by}
use Rattle.next_view.proofs.WholeLive.{named_whole}

alike : {X : Type 0} (p q : X → Bool) (es : List X) → ((e : X) → p e ≡ q e) → how_many p es ≡ how_many q es
alike p q es h = ap (λ f. how_many f es) (λ j e. h e j)

all_pass : {X : Type 0} (es : List X) → how_many (λ e. true) es ≡ length es
all_pass [] = refl
all_pass (e ∷ es) = ap suc (all_pass es)

own_files : (first : ℕ) (ts : List Store) → AreOwnStores first ts → LieFrom home_of_number first ts
own_files first [] h = tt
own_files first (t ∷ ts) h = (h.0, own_files (suc first) ts h.1)

pub dirs_whole : (ss : List Shard) → AreOwnShards 0 ss → (p : ℕ × DirRec → Bool) → dirs_in p ss ≡ how_many p (entries (all_shards ss).recs)
dirs_whole ss own p = flat ss ∙ sym (many-gathered nat_cmp_total nat_cmp-IsAntisymmetric home_of_number p (map (λ (s : Shard). s.recs) ss) (own_recs 0 ss own))
  where
    flat : (ss : List Shard) → dirs_in p ss ≡ how_many p (flat_map entries (map (λ (s : Shard). s.recs) ss))
    flat [] = refl
    flat (s ∷ ss) = ap (λ n. how_many p (entries s.recs) + n) (flat ss) ∙ sym (many-append p (entries s.recs) (flat_map entries (map (λ (s : Shard). s.recs) ss)))

pub files_whole : (ts : List Store) → AreOwnStores 0 ts → (p : ℕ × FileRec → Bool) → files_in p ts ≡ how_many p (entries (all_stores ts))
files_whole ts own p = flat ts ∙ sym (many-gathered nat_cmp_total nat_cmp-IsAntisymmetric home_of_number p ts (own_files 0 ts own))
  where
    flat : (ts : List Store) → files_in p ts ≡ how_many p (flat_map entries ts)
    flat [] = refl
    flat (t ∷ ts) = ap (λ n. how_many p (entries t) + n) (flat ts) ∙ sym (many-append p (entries t) (flat_map entries ts))

pub debts_whole : (ss : List Shard) → AreOwnShards 0 ss → (p : List ℕ × Debt → Bool) → debts_in p ss ≡ how_many p (entries (all_shards ss).debts)
debts_whole ss own p = flat ss ∙ sym (many-gathered nat_list_cmp_total bytes_apart home_of_debt p (map (λ (s : Shard). s.debts) ss) (own_debts 0 ss own))
  where
    flat : (ss : List Shard) → debts_in p ss ≡ how_many p (flat_map entries (map (λ (s : Shard). s.debts) ss))
    flat [] = refl
    flat (s ∷ ss) = ap (λ n. how_many p (entries s.debts) + n) (flat ss) ∙ sym (many-append p (entries s.debts) (flat_map entries (map (λ (s : Shard). s.debts) ss)))

module _ (ss : List Shard) (ts : List Store) (desk : Desk) (roster : Roster) (own : AreOwnShards 0 ss) (own_s : AreOwnStores 0 ts) where
  abbrev whole : Service
  whole = record { shard = all_shards ss; store = all_stores ts; desk = desk; roster = roster }

  pub owed_whole : dirs_in (λ e. is_some e.1.owner) ss + files_in (λ e. is_some e.1.owner) ts ≡ tallies.owed_in whole
  owed_whole = λ j. dirs_whole ss own (λ e. is_some e.1.owner) j + files_whole ts own_s (λ e. is_some e.1.owner) j

  pub all_debts_whole : debts_in (λ e. true) ss ≡ tallies.debts_in whole
  all_debts_whole = debts_whole ss own (λ e. true) ∙ all_pass (entries (all_shards ss).debts)

  pub marks_whole : dirs_in (λ e. is_some e.1.mark) ss ≡ tallies.marks_in whole
  marks_whole = dirs_whole ss own (λ e. is_some e.1.mark)

  left_alike : (x : Node) (owner : Option Client) → is_left_by roster (names_live ss ss x) owner ≡ tallies.is_left whole x owner
  left_alike x None = refl
  left_alike x (Some client) = ap (λ b. tallies.is_out roster client && not b) (sym (named_whole ss own x))

  pub strays_whole : dirs_in (λ e. is_left_by roster (names_live ss ss (dir_of_number e.0)) e.1.owner) ss
      + files_in (λ e. is_left_by roster (names_live ss ss (file_of_number e.0)) e.1.owner) ts
      + dirs_in (λ e. tallies.is_left_mark whole e.1.mark) ss + debts_in (λ e. tallies.is_left_debt whole e.1.owner) ss ≡ tallies.strays_in whole
  strays_whole = λ j. dirs j + files j + dirs_whole ss own (λ e. tallies.is_left_mark whole e.1.mark) j + debts_whole ss own (λ e. tallies.is_left_debt whole e.1.owner) j
    where
      dirs : dirs_in (λ e. is_left_by roster (names_live ss ss (dir_of_number e.0)) e.1.owner) ss ≡ how_many (λ e. tallies.is_left whole (dir_of_number e.0) e.1.owner) (entries (all_shards ss).recs)
      dirs = dirs_whole ss own (λ e. is_left_by roster (names_live ss ss (dir_of_number e.0)) e.1.owner) ∙ alike _ _ (entries (all_shards ss).recs) (λ e. left_alike (dir_of_number e.0) e.1.owner)

      files : files_in (λ e. is_left_by roster (names_live ss ss (file_of_number e.0)) e.1.owner) ts ≡ how_many (λ e. tallies.is_left whole (file_of_number e.0) e.1.owner) (entries (all_stores ts))
      files = files_whole ts own_s (λ e. is_left_by roster (names_live ss ss (file_of_number e.0)) e.1.owner) ∙ alike _ _ (entries (all_stores ts)) (λ e. left_alike (file_of_number e.0) e.1.owner)
