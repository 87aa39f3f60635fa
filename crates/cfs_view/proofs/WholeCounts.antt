-- What is counted place by place is what the places hold together.
use Rattle.std.proofs.Common.{◌≡◌, ℕ, ◌+◌, List, [], ◌∷◌, map, flat_map, Bool, refl, sym, ◌∙◌, ap}
use Rattle.std.specs.Prelude.{◌||◌, is_some}
use Rattle.std.specs.List.{list_any}
use Rattle.std.specs.Cmp.{nat_cmp_total}
use Rattle.std.specs.Cmp.Lexicographic.{nat_list_cmp_total}
use Rattle.std.specs.FinMap.{entries, nat_cmp-IsAntisymmetric}
use Rattle.cfs_ids.specs.declared.ids.Node.{Node}
use Rattle.cfs_ids.specs.declared.ids.Node.TheVariants.{Dir, File}
use Rattle.cfs_ids.specs.Maps.{how_many}
use Rattle.cfs_ids.specs.Namespace.{is_node}
use Rattle.cfs_ids.proofs.Entries.{any-append, many-append}
use Rattle.cfs_steps.specs.declared.contents.DirRec.{DirRec}
use Rattle.cfs_steps.specs.declared.contents.FileRec.{FileRec}
use Rattle.cfs_rules.specs.Places.{Shard, Store, Roster}
use Rattle.cfs_rules.specs.Trees.{is_named, is_placed, is_left, owed_in, strays_in}
use Rattle.cfs_rules.specs.Homes.{home_of_row, home_of_number, AreOwnShards, AreOwnStores, all_shards, all_stores}
use Rattle.cfs_rules.proofs.Names.{bytes_apart}
use Rattle.cfs_rules.proofs.Homes.{any-gathered, many-gathered}
use Rattle.cfs_rules.proofs.Whole.{own_rows, own_recs, own_files}
use Rattle.cfs_view.specs.Shown.{names_in}
use Rattle.cfs_view.specs.Tallies.{owed_dirs, owed_files, stray_dirs, stray_files}

any-rows : (ss : List Shard) (x : Node) → list_any (λ e. is_node x e.1.node) (flat_map entries (map (λ (s : Shard). s.rows) ss)) ≡ names_in ss x
any-rows [] x = refl
any-rows (s ∷ ss) x = any-append (λ e. is_node x e.1.node) (entries s.rows) (flat_map entries (map (λ (s : Shard). s.rows) ss)) ∙ ap (λ b. list_any (λ e. is_node x e.1.node) (entries s.rows) || b) (any-rows ss x)

-- a row of one of the shards names the node where one of all rows does
pub named_whole : (ss : List Shard) → AreOwnShards 0 ss → (x : Node) → list_any (λ e. is_node x e.1.node) (entries (all_shards ss).rows) ≡ names_in ss x
named_whole ss own x = any-gathered nat_list_cmp_total bytes_apart home_of_row (λ e. is_node x e.1.node) (map (λ (s : Shard). s.rows) ss) (own_rows 0 ss own) ∙ any-rows ss x

alike : {X : Type 0} (p q : X → Bool) (es : List X) → ((e : X) → p e ≡ q e) → how_many p es ≡ how_many q es
alike p q es h = ap (λ f. how_many f es) (λ j e. h e j)

many-owed-dirs : (ss : List Shard) → how_many (λ (e : ℕ × DirRec). is_some e.1.owner) (flat_map entries (map (λ (s : Shard). s.recs) ss)) ≡ owed_dirs ss
many-owed-dirs [] = refl
many-owed-dirs (s ∷ ss) = many-append (λ (e : ℕ × DirRec). is_some e.1.owner) (entries s.recs) (flat_map entries (map (λ (s : Shard). s.recs) ss)) ∙ ap (λ n. how_many (λ (e : ℕ × DirRec). is_some e.1.owner) (entries s.recs) + n) (many-owed-dirs ss)

many-owed-files : (ss : List Store) → how_many (λ (e : ℕ × FileRec). is_some e.1.owner) (flat_map entries ss) ≡ owed_files ss
many-owed-files [] = refl
many-owed-files (s ∷ ss) = many-append (λ (e : ℕ × FileRec). is_some e.1.owner) (entries s) (flat_map entries ss) ∙ ap (λ n. how_many (λ (e : ℕ × FileRec). is_some e.1.owner) (entries s) + n) (many-owed-files ss)

pub owed_whole : (ss : List Shard) (ts : List Store) → AreOwnShards 0 ss → AreOwnStores 0 ts → owed_dirs ss + owed_files ts ≡ owed_in (all_shards ss) (all_stores ts)
owed_whole ss ts own own_s = λ j. dirs j + files j
  where
    dirs : owed_dirs ss ≡ how_many (λ (e : ℕ × DirRec). is_some e.1.owner) (entries (all_shards ss).recs)
    dirs = sym (many-gathered nat_cmp_total nat_cmp-IsAntisymmetric home_of_number (λ (e : ℕ × DirRec). is_some e.1.owner) (map (λ (s : Shard). s.recs) ss) (own_recs 0 ss own) ∙ many-owed-dirs ss)

    files : owed_files ts ≡ how_many (λ (e : ℕ × FileRec). is_some e.1.owner) (entries (all_stores ts))
    files = sym (many-gathered nat_cmp_total nat_cmp-IsAntisymmetric home_of_number (λ (e : ℕ × FileRec). is_some e.1.owner) ts (own_files 0 ts own_s) ∙ many-owed-files ts)

module _ (roster : Roster) (named : Node → Bool) where
  many-stray-dirs : (ss : List Shard) → how_many (λ (e : ℕ × DirRec). is_left roster (named (Dir (record { 0 = e.0 }))) e.1.owner) (flat_map entries (map (λ (s : Shard). s.recs) ss)) ≡ stray_dirs roster named ss
  many-stray-dirs [] = refl
  many-stray-dirs (s ∷ ss) = many-append (λ (e : ℕ × DirRec). is_left roster (named (Dir (record { 0 = e.0 }))) e.1.owner) (entries s.recs) (flat_map entries (map (λ (s : Shard). s.recs) ss))
      ∙ ap (λ n. how_many (λ (e : ℕ × DirRec). is_left roster (named (Dir (record { 0 = e.0 }))) e.1.owner) (entries s.recs) + n) (many-stray-dirs ss)

  many-stray-files : (ts : List Store) → how_many (λ (e : ℕ × FileRec). is_left roster (named (File (record { 0 = e.0 }))) e.1.owner) (flat_map entries ts) ≡ stray_files roster named ts
  many-stray-files [] = refl
  many-stray-files (s ∷ ts) = many-append (λ (e : ℕ × FileRec). is_left roster (named (File (record { 0 = e.0 }))) e.1.owner) (entries s) (flat_map entries ts)
      ∙ ap (λ n. how_many (λ (e : ℕ × FileRec). is_left roster (named (File (record { 0 = e.0 }))) e.1.owner) (entries s) + n) (many-stray-files ts)

pub strays_whole : (roster : Roster) (ss : List Shard) (ts : List Store) → AreOwnShards 0 ss → AreOwnStores 0 ts → stray_dirs roster (names_in ss) ss + stray_files roster (names_in ss) ts ≡ strays_in (all_shards ss) (all_stores ts) roster
strays_whole roster ss ts own own_s = λ j. dirs j + files j
  where
    dirs : stray_dirs roster (names_in ss) ss ≡ how_many (λ (e : ℕ × DirRec). is_left roster (is_placed (all_shards ss) e.0) e.1.owner) (entries (all_shards ss).recs)
    dirs = sym (alike (λ (e : ℕ × DirRec). is_left roster (is_placed (all_shards ss) e.0) e.1.owner) (λ (e : ℕ × DirRec). is_left roster (names_in ss (Dir (record { 0 = e.0 }))) e.1.owner) (entries (all_shards ss).recs)
        (λ e. ap (λ b. is_left roster b e.1.owner) (named_whole ss own (Dir (record { 0 = e.0 }))))
        ∙ many-gathered nat_cmp_total nat_cmp-IsAntisymmetric home_of_number (λ (e : ℕ × DirRec). is_left roster (names_in ss (Dir (record { 0 = e.0 }))) e.1.owner) (map (λ (s : Shard). s.recs) ss) (own_recs 0 ss own) ∙ many-stray-dirs roster (names_in ss) ss)

    files : stray_files roster (names_in ss) ts ≡ how_many (λ (e : ℕ × FileRec). is_left roster (is_named (all_shards ss) e.0) e.1.owner) (entries (all_stores ts))
    files = sym (alike (λ (e : ℕ × FileRec). is_left roster (is_named (all_shards ss) e.0) e.1.owner) (λ (e : ℕ × FileRec). is_left roster (names_in ss (File (record { 0 = e.0 }))) e.1.owner) (entries (all_stores ts))
        (λ e. ap (λ b. is_left roster b e.1.owner) (named_whole ss own (File (record { 0 = e.0 }))))
        ∙ many-gathered nat_cmp_total nat_cmp-IsAntisymmetric home_of_number (λ (e : ℕ × FileRec). is_left roster (names_in ss (File (record { 0 = e.0 }))) e.1.owner) ts (own_files 0 ts own_s) ∙ many-stray-files roster (names_in ss) ts)
