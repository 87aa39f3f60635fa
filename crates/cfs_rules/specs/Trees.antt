-- The tree that the places hold, and what is left to do.
use Rattle.std.specs.Prelude.{ℕ, ◌+◌, Bool, false, not, ◌||◌, ◌&&◌, ◌==◌, Option, Some, None, is_none, is_some}
use Rattle.std.specs.List.{list_any}
use Rattle.std.specs.FinMap.{get, entries, retain_keys}
use Rattle.cfs_ids.specs.declared.ids.Client.{Client}
use Rattle.cfs_ids.specs.Maps.{map_values, how_many}
use Rattle.cfs_ids.specs.Namespace.{Namespace, Directory, FileFacts, names_file, names_dir}
use Rattle.cfs_steps.specs.declared.contents.DirRec.{DirRec}
use Rattle.cfs_steps.specs.declared.contents.FileRec.{FileRec}
use Rattle.cfs_rules.specs.Places.{Shard, Store, Roster, names_of}

-- whether a row names the file
abbrev pub is_named : Shard → ℕ → Bool
is_named s f = list_any (λ e. names_file f e.1.node) (entries s.rows)

-- whether a row names the directory
abbrev pub is_placed : Shard → ℕ → Bool
is_placed s d = list_any (λ e. names_dir d e.1.node) (entries s.rows)

-- a directory counts where it is the root or a row names it
abbrev pub is_shown : Shard → ℕ → Bool
is_shown s d = (d == 0) || is_placed s d

abbrev pub directory_of : Shard → ℕ → DirRec → Directory
directory_of s d r = record { names = names_of s d; time = r.attr.time }

-- whether a file has a record without an owner
abbrev pub is_settled : Option FileRec → Bool
is_settled None = false
is_settled (Some r) = is_none r.owner

-- a file counts where its record has no owner or a row names it
abbrev pub is_counted : Shard → Store → ℕ → Bool
is_counted shard store f = is_settled (get store f) || is_named shard f

abbrev pub facts_of : FileRec → FileFacts
facts_of r = record { size = r.size; time = r.time }

-- the namespace that the places hold
abbrev pub tree : Shard → Store → Namespace
tree shard store = record {
  dirs = map_values (λ d r. directory_of shard d r) (retain_keys shard.recs (is_shown shard));
  files = map_values (λ f r. facts_of r) (retain_keys store (is_counted shard store));
}

-- ---- what is left to do
abbrev pub has_ended : Roster → Client → Bool
has_ended roster client = list_any (λ (c : Client). c.0 == client.0) roster

-- the records with an owner
abbrev pub owed_in : Shard → Store → ℕ
owed_in shard store = how_many (λ e. is_some e.1.owner) (entries shard.recs) + how_many (λ e. is_some e.1.owner) (entries store)

abbrev pub is_left : Roster → Bool → Option Client → Bool
is_left roster named None = false
is_left roster named (Some client) = has_ended roster client && not named

-- the records that an ended client owns and no row names
abbrev pub strays_in : Shard → Store → Roster → ℕ
strays_in shard store roster = how_many (λ e. is_left roster (is_placed shard e.0) e.1.owner) (entries shard.recs) + how_many (λ e. is_left roster (is_named shard e.0) e.1.owner) (entries store)
