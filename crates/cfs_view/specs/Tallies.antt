-- How much is left to do where the places hold this, and the same counted place by place.
use Rattle.std.specs.Prelude.{ℕ, ◌+◌, List, [], ◌∷◌, Bool, is_some}
use Rattle.std.specs.FinMap.{entries}
use Rattle.cfs_ids.specs.declared.ids.Node.{Node}
use Rattle.cfs_ids.specs.declared.ids.Node.TheVariants.{Dir, File}
use Rattle.cfs_ids.specs.Maps.{how_many}
use Rattle.cfs_rules.specs.Places.{Shard, Store, Roster}
use Rattle.cfs_rules.specs.Trees.{owed_in, strays_in, is_left}
use Rattle.cfs_view.specs.Held.{Held}
use Rattle.cfs_view.specs.declared.counts.Tallied.{Tallied}

-- nothing leaves a debt or a mark
abbrev pub tallied : Held → Tallied
tallied h = record { owed = owed_in h.shard h.store; debts = 0; marks = 0; strays = strays_in h.shard h.store h.roster }

-- ---- place by place
abbrev pub owed_dirs : List Shard → ℕ
owed_dirs [] = 0
owed_dirs (s ∷ ss) = how_many (λ e. is_some e.1.owner) (entries s.recs) + owed_dirs ss

abbrev pub owed_files : List Store → ℕ
owed_files [] = 0
owed_files (s ∷ ss) = how_many (λ e. is_some e.1.owner) (entries s) + owed_files ss

abbrev pub stray_dirs : Roster → (Node → Bool) → List Shard → ℕ
stray_dirs roster named [] = 0
stray_dirs roster named (s ∷ ss) = how_many (λ e. is_left roster (named (Dir (record { 0 = e.0 }))) e.1.owner) (entries s.recs) + stray_dirs roster named ss

abbrev pub stray_files : Roster → (Node → Bool) → List Store → ℕ
stray_files roster named [] = 0
stray_files roster named (s ∷ ss) = how_many (λ e. is_left roster (named (File (record { 0 = e.0 }))) e.1.owner) (entries s) + stray_files roster named ss
