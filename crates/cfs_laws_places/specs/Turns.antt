-- What a turn does to the run, and to the tree that the places hold.
use Rattle.std.specs.Prelude.{◌≡◌, ◌∷◌, ◌⊎◌, None}
use Rattle.cfs_ids.specs.declared.ids.PlaceNo.{PlaceNo}
use Rattle.cfs_ids.specs.Namespace.{Namespace}
use Rattle.cfs_steps.specs.declared.entry.Entry.{Entry}
use Rattle.cfs_rules.specs.Worlds.{World}
use Rattle.cfs_rules.specs.Trees.{tree}

-- the tree that the places of a world hold
abbrev pub tree_in : World → Namespace
tree_in w = tree w.shard w.store

-- the run after a turn has the same steps, or one more
abbrev pub GrowsByOne : World → World → Type 0
GrowsByOne w w' = (w'.run ≡ w.run) ⊎ ((e : PlaceNo × Entry) × (w'.run ≡ e ∷ w.run))

-- a step that moves nothing leaves the tree as it is
abbrev pub KeepsUnmoved : World → World → Type 0
KeepsUnmoved w w' = (e : PlaceNo × Entry) → w'.run ≡ e ∷ w.run → e.1.moved ≡ None → tree_in w' ≡ tree_in w

-- and so does a turn without a step
abbrev pub KeepsStill : World → World → Type 0
KeepsStill w w' = w'.run ≡ w.run → tree_in w' ≡ tree_in w
