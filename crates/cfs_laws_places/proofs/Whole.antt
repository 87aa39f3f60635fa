-- Allowed moves leave a whole namespace.
use Rattle.std.proofs.Common.{List, [], ◌∷◌}
use Rattle.std.specs.Prelude.{Option, Some, None}
use Rattle.cfs_ids.specs.declared.ids.PlaceNo.{PlaceNo}
use Rattle.cfs_ids.specs.Namespace.{Namespace, IsWhole}
use Rattle.cfs_steps.specs.declared.entry.Entry.{Entry}
use Rattle.cfs_steps.specs.declared.moves.Moved.{Moved}
use Rattle.cfs_steps.specs.declared.moves.Moved.TheVariants.{Move}
use Rattle.cfs_rules.specs.Facts.{MovesAllowed, IsAllowed, after_moved, space}
use Rattle.cfs_laws_namespace.proofs.Whole.{empty_root-whole, whole-after}

whole-moved : (n : Namespace) (moved : Option Moved) → IsAllowed n moved → IsWhole n → IsWhole (after_moved n moved)
whole-moved n None may whole = whole
whole-moved n (Some (Move m)) may whole = whole-after n m.call m.made m.ts may whole

pub space-whole : (run : List (PlaceNo × Entry)) → MovesAllowed run → IsWhole (space run)
space-whole [] may = empty_root-whole
space-whole (e ∷ older) may = whole-moved (space older) e.1.moved may.0 (space-whole older may.1)
