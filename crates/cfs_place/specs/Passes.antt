-- What a clause says of a pass.
use Rattle.std.specs.Prelude.{◌≡◌, true, None}
use Rattle.crossbeam_queue.specs.Passes.{view, IsPassOf as IsPassOfQueue}
use Rattle.atomic_table.specs.Seated.{TableId}
use Rattle.cfs_place.specs.declared.views.Stage.TheVariants.{Live}
use Rattle.cfs_place.specs.declared.views.View.{View}
use Rattle.cfs_place.specs.declared.cells.Cell.{Cell}
use Rattle.cfs_place.specs.declared.cells.Pass.{Pass}

-- what tells one cell from another. A fixed part may name it
abbrev pub Identity : Type 0
Identity = TableId

module _ {T E : Type 0} where
  -- the identity of a cell
  abbrev pub identity : Cell T E → Identity
  identity cell = cell.queue.table.shared.table_id

  -- the identity of the cell that a pass is of
  abbrev pub cell_of : Pass T E → Identity
  cell_of pass = pass.seat.table_id

  -- what the pass knows
  abbrev pub knows : Pass T E → View T E
  knows pass = view pass.seat

  -- it is a pass of this cell
  abbrev pub IsPassOf : Cell T E → Pass T E → Type 0
  IsPassOf cell pass = IsPassOfQueue cell.queue pass.seat × ((knows pass).stage ≡ Live)

  -- it is the first pass of this cell
  abbrev pub IsFirstOf : Cell T E → Pass T E → Type 0
  IsFirstOf cell pass = IsPassOf cell pass × ((knows pass).leads ≡ true)

  -- the pass holds nothing
  abbrev pub HoldsNothing : Pass T E → Type 0
  HoldsNothing pass = (knows pass).taken ≡ None
