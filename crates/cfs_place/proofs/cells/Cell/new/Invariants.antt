use Rattle.cfs_place.proofs.cells.Cell.new.Given as goal

abbrev pub ghosts-fill : goal.ghosts-fill
ghosts-fill g a = record { number = a.by }
