use Rattle.cfs_place.proofs.cells.Cell.split.Given as goal

abbrev pub ghosts-give_out : goal.ghosts-give_out
ghosts-give_out g a = record { number = a.by }
