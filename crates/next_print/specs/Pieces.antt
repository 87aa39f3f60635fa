-- The parts of a line.
use Rattle.std.specs.Prelude.{ℕ, List, ◌++◌, codes, decimal, Option, Some, None}
use Rattle.next_ids.specs.declared.ids.Node.{Node}
use Rattle.next_ids.specs.declared.ids.Node.TheVariants.{Dir, File}
use Rattle.next_print.specs.declared.output.Piece.{Piece}
use Rattle.next_print.specs.declared.output.Piece.TheVariants as piece

-- a position, and - for none
unfoldable pub position_text : Option ℕ → List ℕ
position_text None = codes "-"
position_text (Some p) = decimal p

unfoldable pub lettered : List ℕ → ℕ → List ℕ
lettered letter number = letter ++ decimal number

-- a letter and the number, and - for no node
unfoldable pub node_text : Option Node → List ℕ
node_text None = codes "-"
node_text (Some (Dir d)) = lettered (codes "d") d.0
node_text (Some (File f)) = lettered (codes "f") f.0

-- bytes as they are, a number in decimal digits
abbrev pub piece_text : Piece → List ℕ
piece_text (piece.Text bytes) = bytes.now
piece_text (piece.Number n) = decimal n
piece_text (piece.Position p) = position_text p
piece_text (piece.Node n) = node_text n
