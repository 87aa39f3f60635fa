-- The lines of a tree.
use Rattle.std.specs.Prelude.{ℕ, List, [], ◌∷◌, ◌++◌, codes, decimal, flat_map, if◌then◌else◌, Option, Some, None}
use Rattle.std.specs.List.{concat}
use Rattle.std.specs.FinMap.{get, entries}
use Rattle.next_ids.specs.declared.ids.Node.{Node}
use Rattle.next_ids.specs.declared.ids.Node.TheVariants.{Dir, File}
use Rattle.next_ids.specs.Namespace.{Directory, FileFacts, Namespace, children_of, links_of, is_listed}
use Rattle.next_print.specs.Pieces.{node_text}

-- children=COUNT links=COUNT time=TIME, and zeros where there is no directory
unfoldable pub directory_end : Option Directory → List ℕ
directory_end None = codes "children=0 links=0 time=0\n"
directory_end (Some d) = concat (codes "children=" ∷ decimal (children_of d) ∷ codes " links=" ∷ decimal (links_of d) ∷ codes " time=" ∷ decimal d.time.number ∷ codes "\n" ∷ [])

-- size=BYTES time=TIME, and zeros where there is no file
unfoldable pub file_end : Option FileFacts → List ℕ
file_end None = codes "size=0 time=0\n"
file_end (Some f) = concat (codes "size=" ∷ decimal f.size ∷ codes " time=" ∷ decimal f.time.number ∷ codes "\n" ∷ [])

-- what the namespace says of a node
abbrev pub node_end : Namespace → Node → List ℕ
node_end n (Dir dir) = directory_end (get n.dirs dir.0)
node_end n (File file) = file_end (get n.files file.0)

-- t 0 / d0 ATTRIBUTES
unfoldable pub root_line : Namespace → List ℕ
root_line n = codes "t 0 / d0 " ++ directory_end (get n.dirs 0)

-- t DIRECTORY NAME NODE
unfoldable pub row_start : ℕ → List ℕ × Node → List ℕ
row_start dir row = concat (codes "t " ∷ decimal dir ∷ codes " " ∷ row.0 ∷ codes " " ∷ node_text (Some row.1) ∷ codes " " ∷ [])

-- t DIRECTORY NAME NODE ATTRIBUTES
unfoldable pub row_line : Namespace → ℕ → List ℕ × Node → List ℕ
row_line n dir row = row_start dir row ++ node_end n row.1

-- the lines of a directory's rows, by rising names
unfoldable pub rows_of : Namespace → ℕ × Directory → List ℕ
rows_of n dir = flat_map (row_line n dir.0) (entries dir.1.names)

-- the line of the root, and the lines of all rows, by their directories' rising numbers
unfoldable pub tree_lines : Namespace → List ℕ
tree_lines n = root_line n ++ flat_map (rows_of n) (entries n.dirs)

-- u NODE
unfoldable pub file_start : ℕ → List ℕ
file_start file = concat (codes "u " ∷ node_text (Some (File (record { 0 = file }))) ∷ codes " " ∷ [])

-- u NODE ATTRIBUTES
unfoldable pub file_line : ℕ × FileFacts → List ℕ
file_line file = file_start file.0 ++ file_end (Some file.1)

-- the line of a file that no list names
unfoldable pub unnamed_line : Namespace → ℕ × FileFacts → List ℕ
unnamed_line n file = if is_listed n file.0 then [] else file_line file

-- the lines of the files that no list names, by rising numbers
unfoldable pub unnamed_lines : Namespace → List ℕ
unnamed_lines n = flat_map (unnamed_line n) (entries n.files)
