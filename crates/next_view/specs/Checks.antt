-- What is promised of all places at every step, tested shard by shard.
use Rattle.std.specs.Prelude.{ℕ, ◌+◌, List, [], ◌∷◌, Bool, true, false, not, ◌&&◌, ◌||◌, ◌==◌, is_some}
use Rattle.std.specs.List.{list_any}
use Rattle.std.specs.FinMap.{get, entries}
use Rattle.next_ids.specs.declared.ids.Node.{Node}
use Rattle.next_ids.specs.declared.ids.Node.TheVariants.{Dir, File}
use Rattle.next_ids.specs.Maps.{how_many, lies_in}
use Rattle.next_ids.specs.Namespace.{is_dir}
use Rattle.next_steps.specs.declared.contents.Row.{Row}
use Rattle.next_steps.specs.declared.contents.DirRec.{DirRec}
use Rattle.next_rules.specs.Contents.{Shard, Store, attr_of}

-- whether a row lies in the directory, and names a directory where only such rows are meant
abbrev pub is_row_of : ℕ → Bool → List ℕ × Row → Bool
is_row_of d false e = lies_in d e.0
is_row_of d true e = lies_in d e.0 && is_dir e.1.node

-- how many rows of the shards pass the test
abbrev pub rows_in : (List ℕ × Row → Bool) → List Shard → ℕ
rows_in p [] = 0
rows_in p (s ∷ ss) = how_many p (entries s.rows) + rows_in p ss

-- whether the record counts its rows in all shards, and those that name a directory
abbrev pub counts_rows : List Shard → ℕ → DirRec → Bool
counts_rows all d r =
    ((attr_of r).children == rows_in (is_row_of d false) all) && ((attr_of r).subdirs == rows_in (is_row_of d true) all)

-- whether a record of these shards does not
abbrev pub any_miscounts : List Shard → List Shard → Bool
any_miscounts all [] = false
any_miscounts all (s ∷ ss) = list_any (λ e. not (counts_rows all e.0 e.1)) (entries s.recs) || any_miscounts all ss

-- whether one of the shards has a record of the directory, and one of the stores of the file
abbrev pub any_has_dir : List Shard → ℕ → Bool
any_has_dir [] d = false
any_has_dir (s ∷ ss) d = is_some (get s.recs d) || any_has_dir ss d

abbrev pub any_has_file : List Store → ℕ → Bool
any_has_file [] f = false
any_has_file (s ∷ ss) f = is_some (get s f) || any_has_file ss f

abbrev pub has_record : List Shard → List Store → Node → Bool
has_record shards stores (File f) = any_has_file stores f.0
has_record shards stores (Dir d) = any_has_dir shards d.0

-- whether a row of these shards names a node that has no record
abbrev pub any_lacks : (Node → Bool) → List Shard → Bool
any_lacks has [] = false
any_lacks has (s ∷ ss) = list_any (λ e. not (has e.1.node)) (entries s.rows) || any_lacks has ss
