-- What is true of the places at every step: counts, links, attributes, one tree.
use Rattle.std.specs.Prelude.{◌≡◌, ◌≢◌, ℕ, ◌+◌, ◌≤◌, pos, List, ◌∷◌, true, false, ◌&&◌, Some}
use Rattle.std.specs.FinMap.{get, entries}
use Rattle.next_ids.specs.declared.ids.DirId.{DirId}
use Rattle.next_ids.specs.declared.ids.Node.{Node}
use Rattle.next_ids.specs.declared.ids.Node.TheVariants.{File, Dir}
use Rattle.next_ids.specs.Maps.{how_many, lies_in}
use Rattle.next_ids.specs.Attributes.{children_after, subdirs_after}
use Rattle.next_ids.specs.Namespace.{is_dir, link_max}
use Rattle.next_steps.specs.declared.contents.Row.{Row}
use Rattle.next_steps.specs.declared.contents.DirRec.{DirRec}
use Rattle.next_steps.specs.declared.contents.FileRec.{FileRec}
use Rattle.next_rules.specs.Contents.{Shard, Store, attr_of}
use Rattle.next_rules.specs.Room.{links_in, coming_in}
use Rattle.next_rules.specs.Trees.{live_rows, is_named}

-- ---- counts: a directory's attributes count its rows, and those that name a directory
abbrev pub rows_in : Shard → ℕ → ℕ
rows_in shard d = how_many (λ e. lies_in d e.0) (entries shard.rows)

abbrev pub dir_rows_in : Shard → ℕ → ℕ
dir_rows_in shard d = how_many (λ e. lies_in d e.0 && is_dir e.1.node) (entries shard.rows)

pub record Counted (shard : Shard) (d : ℕ) (r : DirRec) : Type 0 where
  pub children : (attr_of r).children ≡ rows_in shard d
  pub subdirs : (attr_of r).subdirs ≡ dir_rows_in shard d

abbrev pub CountsHold : Shard → Type 0
CountsHold shard = (d : ℕ) (r : DirRec) → get shard.recs d ≡ Some r → Counted shard d r

-- and the sums of base and pending changes are these counts as they stand, so that a change more makes them the next ones
pub record Summed (shard : Shard) (d : ℕ) (r : DirRec) : Type 0 where
  pub children : children_after r.base r.pending ≡ pos (rows_in shard d)
  pub subdirs : subdirs_after r.base r.pending ≡ pos (dir_rows_in shard d)

abbrev pub SumsHold : Shard → Type 0
SumsHold shard = (d : ℕ) (r : DirRec) → get shard.recs d ≡ Some r → Summed shard d r

-- ---- links: no directory has more than the most, with those that jobs have reserved there
abbrev pub LinksHold : Shard → Type 0
LinksHold shard =
    (d : DirId) (r : DirRec) → get shard.recs d.0 ≡ Some r → links_in (Some r) + coming_in shard d ≤ link_max

-- ---- attributes: the node of each row, live or not, has a record
abbrev pub HasRecord : Shard → Store → Node → Type 0
HasRecord shard store (File f) = (r : FileRec) × (get store f.0 ≡ Some r)
HasRecord shard store (Dir d) = (r : DirRec) × (get shard.recs d.0 ≡ Some r)

abbrev pub AttributesHold : Shard → Store → Type 0
AttributesHold shard store = (k : List ℕ) (row : Row) → get shard.rows k ≡ Some row → HasRecord shard store row.node

-- ---- one tree of the live rows
-- a live row names the directory in its parent
pub record LiesIn (shard : Shard) (d parent : ℕ) : Type 0 where
  pub name : List ℕ
  pub row : Row
  pub there : get (live_rows shard) (parent ∷ name) ≡ Some row
  pub names : row.node ≡ Dir (record { 0 = d })

-- the way upward ends at the root
pub data EndsAtRoot (shard : Shard) : ℕ → Type 0 where
  Root : EndsAtRoot shard 0
  Above : (d parent : ℕ) → LiesIn shard d parent → EndsAtRoot shard parent → EndsAtRoot shard d

pub record OneTree (shard : Shard) : Type 0 where
  -- no live row names the root
  pub root : is_named shard (Dir (record { 0 = 0 })) ≡ false
  -- no directory has two live rows
  pub once : (k q : List ℕ) (row other : Row) (d : DirId) → get (live_rows shard) k ≡ Some row
      → get (live_rows shard) q ≡ Some other → row.node ≡ Dir d → other.node ≡ Dir d → k ≡ q
  -- each directory that has a row is the root, or a live row names it
  pub named : (d : ℕ) (name : List ℕ) (row : Row) → get shard.rows (d ∷ name) ≡ Some row → d ≢ 0
      → is_named shard (Dir (record { 0 = d })) ≡ true
  -- and from each that a live row names the way upward ends at the root
  pub ends : (d : ℕ) → is_named shard (Dir (record { 0 = d })) ≡ true → EndsAtRoot shard d
