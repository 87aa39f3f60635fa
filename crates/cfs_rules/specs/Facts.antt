-- What is promised of the places at every step, and of the moves of a run.
use Rattle.std.specs.Prelude.{◌≡◌, ℕ, ◌≤◌, List, [], ◌∷◌, length, Bool, true, false, ◌&&◌, Option, Some, None}
use Rattle.std.specs.FinMap.{get, entries}
use Rattle.cfs_ids.specs.declared.ids.PlaceNo.{PlaceNo}
use Rattle.cfs_ids.specs.declared.ids.Node.{Node}
use Rattle.cfs_ids.specs.declared.ids.Node.TheVariants.{File, Dir}
use Rattle.cfs_ids.specs.Maps.{how_many, lies_in}
use Rattle.cfs_ids.specs.Namespace.{Namespace, is_dir, IsDefined, after, empty_root}
use Rattle.cfs_steps.specs.declared.contents.Row.{Row}
use Rattle.cfs_steps.specs.declared.contents.DirRec.{DirRec}
use Rattle.cfs_steps.specs.declared.contents.FileRec.{FileRec}
use Rattle.cfs_steps.specs.declared.entry.Entry.{Entry}
use Rattle.cfs_steps.specs.declared.moves.Moved.{Moved}
use Rattle.cfs_steps.specs.declared.moves.Move.{Move as MoveFacts}
use Rattle.cfs_steps.specs.declared.moves.Moved.TheVariants.{Move}
use Rattle.cfs_steps.specs.declared.line.Line.{Line}
use Rattle.cfs_steps.specs.declared.line.Outcome.{Outcome}
use Rattle.cfs_steps.specs.declared.line.Outcome.TheVariants as outcome
use Rattle.cfs_steps.specs.declared.line.HistoryItem.{HistoryItem}
use Rattle.cfs_steps.specs.declared.line.HistoryItem.TheVariants.{Line as LineItem}
use Rattle.cfs_rules.specs.Places.{Shard, Store}
use Rattle.cfs_rules.specs.Histories.{is_move, stands_at}

-- a directory's record counts its rows, and those that name a directory
pub record Counted (shard : Shard) (d : ℕ) (r : DirRec) : Type 0 where
  pub children : r.attr.children ≡ how_many (λ e. lies_in d e.0) (entries shard.rows)
  pub subdirs : r.attr.subdirs ≡ how_many (λ e. lies_in d e.0 && is_dir e.1.node) (entries shard.rows)

abbrev pub CountsHold : Shard → Type 0
CountsHold shard = (d : ℕ) (r : DirRec) → get shard.recs d ≡ Some r → Counted shard d r

-- no lock is set
pub record Unlocked (shard : Shard) : Type 0 where
  pub names : (k : List ℕ) → get shard.locks k ≡ None
  pub recs : (d : ℕ) (r : DirRec) → get shard.recs d ≡ Some r → r.lock ≡ None

abbrev pub HasRecord : Shard → Store → Node → Type 0
HasRecord shard store (File f) = (r : FileRec) × (get store f.0 ≡ Some r)
HasRecord shard store (Dir d) = (r : DirRec) × (get shard.recs d.0 ≡ Some r)

-- the node of each row has a record
abbrev pub AttributesHold : Shard → Store → Type 0
AttributesHold shard store = (k : List ℕ) (row : Row) → get shard.rows k ≡ Some row → HasRecord shard store row.node

-- ---- the moves of a run
-- what an entry makes of the namespace
abbrev pub after_moved : Namespace → Option Moved → Namespace
after_moved n None = n
after_moved n (Some (Move m)) = after n m.call m.made m.ts

-- the namespace that the moves make of the empty root
abbrev pub space : List (PlaceNo × Entry) → Namespace
space [] = empty_root
space (e ∷ older) = after_moved (space older) e.1.moved

abbrev pub IsAllowed : Namespace → Option Moved → Type 0
IsAllowed n None = Unit {0}
IsAllowed n (Some (Move m)) = IsDefined n m.call m.made

-- each move is one that the namespace so far allows
abbrev pub MovesAllowed : List (PlaceNo × Entry) → Type 0
MovesAllowed [] = Unit {0}
MovesAllowed (e ∷ older) = IsAllowed (space older) e.1.moved × MovesAllowed older

abbrev pub add_if : Bool → Line → List Line → List Line
add_if true line lines = line ∷ lines
add_if false line lines = lines

-- the move lines at a position
abbrev pub move_lines : ℕ → List HistoryItem → List Line
move_lines p [] = []
move_lines p (LineItem line ∷ items) = add_if (stands_at p line.at && is_move line.outcome) line (move_lines p items)

abbrev pub IsMoveOf : MoveFacts → Line → Outcome → Type 0
IsMoveOf m line (outcome.Moved ts made) = (line.client ≡ m.client) × (line.call ≡ m.call) × (ts ≡ m.ts) × (made ≡ m.made)
IsMoveOf m line (outcome.Unfinished (Some found)) = (line.client ≡ m.client) × (line.call ≡ m.call) × (found.0 ≡ m.ts) × (found.1 ≡ m.made)
IsMoveOf m line _ = ⊥

-- a step with a move has one line, and a step without has none
abbrev pub LinesMatch : Option Moved → List Line → Type 0
LinesMatch None lines = lines ≡ []
LinesMatch (Some (Move m)) lines = (line : Line) × (lines ≡ line ∷ []) × IsMoveOf m line line.outcome

abbrev pub StepsMatch : List (PlaceNo × Entry) → List HistoryItem → Type 0
StepsMatch [] items = Unit {0}
StepsMatch (e ∷ older) items = LinesMatch e.1.moved (move_lines (length older) items) × StepsMatch older items

-- each move of the run stands in exactly one line, and each move line has one move of the run
pub record MovesMatch (run : List (PlaceNo × Entry)) (items : List HistoryItem) : Type 0 where
  pub steps : StepsMatch run items
  pub within : (p : ℕ) → length run ≤ p → move_lines p items ≡ []
