-- The moves of a run: what they make of the namespace, whether it allowed them, and which lines they stand in.
use Rattle.std.specs.Prelude.{◌≡◌, ℕ, ◌≤◌, List, [], ◌∷◌, length, Bool, true, false, ◌&&◌, Option, Some, None}
use Rattle.next_ids.specs.declared.ids.PlaceNo.{PlaceNo}
use Rattle.next_ids.specs.Namespace.{Namespace, IsDefined, after, empty_root, is_listed, forget}
use Rattle.next_steps.specs.declared.entry.Entry.{Entry}
use Rattle.next_steps.specs.declared.moves.Moved.{Moved}
use Rattle.next_steps.specs.declared.moves.Move.{Move as MoveFacts}
use Rattle.next_steps.specs.declared.moves.Moved.TheVariants.{Move, Forget}
use Rattle.next_steps.specs.declared.line.Line.{Line}
use Rattle.next_steps.specs.declared.line.Outcome.{Outcome}
use Rattle.next_steps.specs.declared.line.Outcome.TheVariants as outcome
use Rattle.next_steps.specs.declared.line.HistoryItem.{HistoryItem}
use Rattle.next_steps.specs.declared.line.HistoryItem.TheVariants.{Line as LineItem, Forget as ForgetItem}
use Rattle.next_rules.specs.Histories.{is_move, stands_at}

-- ---- what an entry makes of the namespace
abbrev pub after_moved : Namespace → Option Moved → Namespace
after_moved n None = n
after_moved n (Some (Move m)) = after n m.call m.made m.ts
after_moved n (Some (Forget file)) = forget n file.0

-- the namespace that the moves make of the empty root
abbrev pub space : List (PlaceNo × Entry) → Namespace
space [] = empty_root
space (e ∷ older) = after_moved (space older) e.1.moved

abbrev pub IsAllowed : Namespace → Option Moved → Type 0
IsAllowed n None = Unit {0}
IsAllowed n (Some (Move m)) = IsDefined n m.call m.made
IsAllowed n (Some (Forget file)) = is_listed n file.0 ≡ false

-- each move is one that the namespace so far allows
abbrev pub MovesAllowed : List (PlaceNo × Entry) → Type 0
MovesAllowed [] = Unit {0}
MovesAllowed (e ∷ older) = IsAllowed (space older) e.1.moved × MovesAllowed older

-- ---- each move of the run stands in exactly one line, and each forgotten file in one item
abbrev pub is_moving : ℕ → HistoryItem → Bool
is_moving p (LineItem line) = stands_at p line.at && is_move line.outcome
is_moving p (ForgetItem at file) = stands_at p (Some at)

abbrev pub add_if : Bool → HistoryItem → List HistoryItem → List HistoryItem
add_if true item items = item ∷ items
add_if false item items = items

-- the move lines and the forgotten files at a position
abbrev pub moving_items : ℕ → List HistoryItem → List HistoryItem
moving_items p [] = []
moving_items p (item ∷ items) = add_if (is_moving p item) item (moving_items p items)

abbrev pub IsMoveOf : MoveFacts → Line → Outcome → Type 0
IsMoveOf m line (outcome.Moved ts made) =
    (line.client ≡ m.client) × (line.call ≡ m.call) × (ts ≡ m.ts) × (made ≡ m.made)
IsMoveOf m line (outcome.Unfinished (Some found)) =
    (line.client ≡ m.client) × (line.call ≡ m.call) × (found.0 ≡ m.ts) × (found.1 ≡ m.made)
IsMoveOf m line _ = ⊥

-- a step with a move has one line, one that forgot a file has its item, and a step without has none
abbrev pub ItemsMatch : ℕ → Option Moved → List HistoryItem → Type 0
ItemsMatch p None items = items ≡ []
ItemsMatch p (Some (Move m)) items = (line : Line) × (items ≡ LineItem line ∷ []) × IsMoveOf m line line.outcome
ItemsMatch p (Some (Forget file)) items = items ≡ ForgetItem p file ∷ []

abbrev pub StepsMatch : List (PlaceNo × Entry) → List HistoryItem → Type 0
StepsMatch [] items = Unit {0}
StepsMatch (e ∷ older) items =
    ItemsMatch (length older) e.1.moved (moving_items (length older) items) × StepsMatch older items

pub record MovesMatch (run : List (PlaceNo × Entry)) (items : List HistoryItem) : Type 0 where
  pub steps : StepsMatch run items
  pub within : (p : ℕ) → length run ≤ p → moving_items p items ≡ []
