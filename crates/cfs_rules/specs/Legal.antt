-- When a history is legal, and its last namespace. These speak of one tree and a list of lines: no place, no step.
use Rattle.std.specs.Prelude.{◌≡◌, ◌≢◌, ℕ, ◌+◌, ◌<◌, ◌≤◌, List, [], ◌∷◌, Bool, true, false, Option, Some, None, ◌⊎◌}
use Rattle.cfs_ids.specs.declared.call.Reply.TheVariants.{Moved as MovedReply}
use Rattle.cfs_ids.specs.Namespace.{Namespace, answer, after, IsDefined, empty_root}
use Rattle.cfs_steps.specs.declared.line.Line.{Line}
use Rattle.cfs_steps.specs.declared.line.Outcome.{Outcome}
use Rattle.cfs_steps.specs.declared.line.Outcome.TheVariants as outcome
use Rattle.cfs_steps.specs.declared.line.HistoryItem.{HistoryItem}
use Rattle.cfs_steps.specs.declared.line.HistoryItem.TheVariants.{Line as LineItem}
use Rattle.cfs_rules.specs.Histories.{is_move}

-- a fact of each item, and of each item with every later one
abbrev pub Each : (HistoryItem → Type 0) → List HistoryItem → Type 0
Each P [] = Unit {0}
Each P (i ∷ is) = P i × Each P is

abbrev pub EachPair : (HistoryItem → HistoryItem → Type 0) → List HistoryItem → Type 0
EachPair P [] = Unit {0}
EachPair P (i ∷ is) = Each (P i) is × EachPair P is

-- ---- positions: each line has just the values that its outcome has, and the point lies between the first and the last step
abbrev pub Positions : Outcome → (first : ℕ) → (at last : Option ℕ) → Type 0
Positions (outcome.Moved ts made) first (Some at) (Some last) = (first ≤ at) × (at ≤ last)
Positions (outcome.Reply reply) first (Some at) (Some last) = (reply ≢ MovedReply) × (first ≤ at) × (at ≤ last + 1)
Positions (outcome.Unfinished None) first None None = Unit {0}
Positions (outcome.Unfinished (Some found)) first (Some at) None = first ≤ at
Positions _ first at last = ⊥

abbrev pub HasPositions : HistoryItem → Type 0
HasPositions (LineItem line) = Positions line.outcome line.first line.at line.last

-- ---- order: by position; at one the replies by client and first step, and then the move; lines without a position last
abbrev pub Tied : Line → Line → Bool → Bool → Type 0
Tied x y false true = Unit {0}
Tied x y false false = (x.client.0 < y.client.0) ⊎ ((x.client ≡ y.client) × (x.first < y.first))
Tied x y true _ = ⊥

abbrev pub LineBefore : Line → Line → Option ℕ → Option ℕ → Type 0
LineBefore x y (Some p) (Some q) = (p < q) ⊎ ((p ≡ q) × Tied x y (is_move x.outcome) (is_move y.outcome))
LineBefore x y (Some p) None = Unit {0}
LineBefore x y None (Some q) = ⊥
LineBefore x y None None = x.client.0 < y.client.0

abbrev pub StandsBefore : HistoryItem → HistoryItem → Type 0
StandsBefore (LineItem x) (LineItem y) = LineBefore x y x.at y.at

-- ---- one client's calls follow one another: of two the earlier is finished before the other's first step
abbrev pub EndsBelow : Option ℕ → ℕ → Type 0
EndsBelow None first = ⊥
EndsBelow (Some last) first = last < first

abbrev pub Follows : Line → Line → Type 0
Follows x y = (x.first < y.first) × EndsBelow x.last y.first

abbrev pub Apart : HistoryItem → HistoryItem → Type 0
Apart (LineItem x) (LineItem y) = x.client ≡ y.client → Follows x y ⊎ Follows y x

-- ---- no two moves stand at one position
abbrev pub MovesApart : HistoryItem → HistoryItem → Type 0
MovesApart (LineItem x) (LineItem y) = is_move x.outcome ≡ true → is_move y.outcome ≡ true → x.at ≢ y.at

-- ---- replies: each is the namespace's so far, and each move is allowed by it and changes it
abbrev pub RightIn : Namespace → Line → Outcome → Type 0
RightIn n line (outcome.Moved ts made) = IsDefined n line.call made
RightIn n line (outcome.Reply reply) = answer n line.call ≡ reply
RightIn n line (outcome.Unfinished None) = Unit {0}
RightIn n line (outcome.Unfinished (Some found)) = IsDefined n line.call found.1

abbrev pub after_outcome : Namespace → Line → Outcome → Namespace
after_outcome n line (outcome.Moved ts made) = after n line.call made ts
after_outcome n line (outcome.Reply reply) = n
after_outcome n line (outcome.Unfinished None) = n
after_outcome n line (outcome.Unfinished (Some found)) = after n line.call found.1 found.0

abbrev pub IsRightItem : Namespace → HistoryItem → Type 0
IsRightItem n (LineItem line) = RightIn n line line.outcome

abbrev pub after_item : Namespace → HistoryItem → Namespace
after_item n (LineItem line) = after_outcome n line line.outcome

abbrev pub Replies : Namespace → List HistoryItem → Type 0
Replies n [] = Unit {0}
Replies n (i ∷ is) = IsRightItem n i × Replies (after_item n i) is

-- the namespace after the items
abbrev pub final_from : Namespace → List HistoryItem → Namespace
final_from n [] = n
final_from n (i ∷ is) = final_from (after_item n i) is

-- the last namespace of a history, which begins with the empty root
abbrev pub final : List HistoryItem → Namespace
final items = final_from empty_root items

pub record IsLegal (items : List HistoryItem) : Type 0 where
  pub positions : Each HasPositions items
  pub order : EachPair StandsBefore items
  pub calls : EachPair Apart items
  pub once : EachPair MovesApart items
  pub replies : Replies empty_root items
