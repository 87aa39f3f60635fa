-- When a history is legal, and its last namespace. These speak of one tree and a list of lines: no place, no step.
use Rattle.std.specs.Prelude.{◌≡◌, ◌≢◌, ℕ, ◌+◌, ◌<◌, ◌≤◌, List, [], ◌∷◌, Bool, true, false, Option, Some, None, ◌⊎◌}
use Rattle.next_ids.specs.declared.call.Reply.TheVariants.{Moved as MovedReply, Busy}
use Rattle.next_ids.specs.declared.call.Reply.{Reply}
use Rattle.next_ids.specs.Namespace.{Namespace, answer, after, IsDefined, empty_root, is_listed, forget}
use Rattle.next_steps.specs.declared.line.Line.{Line}
use Rattle.next_steps.specs.declared.line.Outcome.{Outcome}
use Rattle.next_steps.specs.declared.line.Outcome.TheVariants as outcome
use Rattle.next_steps.specs.declared.line.HistoryItem.{HistoryItem}
use Rattle.next_steps.specs.declared.line.HistoryItem.TheVariants.{Line as LineItem, Forget as ForgetItem}
use Rattle.next_rules.specs.Histories.{is_move}

-- a fact of each item, and of each item with every later one
abbrev pub Each : (HistoryItem → Type 0) → List HistoryItem → Type 0
Each P [] = Unit {0}
Each P (i ∷ is) = P i × Each P is

abbrev pub EachPair : (HistoryItem → HistoryItem → Type 0) → List HistoryItem → Type 0
EachPair P [] = Unit {0}
EachPair P (i ∷ is) = Each (P i) is × EachPair P is

-- ---- positions: each line has just the values that its outcome has, and the point lies between the first and the last step
abbrev pub Positions : Outcome → (first : ℕ) → (at last : Option ℕ) → Type 0
Positions (outcome.Moved ts made) first (Some at) (Some last) = (first ≤ at) × (at ≤ last)
Positions (outcome.Reply reply) first (Some at) (Some last) = (reply ≢ MovedReply) × (first ≤ at) × (at ≤ last + 1)
Positions (outcome.Unfinished None) first None None = Unit {0}
Positions (outcome.Unfinished (Some found)) first (Some at) None = first ≤ at
Positions _ first at last = ⊥

abbrev pub HasPositions : HistoryItem → Type 0
HasPositions (LineItem line) = Positions line.outcome line.first line.at line.last
HasPositions (ForgetItem at file) = Unit {0}

-- ---- order: by position; at one the replies by client and first step, and then the move or the forgotten file; lines
-- without a position last, by client
abbrev pub Told : HistoryItem → HistoryItem → Type 0
Told (LineItem x) (LineItem y) = (x.client.0 < y.client.0) ⊎ ((x.client ≡ y.client) × (x.first < y.first))
Told a b = Unit {0}

abbrev pub Tied : HistoryItem → HistoryItem → Bool → Bool → Type 0
Tied a b false true = Unit {0}
Tied a b false false = Told a b
Tied a b true true = Unit {0}
Tied a b true false = ⊥

abbrev pub moves : HistoryItem → Bool
moves (LineItem line) = is_move line.outcome
moves (ForgetItem at file) = true

abbrev pub at_of : HistoryItem → Option ℕ
at_of (LineItem line) = line.at
at_of (ForgetItem at file) = Some at

abbrev pub ByClient : HistoryItem → HistoryItem → Type 0
ByClient (LineItem x) (LineItem y) = x.client.0 < y.client.0
ByClient a b = ⊥

abbrev pub Before : HistoryItem → HistoryItem → Option ℕ → Option ℕ → Type 0
Before a b (Some p) (Some q) = (p < q) ⊎ ((p ≡ q) × Tied a b (moves a) (moves b))
Before a b (Some p) None = Unit {0}
Before a b None (Some q) = ⊥
Before a b None None = ByClient a b

abbrev pub StandsBefore : HistoryItem → HistoryItem → Type 0
StandsBefore a b = Before a b (at_of a) (at_of b)

-- ---- one client's calls follow one another: of two the earlier is finished before the other's first step
abbrev pub EndsBelow : Option ℕ → ℕ → Type 0
EndsBelow None first = ⊥
EndsBelow (Some last) first = last < first

abbrev pub Follows : Line → Line → Type 0
Follows x y = (x.first < y.first) × EndsBelow x.last y.first

abbrev pub Apart : HistoryItem → HistoryItem → Type 0
Apart (LineItem x) (LineItem y) = x.client ≡ y.client → Follows x y ⊎ Follows y x
Apart a b = Unit {0}

-- ---- no two moves, and no two forgotten files, stand at one position
abbrev pub MovesApart : HistoryItem → HistoryItem → Type 0
MovesApart a b = moves a ≡ true → moves b ≡ true → at_of a ≢ at_of b

-- ---- replies: each but Busy is the namespace's so far, and each move is allowed by it and changes it
abbrev pub IsReply : Namespace → Line → Reply → Type 0
IsReply n line (Busy job) = Unit {0}
IsReply n line reply = answer n line.call ≡ reply

abbrev pub RightIn : Namespace → Line → Outcome → Type 0
RightIn n line (outcome.Moved ts made) = IsDefined n line.call made
RightIn n line (outcome.Reply reply) = IsReply n line reply
RightIn n line (outcome.Unfinished None) = Unit {0}
RightIn n line (outcome.Unfinished (Some found)) = IsDefined n line.call found.1

abbrev pub after_outcome : Namespace → Line → Outcome → Namespace
after_outcome n line (outcome.Moved ts made) = after n line.call made ts
after_outcome n line (outcome.Reply reply) = n
after_outcome n line (outcome.Unfinished None) = n
after_outcome n line (outcome.Unfinished (Some found)) = after n line.call found.1 found.0

abbrev pub IsRightItem : Namespace → HistoryItem → Type 0
IsRightItem n (LineItem line) = RightIn n line line.outcome
IsRightItem n (ForgetItem at file) = is_listed n file.0 ≡ false

abbrev pub after_item : Namespace → HistoryItem → Namespace
after_item n (LineItem line) = after_outcome n line line.outcome
after_item n (ForgetItem at file) = forget n file.0

abbrev pub Replies : Namespace → List HistoryItem → Type 0
Replies n [] = Unit {0}
Replies n (i ∷ is) = IsRightItem n i × Replies (after_item n i) is

-- the namespace after the items
abbrev pub final_from : Namespace → List HistoryItem → Namespace
final_from n [] = n
final_from n (i ∷ is) = final_from (after_item n i) is

-- the last namespace of a history, which begins with the empty root
abbrev pub final : List HistoryItem → Namespace
final items = final_from empty_root items

pub record IsLegal (items : List HistoryItem) : Type 0 where
  pub positions : Each HasPositions items
  pub order : EachPair StandsBefore items
  pub calls : EachPair Apart items
  pub once : EachPair MovesApart items
  pub replies : Replies empty_root items
