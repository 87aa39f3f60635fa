-- The steps of a client's calls in a run, and which line of a history such a step lies in.
use Rattle.std.specs.Prelude.{◌≡◌, ℕ, List, [], ◌∷◌, length, Bool, true, false, not, ◌&&◌, ◌==◌, nat_le, if◌then◌else◌, Option, Some, None}
use Rattle.std.specs.List.{list_any}
use Rattle.next_ids.specs.declared.ids.Client.{Client}
use Rattle.next_ids.specs.declared.ids.PlaceNo.{PlaceNo}
use Rattle.next_steps.specs.declared.entry.Entry.{Entry}
use Rattle.next_steps.specs.declared.line.Line.{Line}
use Rattle.next_steps.specs.declared.line.HistoryItem.{HistoryItem}
use Rattle.next_steps.specs.declared.line.HistoryItem.TheVariants.{Line as LineItem}
use Rattle.next_rules.specs.Pasts.{is_by_client, is_leaving}

-- ---- steps
-- the client made this step for a call: it is any of its steps but Stop and End
abbrev pub is_call_step : Client → Entry → Bool
is_call_step client entry = is_by_client client.0 entry.actor && not (is_leaving entry.ask)

-- the step at the position is such a step. The run has its newest step first, and a position is how many are older;
-- where there is no step, the answer is no
abbrev pub steps_at : Client → List (PlaceNo × Entry) → ℕ → Bool
steps_at client [] p = false
steps_at client (e ∷ older) p = if p == length older then is_call_step client e.1 else steps_at client older p

-- ---- lines
-- the position is not past the last step, where there is one
abbrev pub is_up_to : ℕ → Option ℕ → Bool
is_up_to p None = true
is_up_to p (Some last) = nat_le p last

-- the position lies from the line's first step on, and up to its last where it has one
abbrev pub is_within : ℕ → Line → Bool
is_within p line = nat_le line.first p && is_up_to p line.last

-- the step at the last position, where there is one, is a step of the client's calls
abbrev pub HasOwnLast : List (PlaceNo × Entry) → Client → Option ℕ → Type 0
HasOwnLast run client None = Unit {0}
HasOwnLast run client (Some last) = steps_at client run last ≡ true

-- the step at the line's first position is a step of its client's calls, and so is that at its last where it has one
abbrev pub HasOwnEnds : List (PlaceNo × Entry) → HistoryItem → Type 0
HasOwnEnds run (LineItem line) = (steps_at line.client run line.first ≡ true) × HasOwnLast run line.client line.last
HasOwnEnds run item = Unit {0}

-- the line is the client's, and the position lies in it
abbrev pub holds_step : Client → ℕ → Line → Bool
holds_step client p line = (line.client.0 == client.0) && is_within p line

-- some line of the client has the position in it
abbrev pub is_in_line : Client → ℕ → HistoryItem → Bool
is_in_line client p (LineItem line) = holds_step client p line
is_in_line client p item = false

abbrev pub IsInALine : List HistoryItem → Client → ℕ → Type 0
IsInALine items client p = list_any (is_in_line client p) items ≡ true
