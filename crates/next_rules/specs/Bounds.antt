-- How many steps a call, a job and a round take.
use Rattle.std.specs.Prelude.{◌≡◌, ℕ, ◌+◌, ◌*◌, ◌≤◌, List, [], ◌∷◌, ◌++◌, length, Bool, true, false, not, ◌&&◌, nat_le, nat_lt, if◌then◌else◌, Option, Some, None}
use Rattle.next_ids.specs.declared.ids.PlaceNo.{PlaceNo}
use Rattle.next_steps.specs.declared.answer.Answer.{Answer}
use Rattle.next_steps.specs.declared.answer.Answer.TheVariants as answer
use Rattle.next_steps.specs.declared.entry.Entry.{Entry}
use Rattle.next_steps.specs.declared.line.Line.{Line}
use Rattle.next_steps.specs.declared.line.HistoryItem.{HistoryItem}
use Rattle.next_steps.specs.declared.line.HistoryItem.TheVariants.{Line as LineItem}
use Rattle.next_ids.specs.declared.counts.Counts.{Counts}
use Rattle.next_rules.specs.Pasts.{is_by_client, is_by_renamer, is_by_collector, is_submit, is_take, is_up, is_stopped, is_leaving, steps_from, newest, touches_call, touches_job, moves_from}

-- ---- bounds on a call's own steps: 3 where it goes to the Renamer, else 8 and 4 for each move in its way
abbrev pub BoundedBy : Bool → List (PlaceNo × Entry) → Line → (steps : ℕ) → Type 0
BoundedBy true run line steps = steps ≤ 3
BoundedBy false run line steps =
    steps ≤ 8 + 4 * moves_from line.first line.client.0 (λ n. touches_call n line.call) run

-- the run as it was at the end of the call: the steps up to its last
abbrev pub up_to : Option ℕ → List (PlaceNo × Entry) → List (PlaceNo × Entry)
up_to None run = run
up_to (Some last) [] = []
up_to (Some last) (e ∷ older) = if nat_le (length older) last then e ∷ older else up_to (Some last) older

abbrev pub own_steps : Line → List (PlaceNo × Entry) → ℕ
own_steps line run =
    steps_from line.first (λ e. is_by_client line.client.0 e.actor && not (is_leaving e.ask)) run

abbrev pub handed_over : Line → List (PlaceNo × Entry) → Bool
handed_over line run =
    nat_lt 0 (steps_from line.first (λ e. is_by_client line.client.0 e.actor && is_submit e.ask) run)

abbrev pub IsBounded : List (PlaceNo × Entry) → HistoryItem → Type 0
IsBounded run (LineItem line) =
    BoundedBy (handed_over line (up_to line.last run)) (up_to line.last run) line (own_steps line (up_to line.last run))
IsBounded run item = Unit {0}

-- ---- bound on a job: 16, one for each directory of its walk, and 8 for each move in its way, since it was taken
abbrev pub JobUpTo : List (PlaceNo × Entry) → (taken : ℕ) → Answer → Type 0
JobUpTo run taken (answer.Job job client dir name to_dir to_name ts) =
    steps_from taken (λ e. is_by_renamer e.actor) run
    ≤ 16 + steps_from taken (λ e. is_by_renamer e.actor && is_up e.ask) run
    + 8 * moves_from taken client.0 (λ n. touches_job n dir name to_dir to_name) run
JobUpTo run taken a = Unit {0}

abbrev pub JobBounded : List (PlaceNo × Entry) → Type 0
JobBounded run =
    (newer older : List (PlaceNo × Entry)) (step : PlaceNo × Entry) → run ≡ newer ++ step ∷ older
    → newest (λ e. is_by_renamer e.actor && is_take e.ask) run ≡ Some (length older)
    → JobUpTo run (length older) step.1.answer

-- ---- bound on a round: one, two for each shard, one for each store, and three for each item listed
abbrev pub listed_in : Answer → ℕ
listed_in (answer.Strays strays) = length strays
listed_in a = 0

abbrev pub items_from : ℕ → List (PlaceNo × Entry) → ℕ
items_from first [] = 0
items_from first (e ∷ older) =
    if nat_le first (length older) && is_by_collector e.1.actor
    then listed_in e.1.answer + items_from first older
    else items_from first older

abbrev pub RoundBounded : Counts → List (PlaceNo × Entry) → Type 0
RoundBounded counts run =
    (first : ℕ) → newest (λ e. is_by_collector e.actor && is_stopped e.ask) run ≡ Some first
    → steps_from first (λ e. is_by_collector e.actor) run
    ≤ 1 + 2 * counts.shards + counts.stores + 3 * items_from first run
