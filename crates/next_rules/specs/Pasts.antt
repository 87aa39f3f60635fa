-- What a run tells of the past: what the places held before a step, and which steps and moves lie since a position.
use Rattle.std.specs.Prelude.{not, ℕ, suc, List, [], ◌∷◌, length, Bool, true, false, ◌&&◌, ◌||◌, ◌==◌, nat_le, Option, Some, None, if◌then◌else◌}
use Rattle.std.specs.FinMap.{get}
use Rattle.next_ids.specs.declared.ids.DirId.{DirId}
use Rattle.next_ids.specs.declared.ids.PlaceNo.{PlaceNo}
use Rattle.next_ids.specs.declared.ids.Actor.{Actor}
use Rattle.next_ids.specs.declared.ids.Actor.TheVariants.{Client as ClientActor, Renamer, Collector}
use Rattle.next_ids.specs.declared.ids.Node.{Node}
use Rattle.next_ids.specs.declared.call.Call.{Call}
use Rattle.next_ids.specs.declared.call.Call.TheVariants.{Lookup, List as ListCall, StatRoot, Stat, Create, Mkdir, Unlink, Rmdir, Truncate, Rename}
use Rattle.next_ids.specs.Namespace.{Namespace, node_at, names_dir, is_one_name, is_node}
use Rattle.next_steps.specs.declared.ask.Ask.{Ask}
use Rattle.next_steps.specs.declared.ask.Ask.TheVariants as ask
use Rattle.next_steps.specs.declared.answer.Answer.{Answer}
use Rattle.next_steps.specs.declared.answer.Answer.TheVariants as answer
use Rattle.next_steps.specs.declared.entry.Entry.{Entry}
use Rattle.next_steps.specs.declared.moves.Moved.{Moved}
use Rattle.next_steps.specs.declared.moves.Moved.TheVariants.{Move, Forget}
use Rattle.next_rules.specs.Contents.{Served}
use Rattle.next_rules.specs.Worlds.{Service, opening_service, serve, stamped}
use Rattle.next_rules.specs.Moves.{space}

-- ---- what the places held after these steps
abbrev pub contents_after : Service → Option (Served Service) → Service
contents_after v None = v
contents_after v (Some s) = s.contents

abbrev pub service_of : List (PlaceNo × Entry) → Service
service_of [] = opening_service
service_of (e ∷ older) =
    contents_after (service_of older) (serve (service_of older) (stamped e.1.number e.1.ask) e.1.moment e.1.ask)

-- ---- who made a step, and which step it is
abbrev pub is_by_client : ℕ → Actor → Bool
is_by_client c (ClientActor client) = client.0 == c
is_by_client c Renamer = false
is_by_client c Collector = false

abbrev pub is_by_renamer : Actor → Bool
is_by_renamer (ClientActor client) = false
is_by_renamer Renamer = true
is_by_renamer Collector = false

abbrev pub is_by_collector : Actor → Bool
is_by_collector (ClientActor client) = false
is_by_collector Renamer = false
is_by_collector Collector = true

abbrev pub is_submit : Ask → Bool
is_submit (ask.Submit client dir name to_dir to_name ts) = true
is_submit a = false

abbrev pub is_take : Ask → Bool
is_take ask.TakeJob = true
is_take a = false

abbrev pub is_up : Ask → Bool
is_up (ask.Up dir) = true
is_up a = false

-- a Stop or End, which is no step of a call
abbrev pub is_leaving : Ask → Bool
is_leaving (ask.Stop client) = true
is_leaving (ask.End client) = true
is_leaving a = false

abbrev pub is_stopped : Ask → Bool
is_stopped ask.Stopped = true
is_stopped a = false

-- ---- the steps from a position on that pass a test
abbrev pub steps_from : ℕ → (Entry → Bool) → List (PlaceNo × Entry) → ℕ
steps_from first p [] = 0
steps_from first p (e ∷ older) =
    if nat_le first (length older) && p e.1 then suc (steps_from first p older) else steps_from first p older

-- the position of the newest step that passes a test
abbrev pub newest : (Entry → Bool) → List (PlaceNo × Entry) → Option ℕ
newest p [] = None
newest p (e ∷ older) = if p e.1 then Some (length older) else newest p older

-- ---- which moves stand in a call's way: those that change a name, and those that remove a directory
abbrev pub changes_name : DirId → List ℕ → Call → Bool
changes_name dir name (Create d n) = is_one_name dir name d n
changes_name dir name (Mkdir d n) = is_one_name dir name d n
changes_name dir name (Unlink d n) = is_one_name dir name d n
changes_name dir name (Rmdir d n) = is_one_name dir name d n
changes_name dir name (Rename d n td tn) = is_one_name dir name d n || is_one_name dir name td tn
changes_name dir name c = false

abbrev pub is_dir_at : Namespace → DirId → DirId → List ℕ → Option Node → Bool
is_dir_at n dir d name None = false
is_dir_at n dir d name (Some node) = names_dir dir.0 node

-- in the namespace before the move
abbrev pub removes_dir : Namespace → DirId → Call → Bool
removes_dir n dir (Rmdir d name) = is_dir_at n dir d name (node_at (get n.dirs d.0) name)
removes_dir n dir (Rename d name td tn) = is_dir_at n dir td tn (node_at (get n.dirs td.0) tn)
removes_dir n dir c = false

abbrev pub touches_call : Namespace → Call → (move : Call) → Bool
touches_call n (Lookup dir name) c = changes_name dir name c || removes_dir n dir c
touches_call n (ListCall dir) c = removes_dir n dir c
touches_call n StatRoot c = false
touches_call n (Stat dir name) c = changes_name dir name c || removes_dir n dir c
touches_call n (Create dir name) c = changes_name dir name c || removes_dir n dir c
touches_call n (Mkdir dir name) c = changes_name dir name c || removes_dir n dir c
touches_call n (Unlink dir name) c = changes_name dir name c || removes_dir n dir c
touches_call n (Rmdir dir name) c = changes_name dir name c || removes_dir n dir c
touches_call n (Truncate file size) c = false
touches_call n (Rename dir name to_dir to_name) c =
    changes_name dir name c || (changes_name to_dir to_name c || (removes_dir n dir c || removes_dir n to_dir c))

-- either name of a job, or the directory of its new name
abbrev pub touches_job : Namespace → (dir : DirId) → (name : List ℕ) → (to_dir : DirId) → (to_name : List ℕ)
    → (move : Call) → Bool
touches_job n dir name to_dir to_name c =
    changes_name dir name c || (changes_name to_dir to_name c || removes_dir n to_dir c)

-- a move of another client that passes a test
abbrev pub moved_so : ℕ → (Call → Bool) → Option Moved → Bool
moved_so c p None = false
moved_so c p (Some (Move m)) = not (m.client.0 == c) && p m.call
moved_so c p (Some (Forget file)) = false

-- the moves of others than the client from a position on that pass a test, each in the namespace before it
abbrev pub moves_from : ℕ → (c : ℕ) → (Namespace → Call → Bool) → List (PlaceNo × Entry) → ℕ
moves_from first c p [] = 0
moves_from first c p (e ∷ older) =
    if nat_le first (length older) && moved_so c (p (space older)) e.1.moved
    then suc (moves_from first c p older)
    else moves_from first c p older

-- ---- whether an Insert of the node was done
abbrev pub is_done : Answer → Bool
is_done (answer.Done replaced) = true
is_done a = false

abbrev pub inserts : Node → Ask → Bool
inserts node (ask.Insert client dir name made ts) = is_node node made
inserts node a = false

abbrev pub was_inserted : Node → List (PlaceNo × Entry) → Bool
was_inserted node [] = false
was_inserted node (e ∷ older) = (inserts node e.1.ask && is_done e.1.answer) || was_inserted node older
