-- What the places hold, and what serving an ask gives.
use Rattle.std.specs.Prelude.{ℕ, suc, zero, Bool, ◌||◌, nat_le, ◌+◌, ◌*◌, ◌%◌, List, [], ◌∷◌, max, Option, None, if◌then◌else◌, ◌==◌}
use Rattle.std.specs.FinMap.{insert, empty}
use Rattle.next_ids.specs.declared.ids.Client.{Client}
use Rattle.next_ids.specs.declared.ids.PlaceNo.{PlaceNo}
use Rattle.next_ids.specs.declared.ids.Stamp.{Stamp}
use Rattle.next_ids.specs.declared.ids.Actor.{Actor}
use Rattle.next_ids.specs.declared.ids.Node.{Node}
use Rattle.next_ids.specs.declared.ids.Node.TheVariants.{Dir, File}
use Rattle.next_ids.specs.declared.time.Ts.{Ts}
use Rattle.next_ids.specs.declared.attributes.DirAttr.{DirAttr}
use Rattle.next_ids.specs.Maps.{Names, Numbers}
use Rattle.next_ids.specs.Times.{start}
use Rattle.next_ids.specs.Attributes.{folded}
use Rattle.next_steps.specs.declared.contents.Row.{Row}
use Rattle.next_steps.specs.declared.contents.DirRec.{DirRec}
use Rattle.next_steps.specs.declared.contents.FileRec.{FileRec}
use Rattle.next_steps.specs.declared.contents.RowLock.{RowLock}
use Rattle.next_steps.specs.declared.contents.Debt.{Debt}
use Rattle.next_steps.specs.declared.contents.Job.{Job}
use Rattle.next_steps.specs.declared.ask.Ask.{Ask}
use Rattle.next_steps.specs.declared.answer.Answer.{Answer}
use Rattle.next_steps.specs.declared.entry.Entry.{Entry}
use Rattle.next_steps.specs.declared.moves.Moved.{Moved}

-- a shard has rows, records of directories, the locks of jobs on names, and debts. All shards together are four such maps,
-- of which each has the part that lies with it: rows, records and locks are with the directory's number modulo 64, and a
-- debt's key begins with the number of its shard
pub record Shard : Type 0 where
  pub rows : Names Row
  pub recs : Numbers DirRec
  pub locks : Names RowLock
  pub debts : Names Debt

-- a debt stands for a node in a shard; there, files stand before directories
abbrev pub node_key : Node → List ℕ
node_key (File file) = 0 ∷ file.0 ∷ []
node_key (Dir dir) = 1 ∷ dir.0 ∷ []

abbrev pub debt_key : PlaceNo → Node → List ℕ
debt_key place node = place.0 ∷ node_key node

-- the node of a key in a shard
abbrev pub node_of_key : List ℕ → Node
node_of_key (zero ∷ n ∷ more) = File (record { 0 = n })
node_of_key (suc kind ∷ n ∷ more) = Dir (record { 0 = n })
node_of_key key = Dir (record { 0 = 0 })

-- a store has records of files, and all stores together are one such map
abbrev pub Store : Type 0
Store = Numbers FileRec

-- the desk has jobs, the first with the number 1
abbrev pub Desk : Type 0
Desk = List Job

-- the roster has the clients that stopped and those that ended, each by rising number
pub record Roster : Type 0 where
  pub stopped : List Client
  pub ended : List Client

-- ---- the attributes of a directory: its record's base with the pending changes worked in
abbrev pub attr_of : DirRec → DirAttr
attr_of r = folded r.base r.pending

-- those of a directory without rows
abbrev pub empty_attr : Ts → DirAttr
empty_attr time = record { children = 0; subdirs = 0; time = time }

-- ---- how the places open
abbrev pub root_rec : DirRec
root_rec = record { base = empty_attr start; pending = []; back = None; owner = None; mark = None; lock = None }

-- shard 0 opens with the root's record
abbrev pub opening_shard : Shard
opening_shard = record { rows = empty; recs = insert empty 0 root_rec; locks = empty; debts = empty }

-- the others open without a record
abbrev pub empty_shard : Shard
empty_shard = record { rows = empty; recs = empty; locks = empty; debts = empty }

abbrev pub opening_part : ℕ → Shard
opening_part index = if index == 0 then opening_shard else empty_shard

abbrev pub opening_roster : Roster
opening_roster = record { stopped = []; ended = [] }

-- ---- what serving an ask gives
pub record Served (Contents : Type 0) : Type 0 where
  pub answer : Answer
  pub contents : Contents
  pub moved : Option Moved

-- the place's contents stay
abbrev pub unmoved : {C : Type 0} → C → Answer → Served C
unmoved c a = record { answer = a; contents = c; moved = None }

-- they change, and the namespace doesn't
abbrev pub changed : {C : Type 0} → Answer → C → Served C
changed a c = record { answer = a; contents = c; moved = None }

-- the entry of a step: who made it, its number and its moment, and what serving gave
abbrev pub entry_by : {C : Type 0} → Actor → (number moment : ℕ) → Ask → Served C → Entry
entry_by actor number moment ask s = record {
  actor = actor;
  number = number;
  moment = moment;
  ask = ask;
  answer = s.answer;
  moved = s.moved;
}

-- a step's number: one more than the greater of the actor's last and the place's last
abbrev pub number_after : ℕ → ℕ → ℕ
number_after last place_last = max last place_last + 1

-- a place serves nothing more: its log has 1,048,576 entries, or its last number or the actor's is 2^40 or more
abbrev pub is_full : (count last place_last : ℕ) → Bool
is_full count last place_last = nat_le 1048576 count || nat_le 1099511627776 (max last place_last)

-- the number of what a step makes: the step's number, and the index of its shard or store
abbrev pub made_at : Stamp → ℕ
made_at at = 64 * at.number + at.place.0 % 64
