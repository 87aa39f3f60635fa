-- The tables of the places: what an ask is answered, what it leaves and what it moved.
use Rattle.std.specs.Prelude.{ℕ, Bool, ◌||◌, nat_le, ◌+◌, ◌*◌, ◌%◌, List, [], ◌∷◌, ◌++◌, map, max, Option, Some, None, if◌then◌else◌, ◌==◌}
use Rattle.std.specs.FinMap.{get, insert, remove, empty, entries, from_entries}
use Rattle.cfs_ids.specs.declared.ids.DirId.{DirId}
use Rattle.cfs_ids.specs.declared.ids.FileId.{FileId}
use Rattle.cfs_ids.specs.declared.ids.Client.{Client}
use Rattle.cfs_ids.specs.declared.ids.Stamp.{Stamp}
use Rattle.cfs_ids.specs.declared.ids.Actor.{Actor}
use Rattle.cfs_ids.specs.declared.ids.Node.{Node}
use Rattle.cfs_ids.specs.declared.ids.Node.TheVariants.{Dir, File}
use Rattle.cfs_ids.specs.declared.ids.JobNo.{JobNo}
use Rattle.cfs_ids.specs.declared.attributes.DirAttr.{DirAttr}
use Rattle.cfs_ids.specs.Maps.{Names, Numbers, row_key, within}
use Rattle.cfs_ids.specs.Namespace.{is_dir}
use Rattle.cfs_steps.specs.declared.contents.Row.{Row}
use Rattle.cfs_steps.specs.declared.contents.DirRec.{DirRec}
use Rattle.cfs_steps.specs.declared.contents.FileRec.{FileRec}
use Rattle.cfs_steps.specs.declared.contents.RowLock.{RowLock}
use Rattle.cfs_steps.specs.declared.ask.Ask.{Ask}
use Rattle.cfs_steps.specs.declared.ask.Ask.TheVariants.{Read, List as ListAsk, Insert, Put, PutDir, Settle, TakeBack, End}
use Rattle.cfs_steps.specs.declared.answer.Answer.{Answer}
use Rattle.cfs_steps.specs.declared.answer.Answer.TheVariants.{Absent, Found, NoDir, Locked, Rows, New, Exists, Done, None as NoneAnswer}
use Rattle.cfs_steps.specs.declared.entry.Entry.{Entry}
use Rattle.cfs_steps.specs.declared.moves.Moved.{Moved}
use Rattle.cfs_steps.specs.declared.moves.Moved.TheVariants.{Move}
use Rattle.cfs_steps.specs.Phases.{maker}
use Rattle.cfs_rules.specs.Locks.{lock_met}

-- a shard has rows, records of directories, and the locks of jobs on names. All shards together are three such maps, of
-- which each has the part whose directories' numbers are its own modulo 64
pub record Shard : Type 0 where
  pub rows : Names Row
  pub recs : Numbers DirRec
  pub locks : Names RowLock

-- a store has records of files, and all stores together are one such map
abbrev pub Store : Type 0
Store = Numbers FileRec

-- the roster has the clients that ended
abbrev pub Roster : Type 0
Roster = List Client

abbrev pub empty_attr : DirAttr
empty_attr = record { children = 0; subdirs = 0; time = 0 }

abbrev pub root_rec : DirRec
root_rec = record { attr = empty_attr; back = None; owner = None; lock = None }

-- shard 0 opens with the root's record
abbrev pub opening_shard : Shard
opening_shard = record { rows = empty; recs = insert empty 0 root_rec; locks = empty }

-- the others open without a record
abbrev pub empty_shard : Shard
empty_shard = record { rows = empty; recs = empty; locks = empty }

abbrev pub opening_part : ℕ → Shard
opening_part index = if index == 0 then opening_shard else empty_shard

-- what serving an ask gives
pub record Served (Contents : Type 0) : Type 0 where
  pub answer : Answer
  pub contents : Contents
  pub moved : Option Moved

abbrev pub unmoved : {C : Type 0} → C → Answer → Served C
unmoved c a = record { answer = a; contents = c; moved = None }

-- the entry of a step: who made it, its number, and what serving gave
abbrev pub entry_by : {C : Type 0} → Actor → ℕ → Ask → Served C → Entry
entry_by actor number ask s = record { actor = actor; number = number; ask = ask; answer = s.answer; moved = s.moved }

-- a step's number: one more than the greater of the actor's last and the place's last
abbrev pub number_after : ℕ → ℕ → ℕ
number_after last place_last = max last place_last + 1

-- a place serves nothing more: its log has 1,048,576 entries, or its last number or the actor's is 2^40 or more
abbrev pub is_full : (count last place_last : ℕ) → Bool
is_full count last place_last = nat_le 1048576 count || nat_le 1099511627776 (max last place_last)

-- the number of what a step makes: the step's number, and the index of its shard or store
abbrev pub made_at : Stamp → ℕ
made_at at = 64 * at.number + at.place.0 % 64

-- ---- the shard
abbrev pub read_row : Option Row → Answer
read_row None = Absent
read_row (Some row) = Found row.node row.stamp

-- the nodes of a directory, by rising name
abbrev pub names_of : Shard → ℕ → Names Node
names_of s d = from_entries (map (λ e. (e.0, e.1.node)) (within d (entries s.rows)))

abbrev pub list_rows : Shard → ℕ → Option DirRec → Answer
list_rows s d None = NoDir
list_rows s d (Some r) = Rows (entries (names_of s d))

-- one more row that names the node, at a time
abbrev pub updated : DirAttr → Node → ℕ → DirAttr
updated attr node ts = record { children = attr.children + 1; subdirs = attr.subdirs + (if is_dir node then 1 else 0); time = max attr.time ts }

abbrev pub with_row : Shard → Stamp → DirId → List ℕ → Node → ℕ → DirRec → Shard
with_row s at dir name node ts r = record s {
  rows = insert s.rows (row_key dir name) (record { node = node; stamp = at });
  recs = insert s.recs dir.0 (record r { attr = updated r.attr node ts });
}

abbrev pub inserted : Shard → Stamp → Client → DirId → List ℕ → Node → ℕ → Option DirRec → Option Row → Served Shard
inserted s at client dir name node ts None row = unmoved s NoDir
inserted s at client dir name node ts (Some r) (Some row) = unmoved s Exists
inserted s at client dir name node ts (Some r) None = record {
  answer = Done None;
  contents = with_row s at dir name node ts r;
  moved = Some (Move (record { client = client; call = maker dir name node; ts = ts; made = Some node }));
}

abbrev pub with_recs : Shard → Numbers DirRec → Shard
with_recs s recs = record s { recs = recs }

-- a directory without rows, which its client means to name here
abbrev pub new_dir : Client → DirId → List ℕ → ℕ → DirRec
new_dir client dir name number = record { attr = record { children = 0; subdirs = 0; time = number }; back = Some (dir, name); owner = Some client; lock = None }

abbrev pub put_dir : Shard → Stamp → Client → DirId → List ℕ → Served Shard
put_dir s at client dir name = unmoved (with_recs s (insert s.recs (made_at at) (new_dir client dir name at.number))) (New (Dir (record { 0 = made_at at })))

abbrev pub settle_dir_owner : Shard → DirId → DirRec → Option Client → Served Shard
settle_dir_owner s dir r None = unmoved s NoneAnswer
settle_dir_owner s dir r (Some c) = unmoved (with_recs s (insert s.recs dir.0 (record r { owner = None }))) (Done None)

abbrev pub settled_dir : Shard → DirId → Option DirRec → Served Shard
settled_dir s dir None = unmoved s NoneAnswer
settled_dir s dir (Some r) = settle_dir_owner s dir r r.owner

abbrev pub take_owned_dir : Shard → Client → DirId → Option Client → Served Shard
take_owned_dir s client dir None = unmoved s NoneAnswer
take_owned_dir s client dir (Some c) = if c.0 == client.0 then unmoved (with_recs s (remove s.recs dir.0)) (Done None) else unmoved s NoneAnswer

abbrev pub taken_back_dir : Shard → Client → DirId → Option DirRec → Served Shard
taken_back_dir s client dir None = unmoved s NoneAnswer
taken_back_dir s client dir (Some r) = take_owned_dir s client dir r.owner

-- the table of the shard where no lock is met; `at` is the stamp of the step
abbrev pub serve_free : Shard → Stamp → Ask → Served Shard
serve_free s at (Read dir name) = unmoved s (read_row (get s.rows (row_key dir name)))
serve_free s at (ListAsk dir) = unmoved s (list_rows s dir.0 (get s.recs dir.0))
serve_free s at (Insert client dir name node ts) = inserted s at client dir name node ts (get s.recs dir.0) (get s.rows (row_key dir name))
serve_free s at (PutDir client place dir name) = put_dir s at client dir name
serve_free s at (Settle (Dir dir)) = settled_dir s dir (get s.recs dir.0)
serve_free s at (TakeBack client (Dir dir)) = taken_back_dir s client dir (get s.recs dir.0)
serve_free s at _ = unmoved s NoneAnswer

abbrev pub unless_locked : Option JobNo → Shard → Served Shard → Served Shard
unless_locked None s served = served
unless_locked (Some job) s served = unmoved s (Locked job)

-- the table of the shard
abbrev pub serve_shard : Shard → Stamp → Ask → Served Shard
serve_shard s at ask = unless_locked (lock_met s.locks s.recs ask) s (serve_free s at ask)

-- ---- the store
abbrev pub settle_owner : Store → FileId → FileRec → Option Client → Served Store
settle_owner s file r None = unmoved s NoneAnswer
settle_owner s file r (Some c) = unmoved (insert s file.0 (record r { owner = None })) (Done None)

abbrev pub settled : Store → FileId → Option FileRec → Served Store
settled s file None = unmoved s NoneAnswer
settled s file (Some r) = settle_owner s file r r.owner

abbrev pub take_owned : Store → Client → FileId → Option Client → Served Store
take_owned s client file None = unmoved s NoneAnswer
take_owned s client file (Some c) = if c.0 == client.0 then unmoved (remove s file.0) (Done None) else unmoved s NoneAnswer

abbrev pub taken_back : Store → Client → FileId → Option FileRec → Served Store
taken_back s client file None = unmoved s NoneAnswer
taken_back s client file (Some r) = take_owned s client file r.owner

abbrev pub new_file : Client → DirId → ℕ → FileRec
new_file client home number = record { size = 0; time = number; owner = Some client; home = home }

abbrev pub put_file : Store → Stamp → Client → DirId → Served Store
put_file s at client home = unmoved (insert s (made_at at) (new_file client home at.number)) (New (File (record { 0 = made_at at })))

-- the table of the store; `at` is the stamp of the step
abbrev pub serve_store : Store → Stamp → Ask → Served Store
serve_store s at (Put client place home) = put_file s at client home
serve_store s at (Settle (File file)) = settled s file (get s file.0)
serve_store s at (TakeBack client (File file)) = taken_back s client file (get s file.0)
serve_store s at _ = unmoved s NoneAnswer

-- ---- the roster
abbrev pub serve_roster : Roster → Ask → Served Roster
serve_roster r (End client) = unmoved (r ++ client ∷ []) (Done None)
serve_roster r _ = unmoved r NoneAnswer

-- ---- the desk, which has nothing to change yet
abbrev pub serve_desk : Ask → Served (Unit {0})
serve_desk ask = unmoved tt NoneAnswer
