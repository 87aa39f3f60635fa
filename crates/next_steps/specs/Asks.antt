-- The place of an ask, and the time that it has.
use Rattle.std.specs.Prelude.{◌+◌, ◌%◌, Bool, true, ◌&&◌, nat_lt, nat_le}
use Rattle.next_ids.specs.declared.ids.DirId.{DirId}
use Rattle.next_ids.specs.declared.ids.Node.{Node}
use Rattle.next_ids.specs.declared.ids.Node.TheVariants.{Dir, File}
use Rattle.next_ids.specs.declared.ids.PlaceNo.{PlaceNo}
use Rattle.next_ids.specs.declared.time.Ts.{Ts}
use Rattle.next_ids.specs.Times.{start, ts_at}
use Rattle.next_steps.specs.declared.ask.Ask.{Ask}
use Rattle.next_steps.specs.declared.ask.Ask.TheVariants as ask
use Rattle.next_steps.specs.declared.entry.Entry.{Entry}

-- a directory lies in the shard of its number modulo 64
abbrev pub shard_of : DirId → PlaceNo
shard_of dir = record { 0 = dir.0 % 64 }

-- where the record of a node is
abbrev pub home_of : Node → PlaceNo
home_of (Dir dir) = shard_of dir
home_of (File file) = record { 0 = 64 + file.0 % 64 }

abbrev pub desk : PlaceNo
desk = record { 0 = 128 }

abbrev pub roster : PlaceNo
roster = record { 0 = 129 }

abbrev pub place_of : Ask → PlaceNo
place_of (ask.Read dir name) = shard_of dir
place_of (ask.List dir) = shard_of dir
place_of (ask.Look dir back) = shard_of dir
place_of (ask.PutDir client at dir name) = at
place_of (ask.Insert client dir name node ts) = shard_of dir
place_of (ask.Delete client dir name ts) = shard_of dir
place_of (ask.Swap client dir name to_name ts) = shard_of dir
place_of (ask.Mark client child dir name ts) = shard_of child
place_of (ask.Remove note) = shard_of note.dir
place_of (ask.Settle node) = home_of node
place_of (ask.TakeBack client node) = home_of node
place_of (ask.DropOwed client node) = home_of node
place_of (ask.DropRec dir) = shard_of dir
place_of (ask.Clear at node) = at
place_of (ask.Merge at) = at
place_of (ask.LockRec job child dir name kind) = shard_of child
place_of (ask.LockRow job dir name side want reserves) = shard_of dir
place_of (ask.Commit job client dir name to_dir to_name node ts) = shard_of to_dir
place_of (ask.CutSource job dir name ts) = shard_of dir
place_of (ask.Rebase job child dir name) = shard_of child
place_of (ask.UnlockRow job dir name) = shard_of dir
place_of (ask.UnlockRec job child) = shard_of child
place_of (ask.Up dir) = shard_of dir
place_of (ask.Strays at clients) = at
place_of (ask.Names dir node) = shard_of dir
place_of (ask.Put client at home) = at
place_of (ask.Get file) = home_of (File file)
place_of (ask.SetSize client file size ts) = home_of (File file)
place_of (ask.Drop file) = home_of (File file)
place_of (ask.Submit client dir name to_dir to_name ts) = desk
place_of ask.TakeJob = desk
place_of (ask.Reply job reply at) = desk
place_of (ask.Collect job) = desk
place_of (ask.Stop client) = roster
place_of (ask.End client) = roster
place_of ask.Stopped = roster

-- whether an ask is one of those that places of its place's kind serve: places below 64 are shards, those below 128 stores
abbrev pub suits : Ask → Bool
suits (ask.PutDir client at dir name) = nat_lt at.0 64
suits (ask.Clear at node) = nat_lt at.0 64
suits (ask.Merge at) = nat_lt at.0 64
suits (ask.Put client at home) = nat_le 64 at.0 && nat_lt at.0 128
suits (ask.Strays at clients) = nat_lt at.0 128
suits ask = true

-- the time of an ask, for a put that of its step, which is `now`; others have none
abbrev pub ts_in : (now : Ts) → Ask → Ts
ts_in now (ask.Put client at home) = now
ts_in now (ask.PutDir client at dir name) = now
ts_in now (ask.Insert client dir name node ts) = ts
ts_in now (ask.Delete client dir name ts) = ts
ts_in now (ask.Swap client dir name to_name ts) = ts
ts_in now (ask.Mark client child dir name ts) = ts
ts_in now (ask.Submit client dir name to_dir to_name ts) = ts
ts_in now (ask.SetSize client file size ts) = ts
ts_in now ask = start

-- the time that a call takes from the entry of its step, and keeps
abbrev pub ts_of : Entry → Ts
ts_of entry = ts_in (ts_at entry.moment entry.number) entry.ask
