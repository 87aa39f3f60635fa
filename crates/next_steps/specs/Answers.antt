-- The answers that the tables list for an ask.
use Rattle.std.specs.Prelude.{◌^◌, Bool, true, false, ◌&&◌, nat_le, Some, None}
use Rattle.next_ids.specs.declared.ids.Node.TheVariants.{Dir, File}
use Rattle.next_ids.specs.declared.attributes.DirAttr.{DirAttr}
use Rattle.next_steps.specs.declared.ask.Ask.{Ask}
use Rattle.next_steps.specs.declared.ask.Ask.TheVariants as ask
use Rattle.next_steps.specs.declared.answer.Answer.{Answer}
use Rattle.next_steps.specs.declared.answer.Answer.TheVariants as answer

-- Done or None: what is there is changed, and else there is nothing to change
abbrev pub changes : Answer → Bool
changes (answer.Done None) = true
changes answer.None = true
changes a = false

-- counts that come out of a fold: 0 to 2^62
abbrev pub are_counts : DirAttr → Bool
are_counts attr = nat_le attr.children (2 ^ 62) && nat_le attr.subdirs (2 ^ 62)

abbrev pub lists : Ask → Answer → Bool
-- reading
lists (ask.Read dir name) (answer.Locked job) = true
lists (ask.Read dir name) answer.Absent = true
lists (ask.Read dir name) (answer.Found node stamp) = true
lists (ask.List dir) answer.NoDir = true
lists (ask.List dir) (answer.Leaving note) = true
lists (ask.List dir) (answer.Locked job) = true
lists (ask.List dir) (answer.Rows rows) = true
lists (ask.Look dir back) answer.NoDir = true
lists (ask.Look dir back) (answer.Locked job) = true
lists (ask.Look dir back) answer.Moved = true
lists (ask.Look dir back) (answer.Leaving note) = true
lists (ask.Look dir back) (answer.Attr attr) = are_counts attr
-- primitives
lists (ask.PutDir client at dir name) (answer.New (Dir child)) = true
lists (ask.Insert client dir name node ts) answer.NoDir = true
lists (ask.Insert client dir name node ts) (answer.Leaving note) = true
lists (ask.Insert client dir name node ts) (answer.Locked job) = true
lists (ask.Insert client dir name node ts) answer.Exists = true
lists (ask.Insert client dir name (Dir child) ts) answer.Full = true
lists (ask.Insert client dir name node ts) (answer.Done None) = true
lists (ask.Delete client dir name ts) (answer.Locked job) = true
lists (ask.Delete client dir name ts) answer.Absent = true
lists (ask.Delete client dir name ts) answer.IsDir = true
lists (ask.Delete client dir name ts) (answer.Done (Some (File file))) = true
lists (ask.Swap client dir name to_name ts) (answer.Locked job) = true
lists (ask.Swap client dir name to_name ts) answer.Absent = true
lists (ask.Swap client dir name to_name ts) answer.Same = true
lists (ask.Swap client dir name to_name ts) answer.SourceIsDir = true
lists (ask.Swap client dir name to_name ts) answer.TargetIsDir = true
lists (ask.Swap client dir name to_name ts) (answer.Done None) = true
lists (ask.Swap client dir name to_name ts) (answer.Done (Some (File file))) = true
-- removing a directory
lists (ask.Mark client child dir name ts) answer.Gone = true
lists (ask.Mark client child dir name ts) (answer.Locked job) = true
lists (ask.Mark client child dir name ts) (answer.Leaving note) = true
lists (ask.Mark client child dir name ts) answer.NotEmpty = true
lists (ask.Mark client child dir name ts) (answer.Done None) = true
lists (ask.Remove note) (answer.Already stamp) = true
lists (ask.Remove note) (answer.Done None) = true
lists (ask.Remove note) answer.Absent = true
-- for the Renamer
lists (ask.LockRec job child dir name kind) answer.Gone = true
lists (ask.LockRec job child dir name kind) (answer.Locked other) = true
lists (ask.LockRec job child dir name kind) (answer.Leaving note) = true
lists (ask.LockRec job child dir name kind) answer.NotEmpty = true
lists (ask.LockRec job child dir name kind) (answer.Done None) = true
lists (ask.LockRow job dir name side want reserves) answer.NoDir = true
lists (ask.LockRow job dir name side want reserves) (answer.Leaving note) = true
lists (ask.LockRow job dir name side want reserves) (answer.Locked other) = true
lists (ask.LockRow job dir name side want reserves) (answer.Changed found) = true
lists (ask.LockRow job dir name side want true) answer.Full = true
lists (ask.LockRow job dir name side want reserves) (answer.Done None) = true
lists (ask.Commit job client dir name to_dir to_name node ts) answer.None = true
lists (ask.Commit job client dir name to_dir to_name node ts) (answer.Done replaced) = true
lists (ask.Up dir) answer.NoDir = true
lists (ask.Up dir) answer.Top = true
lists (ask.Up dir) (answer.Parent parent) = true
-- for the collector
lists (ask.Strays at clients) (answer.Strays strays) = true
lists (ask.Names dir node) answer.Yes = true
lists (ask.Names dir node) answer.No = true
-- store, desk and roster
lists (ask.Put client at home) (answer.New (File file)) = true
lists (ask.Get file) answer.None = true
lists (ask.Get file) (answer.File size time) = true
lists (ask.Submit client dir name to_dir to_name ts) (answer.Submitted job) = true
lists ask.TakeJob (answer.Job job client dir name to_dir to_name ts) = true
lists (ask.Collect job) (answer.Answered reply at) = true
lists ask.Stopped (answer.Clients clients) = true
lists (ask.Reply job reply at) (answer.Done None) = true
lists (ask.Stop client) (answer.Done None) = true
lists (ask.End client) (answer.Done None) = true
lists (ask.Merge at) (answer.Done None) = true
-- those that change what is there
lists (ask.SetSize client file size ts) a = changes a
lists (ask.Settle node) a = changes a
lists (ask.TakeBack client node) a = changes a
lists (ask.DropOwed client node) a = changes a
lists (ask.DropRec dir) a = changes a
lists (ask.Drop file) a = changes a
lists (ask.Clear at node) a = changes a
lists (ask.CutSource job dir name ts) a = changes a
lists (ask.Rebase job child dir name) a = changes a
lists (ask.UnlockRow job dir name) a = changes a
lists (ask.UnlockRec job child) a = changes a
lists a b = false
