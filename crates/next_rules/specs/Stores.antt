-- The table of the store.
use Rattle.std.specs.Prelude.{ℕ, ◌==◌, Option, Some, None, if◌then◌else◌}
use Rattle.std.specs.FinMap.{get, insert, remove}
use Rattle.next_ids.specs.declared.ids.DirId.{DirId}
use Rattle.next_ids.specs.declared.ids.FileId.{FileId}
use Rattle.next_ids.specs.declared.ids.Client.{Client}
use Rattle.next_ids.specs.declared.ids.Stamp.{Stamp}
use Rattle.next_ids.specs.declared.ids.Node.TheVariants.{File}
use Rattle.next_ids.specs.declared.time.Ts.{Ts}
use Rattle.next_ids.specs.declared.call.Call.TheVariants.{Truncate}
use Rattle.next_ids.specs.Times.{later, ts_at}
use Rattle.next_steps.specs.declared.contents.FileRec.{FileRec}
use Rattle.next_steps.specs.declared.ask.Ask.{Ask}
use Rattle.next_steps.specs.declared.ask.Ask.TheVariants as ask
use Rattle.next_steps.specs.declared.answer.Answer.{Answer}
use Rattle.next_steps.specs.declared.answer.Answer.TheVariants as answer
use Rattle.next_steps.specs.declared.moves.Moved.{Moved}
use Rattle.next_steps.specs.declared.moves.Moved.TheVariants.{Forget}
use Rattle.next_rules.specs.Contents.{Store, Served, unmoved, changed, made_at}
use Rattle.next_rules.specs.Primitives.{move_by}
use Rattle.next_rules.specs.Strays.{store_strays}

-- ---- Put
abbrev pub new_file : Client → DirId → Ts → FileRec
new_file client home time = record { size = 0; time = time; owner = Some client; home = home }

abbrev pub put_file : Store → Stamp → (moment : ℕ) → Client → DirId → Served Store
put_file s at moment client home =
    changed (answer.New (File (record { 0 = made_at at })))
    (insert s (made_at at) (new_file client home (ts_at moment at.number)))

-- ---- Get: the record
abbrev pub got : Option FileRec → Answer
got None = answer.None
got (Some r) = answer.File r.size r.time

-- ---- SetSize: the record
abbrev pub resized : Store → Client → FileId → (size : ℕ) → Ts → Option FileRec → Served Store
resized s client file size ts None = unmoved s answer.None
resized s client file size ts (Some r) = record {
  answer = answer.Done None;
  contents = insert s file.0 (record r { size = size; time = later r.time ts });
  moved = move_by client (Truncate file size) ts;
}

-- ---- Settle: the record's owner
abbrev pub file_owner : Option FileRec → Option Client
file_owner None = None
file_owner (Some r) = r.owner

abbrev pub settled : Store → FileId → Option FileRec → Option Client → Served Store
settled s file None owner = unmoved s answer.None
settled s file (Some r) None = unmoved s answer.None
settled s file (Some r) (Some client) = changed (answer.Done None) (insert s file.0 (record r { owner = None }))

-- ---- what removes a record: TakeBack moves nothing, DropOwed and Drop forget the file
abbrev pub cut_file : Store → FileId → Option Moved → Served Store
cut_file s file moved = record { answer = answer.Done None; contents = remove s file.0; moved = moved }

-- TakeBack and DropOwed: the record's owner is the client
abbrev pub taken_back : Store → Client → FileId → Option Moved → Option Client → Served Store
taken_back s client file moved None = unmoved s answer.None
taken_back s client file moved (Some owner) =
    if owner.0 == client.0 then cut_file s file moved else unmoved s answer.None

-- Drop: the record
abbrev pub dropped : Store → FileId → Option FileRec → Served Store
dropped s file None = unmoved s answer.None
dropped s file (Some r) = cut_file s file (Some (Forget file))

-- the table of the store; `at` is the stamp of the step, and `moment` its moment
abbrev pub serve_store : Store → (at : Stamp) → (moment : ℕ) → Ask → Served Store
serve_store s at moment (ask.Put client place home) = put_file s at moment client home
serve_store s at moment (ask.Get file) = unmoved s (got (get s file.0))
serve_store s at moment (ask.SetSize client file size ts) = resized s client file size ts (get s file.0)
serve_store s at moment (ask.Settle (File file)) = settled s file (get s file.0) (file_owner (get s file.0))
serve_store s at moment (ask.TakeBack client (File file)) = taken_back s client file None (file_owner (get s file.0))
serve_store s at moment (ask.DropOwed client (File file)) =
    taken_back s client file (Some (Forget file)) (file_owner (get s file.0))
serve_store s at moment (ask.Drop file) = dropped s file (get s file.0)
serve_store s at moment (ask.Strays place clients) = unmoved s (store_strays s at.place clients)
serve_store s at moment a = unmoved s answer.None
