-- What a place answers to the first ask of a call is an answer that the call goes on from.
use Rattle.std.proofs.Common.{◌≡◌, ℕ, ◌+◌, ◌<◌, Bool, true, false, refl, subst, arith}
use Rattle.std.specs.Prelude.{◌%◌, ◌==◌, nat_lt, Option, Some, None, if◌then◌else◌}
use Rattle.std.proofs.lemmas.Bool.Decides.{nat_tests}
use Rattle.std.specs.Str.{bytes_eq}
use Rattle.std.specs.FinMap.{get}
use Rattle.next_ids.specs.declared.ids.DirId.{DirId}
use Rattle.next_ids.specs.declared.ids.FileId.{FileId}
use Rattle.next_ids.specs.declared.ids.Client.{Client}
use Rattle.next_ids.specs.declared.ids.JobNo.{JobNo}
use Rattle.next_ids.specs.declared.ids.Stamp.{Stamp}
use Rattle.next_ids.specs.declared.ids.Node.{Node}
use Rattle.next_ids.specs.declared.ids.Node.TheVariants.{Dir, File}
use Rattle.next_ids.specs.declared.note.MarkNote.{MarkNote}
use Rattle.next_ids.specs.declared.time.Ts.{Ts}
use Rattle.next_ids.specs.declared.call.Call.{Call}
use Rattle.next_ids.specs.declared.call.Call.TheVariants as call
use Rattle.next_ids.specs.Maps.{row_key}
use Rattle.next_steps.specs.declared.contents.Row.{Row}
use Rattle.next_steps.specs.declared.contents.DirRec.{DirRec}
use Rattle.next_steps.specs.declared.contents.FileRec.{FileRec}
use Rattle.next_steps.specs.declared.ask.Ask.{Ask}
use Rattle.next_steps.specs.declared.ask.Ask.TheVariants as ask
use Rattle.next_steps.specs.declared.answer.Answer.{Answer}
use Rattle.next_steps.specs.declared.answer.Answer.TheVariants as answer
use Rattle.next_steps.specs.Asks.{place_of}
use Rattle.next_steps.specs.Counts.{shard_place, store_place}
use Rattle.next_steps.specs.Readers.{heard_lookup, heard_list, heard_root, heard_row}
use Rattle.next_steps.specs.Writers.{heard_delete, heard_size, heard_rename}
use Rattle.next_steps.specs.Removers.{heard_name}
use Rattle.next_steps.specs.Calls.{first_ask, heard_first}
use Rattle.next_rules.specs.Contents.{Shard, Store, Desk, Served}
use Rattle.next_rules.specs.Reading.{read_row, list_rows, mark_in}
use Rattle.next_rules.specs.Locks.{source_at, list_lock, lock_at, swap_lock}
use Rattle.next_rules.specs.Changes.{node_in}
use Rattle.next_rules.specs.Primitives.{deleted, swap_onto, swap_from}
use Rattle.next_rules.specs.Stores.{resized, serve_store}
use Rattle.next_rules.specs.Desks.{submitted}
use Rattle.next_rules.specs.Places.{serve_shard}
use Rattle.next_rules.specs.Worlds.{Service, in_shard, in_store, serve, stamped}
use Rattle.next_laws_order.proofs.Heard.{is_asking}

-- ---- by what was found
lookup-heard : (dir : DirId) (name : _) (s : Stamp) (source : Option JobNo) (row : Option Row) → is_asking (heard_lookup dir name s (read_row source row)) ≡ false
lookup-heard dir name s (Some job) row = refl
lookup-heard dir name s None None = refl
lookup-heard dir name s None (Some row) = refl

list-heard : (shard : Shard) (dir : DirId) (s : Stamp) (r : Option DirRec) (mark : Option MarkNote) (lock : Option JobNo) → is_asking (heard_list dir s (list_rows shard dir r mark lock)) ≡ false
list-heard shard dir s None mark lock = refl
list-heard shard dir s (Some r) (Some note) lock = refl
list-heard shard dir s (Some r) None (Some job) = refl
list-heard shard dir s (Some r) None None = refl

delete-heard : (shard : Shard) (at : Stamp) (c : Client) (dir : DirId) (name : _) (ts : Ts) (t : Ts) (s : Stamp) (lock : Option JobNo) (found : Option Node) → is_asking (heard_delete dir name t s (deleted shard at c dir name ts lock found).answer) ≡ false
delete-heard shard at c dir name ts t s (Some job) found = refl
delete-heard shard at c dir name ts t s None None = refl
delete-heard shard at c dir name ts t s None (Some (Dir child)) = refl
delete-heard shard at c dir name ts t s None (Some (File file)) = refl

module _ (shard : Shard) (at : Stamp) (c : Client) (dir : DirId) (name to_name : _) (ts t : Ts) (d to_dir : DirId) (s : Stamp) where
  onto-heard : (file : FileId) (old : Option Node) → is_asking (heard_rename d name to_dir to_name t s (swap_onto shard at c dir name to_name ts file old).answer) ≡ false
  onto-heard file (Some (Dir old)) = refl
  onto-heard file (Some (File old)) = refl
  onto-heard file None = refl

  swap-heard : (lock : Option JobNo) (found : Option Node) (same : Bool) (old : Option Node) → is_asking (heard_rename d name to_dir to_name t s (swap_from shard at c dir name to_name ts lock found same old).answer) ≡ false
  swap-heard (Some job) found same old = refl
  swap-heard None None same old = refl
  swap-heard None (Some node) true old = refl
  swap-heard None (Some (Dir child)) false old = refl
  swap-heard None (Some (File file)) false old = onto-heard file old

size-heard : (store : Store) (c : Client) (file : FileId) (size : ℕ) (ts t : Ts) (s : Stamp) (r : Option FileRec) → is_asking (heard_size file size t s (resized store c file size ts r).answer) ≡ false
size-heard store c file size ts t s None = refl
size-heard store c file size ts t s (Some r) = refl

-- a stat and a rmdir go on from any answer
root-heard : (first s : Stamp) (a : Answer) → is_asking (heard_root first s a) ≡ false
root-heard first s (answer.Attr attr) = refl
root-heard first s (answer.Locked job) = refl
root-heard first s a = refl

row-heard : (dir : DirId) (name : _) (first s : Stamp) (a : Answer) → is_asking (heard_row dir name first s a) ≡ false
row-heard dir name first s answer.Absent = refl
row-heard dir name first s (answer.Locked job) = refl
row-heard dir name first s (answer.Found (Dir child) row) = refl
row-heard dir name first s (answer.Found (File file) row) = refl
row-heard dir name first s a = refl

name-heard : (dir : DirId) (name : _) (first s : Stamp) (a : Answer) → is_asking (heard_name dir name None first s a) ≡ false
name-heard dir name first s answer.Absent = refl
name-heard dir name first s (answer.Locked job) = refl
name-heard dir name first s (answer.Found (Dir child) row) = refl
name-heard dir name first s (answer.Found (File file) row) = refl
name-heard dir name first s a = refl

-- ---- by the place
abbrev from_desk : Service → Served Desk → Served Service
from_desk v s = record { answer = s.answer; contents = record v { desk = s.contents }; moved = s.moved }

shard_low : (n : ℕ) → nat_lt (n % 64) 64 ≡ true
shard_low n = let low : n % 64 < 64 = omega arith in grind (arith, nat_tests)

module _ (v : Service) (number moment : ℕ) (x : Ask) (s : Served Service) (is : serve v (stamped number x) moment x ≡ Some s) where
  by_shard : nat_lt (place_of x).0 64 ≡ true → (P : Answer → Type 0) → P (serve_shard v.shard (stamped number x) moment x).answer → P s.answer
  by_shard low P h =
      let e : Some (in_shard v (serve_shard v.shard (stamped number x) moment x)) ≡ Some s = rw low at is in
      let same : in_shard v (serve_shard v.shard (stamped number x) moment x) ≡ s = cc in
      subst (λ (t : Served Service). P t.answer) same h

  by_store : nat_lt (place_of x).0 64 ≡ false → nat_lt (place_of x).0 128 ≡ true → (P : Answer → Type 0) → P (serve_store v.store (stamped number x) moment x).answer → P s.answer
  by_store high low P h =
      let e : Some (in_store v (serve_store v.store (stamped number x) moment x)) ≡ Some s = rw (high, low) at is in
      let same : in_store v (serve_store v.store (stamped number x) moment x) ≡ s = cc in
      subst (λ (t : Served Service). P t.answer) same h

module _ (v : Service) (c : Client) (index : ℕ) (low : index < 64) (last : Ts) (number moment : ℕ) (s : Stamp) (ts : Ts) where
  abbrev Goes : Call → Type 0
  Goes x = (given : Served Service) → serve v (stamped number (first_ask c index last x)) moment (first_ask c index last x) ≡ Some given → is_asking (heard_first x s ts given.answer) ≡ false

  rename-goes : (dir : DirId) (name : _) (to_dir : DirId) (to_name : _) (b : Bool) → (dir.0 == to_dir.0) ≡ b → (given : Served Service)
      → (let x = if b then ask.Swap c dir name to_name last else ask.Submit c dir name to_dir to_name last in serve v (stamped number x) moment x ≡ Some given)
      → is_asking (heard_rename dir name to_dir to_name ts s given.answer) ≡ false
  rename-goes dir name to_dir to_name true t given is =
      by_shard v number moment (ask.Swap c dir name to_name last) given is (shard_low dir.0) (λ a. is_asking (heard_rename dir name to_dir to_name ts s a) ≡ false)
      (swap-heard v.shard (stamped number (ask.Swap c dir name to_name last)) c dir name to_name last ts dir to_dir s (swap_lock v.shard dir name to_name) (node_in (get v.shard.rows (row_key dir name))) (bytes_eq name to_name) (node_in (get v.shard.rows (row_key dir to_name))))
  rename-goes dir name to_dir to_name false t given is =
      let same : from_desk v (submitted v.desk c dir name to_dir to_name last) ≡ given = cc in
      subst (λ (g : Served Service). is_asking (heard_rename dir name to_dir to_name ts s g.answer) ≡ false) same refl

  pub goes_on : (x : Call) → Goes x
  goes_on (call.Lookup dir name) given is =
      by_shard v number moment (ask.Read dir name) given is (shard_low dir.0) (λ a. is_asking (heard_lookup dir name s a) ≡ false) (lookup-heard dir name s (source_at v.shard dir name) (get v.shard.rows (row_key dir name)))
  goes_on (call.List dir) given is =
      by_shard v number moment (ask.List dir) given is (shard_low dir.0) (λ a. is_asking (heard_list dir s a) ≡ false) (list-heard v.shard dir s (get v.shard.recs dir.0) (mark_in (get v.shard.recs dir.0)) (list_lock v.shard dir))
  goes_on call.StatRoot given is = root-heard s s given.answer
  goes_on (call.Stat dir name) given is = row-heard dir name s s given.answer
  goes_on (call.Create dir name) given is =
      let above : nat_lt (64 + index) 64 ≡ false = grind (arith, nat_tests) in
      let below : nat_lt (64 + index) 128 ≡ true = grind (arith, nat_tests, low) in
      by_store v number moment (ask.Put c (store_place index) dir) given is above below (λ a. is_asking (heard_first (call.Create dir name) s ts a) ≡ false) refl
  goes_on (call.Mkdir dir name) given is =
      let below : nat_lt index 64 ≡ true = grind (arith, nat_tests, low) in
      by_shard v number moment (ask.PutDir c (shard_place index) dir name) given is below (λ a. is_asking (heard_first (call.Mkdir dir name) s ts a) ≡ false) refl
  goes_on (call.Unlink dir name) given is =
      by_shard v number moment (ask.Delete c dir name last) given is (shard_low dir.0) (λ a. is_asking (heard_delete dir name ts s a) ≡ false)
      (delete-heard v.shard (stamped number (ask.Delete c dir name last)) c dir name last ts s (lock_at v.shard dir name) (node_in (get v.shard.rows (row_key dir name))))
  goes_on (call.Rmdir dir name) given is = name-heard dir name s s given.answer
  goes_on (call.Truncate file size) given is =
      let above : nat_lt (64 + file.0 % 64) 64 ≡ false = grind (arith, nat_tests) in
      let below : nat_lt (64 + file.0 % 64) 128 ≡ true = let l : file.0 % 64 < 64 = omega arith in grind (arith, nat_tests, l) in
      by_store v number moment (ask.SetSize c file size last) given is above below (λ a. is_asking (heard_size file size ts s a) ≡ false) (size-heard v.store c file size last ts s (get v.store file.0))
  goes_on (call.Rename dir name to_dir to_name) given is = rename-goes dir name to_dir to_name (dir.0 == to_dir.0) refl given is
