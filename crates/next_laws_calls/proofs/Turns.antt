-- Each turn of a client keeps what holds of the world, and tells of all clients.
use Rattle.std.proofs.Common.{◌≡◌, ℕ, ◌+◌, ◌%◌, ◌<◌, true, false, refl, sym, subst, arith, inl, inr}
use Rattle.std.specs.Prelude.{nat_lt, Some, None}
use Rattle.std.proofs.lemmas.Bool.Decides.{nat_tests}
use Rattle.std.proofs.lemmas.Nat.{mod_below}
use Rattle.std.specs.FinMap.{get}
use Rattle.next_ids.specs.declared.counts.Counts.{Counts}
use Rattle.next_ids.specs.declared.ids.Actor.{Actor}
use Rattle.next_ids.specs.declared.ids.Actor.TheVariants.{Client as ClientActor}
use Rattle.next_ids.specs.declared.ids.Node.TheVariants.{Dir, File}
use Rattle.next_ids.specs.declared.call.Call.TheVariants as call
use Rattle.next_ids.specs.Times.{ts_at}
use Rattle.next_steps.specs.declared.ask.Ask.{Ask}
use Rattle.next_steps.specs.declared.ask.Ask.TheVariants as ask
use Rattle.next_steps.specs.Asks.{place_of, shard_of}
use Rattle.next_steps.specs.Calls.{ask_of}
use Rattle.next_steps.specs.Phases.{Phase, Asking, Reads, Writes, Removes, Finished, ListHelping, RootLooking, StatReading, StatLooking, StatHelping, StatGetting, StatChecking, Inserting, Settling, MakeHelping, TakingBack, Dropping, Clearing, Submitting, Collecting, RowReading, Marking, MarkHelping, Removing, RecDropping, RecClearing}
use Rattle.next_steps.specs.Readers.{root}
use Rattle.next_steps.specs.Removers.{note_of, ts_or}
use Rattle.next_rules.specs.Actors.{Progress, Goes as GoesOn, client_of, doing, put_index}
use Rattle.next_rules.specs.Contents.{Shard}
use Rattle.next_rules.specs.Locks.{source_at, list_lock, holder, source_in, insert_lock, lock_at, lock_in}
use Rattle.next_rules.specs.Owning.{owner_in}
use Rattle.next_rules.specs.Places.{serve_shard}
use Rattle.next_rules.specs.Reading.{mark_in, lies_at}
use Rattle.next_rules.specs.Setups.{AreCounts, IsCount}
use Rattle.next_rules.specs.Stores.{serve_store, file_owner}
use Rattle.next_rules.specs.Worlds.{World, stamped, in_shard, in_store, serve_in, after_served, step_number, step}
use Rattle.next_laws_stages.specs.Needs.{MeetsAll}
use Rattle.next_laws_calls.specs.Holding.{needs, IsPlainIn}
use Rattle.next_laws_calls.specs.Worlds.{Seen, Holds, Past}
use Rattle.next_laws_calls.proofs.Cuts.{take_file_goes, take_dir_goes, delete_goes, drop_file_goes, clear_file_goes, resize_goes}
use Rattle.next_laws_calls.proofs.Frame.{Goes, Next, goes_next}
use Rattle.next_laws_calls.proofs.Helping.{list_helps, make_helps, stat_helps, mark_helps}
use Rattle.next_laws_calls.proofs.Readers.{lookup_goes, list_goes, root_goes, row_goes, look_goes, get_goes, check_goes}
use Rattle.next_laws_calls.proofs.Removers.{name_goes, mark_goes, remove_goes, drop_goes, clear_goes}
use Rattle.next_laws_calls.proofs.Writers.{create_goes, mkdir_goes, insert_goes, settle_file_goes, settle_dir_goes}

-- ---- the numbers of places
low_number : (n : ℕ) → n % 64 < 64
low_number n = mod_below n 64 (omega arith)

below_64 : (n : ℕ) → n < 64 → nat_lt n 64 ≡ true
below_64 n low = grind (arith, nat_tests, low)

not_below_64 : (n : ℕ) → nat_lt (64 + n) 64 ≡ false
not_below_64 n = grind (arith, nat_tests)

below_128 : (n : ℕ) → n < 64 → nat_lt (64 + n) 128 ≡ true
below_128 n low = grind (arith, nat_tests, low)

-- ---- a step of a call
module _ (counts : Counts) (good : AreCounts counts) (w : World) (h : Holds w) (past : Past w) (c moment : ℕ) where
  abbrev actor : Actor
  actor = ClientActor (client_of c)

  abbrev p : Progress
  p = w.actors.clients c

  abbrev shard : Shard
  shard = w.service.shard

  abbrev number : Ask → ℕ
  number a = step_number w (ClientActor (client_of c)) a

  newer : (a : Ask) → w.lasts (place_of a).0 < number a
  newer a = omega arith

  module _ (phase : Phase) (goes : doing (w.actors.clients c) ≡ GoesOn phase) where
    by_shard : (a : Ask) → nat_lt (place_of a).0 64 ≡ true → Goes w h c (number a) moment a (in_shard w.service (serve_shard w.service.shard (stamped (number a) a) moment a)) phase
        → Next w (step counts w (ClientActor (client_of c)) moment a)
    by_shard a is g = subst (λ b. Next w (after_served counts w (ClientActor (client_of c)) a (number a) moment (serve_in b (nat_lt (place_of a).0 128) (nat_lt (place_of a).0 129) w.service (stamped (number a) a) moment a))) (sym is)
        (goes_next counts w h past c (number a) moment a (in_shard w.service (serve_shard w.service.shard (stamped (number a) a) moment a)) phase (newer a) goes g)

    by_store : (a : Ask) → nat_lt (place_of a).0 64 ≡ false → nat_lt (place_of a).0 128 ≡ true → Goes w h c (number a) moment a (in_store w.service (serve_store w.service.store (stamped (number a) a) moment a)) phase
        → Next w (step counts w (ClientActor (client_of c)) moment a)
    by_store a is also g =
        subst (λ b. Next w (after_served counts w (ClientActor (client_of c)) a (number a) moment (serve_in b (nat_lt (place_of a).0 128) (nat_lt (place_of a).0 129) w.service (stamped (number a) a) moment a))) (sym is)
        (subst (λ b. Next w (after_served counts w (ClientActor (client_of c)) a (number a) moment (serve_in false b (nat_lt (place_of a).0 129) w.service (stamped (number a) a) moment a))) (sym also)
        (goes_next counts w h past c (number a) moment a (in_store w.service (serve_store w.service.store (stamped (number a) a) moment a)) phase (newer a) goes g))

  low_index : (count : ℕ) → IsCount count → (c + p.puts) % count < 64
  low_index count k = let low : (c + p.puts) % count < count = mod_below (c + p.puts) count k.0 in omega (arith, k.1)

  abbrev pub PhaseNext : Phase → Type 0
  PhaseNext phase = doing (w.actors.clients c) ≡ GoesOn phase → (w.actors.clients c).current ≡ Some phase → IsPlainIn (Some phase) → MeetsAll c h.stage (needs c (Some phase)) → Seen w.run w.lasts w.service.shard (Some phase)
      → Next w (step counts w (ClientActor (client_of c)) moment (ask_of (client_of c) (put_index counts (client_of c) (w.actors.clients c).puts phase) (ts_at moment (w.actors.clients c).last) phase))

  first_next : (x : _) → PhaseNext (Asking x)
  first_next (call.Lookup dir name) goes is plain m seen = let a = ask.Read dir name in
      by_shard (Asking (call.Lookup dir name)) goes a (below_64 (dir.0 % 64) (low_number dir.0)) (lookup_goes w h past c (number a) moment dir name is (newer a) (source_at shard dir name) _ refl)
  first_next (call.List dir) goes is plain m seen = let a = ask.List dir in
      by_shard (Asking (call.List dir)) goes a (below_64 (dir.0 % 64) (low_number dir.0)) (list_goes w h past c (number a) moment dir is (newer a) m.0 _ refl _ refl (list_lock shard dir))
  first_next call.StatRoot goes is plain m seen = let a = ask.Look root None in
      by_shard (Asking call.StatRoot) goes a refl (root_goes w h past c (number a) moment (Asking call.StatRoot) is (stamped (number a) a) (λ n e. e) (newer a) (inl refl) (inr (refl, (call.StatRoot, refl))) (λ b. refl)
      _ refl (holder (get shard.recs 0)) (lies_at None (get shard.recs 0)) (mark_in (get shard.recs 0)) (source_in shard root))
  first_next (call.Stat dir name) goes is plain m seen = let a = ask.Read dir name in
      by_shard (Asking (call.Stat dir name)) goes a (below_64 (dir.0 % 64) (low_number dir.0)) (row_goes w h past c (number a) moment (Asking (call.Stat dir name)) is (stamped (number a) a) (λ n e. e) dir name (newer a) m.0 (inl refl)
      (inr (refl, (call.Stat dir name, refl))) (λ b. refl) (source_at shard dir name) _ refl)
  first_next (call.Create dir name) goes is plain m seen =
      let index = (c + p.puts) % counts.stores in
      let low = low_index counts.stores good.stores in
      let a = ask.Put (client_of c) (record { 0 = 64 + index }) dir in
      by_store (Asking (call.Create dir name)) goes a (not_below_64 index) (below_128 index low) (create_goes w h past c (number a) moment dir name index is low (newer a) m.0)
  first_next (call.Mkdir dir name) goes is plain m seen =
      let index = (c + p.puts) % counts.shards in
      let low = low_index counts.shards good.shards in
      let a = ask.PutDir (client_of c) (record { 0 = index }) dir name in
      by_shard (Asking (call.Mkdir dir name)) goes a (below_64 index low) (mkdir_goes w h past c (number a) moment dir name index is low (newer a) m.0)
  first_next (call.Unlink dir name) goes is plain m seen = let a = ask.Delete (client_of c) dir name (ts_at moment p.last) in
      by_shard (Asking (call.Unlink dir name)) goes a (below_64 (dir.0 % 64) (low_number dir.0)) (delete_goes w h past c (number a) moment dir name (ts_at moment p.last) is (newer a) (lock_at shard dir name) _ refl)
  first_next (call.Rmdir dir name) goes is plain m seen = let a = ask.Read dir name in
      by_shard (Asking (call.Rmdir dir name)) goes a (below_64 (dir.0 % 64) (low_number dir.0)) (name_goes w h past c (number a) moment (Asking (call.Rmdir dir name)) is (stamped (number a) a) (λ n e. e) dir name None (newer a) m.0
      (inr (refl, (call.Rmdir dir name, refl))) (λ b. refl) (source_at shard dir name) _ refl)
  first_next (call.Truncate file size) goes is plain m seen = let a = ask.SetSize (client_of c) file size (ts_at moment p.last) in
      by_store (Asking (call.Truncate file size)) goes a (not_below_64 (file.0 % 64)) (below_128 (file.0 % 64) (low_number file.0)) (resize_goes w h past c (number a) moment file size (ts_at moment p.last) is (newer a) m.0 _ refl)
  first_next (call.Rename dir name to_dir to_name) goes is plain m seen = absurd (cc)

  reading_next : (q : _) → PhaseNext (Reads q)
  reading_next (ListHelping dir note first) goes is plain m seen = let a = ask.Remove note in
      by_shard (Reads (ListHelping dir note first)) goes a (below_64 (note.dir.0 % 64) (low_number note.dir.0)) (list_helps w h past c (number a) moment note (newer a) _ refl _ refl dir first is m.0)
  reading_next (RootLooking first) goes is plain m seen = let a = ask.Look root None in
      by_shard (Reads (RootLooking first)) goes a refl (root_goes w h past c (number a) moment (Reads (RootLooking first)) is first (λ n e. e) (newer a) (inr seen.0) (inl refl) (λ b. refl)
      _ refl (holder (get shard.recs 0)) (lies_at None (get shard.recs 0)) (mark_in (get shard.recs 0)) (source_in shard root))
  reading_next (StatReading dir name first) goes is plain m seen = let a = ask.Read dir name in
      by_shard (Reads (StatReading dir name first)) goes a (below_64 (dir.0 % 64) (low_number dir.0)) (row_goes w h past c (number a) moment (Reads (StatReading dir name first)) is first (λ n e. e) dir name (newer a) m.0 (inr seen.0)
      (inl refl) (λ b. refl) (source_at shard dir name) _ refl)
  reading_next (StatLooking dir name child first) goes is plain m seen = let a = ask.Look child (Some (dir, name)) in
      by_shard (Reads (StatLooking dir name child first)) goes a (below_64 (child.0 % 64) (low_number child.0)) (look_goes w h past c (number a) moment dir name child first is (newer a) m.0 m.1.0 seen.0
      _ refl (holder (get shard.recs child.0)) _ refl _ refl (source_in shard child))
  reading_next (StatHelping dir name note first) goes is plain m seen = let a = ask.Remove note in
      by_shard (Reads (StatHelping dir name note first)) goes a (below_64 (note.dir.0 % 64) (low_number note.dir.0)) (stat_helps w h past c (number a) moment note (newer a) _ refl _ refl dir name first is m.0 m.1.0 seen.0)
  reading_next (StatGetting dir name file row first) goes is plain m seen = let a = ask.Get file in
      by_store (Reads (StatGetting dir name file row first)) goes a (not_below_64 (file.0 % 64)) (below_128 (file.0 % 64) (low_number file.0)) (get_goes w h past c (number a) moment dir name file row first is (newer a) m.0 seen _ refl)
  reading_next (StatChecking dir name file row found got first) goes is plain m seen = let a = ask.Read dir name in
      by_shard (Reads (StatChecking dir name file row found got first)) goes a (below_64 (dir.0 % 64) (low_number dir.0)) (check_goes w h past c (number a) moment dir name file row got first (newer a) m.0 found is seen (source_at shard dir name) _ refl)

  writing_next : (q : _) → PhaseNext (Writes q)
  writing_next (Inserting dir name node ts first) goes is plain m seen = let a = ask.Insert (client_of c) dir name node ts in
      by_shard (Writes (Inserting dir name node ts first)) goes a (below_64 (dir.0 % 64) (low_number dir.0)) (insert_goes w h past c (number a) moment dir name node ts first is (newer a) m.0 m.1.0 _ refl _ refl (insert_lock shard dir name) _ refl _ refl)
  writing_next (Settling dir name (File f) ts first at) goes is plain m seen = let a = ask.Settle (File f) in
      by_store (Writes (Settling dir name (File f) ts first at)) goes a (not_below_64 (f.0 % 64)) (below_128 (f.0 % 64) (low_number f.0)) (settle_file_goes w h past c (number a) moment dir name f ts first at is (newer a) m.0 _ refl (file_owner (get w.service.store f.0)))
  writing_next (Settling dir name (Dir d) ts first at) goes is plain m seen = let a = ask.Settle (Dir d) in
      by_shard (Writes (Settling dir name (Dir d) ts first at)) goes a (below_64 (d.0 % 64) (low_number d.0)) (settle_dir_goes w h past c (number a) moment dir name d ts first at is (newer a) m.0 _ refl (owner_in (get shard.recs d.0)))
  writing_next (MakeHelping dir name node note first) goes is plain m seen = let a = ask.Remove note in
      by_shard (Writes (MakeHelping dir name node note first)) goes a (below_64 (note.dir.0 % 64) (low_number note.dir.0)) (make_helps w h past c (number a) moment note (newer a) _ refl _ refl dir name node first is m.0 m.1.0)
  writing_next (TakingBack dir name (File f) r at first) goes is plain m seen = let a = ask.TakeBack (client_of c) (File f) in
      by_store (Writes (TakingBack dir name (File f) r at first)) goes a (not_below_64 (f.0 % 64)) (below_128 (f.0 % 64) (low_number f.0)) (take_file_goes w h past c (number a) moment dir name f r at first is (newer a) plain m.0)
  writing_next (TakingBack dir name (Dir d) r at first) goes is plain m seen = let a = ask.TakeBack (client_of c) (Dir d) in
      by_shard (Writes (TakingBack dir name (Dir d) r at first)) goes a (below_64 (d.0 % 64) (low_number d.0)) (take_dir_goes w h past c (number a) moment dir name d r at first is (newer a) plain m.0)
  writing_next (Dropping (call.Unlink dir name) f ts first at) goes is plain m seen = let a = ask.Drop f in
      by_store (Writes (Dropping (call.Unlink dir name) f ts first at)) goes a (not_below_64 (f.0 % 64)) (below_128 (f.0 % 64) (low_number f.0)) (drop_file_goes w h past c (number a) moment dir name f ts first at is (newer a) m.0 _ refl)
  writing_next (Dropping x f ts first at) goes is plain m seen = absurd plain
  writing_next (Clearing (call.Unlink dir name) f ts first at) goes is plain m seen = let a = ask.Clear (shard_of dir) (File f) in
      by_shard (Writes (Clearing (call.Unlink dir name) f ts first at)) goes a (below_64 (dir.0 % 64) (low_number dir.0)) (clear_file_goes w h past c (number a) moment dir name f ts first at is (newer a) m.0 _ refl)
  writing_next (Clearing x f ts first at) goes is plain m seen = absurd plain
  writing_next (Submitting dir name to_dir to_name ts first) goes is plain m seen = absurd plain
  writing_next (Collecting dir name to_dir to_name job ts first) goes is plain m seen = absurd plain

  removing_next : (q : _) → PhaseNext (Removes q)
  removing_next (RowReading dir name ts first) goes is plain m seen = let a = ask.Read dir name in
      by_shard (Removes (RowReading dir name ts first)) goes a (below_64 (dir.0 % 64) (low_number dir.0)) (name_goes w h past c (number a) moment (Removes (RowReading dir name ts first)) is first (λ n e. e) dir name ts (newer a) m.0
      (inl refl) (λ b. refl) (source_at shard dir name) _ refl)
  removing_next (Marking dir name child ts first) goes is plain m seen = let t = ts_or ts (ts_at moment p.last) in let a = ask.Mark (client_of c) child dir name t in
      by_shard (Removes (Marking dir name child ts first)) goes a (below_64 (child.0 % 64) (low_number child.0)) (mark_goes w h past c (number a) moment dir name child ts t first is (newer a) m.0 m.1.0
      _ refl (holder (get shard.recs child.0)) _ refl _ refl (lock_in shard child) _ refl)
  removing_next (MarkHelping dir name note ts first) goes is plain m seen = let a = ask.Remove note in
      by_shard (Removes (MarkHelping dir name note ts first)) goes a (below_64 (note.dir.0 % 64) (low_number note.dir.0)) (mark_helps w h past c (number a) moment note (newer a) _ refl _ refl dir name ts first is m.0 m.1.0)
  removing_next (Removing dir name child ts first) goes is plain m seen = let a = ask.Remove (note_of (client_of c) dir name child ts) in
      by_shard (Removes (Removing dir name child ts first)) goes a (below_64 (dir.0 % 64) (low_number dir.0)) (remove_goes w h past c (number a) moment dir name child ts first is (newer a) m.0 _ refl _ refl)
  removing_next (RecDropping dir name child ts first at) goes is plain m seen = let a = ask.DropRec child in
      by_shard (Removes (RecDropping dir name child ts first at)) goes a (below_64 (child.0 % 64) (low_number child.0)) (drop_goes w h past c (number a) moment dir name child ts first at is (newer a) m.0 _ refl)
  removing_next (RecClearing dir name child ts first at) goes is plain m seen = let a = ask.Clear (shard_of dir) (Dir child) in
      by_shard (Removes (RecClearing dir name child ts first at)) goes a (below_64 (dir.0 % 64) (low_number dir.0)) (clear_goes w h past c (number a) moment dir name child ts first at is (newer a) m.0 _ refl)

  pub phase_next : (phase : Phase) → PhaseNext phase
  phase_next (Asking x) goes is plain m seen = first_next x goes is plain m seen
  phase_next (Reads q) goes is plain m seen = reading_next q goes is plain m seen
  phase_next (Writes q) goes is plain m seen = writing_next q goes is plain m seen
  phase_next (Removes q) goes is plain m seen = removing_next q goes is plain m seen
  phase_next (Finished d) goes is plain m seen = absurd plain
