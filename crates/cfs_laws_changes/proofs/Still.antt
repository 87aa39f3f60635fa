-- An answer that says that nothing changed leaves what the place has.
use Rattle.std.proofs.Common.{◌≡◌, ℕ, List, Bool, true, false, refl}
use Rattle.std.specs.Prelude.{if◌then◌else◌, ◌==◌, Option, Some, None}
use Rattle.std.specs.FinMap.{get, remove}
use Rattle.cfs_ids.specs.declared.ids.DirId.{DirId}
use Rattle.cfs_ids.specs.declared.ids.FileId.{FileId}
use Rattle.cfs_ids.specs.declared.ids.Client.{Client}
use Rattle.cfs_ids.specs.declared.ids.JobNo.{JobNo}
use Rattle.cfs_ids.specs.declared.ids.Node.{Node}
use Rattle.cfs_ids.specs.declared.ids.Node.TheVariants.{Dir, File}
use Rattle.cfs_ids.specs.declared.ids.Stamp.{Stamp}
use Rattle.cfs_ids.specs.Maps.{row_key}
use Rattle.cfs_steps.specs.declared.answer.Answer.TheVariants.{Done, None as NoneAnswer}
use Rattle.cfs_steps.specs.declared.ask.Ask.{Ask}
use Rattle.cfs_steps.specs.declared.ask.Ask.TheVariants.{Read, List as ListAsk, Insert, Put, PutDir, Settle, TakeBack, End}
use Rattle.cfs_steps.specs.declared.contents.Row.{Row}
use Rattle.cfs_steps.specs.declared.contents.DirRec.{DirRec}
use Rattle.cfs_steps.specs.declared.contents.FileRec.{FileRec}
use Rattle.cfs_rules.specs.Locks.{lock_met}
use Rattle.cfs_rules.specs.Places.{Shard, Store, Roster, unmoved, with_recs, inserted, settled_dir, settle_dir_owner, taken_back_dir, take_owned_dir, serve_free, serve_shard, unless_locked, settled, settle_owner, taken_back, take_owned, serve_store, serve_roster}
use Rattle.cfs_laws_changes.specs.Changes.{changes}

-- one of two outcomes, of which the first changes something
either : {C : Type 0} (b : Bool) (c d : C) → changes (if b then unmoved d (Done None) else unmoved c NoneAnswer).answer ≡ false → (if b then unmoved d (Done None) else unmoved c NoneAnswer).contents ≡ c
either true c d e = cc
either false c d e = refl

-- ---- the shard
insert_still : (s : Shard) (at : Stamp) (client : Client) (dir : DirId) (name : List ℕ) (node : Node) (ts : ℕ) (r : Option DirRec) (row : Option Row)
    → changes (inserted s at client dir name node ts r row).answer ≡ false → (inserted s at client dir name node ts r row).contents ≡ s
insert_still s at client dir name node ts None row e = refl
insert_still s at client dir name node ts (Some r) (Some row) e = refl
insert_still s at client dir name node ts (Some r) None e = cc

settle_still : (s : Shard) (dir : DirId) (o : Option DirRec) → changes (settled_dir s dir o).answer ≡ false → (settled_dir s dir o).contents ≡ s
settle_still s dir None e = refl
settle_still s dir (Some r) e = by_owner r.owner e
  where
    by_owner : (o : Option Client) → changes (settle_dir_owner s dir r o).answer ≡ false → (settle_dir_owner s dir r o).contents ≡ s
    by_owner None e = refl
    by_owner (Some c) e = cc

take_still : (s : Shard) (client : Client) (dir : DirId) (o : Option DirRec) → changes (taken_back_dir s client dir o).answer ≡ false → (taken_back_dir s client dir o).contents ≡ s
take_still s client dir None e = refl
take_still s client dir (Some r) e = by_owner r.owner e
  where
    by_owner : (o : Option Client) → changes (take_owned_dir s client dir o).answer ≡ false → (take_owned_dir s client dir o).contents ≡ s
    by_owner None e = refl
    by_owner (Some c) e = either (c.0 == client.0) s (with_recs s (remove s.recs dir.0)) e

free_still : (s : Shard) (at : Stamp) (ask : Ask) → changes (serve_free s at ask).answer ≡ false → (serve_free s at ask).contents ≡ s
free_still s at (Read dir name) e = refl
free_still s at (ListAsk dir) e = refl
free_still s at (Insert client dir name node ts) e = insert_still s at client dir name node ts (get s.recs dir.0) (get s.rows (row_key dir name)) e
free_still s at (Put client place home) e = refl
free_still s at (PutDir client place dir name) e = cc
free_still s at (Settle (Dir dir)) e = settle_still s dir (get s.recs dir.0) e
free_still s at (Settle (File file)) e = refl
free_still s at (TakeBack client (Dir dir)) e = take_still s client dir (get s.recs dir.0) e
free_still s at (TakeBack client (File file)) e = refl
free_still s at (End client) e = refl

pub shard_still : (s : Shard) (at : Stamp) (ask : Ask) → changes (serve_shard s at ask).answer ≡ false → (serve_shard s at ask).contents ≡ s
shard_still s at ask = by_lock (lock_met s.locks s.recs ask)
  where
    by_lock : (job : Option JobNo) → changes (unless_locked job s (serve_free s at ask)).answer ≡ false → (unless_locked job s (serve_free s at ask)).contents ≡ s
    by_lock None e = free_still s at ask e
    by_lock (Some job) e = refl

-- ---- the store
settle_file_still : (s : Store) (file : FileId) (o : Option FileRec) → changes (settled s file o).answer ≡ false → (settled s file o).contents ≡ s
settle_file_still s file None e = refl
settle_file_still s file (Some r) e = by_owner r.owner e
  where
    by_owner : (o : Option Client) → changes (settle_owner s file r o).answer ≡ false → (settle_owner s file r o).contents ≡ s
    by_owner None e = refl
    by_owner (Some c) e = cc

take_file_still : (s : Store) (client : Client) (file : FileId) (o : Option FileRec) → changes (taken_back s client file o).answer ≡ false → (taken_back s client file o).contents ≡ s
take_file_still s client file None e = refl
take_file_still s client file (Some r) e = by_owner r.owner e
  where
    by_owner : (o : Option Client) → changes (take_owned s client file o).answer ≡ false → (take_owned s client file o).contents ≡ s
    by_owner None e = refl
    by_owner (Some c) e = either (c.0 == client.0) s (remove s file.0) e

pub store_still : (s : Store) (at : Stamp) (ask : Ask) → changes (serve_store s at ask).answer ≡ false → (serve_store s at ask).contents ≡ s
store_still s at (Read dir name) e = refl
store_still s at (ListAsk dir) e = refl
store_still s at (Insert client dir name node ts) e = refl
store_still s at (Put client place home) e = cc
store_still s at (PutDir client place dir name) e = refl
store_still s at (Settle (Dir dir)) e = refl
store_still s at (Settle (File file)) e = settle_file_still s file (get s file.0) e
store_still s at (TakeBack client (Dir dir)) e = refl
store_still s at (TakeBack client (File file)) e = take_file_still s client file (get s file.0) e
store_still s at (End client) e = refl

-- ---- the roster
pub roster_still : (r : Roster) (ask : Ask) → changes (serve_roster r ask).answer ≡ false → (serve_roster r ask).contents ≡ r
roster_still r (Read dir name) e = refl
roster_still r (ListAsk dir) e = refl
roster_still r (Insert client dir name node ts) e = refl
roster_still r (Put client place home) e = refl
roster_still r (PutDir client place dir name) e = refl
roster_still r (Settle node) e = refl
roster_still r (TakeBack client node) e = refl
roster_still r (End client) e = cc
