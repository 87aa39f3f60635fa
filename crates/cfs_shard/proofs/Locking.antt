-- What a shard gives under its locks is what its table gives, with the locks left as they were.
use Rattle.std.proofs.Common.{◌≡◌, ℕ, List, Bool, true, false, refl, sym, ◌∙◌, ap}
use Rattle.std.specs.Prelude.{if◌then◌else◌, ◌==◌, Option, Some, None}
use Rattle.std.specs.FinMap.{get, remove, empty, same_map}
use Rattle.std.specs.Cmp.Lexicographic.{nat_list_cmp_total}
use Rattle.cfs_ids.specs.declared.ids.DirId.{DirId}
use Rattle.cfs_ids.specs.declared.ids.Client.{Client}
use Rattle.cfs_ids.specs.declared.ids.JobNo.{JobNo}
use Rattle.cfs_ids.specs.declared.ids.Stamp.{Stamp}
use Rattle.cfs_ids.specs.declared.ids.Node.{Node}
use Rattle.cfs_ids.specs.declared.ids.Node.TheVariants.{Dir, File}
use Rattle.cfs_ids.specs.Maps.{Names, Numbers, row_key}
use Rattle.cfs_steps.specs.declared.contents.Row.{Row}
use Rattle.cfs_steps.specs.declared.contents.RowLock.{RowLock}
use Rattle.cfs_steps.specs.declared.contents.DirRec.{DirRec}
use Rattle.cfs_steps.specs.declared.ask.Ask.{Ask}
use Rattle.cfs_steps.specs.declared.ask.Ask.TheVariants.{Read, List as ListAsk, Insert, Put, PutDir, Settle, TakeBack, End}
use Rattle.cfs_steps.specs.declared.answer.Answer.{Answer}
use Rattle.cfs_steps.specs.declared.moves.Moved.{Moved}
use Rattle.cfs_steps.specs.declared.answer.Answer.TheVariants.{Done, None as NoneAnswer}
use Rattle.cfs_maps.specs.Nested.{names_of}
use Rattle.cfs_table.specs.Flat.{flat}
use Rattle.cfs_table.proofs.Flattened.{get-flat, get-names_of}
use Rattle.cfs_table.proofs.Listed.{flat-empty}
use Rattle.cfs_rules.specs.Locks.{locks_in, lock_met}
use Rattle.cfs_rules.specs.Places.{Shard, Served, serve_free, serve_shard, unless_locked, unmoved, with_recs, inserted, list_rows, settled_dir, settle_dir_owner, taken_back_dir, take_owned_dir}
use Rattle.cfs_rules.proofs.Names.{bytes_apart, get-locks_in}

pub ruleset flattening = (get-flat)

-- the locks of a directory in the one map of all are those that are kept for it
pub locks_in-flat : (locks : Numbers (Names RowLock)) (d : ℕ) → locks_in (flat locks) d ≡ names_of (get locks d)
locks_in-flat locks d = same_map nat_list_cmp_total bytes_apart (locks_in (flat locks) d) (names_of (get locks d)) (λ q. get-locks_in (flat locks) d q ∙ sym (get-names_of locks d q))

-- what serving gave, with these locks
abbrev pub under : Names RowLock → Served Shard → Served Shard
under locks served = record { answer = served.answer; contents = record served.contents { locks = locks }; moved = served.moved }

module _ (s : Shard) (locks : Names RowLock) where
  abbrev locked : Shard
  locked = record s { locks = locks }

  list_under : (d : ℕ) (o : Option DirRec) → unmoved locked (list_rows locked d o) ≡ under locks (unmoved s (list_rows s d o))
  list_under d None = refl
  list_under d (Some r) = refl

  insert_under : (at : Stamp) (client : Client) (dir : DirId) (name : List ℕ) (node : Node) (ts : ℕ) (o : Option DirRec) (row : Option Row)
      → inserted locked at client dir name node ts o row ≡ under locks (inserted s at client dir name node ts o row)
  insert_under at client dir name node ts None row = refl
  insert_under at client dir name node ts (Some r) (Some row) = refl
  insert_under at client dir name node ts (Some r) None = refl

  settle_under : (dir : DirId) (o : Option DirRec) → settled_dir locked dir o ≡ under locks (settled_dir s dir o)
  settle_under dir None = refl
  settle_under dir (Some r) = by_owner r.owner
    where
      by_owner : (o : Option Client) → settle_dir_owner locked dir r o ≡ under locks (settle_dir_owner s dir r o)
      by_owner None = refl
      by_owner (Some c) = refl

  take_under : (client : Client) (dir : DirId) (o : Option DirRec) → taken_back_dir locked client dir o ≡ under locks (taken_back_dir s client dir o)
  take_under client dir None = refl
  take_under client dir (Some r) = by_owner r.owner
    where
      by_test : (b : Bool)
          → (if b then unmoved (with_recs locked (remove s.recs dir.0)) (Done None) else unmoved locked NoneAnswer)
          ≡ under locks (if b then unmoved (with_recs s (remove s.recs dir.0)) (Done None) else unmoved s NoneAnswer)
      by_test true = refl
      by_test false = refl

      by_owner : (o : Option Client) → take_owned_dir locked client dir o ≡ under locks (take_owned_dir s client dir o)
      by_owner None = refl
      by_owner (Some c) = by_test (c.0 == client.0)

  free_under : (at : Stamp) (ask : Ask) → serve_free locked at ask ≡ under locks (serve_free s at ask)
  free_under at (Read dir name) = refl
  free_under at (ListAsk dir) = list_under dir.0 (get s.recs dir.0)
  free_under at (Insert client dir name node ts) = insert_under at client dir name node ts (get s.recs dir.0) (get s.rows (row_key dir name))
  free_under at (Put client place home) = refl
  free_under at (PutDir client place dir name) = refl
  free_under at (Settle (Dir dir)) = settle_under dir (get s.recs dir.0)
  free_under at (Settle (File file)) = refl
  free_under at (TakeBack client (Dir dir)) = take_under client dir (get s.recs dir.0)
  free_under at (TakeBack client (File file)) = refl
  free_under at (End client) = refl

  -- the lock that is met decides whether the table serves
  pub serve_under : (at : Stamp) (ask : Ask) (job : Option JobNo) → job ≡ lock_met locks s.recs ask → serve_shard (record s { locks = locks }) at ask ≡ under locks (unless_locked job s (serve_free s at ask))
  serve_under at ask job is = ap (λ o. unless_locked o locked (serve_free locked at ask)) (sym is) ∙ by_lock job
    where
      by_lock : (o : Option JobNo) → unless_locked o locked (serve_free locked at ask) ≡ under locks (unless_locked o s (serve_free s at ask))
      by_lock None = free_under at ask
      by_lock (Some j) = refl

-- so the answer, the move and the change are those of the table
module _ (s : Shard) (locks : Names RowLock) (at : Stamp) (ask : Ask) (job : Option JobNo) (is : job ≡ lock_met locks s.recs ask) where
  pub answer_under : (answer : Answer) → answer ≡ (unless_locked job s (serve_free s at ask)).answer → answer ≡ (serve_shard (record s { locks = locks }) at ask).answer
  answer_under answer e = e ∙ sym (ap (λ (v : Served Shard). v.answer) (serve_under s locks at ask job is))

  pub moved_under : (moved : Option Moved) → moved ≡ (unless_locked job s (serve_free s at ask)).moved → moved ≡ (serve_shard (record s { locks = locks }) at ask).moved
  moved_under moved e = e ∙ sym (ap (λ (v : Served Shard). v.moved) (serve_under s locks at ask job is))

  pub contents_under : (after : Shard) → after ≡ (unless_locked job s (serve_free s at ask)).contents → record after { locks = locks } ≡ (serve_shard (record s { locks = locks }) at ask).contents
  contents_under after e = ap (λ (t : Shard). record t { locks = locks }) e ∙ sym (ap (λ (v : Served Shard). v.contents) (serve_under s locks at ask job is))

-- a table without locks is all that a shard has which keeps none
pub no_locks : (s : Shard) (locks : Numbers (Names RowLock)) → s.locks ≡ empty → locks ≡ empty → record s { locks = flat locks } ≡ s
no_locks s locks none bare = ap (λ (m : Names RowLock). record s { locks = m }) (ap flat bare ∙ flat-empty ∙ sym none)
