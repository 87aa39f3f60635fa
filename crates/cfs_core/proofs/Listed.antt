-- Each place answers what its table lists for what a client asks.
use Rattle.std.proofs.Common.{◌≡◌, ℕ, ◌+◌, ◌%◌, ◌<◌, List, Bool, true, false, refl, sym, subst, arith}
use Rattle.std.specs.Prelude.{Option, Some, None, nat_lt, if◌then◌else◌, ◌==◌}
use Rattle.std.specs.FinMap.{get, remove}
use Rattle.std.proofs.lemmas.Nat.{mod_below}
use Rattle.std.proofs.lemmas.Bool.Decides.{nat_tests}
use Rattle.cfs_ids.specs.declared.ids.Client.{Client}
use Rattle.cfs_ids.specs.declared.ids.Stamp.{Stamp}
use Rattle.cfs_ids.specs.declared.ids.DirId.{DirId}
use Rattle.cfs_ids.specs.declared.ids.FileId.{FileId}
use Rattle.cfs_ids.specs.declared.ids.Node.{Node}
use Rattle.cfs_ids.specs.declared.ids.Node.TheVariants.{Dir, File}
use Rattle.cfs_ids.specs.declared.ids.Actor.{Actor}
use Rattle.cfs_ids.specs.declared.call.Call.TheVariants.{Lookup, List as ListCall, Create, Mkdir}
use Rattle.cfs_ids.specs.Maps.{row_key}
use Rattle.cfs_steps.specs.declared.ask.Ask.{Ask}
use Rattle.cfs_steps.specs.declared.ask.Ask.TheVariants.{Read, List as ListAsk, Insert}
use Rattle.cfs_steps.specs.declared.contents.Row.{Row}
use Rattle.cfs_steps.specs.declared.contents.DirRec.{DirRec}
use Rattle.cfs_steps.specs.declared.contents.FileRec.{FileRec}
use Rattle.cfs_steps.specs.declared.answer.Answer.TheVariants.{Done, None as NoneAnswer}
use Rattle.cfs_steps.specs.Asks.{place_of}
use Rattle.cfs_steps.specs.Phases.{Phase, Asking, Inserting, Settling, TakingBack, Finished, ask_of, answers, answers_first, answers_insert, answers_change, is_going}
use Rattle.cfs_rules.specs.Places.{Shard, Store, Served, unmoved, with_recs, read_row, list_rows, inserted, settled, settle_owner, settled_dir, settle_dir_owner, taken_back, take_owned, taken_back_dir, take_owned_dir, number_after, serve_free, serve_shard}
use Rattle.cfs_rules.specs.Facts.{Unlocked}
use Rattle.cfs_rules.proofs.Locks.{serve_shard-unlocked}
use Rattle.cfs_rules.specs.Worlds.{Counts, AreCounts, IsCount, Progress, stamped, put_index, next_ask, asked_next}
use Rattle.cfs_actor.specs.States.{answers_now, is_going_now}
use Rattle.cfs_view.specs.Held.{Held, serve}
use Rattle.cfs_core.specs.Reach.{phase_there, current_there}

-- the shard of a directory, and the store of a file
pub in_shard : (n : ℕ) → nat_lt (n % 64) 64 ≡ true
in_shard n = grind (arith, nat_tests)

not_shard : (n : ℕ) → nat_lt (64 + n % 64) 64 ≡ false
not_shard n = grind (arith, nat_tests)

in_store : (n : ℕ) → nat_lt (64 + n % 64) 128 ≡ true
in_store n = grind (arith, nat_tests)

read_listed : (dir : DirId) (name : List ℕ) (o : Option Row) → answers_first (Lookup dir name) (read_row o) ≡ true
read_listed dir name None = refl
read_listed dir name (Some row) = refl

list_listed : (s : Shard) (dir : DirId) (o : Option DirRec) → answers_first (ListCall dir) (list_rows s dir.0 o) ≡ true
list_listed s dir None = refl
list_listed s dir (Some r) = refl

insert_listed : (s : Shard) (at : Stamp) (c : Client) (dir : DirId) (name : List ℕ) (node : Node) (ts : ℕ) (o : Option DirRec) (q : Option Row) → answers_insert (inserted s at c dir name node ts o q).answer ≡ true
insert_listed s at c dir name node ts None q = refl
insert_listed s at c dir name node ts (Some r) (Some row) = refl
insert_listed s at c dir name node ts (Some r) None = refl

-- ---- settling a node and taking one back
settle_listed : (s : Store) (file : FileId) (o : Option FileRec) → answers_change (settled s file o).answer ≡ true
settle_listed s file None = refl
settle_listed s file (Some r) = by_owner r.owner
  where
    by_owner : (o : Option Client) → answers_change (settle_owner s file r o).answer ≡ true
    by_owner None = refl
    by_owner (Some c) = refl

settle_dir_listed : (s : Shard) (dir : DirId) (o : Option DirRec) → answers_change (settled_dir s dir o).answer ≡ true
settle_dir_listed s dir None = refl
settle_dir_listed s dir (Some r) = by_owner r.owner
  where
    by_owner : (o : Option Client) → answers_change (settle_dir_owner s dir r o).answer ≡ true
    by_owner None = refl
    by_owner (Some c) = refl

either : {C : Type 0} (b : Bool) (x y : C) → answers_change (if b then unmoved x (Done None) else unmoved y NoneAnswer).answer ≡ true
either true x y = refl
either false x y = refl

take_back_listed : (s : Store) (c : Client) (file : FileId) (o : Option FileRec) → answers_change (taken_back s c file o).answer ≡ true
take_back_listed s c file None = refl
take_back_listed s c file (Some r) = by_owner r.owner
  where
    by_owner : (o : Option Client) → answers_change (take_owned s c file o).answer ≡ true
    by_owner None = refl
    by_owner (Some d) = either (d.0 == c.0) (remove s file.0) s

take_back_dir_listed : (s : Shard) (c : Client) (dir : DirId) (o : Option DirRec) → answers_change (taken_back_dir s c dir o).answer ≡ true
take_back_dir_listed s c dir None = refl
take_back_dir_listed s c dir (Some r) = by_owner r.owner
  where
    by_owner : (o : Option Client) → answers_change (take_owned_dir s c dir o).answer ≡ true
    by_owner None = refl
    by_owner (Some d) = either (d.0 == c.0) (with_recs s (remove s.recs dir.0)) s

-- ---- where a client puts its next node
pub low_index : (count n : ℕ) → IsCount count → n % count < count
low_index count n k = mod_below n count k.0

index_in_shard : (i : ℕ) → i < 64 → nat_lt i 64 ≡ true
index_in_shard i low = grind (arith, nat_tests, low)

index_above : (i : ℕ) → nat_lt (64 + i) 64 ≡ false
index_above i = grind (arith, nat_tests)

index_in_store : (i : ℕ) → i < 64 → nat_lt (64 + i) 128 ≡ true
index_in_store i low = grind (arith, nat_tests, low)

-- where no lock is set
abbrev pub at_step : Held → ℕ → Ask → Stamp
at_step h last ask = stamped (number_after last (h.lasts (place_of ask).0)) ask

free_listed : (s : Shard) → Unlocked s → (at : Stamp) (ask : Ask) (phase : Phase) → answers phase (serve_free s at ask).answer ≡ true → answers phase (serve_shard s at ask).answer ≡ true
free_listed s free at ask phase h = subst (λ (served : Served Shard). answers phase served.answer ≡ true) (sym (serve_shard-unlocked s free at ask)) h

module _ (counts : Counts) (good : AreCounts counts) (h : Held) (free : Unlocked h.shard) where
  phase_listed : (actor : Actor) (c : Client) (last puts : ℕ) (phase : Phase) → is_going phase ≡ true → phase_there counts phase ≡ true → answers phase (serve h actor last (ask_of c (put_index counts c puts phase) phase)).entry.answer ≡ true
  phase_listed actor c last puts (Asking (Lookup dir name)) going there = rw (in_shard dir.0) (free_listed h.shard free (at_step h last (Read dir name)) (Read dir name) (Asking (Lookup dir name)) (read_listed dir name (get h.shard.rows (row_key dir name))))
  phase_listed actor c last puts (Asking (ListCall dir)) going there = rw (in_shard dir.0) (free_listed h.shard free (at_step h last (ListAsk dir)) (ListAsk dir) (Asking (ListCall dir)) (list_listed h.shard dir (get h.shard.recs dir.0)))
  phase_listed actor c last puts (Asking (Create dir name)) going there =
      let low = low_index counts.stores (c.0 + puts) good.stores in
      let few = good.stores.1 in
      rw (index_above ((c.0 + puts) % counts.stores), index_in_store ((c.0 + puts) % counts.stores) (omega arith)) refl
  phase_listed actor c last puts (Asking (Mkdir dir name)) going there =
      let low = low_index counts.shards (c.0 + puts) good.shards in
      let few = good.shards.1 in
      rw (index_in_shard ((c.0 + puts) % counts.shards) (omega arith)) refl
  phase_listed actor c last puts (Asking call) going there = cc
  phase_listed actor c last puts (Inserting dir name node ts first) going there = rw (in_shard dir.0) (free_listed h.shard free _ (Insert c dir name node ts) (Inserting dir name node ts first) (insert_listed h.shard _ c dir name node ts (get h.shard.recs dir.0) (get h.shard.rows (row_key dir name))))
  phase_listed actor c last puts (Settling dir name (File file) ts first at) going there = rw (not_shard file.0, in_store file.0) (settle_listed h.store file (get h.store file.0))
  phase_listed actor c last puts (Settling dir name (Dir child) ts first at) going there = rw (in_shard child.0) (settle_dir_listed h.shard child (get h.shard.recs child.0))
  phase_listed actor c last puts (TakingBack dir name (File file) errno first at) going there = rw (not_shard file.0, in_store file.0) (take_back_listed h.store c file (get h.store file.0))
  phase_listed actor c last puts (TakingBack dir name (Dir child) errno first at) going there = rw (in_shard child.0) (take_back_dir_listed h.shard c child (get h.shard.recs child.0))
  phase_listed actor c last puts (Finished done) going there = cc

  current_listed : (actor : Actor) (c : Client) (last puts : ℕ) (ended : Bool) (current : Option Phase) (ask : Ask) → Some ask ≡ asked_next counts c puts ended current → is_going_now current ≡ true → current_there counts current ≡ true → answers_now current (serve h actor last ask).entry.answer ≡ true
  current_listed actor c last puts true current ask is going there = cc
  current_listed actor c last puts false None ask is going there = refl
  current_listed actor c last puts false (Some phase) ask is going there = let same : ask ≡ ask_of c (put_index counts c puts phase) phase = cc in rw same (phase_listed actor c last puts phase going there)

  -- what a client asks is answered as its current call can hear it
  pub listed : (actor : Actor) (c : Client) (last : ℕ) (p : Progress) (ask : Ask) → Some ask ≡ next_ask counts c p → is_going_now p.current ≡ true → current_there counts p.current ≡ true → answers_now p.current (serve h actor last ask).entry.answer ≡ true
  listed actor c last p ask is going there = current_listed actor c last p.puts p.ended p.current ask is going there
