-- What a client asks next is there, and so is what it asks after the answer.
use Rattle.std.proofs.Common.{◌≡◌, ℕ, ◌+◌, ◌*◌, ◌%◌, ◌<◌, List, Bool, true, false, refl, sym, subst, arith}
use Rattle.std.proofs.Math.Bool.{or-true}
use Rattle.std.specs.Prelude.{Option, Some, None, nat_lt, nat_le, ◌&&◌, ◌||◌}
use Rattle.std.specs.FinMap.{get}
use Rattle.std.proofs.lemmas.Bool.Decides.{nat_tests}
use Rattle.std.proofs.lemmas.Nat.{mod_below}
use Rattle.cfs_ids.specs.declared.ids.Client.{Client}
use Rattle.cfs_ids.specs.declared.ids.Stamp.{Stamp}
use Rattle.cfs_ids.specs.declared.ids.DirId.{DirId}
use Rattle.cfs_ids.specs.declared.ids.Node.{Node}
use Rattle.cfs_ids.specs.declared.ids.Node.TheVariants.{Dir, File}
use Rattle.cfs_ids.specs.declared.ids.Actor.{Actor}
use Rattle.cfs_ids.specs.declared.call.Reply.{Reply}
use Rattle.cfs_ids.specs.declared.call.Call.TheVariants.{Lookup, List as ListCall, Create, Mkdir}
use Rattle.cfs_ids.specs.Maps.{row_key}
use Rattle.cfs_steps.specs.declared.ask.Ask.{Ask}
use Rattle.cfs_steps.specs.declared.ask.Ask.TheVariants.{Read, List as ListAsk, Insert, End}
use Rattle.cfs_steps.specs.declared.entry.Entry.{Entry}
use Rattle.cfs_steps.specs.declared.contents.Row.{Row}
use Rattle.cfs_steps.specs.declared.contents.DirRec.{DirRec}
use Rattle.cfs_steps.specs.Asks.{place_of, home_of}
use Rattle.cfs_steps.specs.Phases.{Phase, Asking, Inserting, Settling, TakingBack, Finished, ask_of, heard_as, heard}
use Rattle.cfs_rules.specs.Places.{Shard, Served, read_row, list_rows, inserted, serve_free, serve_shard}
use Rattle.cfs_rules.specs.Facts.{Unlocked}
use Rattle.cfs_rules.proofs.Locks.{serve_shard-unlocked}
use Rattle.cfs_rules.specs.Worlds.{Counts, AreCounts, IsCount, Progress, put_index, with_phase, after_entry, next_ask, asked_next, hears}
use Rattle.cfs_view.specs.Held.{Held, has_place, serve}
use Rattle.cfs_core.proofs.Listed.{at_step, in_shard}
use Rattle.cfs_core.specs.Reach.{dir_there, node_there, reply_there, phase_there, current_there, PlanThere, ProgressThere, RowsThere}
use Rattle.cfs_core.proofs.Plans.{first-there, rest-there}
use Rattle.cfs_core.proofs.Truths.{and_left, and_right, both}

-- ---- places that are there
shard_there : (counts : Counts) (n : ℕ) → nat_lt n counts.shards ≡ true → has_place counts n ≡ true
shard_there counts n h = rw h refl

store_there : (counts : Counts) (n : ℕ) → nat_lt n counts.stores ≡ true → has_place counts (64 + n) ≡ true
store_there counts n h =
    let low : nat_le 64 (64 + n) ≡ true = grind (arith, nat_tests) in
    let high : nat_lt (64 + n) (64 + counts.stores) ≡ true = grind (arith, nat_tests, h) in
    rw (low, high) (or-true (nat_lt (64 + n) counts.shards))

roster_there : (counts : Counts) → has_place counts 129 ≡ true
roster_there counts = by_test (nat_lt 129 counts.shards) (nat_lt 129 (64 + counts.stores))
  where
    by_test : (a b : Bool) → (a || ((true && b) || true)) ≡ true
    by_test true b = refl
    by_test false true = refl
    by_test false false = refl

home_there : (counts : Counts) (c : Client) (node : Node) → node_there counts node ≡ true → has_place counts (home_of node).0 ≡ true
home_there counts c (Dir dir) h = shard_there counts (dir.0 % 64) h
home_there counts c (File file) h = store_there counts (file.0 % 64) h

index_low : (count n : ℕ) → IsCount count → nat_lt (n % count) count ≡ true
index_low count n k = let low = mod_below n count k.0 in grind (arith, nat_tests, low)

phase_asks : (counts : Counts) → AreCounts counts → (c : Client) (puts : ℕ) (phase : Phase) → phase_there counts phase ≡ true → has_place counts (place_of (ask_of c (put_index counts c puts phase) phase)).0 ≡ true
phase_asks counts good c puts (Asking (Lookup dir name)) h = shard_there counts (dir.0 % 64) h
phase_asks counts good c puts (Asking (ListCall dir)) h = shard_there counts (dir.0 % 64) h
phase_asks counts good c puts (Asking (Create dir name)) h = store_there counts ((c.0 + puts) % counts.stores) (index_low counts.stores (c.0 + puts) good.stores)
phase_asks counts good c puts (Asking (Mkdir dir name)) h = shard_there counts ((c.0 + puts) % counts.shards) (index_low counts.shards (c.0 + puts) good.shards)
phase_asks counts good c puts (Asking call) h = roster_there counts
phase_asks counts good c puts (Inserting dir name node ts first) h = shard_there counts (dir.0 % 64) (and_left (dir_there counts dir) (node_there counts node) h)
phase_asks counts good c puts (Settling dir name node ts first at) h = home_there counts c node h
phase_asks counts good c puts (TakingBack dir name node errno first at) h = home_there counts c node h
phase_asks counts good c puts (Finished done) h = roster_there counts

current_asks : (counts : Counts) → AreCounts counts → (c : Client) (puts : ℕ) (ended : Bool) (current : Option Phase) (ask : Ask) → Some ask ≡ asked_next counts c puts ended current → current_there counts current ≡ true → has_place counts (place_of ask).0 ≡ true
current_asks counts good c puts true current ask is h = cc
current_asks counts good c puts false None ask is h = let same : ask ≡ End c = cc in rw same (roster_there counts)
current_asks counts good c puts false (Some phase) ask is h = let same : ask ≡ ask_of c (put_index counts c puts phase) phase = cc in rw same (phase_asks counts good c puts phase h)

pub asks_there : (counts : Counts) → AreCounts counts → (c : Client) (p : Progress) (ask : Ask) → Some ask ≡ next_ask counts c p → ProgressThere counts p → has_place counts (place_of ask).0 ≡ true
asks_there counts good c p ask is there = current_asks counts good c p.puts p.ended p.current ask is there.current

-- ---- after an answer
with_phase_there : (counts : Counts) (p : Progress) (entry : Entry) (phase : Phase) → phase_there counts phase ≡ true → ((reply : Reply) → reply_there counts reply ≡ true → PlanThere counts (p.rest reply)) → ProgressThere counts (with_phase p entry phase)
with_phase_there counts p entry (Asking call) h rest = record { current = h; rest = rest }
with_phase_there counts p entry (Inserting dir name node ts first) h rest = record { current = h; rest = rest }
with_phase_there counts p entry (Settling dir name node ts first at) h rest = record { current = h; rest = rest }
with_phase_there counts p entry (TakingBack dir name node errno first at) h rest = record { current = h; rest = rest }
with_phase_there counts p entry (Finished done) h rest = record { current = first-there counts (p.rest done.reply) (rest done.reply h); rest = rest-there counts (p.rest done.reply) (rest done.reply h) }

low_part : (n i : ℕ) → i < 64 → (64 * n + i % 64) % 64 ≡ i
low_part n i low = omega arith

low_part_store : (n i : ℕ) → i < 64 → (64 * n + (64 + i) % 64) % 64 ≡ i
low_part_store n i low = omega arith

lookup_heard : (counts : Counts) (shard : Shard) (dir : DirId) (name : List ℕ) (s : Stamp) → RowsThere counts shard → (o : Option Row) → get shard.rows (row_key dir name) ≡ o → phase_there counts (heard_as (Asking (Lookup dir name)) s (read_row o)) ≡ true
lookup_heard counts shard dir name s named None is = refl
lookup_heard counts shard dir name s named (Some row) is = named (row_key dir name) row is

list_heard : (counts : Counts) (shard : Shard) (dir : DirId) (s : Stamp) (o : Option DirRec) → phase_there counts (heard_as (Asking (ListCall dir)) s (list_rows shard dir.0 o)) ≡ true
list_heard counts shard dir s None = refl
list_heard counts shard dir s (Some r) = refl

insert_heard : (counts : Counts) (shard : Shard) (at : Stamp) (c : Client) (dir : DirId) (name : List ℕ) (node : Node) (ts : ℕ) (first s : Stamp) → node_there counts node ≡ true → (o : Option DirRec) (q : Option Row)
    → phase_there counts (heard_as (Inserting dir name node ts first) s (inserted shard at c dir name node ts o q).answer) ≡ true
insert_heard counts shard at c dir name node ts first s h None q = h
insert_heard counts shard at c dir name node ts first s h (Some r) (Some row) = h
insert_heard counts shard at c dir name node ts first s h (Some r) None = h

-- where no lock is set
free_heard : (counts : Counts) (s : Shard) → Unlocked s → (at : Stamp) (ask : Ask) (phase : Phase) (stamp : Stamp) → phase_there counts (heard_as phase stamp (serve_free s at ask).answer) ≡ true → phase_there counts (heard_as phase stamp (serve_shard s at ask).answer) ≡ true
free_heard counts s free at ask phase stamp h = subst (λ (served : Served Shard). phase_there counts (heard_as phase stamp served.answer) ≡ true) (sym (serve_shard-unlocked s free at ask)) h

module _ (counts : Counts) (good : AreCounts counts) (h : Held) (free : Unlocked h.shard) (named : RowsThere counts h.shard) (actor : Actor) (c : Client) (last puts : ℕ) where
  phase_heard : (phase : Phase) → phase_there counts phase ≡ true
      → (let ask = ask_of c (put_index counts c puts phase) phase in phase_there counts (heard phase (place_of ask) (serve h actor last ask).entry) ≡ true)
  phase_heard (Asking (Lookup dir name)) there = rw (in_shard dir.0) (free_heard counts h.shard free (at_step h last (Read dir name)) (Read dir name) (Asking (Lookup dir name)) _ (lookup_heard counts h.shard dir name _ named (get h.shard.rows (row_key dir name)) refl))
  phase_heard (Asking (ListCall dir)) there = rw (in_shard dir.0) (free_heard counts h.shard free (at_step h last (ListAsk dir)) (ListAsk dir) (Asking (ListCall dir)) _ (list_heard counts h.shard dir _ (get h.shard.recs dir.0)))
  phase_heard (Asking (Create dir name)) there =
      let index = (c.0 + puts) % counts.stores in
      let low : index < counts.stores = mod_below (c.0 + puts) counts.stores good.stores.0 in
      let few = good.stores.1 in
      let above : nat_lt (64 + index) 64 ≡ false = grind (arith, nat_tests) in
      let below : nat_lt (64 + index) 128 ≡ true = grind (arith, nat_tests, low, few) in
      rw (above, below) (both _ _ there (new_file _ index low (omega arith)))
    where
      new_file : (number index : ℕ) → index < counts.stores → index < 64 → nat_lt ((64 * number + (64 + index) % 64) % 64) counts.stores ≡ true
      new_file number index low small = rw (low_part_store number index small) (grind (arith, nat_tests, low))
  phase_heard (Asking (Mkdir dir name)) there =
      let index = (c.0 + puts) % counts.shards in
      let low : index < counts.shards = mod_below (c.0 + puts) counts.shards good.shards.0 in
      let few = good.shards.1 in
      let below : nat_lt index 64 ≡ true = grind (arith, nat_tests, low, few) in
      rw below (both _ _ there (new_dir _ index low (omega arith)))
    where
      new_dir : (number index : ℕ) → index < counts.shards → index < 64 → nat_lt ((64 * number + index % 64) % 64) counts.shards ≡ true
      new_dir number index low small = rw (low_part number index small) (grind (arith, nat_tests, low))
  phase_heard (Asking call) there = cc
  phase_heard (Inserting dir name node ts first) there = rw (in_shard dir.0) (free_heard counts h.shard free _ (Insert c dir name node ts) (Inserting dir name node ts first) _ (insert_heard counts h.shard _ c dir name node ts first _ (and_right (dir_there counts dir) (node_there counts node) there) (get h.shard.recs dir.0) (get h.shard.rows (row_key dir name))))
  phase_heard (Settling dir name node ts first at) there = refl
  phase_heard (TakingBack dir name node errno first at) there = refl
  phase_heard (Finished done) there = there

hears_by : (counts : Counts) → AreCounts counts → (h : Held) → Unlocked h.shard → RowsThere counts h.shard → (actor : Actor) (c : Client) (last : ℕ) (p : Progress) (ended : Bool) (current : Option Phase) (ask : Ask) → Some ask ≡ asked_next counts c p.puts ended current → current_there counts current ≡ true
    → ((reply : Reply) → reply_there counts reply ≡ true → PlanThere counts (p.rest reply)) → ProgressThere counts (after_entry p current (place_of ask) (serve h actor last ask).entry)
hears_by counts good h free named actor c last p true current ask is there rest = cc
hears_by counts good h free named actor c last p false None ask is there rest = record { current = refl; rest = rest }
hears_by counts good h free named actor c last p false (Some phase) ask is there rest =
    let same : ask ≡ ask_of c (put_index counts c p.puts phase) phase = cc in
    let heard_there = phase_heard counts good h free named actor c last p.puts phase there in
    let step = ask_of c (put_index counts c p.puts phase) phase in
    let entry = (serve h actor last step).entry in
    rw same (with_phase_there counts p entry (heard phase (place_of step) entry) heard_there rest)

pub hears_there : (counts : Counts) → AreCounts counts → (h : Held) → Unlocked h.shard → RowsThere counts h.shard → (actor : Actor) (c : Client) (last : ℕ) (p : Progress) (ask : Ask) → Some ask ≡ next_ask counts c p → ProgressThere counts p
    → ProgressThere counts (hears p (place_of ask) (serve h actor last ask).entry)
hears_there counts good h free named actor c last p ask is there = hears_by counts good h free named actor c last p p.ended p.current ask is there.current there.rest

-- calls in the root ask the first shard, which is always there
pub root_there : (counts : Counts) → AreCounts counts → nat_lt (0 % 64) counts.shards ≡ true
root_there counts good = let some = good.shards.0 in grind (arith, nat_tests, some)
