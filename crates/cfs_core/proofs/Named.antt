-- The nodes that rows name are there, and stay there by a turn.
use Rattle.std.proofs.Common.{◌≡◌, ℕ, List, Bool, true, false, refl, sym, subst, arith, ◌⊎◌, inl, inr}
use Rattle.std.specs.Prelude.{Option, Some, None, nat_lt, if◌then◌else◌, ◌==◌}
use Rattle.std.specs.Ordering.{nat_cmp}
use Rattle.std.specs.Cmp.Lexicographic.{slice_cmp}
use Rattle.std.specs.FinMap.{get, insert, remove, empty, gets, get-empty}
use Rattle.std.proofs.lemmas.Bool.Decides.{nat_tests}
use Rattle.cfs_ids.specs.declared.ids.Client.{Client}
use Rattle.cfs_ids.specs.declared.ids.DirId.{DirId}
use Rattle.cfs_ids.specs.declared.ids.Stamp.{Stamp}
use Rattle.cfs_ids.specs.declared.ids.PlaceNo.{PlaceNo}
use Rattle.cfs_ids.specs.declared.ids.Node.{Node}
use Rattle.cfs_ids.specs.declared.ids.Node.TheVariants.{Dir, File}
use Rattle.cfs_ids.specs.declared.ids.Actor.{Actor}
use Rattle.cfs_ids.specs.declared.ids.Actor.TheVariants.{Client as ClientActor}
use Rattle.cfs_ids.specs.declared.call.Call.TheVariants.{Lookup, List as ListCall, Create, Mkdir}
use Rattle.cfs_ids.specs.Maps.{Names, row_key}
use Rattle.cfs_steps.specs.declared.contents.Row.{Row}
use Rattle.cfs_steps.specs.declared.contents.DirRec.{DirRec}
use Rattle.cfs_steps.specs.declared.ask.Ask.{Ask}
use Rattle.cfs_steps.specs.declared.ask.Ask.TheVariants.{Read, List as ListAsk, Insert, Put, PutDir, Settle, TakeBack, End}
use Rattle.cfs_steps.specs.declared.answer.Answer.TheVariants.{Done, None as NoneAnswer}
use Rattle.cfs_steps.specs.Asks.{place_of}
use Rattle.cfs_steps.specs.Phases.{Phase, Asking, Inserting, Settling, TakingBack, Finished, ask_of}
use Rattle.cfs_rules.specs.Places.{Shard, Served, unmoved, with_recs, inserted, settled_dir, settle_dir_owner, taken_back_dir, take_owned_dir, serve_free, number_after, opening_shard}
use Rattle.cfs_rules.specs.Facts.{Unlocked}
use Rattle.cfs_rules.specs.Worlds.{Counts, Progress, stamped, next_ask, asked_next, put_index}
use Rattle.cfs_rules.proofs.Locks.{serve_shard-unlocked}
use Rattle.cfs_view.specs.Held.{Held, serve, serve_in, serve_late}
use Rattle.cfs_core.specs.Parts.{turned, turn_part}
use Rattle.cfs_core.specs.Reach.{RowsThere, ProgressThere, node_there, dir_there, phase_there, current_there}
use Rattle.cfs_core.proofs.Truths.{and_right}

-- no rows, none that names another node
pub opening-named : (counts : Counts) → RowsThere counts opening_shard
opening-named counts key row is = absurd (differ (get-empty {X = Row} (slice_cmp nat_cmp) key) is)
  where
    differ : get (empty {X = Row} {R = slice_cmp nat_cmp}) key ≡ None → get (empty {X = Row} {R = slice_cmp nat_cmp}) key ≡ Some row → ⊥
    differ a b = cc

-- ---- of all asks an insert alone changes rows
abbrev inserts_there : Counts → Ask → Bool
inserts_there counts (Insert client dir name node ts) = node_there counts node
inserts_there counts ask = true

row_from_insert : (m : Names Row) (k q : List ℕ) (v x : Row) → get (insert m k v) q ≡ Some x → (x ≡ v) ⊎ (get m q ≡ Some x)
row_from_insert m k q v x e = grind (arith, nat_tests, gets)

inserted-named : (counts : Counts) (s : Shard) → RowsThere counts s → (at : Stamp) (client : Client) (dir : DirId) (name : List ℕ) (node : Node) (ts : ℕ) → node_there counts node ≡ true → (o : Option DirRec) (q : Option Row)
    → RowsThere counts (inserted s at client dir name node ts o q).contents
inserted-named counts s named at client dir name node ts there None q = named
inserted-named counts s named at client dir name node ts there (Some r) (Some row) = named
inserted-named counts s named at client dir name node ts there (Some r) None = λ key row is. by_case key row (row_from_insert s.rows (row_key dir name) key (record { node = node; stamp = at }) row is)
  where
    by_case : (key : List ℕ) (row : Row) → ◌⊎◌ (◌≡◌ {A = Row} row (record { node = node; stamp = at })) (get s.rows key ≡ Some row) → node_there counts row.node ≡ true
    by_case key row (inl same) = subst (λ (x : Row). node_there counts x.node ≡ true) (sym same) there
    by_case key row (inr old) = named key row old

settled-named : (counts : Counts) (s : Shard) → RowsThere counts s → (dir : DirId) (o : Option DirRec) → RowsThere counts (settled_dir s dir o).contents
settled-named counts s named dir None = named
settled-named counts s named dir (Some r) = by_owner r.owner
  where
    by_owner : (o : Option Client) → RowsThere counts (settle_dir_owner s dir r o).contents
    by_owner None = named
    by_owner (Some c) = named

taken-named : (counts : Counts) (s : Shard) → RowsThere counts s → (client : Client) (dir : DirId) (o : Option DirRec) → RowsThere counts (taken_back_dir s client dir o).contents
taken-named counts s named client dir None = named
taken-named counts s named client dir (Some r) = by_owner r.owner
  where
    by_test : (b : Bool) → RowsThere counts (if b then unmoved (with_recs s (remove s.recs dir.0)) (Done None) else unmoved s NoneAnswer).contents
    by_test true = named
    by_test false = named

    by_owner : (o : Option Client) → RowsThere counts (take_owned_dir s client dir o).contents
    by_owner None = named
    by_owner (Some c) = by_test (c.0 == client.0)

free-named : (counts : Counts) (s : Shard) → RowsThere counts s → (at : Stamp) (ask : Ask) → inserts_there counts ask ≡ true → RowsThere counts (serve_free s at ask).contents
free-named counts s named at (Insert client dir name node ts) there = inserted-named counts s named at client dir name node ts there (get s.recs dir.0) (get s.rows (row_key dir name))
free-named counts s named at (Settle (Dir dir)) there = settled-named counts s named dir (get s.recs dir.0)
free-named counts s named at (TakeBack client (Dir dir)) there = taken-named counts s named client dir (get s.recs dir.0)
free-named counts s named at (Read dir name) there = named
free-named counts s named at (ListAsk dir) there = named
free-named counts s named at (Put client place home) there = named
free-named counts s named at (PutDir client place dir name) there = named
free-named counts s named at (Settle (File file)) there = named
free-named counts s named at (TakeBack client (File file)) there = named
free-named counts s named at (End client) there = named

-- ---- a step and a turn
step-named : (counts : Counts) (h : Held) → Unlocked h.shard → RowsThere counts h.shard → (actor : Actor) (last : ℕ) (ask : Ask) → inserts_there counts ask ≡ true → RowsThere counts (serve h actor last ask).held.shard
step-named counts h free named actor last ask there = by_place (nat_lt (place_of ask).0 64) (nat_lt (place_of ask).0 128)
  where
    number : ℕ
    number = number_after last (h.lasts (place_of ask).0)

    late : (b : Bool) → RowsThere counts (serve_late b h actor ask number).held.shard
    late true = named
    late false = named

    by_place : (shard store : Bool) → RowsThere counts (serve_in shard store h actor ask number).held.shard
    by_place true store = subst (λ (s : Served Shard). RowsThere counts s.contents) (sym (serve_shard-unlocked h.shard free (stamped number ask) ask)) (free-named counts h.shard named (stamped number ask) ask there)
    by_place false true = named
    by_place false false = late ((place_of ask).0 == 128)

phase-inserts : (counts : Counts) (c : Client) (index : ℕ) (phase : Phase) → phase_there counts phase ≡ true → inserts_there counts (ask_of c index phase) ≡ true
phase-inserts counts c index (Asking (Lookup dir name)) there = refl
phase-inserts counts c index (Asking (ListCall dir)) there = refl
phase-inserts counts c index (Asking (Create dir name)) there = refl
phase-inserts counts c index (Asking (Mkdir dir name)) there = refl
phase-inserts counts c index (Asking call) there = refl
phase-inserts counts c index (Inserting dir name node ts first) there = and_right (dir_there counts dir) (node_there counts node) there
phase-inserts counts c index (Settling dir name node ts first at) there = refl
phase-inserts counts c index (TakingBack dir name node errno first at) there = refl
phase-inserts counts c index (Finished done) there = refl

current-inserts : (counts : Counts) (c : Client) (puts : ℕ) (ended : Bool) (current : Option Phase) (ask : Ask) → Some ask ≡ asked_next counts c puts ended current → current_there counts current ≡ true → inserts_there counts ask ≡ true
current-inserts counts c puts true current ask is there = cc
current-inserts counts c puts false None ask is there = let same : ask ≡ End c = cc in rw same refl
current-inserts counts c puts false (Some phase) ask is there = let same : ask ≡ ask_of c (put_index counts c puts phase) phase = cc in rw same (phase-inserts counts c (put_index counts c puts phase) phase there)

pub turn-named : (counts : Counts) (c : Client) (order : List PlaceNo) (h : Held) (p : Progress) → Unlocked h.shard → RowsThere counts h.shard → ProgressThere counts p → RowsThere counts (turn_part counts c (record { held = h; progress = p; order = order })).held.shard
turn-named counts c order h p free named there = by_ask (next_ask counts c p) (λ ask next. current-inserts counts c p.puts p.ended p.current ask next there.current)
  where
    by_ask : (o : Option Ask) → ((ask : Ask) → Some ask ≡ o → inserts_there counts ask ≡ true) → RowsThere counts (turned c (record { held = h; progress = p; order = order }) o).held.shard
    by_ask None asks = named
    by_ask (Some ask) asks = step-named counts h free named (ClientActor c) p.last ask (asks ask refl)
