-- Where no lock is set, each ask is served as its table says without locks, and none is set by it.
use Rattle.std.proofs.Common.{◌≡◌, ℕ, List, [], ◌∷◌, Bool, true, false, refl, sym, ◌∙◌, ap, subst, arith, ◌⊎◌, inl, inr}
use Rattle.std.specs.Prelude.{if◌then◌else◌, ◌==◌, nat_lt, Option, Some, None}
use Rattle.std.specs.Option.{option_or}
use Rattle.std.proofs.lemmas.Bool.Decides.{nat_tests}
use Rattle.std.specs.Ordering.{nat_cmp}
use Rattle.std.specs.Cmp.Lexicographic.{slice_cmp, nat_list_cmp_total}
use Rattle.std.specs.FinMap.{get, insert, remove, empty, entries, gets, from_entries, get-empty, same_map}
use Rattle.cfs_ids.specs.declared.ids.DirId.{DirId}
use Rattle.cfs_ids.specs.declared.ids.Client.{Client}
use Rattle.cfs_ids.specs.declared.ids.JobNo.{JobNo}
use Rattle.cfs_ids.specs.declared.ids.Stamp.{Stamp}
use Rattle.cfs_ids.specs.declared.ids.Node.{Node}
use Rattle.cfs_ids.specs.declared.ids.Node.TheVariants.{Dir, File}
use Rattle.cfs_ids.specs.Maps.{Names, Numbers, row_key, within}
use Rattle.cfs_ids.proofs.Entries.{entries-empty}
use Rattle.cfs_steps.specs.declared.contents.Row.{Row}
use Rattle.cfs_steps.specs.declared.contents.RowLock.{RowLock}
use Rattle.cfs_steps.specs.declared.contents.DirRec.{DirRec}
use Rattle.cfs_steps.specs.declared.ask.Ask.{Ask}
use Rattle.cfs_steps.specs.declared.ask.Ask.TheVariants.{Read, List as ListAsk, Insert, Put, PutDir, Settle, TakeBack, End}
use Rattle.cfs_steps.specs.declared.answer.Answer.TheVariants.{Done, None as NoneAnswer}
use Rattle.cfs_rules.specs.Locks.{job_of, source_job, locks_in, first_source, replacing_job, met_in, lock_met}
use Rattle.cfs_rules.specs.Places.{Shard, Served, unmoved, number_after, made_at, updated, with_recs, new_dir, inserted, settle_dir_owner, settled_dir, take_owned_dir, taken_back_dir, serve_free, serve_shard, unless_locked, opening_shard, root_rec}
use Rattle.cfs_steps.specs.Asks.{place_of}
use Rattle.cfs_rules.proofs.Names.{bytes_apart}
use Rattle.cfs_rules.specs.Facts.{Unlocked}
use Rattle.cfs_rules.specs.Worlds.{World, Progress, Counts, Setup, client_of, stamped, step_in, step, next_ask, turn_asking, turn, run_of, opening, played}

-- ---- no lock is met
module _ (s : Shard) (u : Unlocked s) where
  no_locks : s.locks ≡ empty
  no_locks = same_map nat_list_cmp_total bytes_apart s.locks empty (λ k. u.names k ∙ sym (get-empty {X = RowLock} (slice_cmp nat_cmp) k))

  none_within : (d : ℕ) → first_source (entries (locks_in s.locks d)) ≡ None
  none_within d = ap (λ m. first_source (entries (locks_in m d))) no_locks ∙ ap (λ es. first_source (entries (from_entries {R = slice_cmp nat_cmp} (within d es)))) (entries-empty {X = RowLock} (slice_cmp nat_cmp)) ∙ ap first_source (entries-empty {X = RowLock} (slice_cmp nat_cmp))

  none_met : (d : ℕ) (o : Option DirRec) (job : Option JobNo) → get s.recs d ≡ o → job ≡ None → met_in o job ≡ None
  none_met d None job there none = refl
  none_met d (Some r) job there none = ap (λ l. option_or (replacing_job l) job) (u.recs d r there) ∙ none

  pub lock_met-unlocked : (ask : Ask) → lock_met s.locks s.recs ask ≡ None
  lock_met-unlocked (Read dir name) = ap source_job (u.names (row_key dir name))
  lock_met-unlocked (ListAsk dir) = none_met dir.0 (get s.recs dir.0) _ refl (none_within dir.0)
  lock_met-unlocked (Insert client dir name node ts) = none_met dir.0 (get s.recs dir.0) _ refl (ap job_of (u.names (row_key dir name)))
  lock_met-unlocked (Put client place home) = refl
  lock_met-unlocked (PutDir client place dir name) = refl
  lock_met-unlocked (Settle node) = refl
  lock_met-unlocked (TakeBack client node) = refl
  lock_met-unlocked (End client) = refl

  pub serve_shard-unlocked : (at : Stamp) (ask : Ask) → serve_shard s at ask ≡ serve_free s at ask
  serve_shard-unlocked at ask = ap (λ o. unless_locked o s (serve_free s at ask)) (lock_met-unlocked ask)

-- ---- no lock is set
from_insert : (m : Numbers DirRec) (k q : ℕ) (v x : DirRec) → get (insert m k v) q ≡ Some x → (x ≡ v) ⊎ (get m q ≡ Some x)
from_insert m k q v x e = grind (arith, nat_tests, gets)

pub from_remove : {X : Type 0} (m : Numbers X) (k q : ℕ) (x : X) → get (remove m k) q ≡ Some x → get m q ≡ Some x
from_remove m k q x e = by_test (q == k) refl
  where
    by_test : (b : Bool) → (q == k) ≡ b → get m q ≡ Some x
    by_test true t = absurd (grind (arith, nat_tests, gets))
    by_test false t = grind (arith, nat_tests, gets)

sets-unlocked : (s : Shard) → Unlocked s → (rows : Names Row) (d : ℕ) (v : DirRec) → v.lock ≡ None → Unlocked (record s { rows = rows; recs = insert s.recs d v })
sets-unlocked s u rows d v none = record { names = u.names; recs = λ q r e. by_case q r (from_insert s.recs d q v r e) }
  where
    by_case : (q : ℕ) (r : DirRec) → (r ≡ v) ⊎ (get s.recs q ≡ Some r) → r.lock ≡ None
    by_case q r (inl p) = ap (λ (x : DirRec). x.lock) p ∙ none
    by_case q r (inr p) = u.recs q r p

pub cuts-unlocked : (s : Shard) → Unlocked s → (d : ℕ) → Unlocked (with_recs s (remove s.recs d))
cuts-unlocked s u d = record { names = u.names; recs = λ q r e. u.recs q r (from_remove s.recs d q r e) }

inserted-unlocked : (s : Shard) (at : Stamp) (client : Client) (dir : DirId) (name : List ℕ) (node : Node) (ts : ℕ) (o : Option DirRec) → get s.recs dir.0 ≡ o → (q : Option Row) → Unlocked s → Unlocked (inserted s at client dir name node ts o q).contents
inserted-unlocked s at client dir name node ts None there q u = u
inserted-unlocked s at client dir name node ts (Some r) there (Some row) u = u
inserted-unlocked s at client dir name node ts (Some r) there None u = sets-unlocked s u (insert s.rows (row_key dir name) (record { node = node; stamp = at })) dir.0 (record r { attr = updated r.attr node ts }) (u.recs dir.0 r there)

settled-unlocked : (s : Shard) (dir : DirId) (o : Option DirRec) → get s.recs dir.0 ≡ o → Unlocked s → Unlocked (settled_dir s dir o).contents
settled-unlocked s dir None there u = u
settled-unlocked s dir (Some r) there u = by_owner r.owner
  where
    by_owner : (o : Option Client) → Unlocked (settle_dir_owner s dir r o).contents
    by_owner None = u
    by_owner (Some c) = sets-unlocked s u s.rows dir.0 (record r { owner = None }) (u.recs dir.0 r there)

taken-unlocked : (s : Shard) (client : Client) (dir : DirId) (o : Option DirRec) → Unlocked s → Unlocked (taken_back_dir s client dir o).contents
taken-unlocked s client dir None u = u
taken-unlocked s client dir (Some r) u = by_owner r.owner
  where
    by_test : (b : Bool) → Unlocked (if b then unmoved (with_recs s (remove s.recs dir.0)) (Done None) else unmoved s NoneAnswer).contents
    by_test true = cuts-unlocked s u dir.0
    by_test false = u

    by_owner : (o : Option Client) → Unlocked (take_owned_dir s client dir o).contents
    by_owner None = u
    by_owner (Some c) = by_test (c.0 == client.0)

-- no ask sets a lock
pub serve_free-unlocked : (s : Shard) (at : Stamp) (ask : Ask) → Unlocked s → Unlocked (serve_free s at ask).contents
serve_free-unlocked s at (Read dir name) u = u
serve_free-unlocked s at (ListAsk dir) u = u
serve_free-unlocked s at (Insert client dir name node ts) u = inserted-unlocked s at client dir name node ts (get s.recs dir.0) refl (get s.rows (row_key dir name)) u
serve_free-unlocked s at (Put client place home) u = u
serve_free-unlocked s at (PutDir client place dir name) u = sets-unlocked s u s.rows (made_at at) (new_dir client dir name at.number) refl
serve_free-unlocked s at (Settle (Dir dir)) u = settled-unlocked s dir (get s.recs dir.0) refl u
serve_free-unlocked s at (Settle (File file)) u = u
serve_free-unlocked s at (TakeBack client (Dir dir)) u = taken-unlocked s client dir (get s.recs dir.0) u
serve_free-unlocked s at (TakeBack client (File file)) u = u
serve_free-unlocked s at (End client) u = u

pub opening-unlocked : Unlocked opening_shard
opening-unlocked = record { names = λ k. get-empty {X = RowLock} (slice_cmp nat_cmp) k; recs = λ d r e. by_case d r (from_insert empty 0 d root_rec r e) }
  where
    by_case : (d : ℕ) (r : DirRec) → (r ≡ root_rec) ⊎ (get (empty {X = DirRec} {R = nat_cmp}) d ≡ Some r) → r.lock ≡ None
    by_case d r (inl p) = ap (λ (x : DirRec). x.lock) p
    by_case d r (inr p) = absurd (differ (get-empty {X = DirRec} nat_cmp d) p)
      where
        differ : get (empty {X = DirRec} {R = nat_cmp}) d ≡ None → get (empty {X = DirRec} {R = nat_cmp}) d ≡ Some r → ⊥
        differ a b = cc

-- ---- so none is set in any run
pub serve_shard-stays : (s : Shard) (at : Stamp) (ask : Ask) → Unlocked s → Unlocked (serve_shard s at ask).contents
serve_shard-stays s at ask u = subst (λ (served : Served Shard). Unlocked served.contents) (sym (serve_shard-unlocked s u at ask)) (serve_free-unlocked s at ask u)

step-unlocked : (w : World) (c : ℕ) (p : Progress) (ask : Ask) → Unlocked w.shard → Unlocked (step w c p ask).shard
step-unlocked w c p ask u = by_place (nat_lt (place_of ask).0 64) (nat_lt (place_of ask).0 128)
  where
    number : ℕ
    number = number_after p.last (w.lasts (place_of ask).0)

    by_place : (shard store : Bool) → Unlocked (step_in shard store w c p ask number).shard
    by_place true store = serve_shard-stays w.shard (stamped number ask) ask u
    by_place false true = u
    by_place false false = u

pub turn-unlocked : (counts : Counts) (w : World) (c : ℕ) → Unlocked w.shard → Unlocked (turn counts w c).shard
turn-unlocked counts w c u = by_ask (next_ask counts (client_of c) (w.clients c))
  where
    by_ask : (o : Option Ask) → Unlocked (turn_asking w c (w.clients c) o).shard
    by_ask None = u
    by_ask (Some ask) = step-unlocked w c (w.clients c) ask u

run-unlocked : (counts : Counts) (cs : List ℕ) (w : World) → Unlocked w.shard → Unlocked (run_of counts cs w).shard
run-unlocked counts [] w u = u
run-unlocked counts (c ∷ cs) w u = run-unlocked counts cs (turn counts w c) (turn-unlocked counts w c u)

pub played-unlocked : (setup : Setup) (turns : List ℕ) → Unlocked (played setup turns).shard
played-unlocked setup turns = run-unlocked setup.counts turns (opening setup) opening-unlocked
