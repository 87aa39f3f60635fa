-- Each step of a shard lengthens the log by one, and the counts of its directories by one at most.
use Rattle.std.proofs.Common.{◌≡◌, ℕ, ◌+◌, ◌≤◌, List, Bool, true, false, refl, arith, ◌⊎◌, inl, inr}
use Rattle.std.specs.Prelude.{if◌then◌else◌, ◌==◌, Option, Some, None}
use Rattle.std.proofs.lemmas.Bool.Decides.{nat_tests}
use Rattle.std.specs.Ordering.{nat_cmp}
use Rattle.std.specs.FinMap.{get, insert, remove, empty, len, gets, get-empty, len-empty}
use Rattle.cfs_ids.proofs.MapLemmas.{set-few, cut-few}
use Rattle.cfs_ids.specs.declared.ids.DirId.{DirId}
use Rattle.cfs_ids.specs.declared.ids.Client.{Client}
use Rattle.cfs_ids.specs.declared.ids.JobNo.{JobNo}
use Rattle.cfs_ids.specs.declared.ids.Stamp.{Stamp}
use Rattle.cfs_ids.specs.declared.ids.Node.{Node}
use Rattle.cfs_ids.specs.declared.ids.Node.TheVariants.{Dir, File}
use Rattle.cfs_ids.specs.Maps.{Numbers, row_key}
use Rattle.cfs_ids.specs.Namespace.{is_dir}
use Rattle.cfs_steps.specs.declared.ask.Ask.{Ask}
use Rattle.cfs_steps.specs.declared.ask.Ask.TheVariants.{Read, List as ListAsk, Insert, Put, PutDir, Settle, TakeBack, End}
use Rattle.cfs_steps.specs.declared.answer.Answer.TheVariants.{Done, None as NoneAnswer}
use Rattle.cfs_steps.specs.declared.contents.Row.{Row}
use Rattle.cfs_steps.specs.declared.contents.DirRec.{DirRec}
use Rattle.cfs_rules.specs.Locks.{lock_met}
use Rattle.cfs_rules.specs.Places.{Shard, serve_free, serve_shard, unless_locked, opening_shard, empty_shard, opening_part, root_rec, unmoved, made_at, inserted, updated, with_recs, new_dir, settled_dir, settle_dir_owner, taken_back_dir, take_owned_dir}
use Rattle.cfs_shard.specs.Bounds.{Within, CountsWithin}

more : (n : ℕ) (s : Shard) → CountsWithin n s → CountsWithin (n + 1) s
more n s h d r e = let w = h d r e in record { children = omega (arith, w.children); subdirs = omega (arith, w.subdirs) }

pub raised : (n m : ℕ) (s : Shard) → n ≤ m → CountsWithin n s → CountsWithin m s
raised n m s le h d r e = let w = h d r e in record { children = omega (arith, w.children); subdirs = omega (arith, w.subdirs) }

from_insert : (m : Numbers DirRec) (k q : ℕ) (v x : DirRec) → get (insert m k v) q ≡ Some x → (x ≡ v) ⊎ (get m q ≡ Some x)
from_insert m k q v x e = grind (arith, nat_tests, gets)

one_at_most : (b : Bool) (n : ℕ) → n + (if b then 1 else 0) ≤ n + 1
one_at_most true n = omega arith
one_at_most false n = omega arith

insert-within : (n : ℕ) (s : Shard) (at : Stamp) (client : Client) (dir : DirId) (name : List ℕ) (node : Node) (ts : ℕ) (o : Option DirRec) → get s.recs dir.0 ≡ o → (q : Option Row) → CountsWithin n s → CountsWithin (n + 1) (inserted s at client dir name node ts o q).contents
insert-within n s at client dir name node ts None e q h = more n s h
insert-within n s at client dir name node ts (Some r) e (Some row) h = more n s h
insert-within n s at client dir name node ts (Some r) e None h = λ d x is. by_case d x (from_insert s.recs dir.0 d (record r { attr = updated r.attr node ts }) x is)
  where
    by_case : (d : ℕ) (x : DirRec) → (x ≡ record r { attr = updated r.attr node ts }) ⊎ (get s.recs d ≡ Some x) → Within (n + 1) x
    by_case d x (inl p) = let w = h dir.0 r e in rw p (record { children = omega (arith, w.children); subdirs = omega (arith, w.subdirs, one_at_most (is_dir node) r.attr.subdirs) })
    by_case d x (inr p) = more n s h d x p

set-within : (n : ℕ) (s : Shard) (d : ℕ) (v : DirRec) → Within n v → CountsWithin n s → CountsWithin (n + 1) (with_recs s (insert s.recs d v))
set-within n s d v small h = λ q x is. by_case q x (from_insert s.recs d q v x is)
  where
    by_case : (q : ℕ) (x : DirRec) → (x ≡ v) ⊎ (get s.recs q ≡ Some x) → Within (n + 1) x
    by_case q x (inl p) = rw p (record { children = omega (arith, small.children); subdirs = omega (arith, small.subdirs) })
    by_case q x (inr p) = more n s h q x p

settle-within : (n : ℕ) (s : Shard) (dir : DirId) (o : Option DirRec) → get s.recs dir.0 ≡ o → CountsWithin n s → CountsWithin (n + 1) (settled_dir s dir o).contents
settle-within n s dir None e h = more n s h
settle-within n s dir (Some r) e h = by_owner r.owner
  where
    by_owner : (o : Option Client) → CountsWithin (n + 1) (settle_dir_owner s dir r o).contents
    by_owner None = more n s h
    by_owner (Some c) = let w = h dir.0 r e in set-within n s dir.0 (record r { owner = None }) (record { children = w.children; subdirs = w.subdirs }) h

from_remove : (m : Numbers DirRec) (k q : ℕ) (x : DirRec) → get (remove m k) q ≡ Some x → get m q ≡ Some x
from_remove m k q x e = by_test (q == k) refl
  where
    by_test : (b : Bool) → (q == k) ≡ b → get m q ≡ Some x
    by_test true t = absurd (grind (arith, nat_tests, gets))
    by_test false t = grind (arith, nat_tests, gets)

take-within : (n : ℕ) (s : Shard) (c : Client) (dir : DirId) (o : Option DirRec) → CountsWithin n s → CountsWithin (n + 1) (taken_back_dir s c dir o).contents
take-within n s c dir None h = more n s h
take-within n s c dir (Some r) h = by_owner r.owner
  where
    by_test : (b : Bool) → CountsWithin (n + 1) (if b then unmoved (with_recs s (remove s.recs dir.0)) (Done None) else unmoved s NoneAnswer).contents
    by_test true = λ q x e. more n s h q x (from_remove s.recs dir.0 q x e)
    by_test false = more n s h

    by_owner : (o : Option Client) → CountsWithin (n + 1) (take_owned_dir s c dir o).contents
    by_owner None = more n s h
    by_owner (Some owner) = by_test (owner.0 == c.0)

serve_free-within : (n : ℕ) (s : Shard) (at : Stamp) (ask : Ask) → CountsWithin n s → CountsWithin (n + 1) (serve_free s at ask).contents
serve_free-within n s at (Read dir name) h = more n s h
serve_free-within n s at (ListAsk dir) h = more n s h
serve_free-within n s at (Insert client dir name node ts) h = insert-within n s at client dir name node ts (get s.recs dir.0) refl (get s.rows (row_key dir name)) h
serve_free-within n s at (Put client place home) h = more n s h
serve_free-within n s at (PutDir client place dir name) h = set-within n s (made_at at) (new_dir client dir name at.number) (record { children = omega arith; subdirs = omega arith }) h
serve_free-within n s at (Settle (Dir dir)) h = settle-within n s dir (get s.recs dir.0) refl h
serve_free-within n s at (Settle (File file)) h = more n s h
serve_free-within n s at (TakeBack client (Dir dir)) h = take-within n s client dir (get s.recs dir.0) h
serve_free-within n s at (TakeBack client (File file)) h = more n s h
serve_free-within n s at (End client) h = more n s h

pub serve-within : (n : ℕ) (s : Shard) (at : Stamp) (ask : Ask) → CountsWithin n s → CountsWithin (n + 1) (serve_shard s at ask).contents
serve-within n s at ask h = by_lock (lock_met s.locks s.recs ask)
  where
    by_lock : (o : Option JobNo) → CountsWithin (n + 1) (unless_locked o s (serve_free s at ask)).contents
    by_lock None = serve_free-within n s at ask h
    by_lock (Some job) = more n s h

none_there : (d : ℕ) (r : DirRec) → get (empty {X = DirRec} {R = nat_cmp}) d ≡ Some r → ⊥
none_there d r e = let none = get-empty {X = DirRec} nat_cmp d in differ none e
  where
    differ : get (empty {X = DirRec} {R = nat_cmp}) d ≡ None → get (empty {X = DirRec} {R = nat_cmp}) d ≡ Some r → ⊥
    differ a b = cc

pub opening-within : (index : ℕ) → CountsWithin 0 (opening_part index)
opening-within index = by_test (index == 0)
  where
    by_case : (d : ℕ) (r : DirRec) → (r ≡ root_rec) ⊎ (get (empty {X = DirRec} {R = nat_cmp}) d ≡ Some r) → Within 0 r
    by_case d r (inl p) = rw p (record { children = omega arith; subdirs = omega arith })
    by_case d r (inr p) = absurd (none_there d r p)

    by_test : (b : Bool) → CountsWithin 0 (if b then opening_shard else empty_shard)
    by_test true = λ d r e. by_case d r (from_insert empty 0 d root_rec r e)
    by_test false = λ d r e. absurd (none_there d r e)

-- ---- how many records there are
insert-few : (s : Shard) (at : Stamp) (client : Client) (dir : DirId) (name : List ℕ) (node : Node) (ts : ℕ) (o : Option DirRec) (q : Option Row) → len (inserted s at client dir name node ts o q).contents.recs ≤ len s.recs + 1
insert-few s at client dir name node ts None q = omega arith
insert-few s at client dir name node ts (Some r) (Some row) = omega arith
insert-few s at client dir name node ts (Some r) None = set-few s.recs dir.0 (record r { attr = updated r.attr node ts })

settle-few : (s : Shard) (dir : DirId) (o : Option DirRec) → len (settled_dir s dir o).contents.recs ≤ len s.recs + 1
settle-few s dir None = omega arith
settle-few s dir (Some r) = by_owner r.owner
  where
    by_owner : (o : Option Client) → len (settle_dir_owner s dir r o).contents.recs ≤ len s.recs + 1
    by_owner None = omega arith
    by_owner (Some c) = set-few s.recs dir.0 (record r { owner = None })

take-few : (s : Shard) (c : Client) (dir : DirId) (o : Option DirRec) → len (taken_back_dir s c dir o).contents.recs ≤ len s.recs + 1
take-few s c dir None = omega arith
take-few s c dir (Some r) = by_owner r.owner
  where
    by_test : (b : Bool) → len (if b then unmoved (with_recs s (remove s.recs dir.0)) (Done None) else unmoved s NoneAnswer).contents.recs ≤ len s.recs + 1
    by_test true = cut-few s.recs dir.0
    by_test false = omega arith

    by_owner : (o : Option Client) → len (take_owned_dir s c dir o).contents.recs ≤ len s.recs + 1
    by_owner None = omega arith
    by_owner (Some owner) = by_test (owner.0 == c.0)

serve_free-few : (s : Shard) (at : Stamp) (ask : Ask) → len (serve_free s at ask).contents.recs ≤ len s.recs + 1
serve_free-few s at (Read dir name) = omega arith
serve_free-few s at (ListAsk dir) = omega arith
serve_free-few s at (Insert client dir name node ts) = insert-few s at client dir name node ts (get s.recs dir.0) (get s.rows (row_key dir name))
serve_free-few s at (Put client place home) = omega arith
serve_free-few s at (PutDir client place dir name) = set-few s.recs (made_at at) (new_dir client dir name at.number)
serve_free-few s at (Settle (Dir dir)) = settle-few s dir (get s.recs dir.0)
serve_free-few s at (Settle (File file)) = omega arith
serve_free-few s at (TakeBack client (Dir dir)) = take-few s client dir (get s.recs dir.0)
serve_free-few s at (TakeBack client (File file)) = omega arith
serve_free-few s at (End client) = omega arith

pub serve-few : (s : Shard) (at : Stamp) (ask : Ask) → len (serve_shard s at ask).contents.recs ≤ len s.recs + 1
serve-few s at ask = by_lock (lock_met s.locks s.recs ask)
  where
    by_lock : (o : Option JobNo) → len (unless_locked o s (serve_free s at ask)).contents.recs ≤ len s.recs + 1
    by_lock None = serve_free-few s at ask
    by_lock (Some job) = omega arith

pub opening-few : (index : ℕ) → len (opening_part index).recs ≤ 1
opening-few index = by_test (index == 0)
  where
    none : len (empty {X = DirRec} {R = nat_cmp}) ≡ 0
    none = len-empty nat_cmp DirRec

    by_test : (b : Bool) → len (if b then opening_shard else empty_shard).recs ≤ 1
    by_test true = let few = set-few empty 0 root_rec in omega (arith, none)
    by_test false = omega (arith, none)
