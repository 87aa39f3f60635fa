-- Each step of a shard keeps what is known of the numbers of its directories.
use Rattle.std.proofs.Common.{◌≡◌, ℕ, ◌+◌, ◌*◌, ◌<◌, ◌≤◌, List, ◌∷◌, Bool, true, false, refl, arith, ◌⊎◌, inl, inr}
use Rattle.std.specs.Prelude.{if◌then◌else◌, ◌==◌, Option, Some, None}
use Rattle.std.proofs.lemmas.Bool.Decides.{nat_tests}
use Rattle.std.specs.Ordering.{nat_cmp}
use Rattle.std.specs.Cmp.Lexicographic.{slice_cmp}
use Rattle.std.specs.FinMap.{get, insert, remove, empty, gets, get-empty}
use Rattle.cfs_ids.specs.declared.ids.DirId.{DirId}
use Rattle.cfs_ids.specs.declared.ids.Client.{Client}
use Rattle.cfs_ids.specs.declared.ids.JobNo.{JobNo}
use Rattle.cfs_ids.specs.declared.ids.Stamp.{Stamp}
use Rattle.cfs_ids.specs.declared.ids.Node.{Node}
use Rattle.cfs_ids.specs.declared.ids.Node.TheVariants.{Dir, File}
use Rattle.cfs_ids.specs.Maps.{Names, Numbers, row_key}
use Rattle.cfs_steps.specs.declared.contents.Row.{Row}
use Rattle.cfs_steps.specs.declared.contents.DirRec.{DirRec}
use Rattle.cfs_steps.specs.declared.ask.Ask.{Ask}
use Rattle.cfs_steps.specs.declared.ask.Ask.TheVariants.{Read, List as ListAsk, Insert, Put, PutDir, Settle, TakeBack, End}
use Rattle.cfs_steps.specs.declared.answer.Answer.TheVariants.{Done, None as NoneAnswer}
use Rattle.cfs_rules.specs.Locks.{lock_met}
use Rattle.cfs_rules.specs.Places.{Shard, serve_free, serve_shard, unless_locked, unmoved, made_at, inserted, updated, with_recs, new_dir, settled_dir, settle_dir_owner, taken_back_dir, take_owned_dir, opening_part, opening_shard, empty_shard, root_rec}
use Rattle.cfs_rules.proofs.Locks.{from_remove}
use Rattle.cfs_shard.specs.Bounds.{IsKnown}

-- what is known stays known as numbers rise
pub later-known : (n m : ℕ) (s : Shard) → n ≤ m → IsKnown n s → IsKnown m s
later-known n m s le h = record {
  rows = λ d name row e. let low = h.rows d name row e in omega arith;
  recs = λ d r e. let low = h.recs d r e in omega arith;
}

row_from_insert : (m : Names Row) (d : ℕ) (name : List ℕ) (k : ℕ) (other : List ℕ) (v x : Row) → get (insert m (d ∷ name) v) (k ∷ other) ≡ Some x → (k ≡ d) ⊎ (get m (k ∷ other) ≡ Some x)
row_from_insert m d name k other v x e = grind (arith, nat_tests, gets)

pub rec_from_insert : (m : Numbers DirRec) (d k : ℕ) (v x : DirRec) → get (insert m d v) k ≡ Some x → (k ≡ d) ⊎ (get m k ≡ Some x)
rec_from_insert m d k v x e = grind (arith, nat_tests, gets)

module _ (n : ℕ) (s : Shard) (h : IsKnown n s) where
  set-known : (d : ℕ) (v : DirRec) → d < 64 * (n + 1) → IsKnown n (with_recs s (insert s.recs d v))
  set-known d v low = record { rows = h.rows; recs = λ k r e. by_case k r (rec_from_insert s.recs d k v r e) }
    where
      by_case : (k : ℕ) (r : DirRec) → (k ≡ d) ⊎ (get s.recs k ≡ Some r) → k < 64 * (n + 1)
      by_case k r (inl same) = omega arith
      by_case k r (inr old) = h.recs k r old

  -- a row comes into a directory that has a record
  insert-known : (at : Stamp) (client : Client) (dir : DirId) (name : List ℕ) (node : Node) (ts : ℕ) (o : Option DirRec) → get s.recs dir.0 ≡ o → (q : Option Row) → IsKnown n (inserted s at client dir name node ts o q).contents
  insert-known at client dir name node ts None there q = h
  insert-known at client dir name node ts (Some r) there (Some row) = h
  insert-known at client dir name node ts (Some r) there None = record {
    rows = λ k other row e. by_case k other row (row_from_insert s.rows dir.0 name k other (record { node = node; stamp = at }) row e);
    recs = (set-known dir.0 (record r { attr = updated r.attr node ts }) (h.recs dir.0 r there)).recs;
  }
    where
      by_case : (k : ℕ) (other : List ℕ) (row : Row) → (k ≡ dir.0) ⊎ (get s.rows (k ∷ other) ≡ Some row) → k < 64 * (n + 1)
      by_case k other row (inl same) = let low = h.recs dir.0 r there in omega arith
      by_case k other row (inr old) = h.rows k other row old

  settle-known : (dir : DirId) (o : Option DirRec) → get s.recs dir.0 ≡ o → IsKnown n (settled_dir s dir o).contents
  settle-known dir None there = h
  settle-known dir (Some r) there = by_owner r.owner
    where
      by_owner : (o : Option Client) → IsKnown n (settle_dir_owner s dir r o).contents
      by_owner None = h
      by_owner (Some c) = set-known dir.0 (record r { owner = None }) (h.recs dir.0 r there)

  take-known : (client : Client) (dir : DirId) (o : Option DirRec) → IsKnown n (taken_back_dir s client dir o).contents
  take-known client dir None = h
  take-known client dir (Some r) = by_owner r.owner
    where
      by_test : (b : Bool) → IsKnown n (if b then unmoved (with_recs s (remove s.recs dir.0)) (Done None) else unmoved s NoneAnswer).contents
      by_test true = record { rows = h.rows; recs = λ k x e. h.recs k x (from_remove s.recs dir.0 k x e) }
      by_test false = h

      by_owner : (o : Option Client) → IsKnown n (take_owned_dir s client dir o).contents
      by_owner None = h
      by_owner (Some c) = by_test (c.0 == client.0)

made-low : (at : Stamp) → made_at at < 64 * (at.number + 1)
made-low at = omega arith

free-known : (s : Shard) (at : Stamp) (ask : Ask) → IsKnown at.number s → IsKnown at.number (serve_free s at ask).contents
free-known s at (Read dir name) h = h
free-known s at (ListAsk dir) h = h
free-known s at (Insert client dir name node ts) h = insert-known at.number s h at client dir name node ts (get s.recs dir.0) refl (get s.rows (row_key dir name))
free-known s at (Put client place home) h = h
free-known s at (PutDir client place dir name) h = set-known at.number s h (made_at at) (new_dir client dir name at.number) (made-low at)
free-known s at (Settle (Dir dir)) h = settle-known at.number s h dir (get s.recs dir.0) refl
free-known s at (Settle (File file)) h = h
free-known s at (TakeBack client (Dir dir)) h = take-known at.number s h client dir (get s.recs dir.0)
free-known s at (TakeBack client (File file)) h = h
free-known s at (End client) h = h

pub serve-known : (last : ℕ) (s : Shard) (at : Stamp) (ask : Ask) → last < at.number → IsKnown last s → IsKnown at.number (serve_shard s at ask).contents
serve-known last s at ask later h = by_lock (lock_met s.locks s.recs ask)
  where
    by_lock : (o : Option JobNo) → IsKnown at.number (unless_locked o s (serve_free s at ask)).contents
    by_lock None = free-known s at ask (later-known last at.number s (omega arith) h)
    by_lock (Some job) = later-known last at.number s (omega arith) h

-- so no row lies in what a later step makes
pub none_made : (last : ℕ) (s : Shard) (at : Stamp) → last < at.number → IsKnown last s → (name : List ℕ) → get s.rows (made_at at ∷ name) ≡ None
none_made last s at later h name = by_row (get s.rows (made_at at ∷ name)) refl
  where
    by_row : (o : Option Row) → get s.rows (made_at at ∷ name) ≡ o → o ≡ None
    by_row None e = refl
    by_row (Some row) e = let low = h.rows (made_at at) name row e in absurd (omega arith)

pub no_row : (k : List ℕ) (row : Row) → get (empty {X = Row} {R = slice_cmp nat_cmp}) k ≡ Some row → ⊥
no_row k row e = let none = get-empty {X = Row} (slice_cmp nat_cmp) k in cc

pub no_rec : (d : ℕ) (r : DirRec) → get (empty {X = DirRec} {R = nat_cmp}) d ≡ Some r → ⊥
no_rec d r e = let none = get-empty {X = DirRec} nat_cmp d in cc

pub opening-known : (index : ℕ) → IsKnown 0 (opening_part index)
opening-known index = by_test (index == 0)
  where
    by_case : (d : ℕ) (r : DirRec) → (d ≡ 0) ⊎ (get (empty {X = DirRec} {R = nat_cmp}) d ≡ Some r) → d < 64 * (0 + 1)
    by_case d r (inl same) = omega arith
    by_case d r (inr old) = absurd (no_rec d r old)

    by_test : (b : Bool) → IsKnown 0 (if b then opening_shard else empty_shard)
    by_test true = record { rows = λ d name row e. absurd (no_row (d ∷ name) row e); recs = λ d r e. by_case d r (rec_from_insert empty 0 d root_rec r e) }
    by_test false = record { rows = λ d name row e. absurd (no_row (d ∷ name) row e); recs = λ d r e. absurd (no_rec d r e) }
