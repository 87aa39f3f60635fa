-- Each step of a shard keeps its counts.
use Rattle.std.proofs.Common.{◌≡◌, ◌≢◌, ℕ, ◌+◌, List, ◌∷◌, Bool, true, false, cond, refl, sym, ◌∙◌, arith, ◌⊎◌, inl, inr}
use Rattle.std.specs.Prelude.{if◌then◌else◌, ◌==◌, ◌&&◌, Option, Some, None}
use Rattle.std.proofs.lemmas.Bool.Decides.{nat_tests}
use Rattle.std.specs.Cmp.Lexicographic.{slice_cmp, nat_list_cmp_total}
use Rattle.std.specs.Ordering.{nat_cmp}
use Rattle.std.specs.FinMap.{get, insert, remove, entries, gets, entries-insert, get-entries}
use Rattle.cfs_ids.specs.declared.ids.DirId.{DirId}
use Rattle.cfs_ids.specs.declared.ids.Client.{Client}
use Rattle.cfs_ids.specs.declared.ids.JobNo.{JobNo}
use Rattle.cfs_ids.specs.declared.ids.Stamp.{Stamp}
use Rattle.cfs_ids.specs.declared.ids.Node.{Node}
use Rattle.cfs_ids.specs.declared.ids.Node.TheVariants.{Dir, File}
use Rattle.cfs_ids.specs.Maps.{Names, Numbers, row_key, lies_in, how_many}
use Rattle.cfs_ids.specs.Namespace.{is_dir}
use Rattle.cfs_ids.proofs.MapLemmas.{how_many-put}
use Rattle.cfs_steps.specs.declared.contents.Row.{Row}
use Rattle.cfs_steps.specs.declared.contents.DirRec.{DirRec}
use Rattle.cfs_steps.specs.declared.ask.Ask.{Ask}
use Rattle.cfs_steps.specs.declared.ask.Ask.TheVariants.{Read, List as ListAsk, Insert, Put, PutDir, Settle, TakeBack, End}
use Rattle.cfs_steps.specs.declared.answer.Answer.TheVariants.{Done, None as NoneAnswer}
use Rattle.cfs_rules.specs.Locks.{lock_met}
use Rattle.cfs_rules.specs.Places.{Shard, unmoved, serve_free, serve_shard, unless_locked, made_at, inserted, updated, with_row, with_recs, new_dir, settled_dir, settle_dir_owner, taken_back_dir, take_owned_dir}
use Rattle.cfs_rules.proofs.Locks.{from_remove}
use Rattle.cfs_rules.proofs.Empties.{no_children, no_subdirs}
use Rattle.cfs_rules.specs.Facts.{Counted, CountsHold}

-- a row at a free name adds what the test says of it
how_many-set_row : (rows : Names Row) (p : List ℕ × Row → Bool) (k : List ℕ) (row : Row) → get rows k ≡ None → how_many p (entries (insert rows k row)) ≡ how_many p (entries rows) + cond (p (k, row)) 1 0
how_many-set_row rows p k row none = rw (entries-insert nat_list_cmp_total rows k row) (how_many-put (slice_cmp nat_cmp) p k row (entries rows) (sym (get-entries rows k) ∙ none))

-- a record after an insert is the new one or an old one
from_insert : {X : Type 0} (m : Numbers X) (k q : ℕ) (v x : X) → get (insert m k v) q ≡ Some x → ((q ≡ k) × (x ≡ v)) ⊎ ((q ≢ k) × (get m q ≡ Some x))
from_insert m k q v x e = grind (arith, nat_tests, gets)

pub with_row-counts : (s : Shard) (at : Stamp) (dir : DirId) (name : List ℕ) (node : Node) (ts : ℕ) (r : DirRec) → get s.recs dir.0 ≡ Some r → get s.rows (row_key dir name) ≡ None → CountsHold s → CountsHold (with_row s at dir name node ts r)
with_row-counts s at dir name node ts r there free h d x e = by_case (from_insert s.recs dir.0 d (record r { attr = updated r.attr node ts }) x e)
  where
    row : Row
    row = record { node = node; stamp = at }

    by_case : ((d ≡ dir.0) × (x ≡ record r { attr = updated r.attr node ts })) ⊎ ((d ≢ dir.0) × (get s.recs d ≡ Some x)) → Counted (with_row s at dir name node ts r) d x
    by_case c =
        let all = how_many-set_row s.rows (λ e. lies_in d e.0) (row_key dir name) row free in
        let dirs = how_many-set_row s.rows (λ e. lies_in d e.0 && is_dir e.1.node) (row_key dir name) row free in
        elim c [
          | inl p ↦ (let old = h dir.0 r there in let a = old.children in let b = old.subdirs in record { children = grind (arith, nat_tests, all, a, p.0, p.1); subdirs = grind (arith, nat_tests, dirs, b, p.0, p.1) })
          | inr p ↦ (let old = h d x p.1 in let a = old.children in let b = old.subdirs in record { children = grind (arith, nat_tests, all, a, p.0); subdirs = grind (arith, nat_tests, dirs, b, p.0) })
        ]

inserted-counts : (s : Shard) (at : Stamp) (client : Client) (dir : DirId) (name : List ℕ) (node : Node) (ts : ℕ) (o : Option DirRec) → get s.recs dir.0 ≡ o → (q : Option Row) → get s.rows (row_key dir name) ≡ q → CountsHold s → CountsHold (inserted s at client dir name node ts o q).contents
inserted-counts s at client dir name node ts None there q free h = h
inserted-counts s at client dir name node ts (Some r) there (Some row) free h = h
inserted-counts s at client dir name node ts (Some r) there None free h = with_row-counts s at dir name node ts r there free h

settled-counts : (s : Shard) (dir : DirId) (o : Option DirRec) → get s.recs dir.0 ≡ o → CountsHold s → CountsHold (settled_dir s dir o).contents
settled-counts s dir None there h = h
settled-counts s dir (Some r) there h = by_owner r.owner
  where
    by_owner : (o : Option Client) → CountsHold (settle_dir_owner s dir r o).contents
    by_owner None = h
    by_owner (Some c) = λ d x e. elim (from_insert s.recs dir.0 d (record r { owner = None }) x e) [
      | inl p ↦ (let old = h dir.0 r there in record { children = rw (p.0, p.1) old.children; subdirs = rw (p.0, p.1) old.subdirs })
      | inr p ↦ (let old = h d x p.1 in record { children = old.children; subdirs = old.subdirs })
    ]

-- a directory of which no row lies anywhere has both counts 0
put-counts : (s : Shard) (d : ℕ) (v : DirRec) → v.attr.children ≡ 0 → v.attr.subdirs ≡ 0 → ((name : List ℕ) → get s.rows (d ∷ name) ≡ None) → CountsHold s → CountsHold (with_recs s (insert s.recs d v))
put-counts s d v no_child no_subdir none h q x e = elim (from_insert s.recs d q v x e) [
  | inl p ↦ record { children = rw (p.0, p.1) (no_child ∙ sym (no_children s d none)); subdirs = rw (p.0, p.1) (no_subdir ∙ sym (no_subdirs s d none)) }
  | inr p ↦ (let old = h q x p.1 in record { children = old.children; subdirs = old.subdirs })
]

taken-counts : (s : Shard) (client : Client) (dir : DirId) (o : Option DirRec) → CountsHold s → CountsHold (taken_back_dir s client dir o).contents
taken-counts s client dir None h = h
taken-counts s client dir (Some r) h = by_owner r.owner
  where
    by_test : (b : Bool) → CountsHold (if b then unmoved (with_recs s (remove s.recs dir.0)) (Done None) else unmoved s NoneAnswer).contents
    by_test true = λ d x e. let old = h d x (from_remove s.recs dir.0 d x e) in record { children = old.children; subdirs = old.subdirs }
    by_test false = h

    by_owner : (o : Option Client) → CountsHold (take_owned_dir s client dir o).contents
    by_owner None = h
    by_owner (Some c) = by_test (c.0 == client.0)

-- the counts stay right where no row lies in what a step makes
serve_free-counts : (s : Shard) (at : Stamp) (ask : Ask) → ((name : List ℕ) → get s.rows (made_at at ∷ name) ≡ None) → CountsHold s → CountsHold (serve_free s at ask).contents
serve_free-counts s at (Read dir name) none h = h
serve_free-counts s at (ListAsk dir) none h = h
serve_free-counts s at (Insert client dir name node ts) none h = inserted-counts s at client dir name node ts (get s.recs dir.0) refl (get s.rows (row_key dir name)) refl h
serve_free-counts s at (Put client place home) none h = h
serve_free-counts s at (PutDir client place dir name) none h = put-counts s (made_at at) (new_dir client dir name at.number) refl refl none h
serve_free-counts s at (Settle (Dir dir)) none h = settled-counts s dir (get s.recs dir.0) refl h
serve_free-counts s at (Settle (File file)) none h = h
serve_free-counts s at (TakeBack client (Dir dir)) none h = taken-counts s client dir (get s.recs dir.0) h
serve_free-counts s at (TakeBack client (File file)) none h = h
serve_free-counts s at (End client) none h = h

pub serve_shard-counts : (s : Shard) (at : Stamp) (ask : Ask) → ((name : List ℕ) → get s.rows (made_at at ∷ name) ≡ None) → CountsHold s → CountsHold (serve_shard s at ask).contents
serve_shard-counts s at ask none h = by_lock (lock_met s.locks s.recs ask)
  where
    by_lock : (o : Option JobNo) → CountsHold (unless_locked o s (serve_free s at ask)).contents
    by_lock None = serve_free-counts s at ask none h
    by_lock (Some job) = h
