-- What an Insert changes.
use Rattle.std.proofs.Common.{◌≡◌, ◌≢◌, ℕ, List, cond, refl, ◌∙◌, ap}
use Rattle.std.specs.Prelude.{Option, Some, None}
use Rattle.std.specs.declared.cmp.Ordering.{Ordering}
use Rattle.std.specs.declared.cmp.Ordering.TheVariants.{Less, Equal, Greater}
use Rattle.std.specs.Ordering.{is_eq}
use Rattle.std.specs.Cmp.{IsTotalOrder, nat_cmp_total}
use Rattle.std.specs.Cmp.Lexicographic.{nat_list_cmp_total}
use Rattle.std.specs.FinMap.{FinMap, IsAntisymmetric, get, insert, get-insert, nat_cmp-IsAntisymmetric}
use Rattle.std.proofs.lemmas.Cmp.{tied_itself}
use Rattle.cfs_ids.specs.declared.ids.DirId.{DirId}
use Rattle.cfs_ids.specs.declared.ids.Client.{Client}
use Rattle.cfs_ids.specs.declared.ids.JobNo.{JobNo}
use Rattle.cfs_ids.specs.declared.ids.Node.{Node}
use Rattle.cfs_ids.specs.declared.ids.Stamp.{Stamp}
use Rattle.cfs_ids.specs.Maps.{row_key}
use Rattle.cfs_steps.specs.declared.answer.Answer.TheVariants.{Done}
use Rattle.cfs_steps.specs.declared.contents.Row.{Row}
use Rattle.cfs_steps.specs.declared.contents.DirRec.{DirRec}
use Rattle.cfs_steps.specs.declared.ask.Ask.TheVariants.{Insert}
use Rattle.cfs_rules.specs.Locks.{lock_met}
use Rattle.cfs_rules.proofs.Names.{bytes_apart}
use Rattle.cfs_rules.specs.Places.{Shard, updated, inserted, serve_free, serve_shard, unless_locked}
use Rattle.cfs_laws_changes.specs.Changes.{AlikeBut, IsInserted}

-- ---- a key that is set, and the others
module _ {K X : Type 0} {R : K → K → Ordering} (o : IsTotalOrder R) (apart : IsAntisymmetric R) where
  set_there : (m : FinMap R X) (k : K) (v : X) → get (insert m k v) k ≡ Some v
  set_there m k v = get-insert o m k v k ∙ ap (λ r. cond (is_eq r) (Some v) (get m k)) (tied_itself o k)

  set_elsewhere : (m : FinMap R X) (k q : K) (v : X) → q ≢ k → get (insert m k v) q ≡ get m q
  set_elsewhere m k q v differ = get-insert o m k v q ∙ by_order (R q k) refl
    where
      by_order : (r : Ordering) → R q k ≡ r → cond (is_eq r) (Some v) (get m q) ≡ get m q
      by_order Less e = refl
      by_order Equal e = absurd (differ (apart q k e))
      by_order Greater e = refl

same_shard : (dir : DirId) (name : List ℕ) (s : Shard) → AlikeBut dir name s s
same_shard dir name s = record { rows = λ k away. refl; recs = λ d away. refl; locks = refl }

module _ (s : Shard) (at : Stamp) (client : Client) (dir : DirId) (name : List ℕ) (node : Node) (ts : ℕ) where
  free_alike : (r : Option DirRec) (row : Option Row) → AlikeBut dir name s (inserted s at client dir name node ts r row).contents
  free_alike None row = same_shard dir name s
  free_alike (Some r) (Some row) = same_shard dir name s
  free_alike (Some r) None = record {
    rows = λ k away. set_elsewhere nat_list_cmp_total bytes_apart s.rows (row_key dir name) k (record { node = node; stamp = at }) away;
    recs = λ d away. set_elsewhere nat_cmp_total nat_cmp-IsAntisymmetric s.recs dir.0 d (record r { attr = updated r.attr node ts }) away;
    locks = refl;
  }

  pub insert_alike : AlikeBut dir name s (serve_shard s at (Insert client dir name node ts)).contents
  insert_alike = by_lock (lock_met s.locks s.recs (Insert client dir name node ts))
    where
      by_lock : (job : Option JobNo) → AlikeBut dir name s (unless_locked job s (serve_free s at (Insert client dir name node ts))).contents
      by_lock None = free_alike (get s.recs dir.0) (get s.rows (row_key dir name))
      by_lock (Some job) = same_shard dir name s

  free_done : (r : Option DirRec) → get s.recs dir.0 ≡ r → (row : Option Row) → get s.rows (row_key dir name) ≡ row
      → (inserted s at client dir name node ts r row).answer ≡ Done None → IsInserted at dir name node ts s (inserted s at client dir name node ts r row).contents
  free_done None there row free e = cc
  free_done (Some r) there (Some row) free e = cc
  free_done (Some r) there None free e = record {
    free = free;
    row = set_there nat_list_cmp_total bytes_apart s.rows (row_key dir name) (record { node = node; stamp = at });
    rec = r;
    there = there;
    updated = set_there nat_cmp_total nat_cmp-IsAntisymmetric s.recs dir.0 (record r { attr = updated r.attr node ts });
  }

  pub insert_done : (serve_shard s at (Insert client dir name node ts)).answer ≡ Done None → IsInserted at dir name node ts s (serve_shard s at (Insert client dir name node ts)).contents
  insert_done = by_lock (lock_met s.locks s.recs (Insert client dir name node ts))
    where
      by_lock : (job : Option JobNo) → (unless_locked job s (serve_free s at (Insert client dir name node ts))).answer ≡ Done None → IsInserted at dir name node ts s (unless_locked job s (serve_free s at (Insert client dir name node ts))).contents
      by_lock None e = free_done (get s.recs dir.0) refl (get s.rows (row_key dir name)) refl e
      by_lock (Some job) e = cc
