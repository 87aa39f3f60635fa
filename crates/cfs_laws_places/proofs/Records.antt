-- The record of one node is set, or goes.
use Rattle.std.proofs.Common.{◌≡◌, ◌≢◌, ℕ, refl, ◌∙◌, ap, arith, inl, inr}
use Rattle.std.specs.Prelude.{Some, None}
use Rattle.std.proofs.lemmas.Bool.Decides.{nat_tests}
use Rattle.std.specs.Option.{option_map}
use Rattle.std.specs.FinMap.{get, insert, remove, gets}
use Rattle.cfs_ids.specs.declared.ids.DirId.{DirId}
use Rattle.cfs_ids.specs.declared.ids.FileId.{FileId}
use Rattle.cfs_ids.specs.declared.ids.Node.{Node}
use Rattle.cfs_ids.specs.declared.ids.Node.TheVariants.{Dir, File}
use Rattle.cfs_ids.specs.Maps.{Numbers}
use Rattle.cfs_steps.specs.declared.contents.DirRec.{DirRec}
use Rattle.cfs_steps.specs.declared.contents.FileRec.{FileRec}
use Rattle.cfs_rules.specs.Places.{Shard, Store, with_recs}
use Rattle.cfs_rules.specs.Trees.{facts_of}
use Rattle.cfs_rules.specs.Facts.{Counted, CountsHold}
use Rattle.cfs_laws_places.proofs.Invariant.{owner_at, IsNew, get-insert_same, get-insert_other, get-remove_other, from_insert, from_remove}
use Rattle.cfs_laws_places.proofs.Changes.{Replaces}

file_differs : (f g : FileId) → File g ≢ File f → g.0 ≢ f.0
file_differs f g differ same = differ (ap (λ n. File (record { 0 = n })) same)

dir_differs : (d e : DirId) → Dir e ≢ Dir d → e.0 ≢ d.0
dir_differs d e differ same = differ (ap (λ n. Dir (record { 0 = n })) same)

gone : {X : Type 0} (m : Numbers X) (k : ℕ) → get (remove m k) k ≡ None
gone m k = grind (arith, nat_tests, gets)

module _ (shard : Shard) (store : Store) (counts : CountsHold shard) where
  pub set_file : (f : FileId) (v : FileRec) → Replaces shard store shard.recs (insert store f.0 v) (File f) (Some v.owner)
  set_file f v = record {
    here = ap (option_map (λ (r : FileRec). r.owner)) (get-insert_same store f.0 v);
    others = others;
    news = news;
    counts = counts;
  }
    where
      others : (x : Node) → x ≢ File f → owner_at shard (insert store f.0 v) x ≡ owner_at shard store x
      others (File g) differ = ap (option_map (λ (r : FileRec). r.owner)) (get-insert_other store f.0 g.0 v (file_differs f g differ))
      others (Dir d) differ = refl

      news : (x : Node) (ts : ℕ) → x ≢ File f → IsNew shard store x ts → IsNew shard (insert store f.0 v) x ts
      news (File g) ts differ h = ap (option_map facts_of) (get-insert_other store f.0 g.0 v (file_differs f g differ)) ∙ h
      news (Dir d) ts differ h = h

  pub cut_file : (f : FileId) → Replaces shard store shard.recs (remove store f.0) (File f) None
  cut_file f = record {
    here = ap (option_map (λ (r : FileRec). r.owner)) (gone store f.0);
    others = others;
    news = news;
    counts = counts;
  }
    where
      others : (x : Node) → x ≢ File f → owner_at shard (remove store f.0) x ≡ owner_at shard store x
      others (File g) differ = ap (option_map (λ (r : FileRec). r.owner)) (get-remove_other store f.0 g.0 (file_differs f g differ))
      others (Dir d) differ = refl

      news : (x : Node) (ts : ℕ) → x ≢ File f → IsNew shard store x ts → IsNew shard (remove store f.0) x ts
      news (File g) ts differ h = ap (option_map facts_of) (get-remove_other store f.0 g.0 (file_differs f g differ)) ∙ h
      news (Dir d) ts differ h = h

  pub set_dir : (d : DirId) (v : DirRec) → Counted shard d.0 v → Replaces shard store (insert shard.recs d.0 v) store (Dir d) (Some v.owner)
  set_dir d v right = record {
    here = ap (option_map (λ (r : DirRec). r.owner)) (get-insert_same shard.recs d.0 v);
    others = others;
    news = news;
    counts = λ e r there. elim (from_insert shard.recs d.0 e v r there) [
      | inl p ↦ record { children = rw (p.0, p.1) right.children; subdirs = rw (p.0, p.1) right.subdirs }
      | inr p ↦ (let old = counts e r p.1 in record { children = old.children; subdirs = old.subdirs })
    ];
  }
    where
      others : (x : Node) → x ≢ Dir d → owner_at (with_recs shard (insert shard.recs d.0 v)) store x ≡ owner_at shard store x
      others (File g) differ = refl
      others (Dir e) differ = ap (option_map (λ (r : DirRec). r.owner)) (get-insert_other shard.recs d.0 e.0 v (dir_differs d e differ))

      news : (x : Node) (ts : ℕ) → x ≢ Dir d → IsNew shard store x ts → IsNew (with_recs shard (insert shard.recs d.0 v)) store x ts
      news (File g) ts differ h = h
      news (Dir e) ts differ h = ap (option_map (λ (r : DirRec). r.attr.time)) (get-insert_other shard.recs d.0 e.0 v (dir_differs d e differ)) ∙ h

  pub cut_dir : (d : DirId) → Replaces shard store (remove shard.recs d.0) store (Dir d) None
  cut_dir d = record {
    here = ap (option_map (λ (r : DirRec). r.owner)) (gone shard.recs d.0);
    others = others;
    news = news;
    counts = λ e r there. let old = counts e r (from_remove shard.recs d.0 e r there).1 in record { children = old.children; subdirs = old.subdirs };
  }
    where
      others : (x : Node) → x ≢ Dir d → owner_at (with_recs shard (remove shard.recs d.0)) store x ≡ owner_at shard store x
      others (File g) differ = refl
      others (Dir e) differ = ap (option_map (λ (r : DirRec). r.owner)) (get-remove_other shard.recs d.0 e.0 (dir_differs d e differ))

      news : (x : Node) (ts : ℕ) → x ≢ Dir d → IsNew shard store x ts → IsNew (with_recs shard (remove shard.recs d.0)) store x ts
      news (File g) ts differ h = h
      news (Dir e) ts differ h = ap (option_map (λ (r : DirRec). r.attr.time)) (get-remove_other shard.recs d.0 e.0 (dir_differs d e differ)) ∙ h
