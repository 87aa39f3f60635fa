-- No job has a lock after any change that makes none.
use Rattle.std.proofs.Common.{◌≡◌, ℕ, List, [], ◌∷◌, Bool, true, false, refl, sym, ◌∙◌, ap, inl, inr}
use Rattle.std.specs.Prelude.{Option, Some, None}
use Rattle.std.specs.Cmp.{nat_cmp_total}
use Rattle.std.specs.FinMap.{get, nat_cmp-IsAntisymmetric}
use Rattle.next_ids.specs.declared.ids.Actor.{Actor}
use Rattle.next_ids.specs.declared.ids.DirId.{DirId}
use Rattle.next_ids.specs.declared.ids.Node.{Node}
use Rattle.next_ids.specs.declared.ids.PlaceNo.{PlaceNo}
use Rattle.next_ids.specs.declared.ids.Stamp.{Stamp}
use Rattle.next_ids.specs.declared.time.Ts.{Ts}
use Rattle.next_ids.specs.Maps.{map_values}
use Rattle.next_steps.specs.declared.contents.DirRec.{DirRec}
use Rattle.next_rules.specs.Contents.{Shard}
use Rattle.next_rules.specs.Changes.{set_row, cut_row, set_rec, cut_rec, update, leave_debt, end_debt, delta_of}
use Rattle.next_rules.specs.Owning.{merged_at}
use Rattle.next_rules.specs.Strays.{lies_here, dir_of_number}
use Rattle.next_rules.proofs.Sums.{with_delta}
use Rattle.next_laws_shard.proofs.MapChanges.{from_insert, from_remove, from_map_values}
use Rattle.next_laws_stages.specs.Held.{IsFree}

pub set_free : (s : Shard) (dir : DirId) (new : DirRec) → new.lock ≡ None → IsFree s → IsFree (set_rec s dir new)
set_free s dir new none h = record {
  locks = h.locks;
  recs = λ d r e. elim (from_insert nat_cmp_total nat_cmp-IsAntisymmetric s.recs dir.0 d new r e) [ inl p ↦ ap (λ (z : DirRec). z.lock) (sym p.1) ∙ none | inr p ↦ h.recs d r p.1 ];
}

-- a record that keeps its lock
pub same_free : (s : Shard) (dir : DirId) (r new : DirRec) → get s.recs dir.0 ≡ Some r → new.lock ≡ r.lock → IsFree s → IsFree (set_rec s dir new)
same_free s dir r new there same h = set_free s dir new (same ∙ h.recs dir.0 r there) h

pub cut_free : (s : Shard) (dir : DirId) → IsFree s → IsFree (cut_rec s dir)
cut_free s dir h = record { locks = h.locks; recs = λ d r e. h.recs d r (from_remove nat_cmp_total nat_cmp-IsAntisymmetric s.recs dir.0 d r e) }

updated_free : (s : Shard) (dir : DirId) (come gone : List Node) (ts : Ts) (o : Option DirRec) → get s.recs dir.0 ≡ o → IsFree s → IsFree (update s dir come gone ts o)
updated_free s dir come gone ts None there h = h
updated_free s dir come gone ts (Some r) there h = same_free s dir r (with_delta r (delta_of come gone ts)) there refl h

pub inserted_free : (s : Shard) (at : Stamp) (dir : DirId) (name : List ℕ) (x : Node) (ts : Ts) (r : DirRec) → get s.recs dir.0 ≡ Some r → IsFree s → IsFree (update (set_row s dir name x at) dir (x ∷ []) [] ts (Some r))
inserted_free s at dir name x ts r there h = updated_free (set_row s dir name x at) dir (x ∷ []) [] ts (Some r) there (record { locks = h.locks; recs = h.recs })

pub cut_row_free : (s : Shard) (owner : Actor) (at : Stamp) (dir : DirId) (name : List ℕ) (x : Node) (ts : Ts) → IsFree s
    → IsFree (leave_debt (update (cut_row s dir name) dir [] (x ∷ []) ts (get s.recs dir.0)) owner at x)
cut_row_free s owner at dir name x ts h =
    let cut = updated_free (cut_row s dir name) dir [] (x ∷ []) ts (get s.recs dir.0) refl (record { locks = h.locks; recs = h.recs }) in record { locks = cut.locks; recs = cut.recs }

pub cleared_free : (s : Shard) (place : PlaceNo) (x : Node) → IsFree s → IsFree (end_debt s place x)
cleared_free s place x h = record { locks = h.locks; recs = h.recs }

merged_lock : (place : PlaceNo) (d : ℕ) (r : DirRec) → (merged_at place d r).lock ≡ r.lock
merged_lock place d r = by_test (lies_here place (dir_of_number d)) refl
  where
    by_test : (b : Bool) → lies_here place (dir_of_number d) ≡ b → (merged_at place d r).lock ≡ r.lock
    by_test true here = rw here refl
    by_test false here = rw here refl

pub merged_free : (s : Shard) (place : PlaceNo) → IsFree s → IsFree (record s { recs = map_values (merged_at place) s.recs })
merged_free s place h = record {
  locks = h.locks;
  recs = λ d r e. let old = from_map_values nat_cmp_total nat_cmp-IsAntisymmetric (merged_at place) s.recs d r e in
      ap (λ (z : DirRec). z.lock) (sym old.2) ∙ merged_lock place d old.0 ∙ h.recs d old.0 old.1;
}
