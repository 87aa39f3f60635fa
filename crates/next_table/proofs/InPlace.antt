-- A record that was changed in place is changed in the one map of records.
use Rattle.std.proofs.Common.{◌≡◌, ℕ, refl, sym, ◌∙◌, ap}
use Rattle.std.specs.Prelude.{Option, Some, None}
use Rattle.std.specs.FinMap.{get, insert}
use Rattle.next_ids.specs.Maps.{Numbers}
use Rattle.next_steps.specs.declared.contents.DirRec.{DirRec}
use Rattle.next_maps.proofs.Inner.{insert-same}
use Rattle.next_table.specs.Records.{changed_at}

module _ (m n : Numbers DirRec) (d : ℕ) where
  -- where there was a record, what was written stands there
  pub changed-there : (change : DirRec → DirRec) (old new : DirRec) → Some old ≡ get m d → n ≡ insert m d new → new ≡ change old → n ≡ changed_at m d change (get m d)
  changed-there change old new there is written = is ∙ ap (insert m d) written ∙ ap (changed_at m d change) there

  -- where there was none, the records stay
  pub changed-none : (change : DirRec → DirRec) → None ≡ get m d → n ≡ m → n ≡ changed_at m d change (get m d)
  changed-none change none is = is ∙ ap (changed_at m d change) none

  -- what was written as it stood leaves the records
  pub written-same : (old new : DirRec) → Some old ≡ get m d → n ≡ insert m d new → new ≡ old → n ≡ m
  written-same old new there is same = is ∙ ap (insert m d) same ∙ insert-same m d old there

-- a change to what stands leaves the records
pub changed-nothing : (m : Numbers DirRec) (d : ℕ) (change : DirRec → DirRec) → ((r : DirRec) → change r ≡ r) → m ≡ changed_at m d change (get m d)
changed-nothing m d change same = by_record (get m d) refl
  where
    by_record : (o : Option DirRec) → get m d ≡ o → m ≡ changed_at m d change o
    by_record None none = refl
    by_record (Some r) there = sym (ap (insert m d) (same r) ∙ insert-same m d r (sym there))
