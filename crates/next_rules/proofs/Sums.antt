-- The sums of a record's base and pending changes: what they say of its attributes, what a change more makes of them, and
-- that a merge leaves them.
use Rattle.std.proofs.Common.{◌≡◌, ℕ, ℤ, pos, ◌+ℤ◌, [], ◌∷◌, ◌++◌, ap, arith}
use Rattle.std.proofs.lemmas.Int.{ints}
use Rattle.std.specs.Int.RustNames.{unsigned_abs}
use Rattle.next_ids.specs.declared.attributes.Delta.{Delta}
use Rattle.next_ids.specs.Times.{later}
use Rattle.next_ids.specs.Attributes.{children_after, subdirs_after}
use Rattle.next_ids.proofs.AttributeLemmas.{total-append, latest-append}
use Rattle.next_steps.specs.declared.contents.DirRec.{DirRec}
use Rattle.next_rules.specs.Contents.{Shard, attr_of}
use Rattle.next_rules.specs.Changes.{merged}
use Rattle.next_rules.specs.Facts.{SumsHold, CountsHold}

pub counts-from_sums : (shard : Shard) → SumsHold shard → CountsHold shard
counts-from_sums shard sums d r there =
    let h = sums d r there in record { children = ap unsigned_abs h.children; subdirs = ap unsigned_abs h.subdirs }

abbrev pub with_delta : DirRec → Delta → DirRec
with_delta r delta = record r { pending = r.pending ++ delta ∷ [] }

-- ---- a change more
pub children-grown : (r : DirRec) (delta : Delta)
    → children_after r.base (with_delta r delta).pending ≡ children_after r.base r.pending +ℤ delta.children
children-grown r delta = omega (arith, ints, total-append (λ x. x.children) r.pending (delta ∷ []))

pub subdirs-grown : (r : DirRec) (delta : Delta)
    → subdirs_after r.base (with_delta r delta).pending ≡ subdirs_after r.base r.pending +ℤ delta.subdirs
subdirs-grown r delta = omega (arith, ints, total-append (λ x. x.subdirs) r.pending (delta ∷ []))

pub time-grown : (r : DirRec) (delta : Delta) → (attr_of (with_delta r delta)).time ≡ later delta.time (attr_of r).time
time-grown r delta = latest-append r.base.time r.pending (delta ∷ [])

-- ---- a merge
whole : (n : ℕ) → unsigned_abs (pos n +ℤ pos 0) ≡ n
whole n = let e : pos n +ℤ pos 0 ≡ pos n = omega (arith, ints) in ap unsigned_abs e

pub attr-merged : (r : DirRec) → attr_of (merged r) ≡ attr_of r
attr-merged r = λ i. record {
  children = whole (attr_of r).children i;
  subdirs = whole (attr_of r).subdirs i;
  time = (attr_of r).time;
}

kept : (n : ℕ) (z : ℤ) → z ≡ pos n → pos (unsigned_abs z) +ℤ pos 0 ≡ pos n
kept n z e = rw e (omega (arith, ints))

pub children-merged : (r : DirRec) (n : ℕ) → children_after r.base r.pending ≡ pos n → children_after (merged r).base [] ≡ pos n
children-merged r n e = kept n (children_after r.base r.pending) e

pub subdirs-merged : (r : DirRec) (n : ℕ) → subdirs_after r.base r.pending ≡ pos n → subdirs_after (merged r).base [] ≡ pos n
subdirs-merged r n e = kept n (subdirs_after r.base r.pending) e
