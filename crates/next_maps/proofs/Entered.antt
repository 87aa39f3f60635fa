-- Which numbers a set of numbers has.
use Rattle.std.proofs.Common.{◌≡◌, ℕ, Bool, true, false, cond, refl, ap, ◌∙◌}
use Rattle.std.specs.Prelude.{◌||◌, is_some, Option, Some, None, ◌==◌}
use Rattle.std.specs.Ordering.{nat_cmp, eq_by_cmp}
use Rattle.std.specs.Cmp.{nat_cmp_total, eq_by_cmp_equiv, unsigned_tied}
use Rattle.std.specs.FinMap.{get, insert, get-insert}
use Rattle.next_ids.specs.Maps.{Numbers}

tied : (q k : ℕ) → eq_by_cmp nat_cmp q k ≡ (k == q)
tied q k = (eq_by_cmp_equiv nat_cmp_total).symm q k ∙ unsigned_tied k q

chosen : {X : Type 0} (b : Bool) (v : X) (o : Option X) → is_some (cond b (Some v) o) ≡ is_some o || b
chosen true v None = refl
chosen true v (Some x) = refl
chosen false v None = refl
chosen false v (Some x) = refl

pub has-insert : {X : Type 0} (m : Numbers X) (k : ℕ) (v : X) (f : ℕ) → is_some (get (insert m k v) f) ≡ is_some (get m f) || (k == f)
has-insert m k v f = ap is_some (get-insert nat_cmp_total m k v f) ∙ chosen (eq_by_cmp nat_cmp f k) v (get m f) ∙ ap (λ b. is_some (get m f) || b) (tied f k)
