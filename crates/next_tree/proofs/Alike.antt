-- Two maps are the same where what a walk through both has left ends alike.
use Rattle.std.proofs.Common.{◌≡◌, List, [], Bool, true, false, refl, sym, ◌∙◌, ap}
use Rattle.std.specs.Prelude.{◌↔◌, IsTrue, not, Option, Some, None, is_some}
use Rattle.std.specs.declared.cmp.Ordering.{Ordering}
use Rattle.std.specs.FinMap.{FinMap, entries, same_entries_map}
use Rattle.std.specs.Map.Iter.{TakesFirst}

pub same_ends : {K X A : Type 0} {R : K → K → Ordering} (m n : FinMap R X) (over left : List (K × X)) → ((entries m ≡ entries n) ↔ (over ≡ left)) → over ≡ []
    → (shows : A → K × X) (r : Option A) (rest : List (K × X)) → TakesFirst shows left r rest → (b : Bool) → is_some r ≡ not b → IsTrue b ↔ (m ≡ n)
same_ends m n over left same over-is shows None rest steps true e = (λ t. same_entries_map m n (same.1 (over-is ∙ sym steps.0)), λ e. refl)
same_ends m n over left same over-is shows None rest steps false e = cc
same_ends m n over left same over-is shows (Some x) rest steps true e = cc
same_ends m n over left same over-is shows (Some x) rest steps false e = (λ t. cc, λ e. let clash = sym over-is ∙ same.0 (ap entries e) ∙ steps in cc)
