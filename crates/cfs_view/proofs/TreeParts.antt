-- What one shard's records show.
use Rattle.std.proofs.Common.{◌≡◌, ℕ, List, sym, ◌∙◌, ap}
use Rattle.std.specs.Prelude.{Result, Ok, Err, IfOk}
use Rattle.std.specs.declared.cmp.Ordering.{Ordering}
use Rattle.std.specs.Ordering.{nat_cmp}
use Rattle.std.specs.Cmp.{IsTotalOrder}
use Rattle.std.specs.Cmp.Lexicographic.{slice_cmp, nat_list_cmp_total}
use Rattle.std.specs.FinMap.{FinMap, IsAntisymmetric, entries, from_entries, get-entries, get-from_entries, same_map, nat_cmp-IsAntisymmetric, slice_cmp-IsAntisymmetric}
use Rattle.cfs_ids.specs.declared.ids.Node.{Node}
use Rattle.cfs_ids.specs.Namespace.{Directory}
use Rattle.cfs_steps.specs.declared.contents.DirRec.{DirRec}
use Rattle.cfs_rules.specs.Places.{Shard, names_of}
use Rattle.cfs_rules.specs.Trees.{directory_of}

-- a map is the map of its entries
pub from-entries : {K X : Type 0} {R : K → K → Ordering} → IsTotalOrder R → IsAntisymmetric R → (m : FinMap R X) → from_entries (entries m) ≡ m
from-entries o same m = same_map o same (from_entries (entries m)) m (λ q. get-from_entries o (entries m) q ∙ sym (get-entries m q))

-- a directory of all rows is what its record shows
pub dir-shown : {E : Type 0} (s : Shard) (d : ℕ) (r : DirRec) (rows : List (List ℕ × Node)) (o : Result Directory E) → rows ≡ entries (names_of s d)
    → IfOk o (λ x. x ≡ record { names = from_entries rows; time = r.attr.time }) → IfOk o (λ x. x ≡ directory_of s d r)
dir-shown s d r rows (Ok x) e h =
    let names : from_entries {R = slice_cmp nat_cmp} rows ≡ names_of s d = ap (λ es. from_entries {R = slice_cmp nat_cmp} es) e ∙ from-entries nat_list_cmp_total (slice_cmp-IsAntisymmetric nat_cmp-IsAntisymmetric) (names_of s d) in
    h ∙ (λ i. record { names = names i; time = r.attr.time })
dir-shown s d r rows (Err x) e h = tt
