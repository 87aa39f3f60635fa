-- The pending changes of each record of a list may be worked in.
use Rattle.std.proofs.Common.{◌≡◌, ℕ, List, [], ◌∷◌, length, cond, refl, sym, ◌∙◌, subst}
use Rattle.std.specs.Prelude.{Some, None}
use Rattle.std.proofs.lemmas.Cmp.{tied_itself}
use Rattle.std.specs.declared.cmp.Ordering.{Ordering}
use Rattle.std.specs.declared.cmp.Ordering.TheVariants.{Less, Equal, Greater}
use Rattle.std.specs.Ordering.{is_eq, nat_cmp}
use Rattle.std.specs.Cmp.{nat_cmp_total}
use Rattle.std.specs.FinMap.{entries, find, get-entries, nat_cmp-IsAntisymmetric}
use Rattle.next_ids.specs.Attributes.{CanFold}
use Rattle.next_ids.proofs.Entries.{Distinct, distinct-entries}
use Rattle.next_steps.specs.declared.contents.DirRec.{DirRec}
use Rattle.next_shard.specs.declared.shard.Shard.{Shard}
use Rattle.next_shard.specs.Shards as shards
use Rattle.next_shard.proofs.Kept.{folds}

abbrev pub MayFold : List (ℕ × DirRec) → Type 0
MayFold [] = Unit {0}
MayFold (e ∷ es) = CanFold e.1.base e.1.pending × MayFold es

each_folds : (es : List (ℕ × DirRec)) → Distinct nat_cmp es → ((d : ℕ) (r : DirRec) → find nat_cmp d es ≡ Some r → CanFold r.base r.pending) → MayFold es
each_folds [] apart h = tt
each_folds (e ∷ es) apart h = (h e.0 e.1 (rw (tied_itself nat_cmp_total e.0) refl), each_folds es apart.1 (λ d r is. h d r (by_key d r (nat_cmp d e.0) refl is)))
  where
    by_key : (d : ℕ) (r : DirRec) (o : Ordering) → nat_cmp d e.0 ≡ o → find nat_cmp d es ≡ Some r → cond (is_eq o) (Some e.1) (find nat_cmp d es) ≡ Some r
    by_key d r Less at is = is
    by_key d r Greater at is = is
    by_key d r Equal at is = absurd (let none : find nat_cmp d es ≡ None = subst (λ q. find nat_cmp q es ≡ None) (sym (nat_cmp-IsAntisymmetric d e.0 at)) apart.0 in cc)

-- those of a shard, since its log is short
pub shard_folds : (s : Shard) → MayFold (entries (shards.contents_of s).recs)
shard_folds s =
    each_folds (entries (shards.contents_of s).recs) (distinct-entries nat_cmp (shards.contents_of s).recs)
    (λ d r is. folds (length (shards.log_of s)) (shards.contents_of s) s.journal.short s.within s.sums d r (get-entries (shards.contents_of s).recs d ∙ is))
