use Rattle.std.proofs.Common.{refl, sym, ◌∙◌, ap}
use Rattle.std.specs.Cmp.{nat_cmp_total}
use Rattle.std.specs.FinMap.{from_entries, nat_cmp-IsAntisymmetric}
use Rattle.next_maps.proofs.Seen.{get-seen, written-seen, where_lent}
use Rattle.next_maps.proofs.numbers.NumberMap.get_mut.Goals as goal

pub returns : goal.returns
returns g c = rw (← c.self.view_is) (
  (refl, λ w. where_lent c.get_mut.result _ _ c.get_mut.ensures.value (written-seen nat_cmp_total nat_cmp-IsAntisymmetric c.self.inside.tree (c.get_mut.follows.lender w) c.args.key w (c.get_mut.follows.holds w)), ap (λ m. from_entries m.entries) c.get_mut.follows.holds-at-none),
  record { writes_back = tt; value = c.get_mut.ensures.value ∙ sym (get-seen nat_cmp_total c.self.inside.tree.entries c.args.key) },
)
