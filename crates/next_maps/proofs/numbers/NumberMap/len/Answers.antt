use Rattle.std.proofs.Common.{sym, ◌∙◌}
use Rattle.next_maps.proofs.Seen.{len-seen}
use Rattle.std.specs.Cmp.{nat_cmp_total}
use Rattle.std.specs.FinMap.{nat_cmp-IsAntisymmetric}
use Rattle.next_maps.proofs.numbers.NumberMap.len.Goals as goal

pub returns : goal.returns
returns g c = c.len.ensures.len ∙ rw (← c.self.view_is) (sym (len-seen nat_cmp_total nat_cmp-IsAntisymmetric c.self.inside.tree c.len.ensures.ordered))
