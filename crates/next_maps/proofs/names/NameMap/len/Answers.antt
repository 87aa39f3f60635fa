use Rattle.std.proofs.Common.{sym, ◌∙◌}
use Rattle.next_maps.proofs.Seen.{len-seen}
use Rattle.std.specs.Cmp.Lexicographic.{nat_list_cmp_total}
use Rattle.std.specs.FinMap.{nat_cmp-IsAntisymmetric, slice_cmp-IsAntisymmetric}
use Rattle.next_maps.proofs.names.NameMap.len.Goals as goal

pub returns : goal.returns
returns g c = c.len.ensures.len ∙ rw (← c.self.view_is) (sym (len-seen nat_list_cmp_total (slice_cmp-IsAntisymmetric nat_cmp-IsAntisymmetric) c.self.inside.tree c.len.ensures.ordered))
