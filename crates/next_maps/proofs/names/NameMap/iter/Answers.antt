use Rattle.std.proofs.Common.{sym, ◌∙◌}
use Rattle.next_maps.proofs.Seen.{entries-seen, len-seen}
use Rattle.std.specs.Cmp.Lexicographic.{nat_list_cmp_total}
use Rattle.std.specs.FinMap.{nat_cmp-IsAntisymmetric, slice_cmp-IsAntisymmetric}
use Rattle.next_maps.proofs.names.NameMap.iter.Goals as goal

pub returns-clause-rest : goal.returns-clause-rest
returns-clause-rest g c = c.iter.ensures.rest ∙ rw (← c.self.view_is) (sym (entries-seen nat_list_cmp_total (slice_cmp-IsAntisymmetric nat_cmp-IsAntisymmetric) c.self.inside.tree c.iter.ensures.ordered))

pub returns-clause-fits : goal.returns-clause-fits
returns-clause-fits g c = rw (← c.self.view_is, len-seen nat_list_cmp_total (slice_cmp-IsAntisymmetric nat_cmp-IsAntisymmetric) c.self.inside.tree c.iter.ensures.ordered) c.iter.ensures.fits
