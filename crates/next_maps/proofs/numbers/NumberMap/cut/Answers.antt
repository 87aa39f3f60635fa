use Rattle.std.proofs.Common.{sym, ◌∙◌}
use Rattle.next_maps.proofs.Seen.{get-seen, remove-seen}
use Rattle.std.specs.Cmp.{nat_cmp_total}
use Rattle.std.specs.FinMap.{nat_cmp-IsAntisymmetric}
use Rattle.next_maps.proofs.numbers.NumberMap.cut.Goals as goal

pub returns-clause-map : goal.returns-clause-map
returns-clause-map g c = rw (← c.self.view_is) (remove-seen nat_cmp_total nat_cmp-IsAntisymmetric c.self.inside.tree c.remove.new.self c.args.key c.remove.ensures.updates)

pub returns-clause-before : goal.returns-clause-before
returns-clause-before g c = c.remove.ensures.value ∙ rw (← c.self.view_is) (sym (get-seen nat_cmp_total c.self.inside.tree.entries c.args.key))
