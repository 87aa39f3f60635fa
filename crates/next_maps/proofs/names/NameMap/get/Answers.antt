use Rattle.std.proofs.Common.{sym, ◌∙◌}
use Rattle.next_maps.proofs.Seen.{get-seen}
use Rattle.std.specs.Cmp.Lexicographic.{nat_list_cmp_total}
use Rattle.next_maps.proofs.names.NameMap.get.Goals as goal

pub returns : goal.returns
returns g c = c.get.ensures.value ∙ rw (← c.self.view_is) (sym (get-seen nat_list_cmp_total c.self.inside.tree.entries c.args.name.now))
