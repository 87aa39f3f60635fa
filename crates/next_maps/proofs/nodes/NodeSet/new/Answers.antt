use Rattle.std.proofs.Common.{◌∙◌, ap}
use Rattle.std.specs.Prelude.{is_some}
use Rattle.std.specs.Ordering.{nat_cmp}
use Rattle.std.specs.FinMap.{get, get-empty}
use Rattle.next_ids.specs.declared.ids.Node.TheVariants.{Dir, File}
use Rattle.next_ids.specs.Maps.{Numbers}
use Rattle.next_maps.proofs.nodes.NodeSet.new.Goals as goal

pub returns : goal.returns
returns c (File f) = ap (λ (m : Numbers Unit). is_some (get m f.0)) c.new.ensures ∙ ap is_some (get-empty nat_cmp f.0)
returns c (Dir d) = ap (λ (m : Numbers Unit). is_some (get m d.0)) c.new-2.ensures ∙ ap is_some (get-empty nat_cmp d.0)
