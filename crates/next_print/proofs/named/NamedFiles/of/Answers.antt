use Rattle.std.proofs.Common.{◌∙◌}
use Rattle.next_print.proofs.Naming.{any-start}
use Rattle.next_print.proofs.named.NamedFiles.of.Goals as goal

pub loop-directory-init : goal.loop-directory-init
loop-directory-init c f = any-start _ _ _ _ f c.new.ensures (c.into_iter-directory-iterator.ensures.into_iter_gives ∙ c.dirs-directory-items.ensures.rest)
