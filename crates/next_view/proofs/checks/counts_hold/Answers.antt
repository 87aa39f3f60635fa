use Rattle.std.proofs.Common.{sym, ◌∙◌}
use Rattle.next_rules.specs.Several.{contents_in}
use Rattle.next_places.specs.Views.{shards_of}
use Rattle.next_view.proofs.WholeChecks.{counts_sound, counts_complete, turned_true, turned_false}
use Rattle.next_view.proofs.checks.counts_hold.Goals as goal

pub returns : goal.returns
returns c =
    let ss = contents_in (shards_of c.args.places.now) in
    let own = c.requires.all.shards.own in
    let tested = rw c.as_slice.ensures at c.any_miscounts.ensures in
    ((λ h. counts_sound ss own (sym tested ∙ turned_true _ h)), (λ h. turned_false _ (tested ∙ counts_complete ss own h)))
