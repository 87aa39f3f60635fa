use Rattle.std.proofs.Common.{◌∙◌, sym, ap, subst, map}
use Rattle.std.specs.Prelude.{not}
use Rattle.std.specs.List.{list_any}
use Rattle.std.specs.FinMap.{entries}
use Rattle.next_rules.specs.Contents.{Shard}
use Rattle.next_rules.specs.Several.{contents_in}
use Rattle.next_places.specs.PlaceLists.{shard_items}
use Rattle.next_places.specs.PlaceViews.{shard_view}
use Rattle.next_view.specs.Checks.{counts_rows}
use Rattle.next_view.proofs.Folding.{MayFold, shard_folds}
use Rattle.next_view.proofs.checks.shard_miscounts.Goals as goal

pub loop-dir-init : goal.loop-dir-init
loop-dir-init c =
    let all = c.into_iter-dir-iterator.ensures.into_iter_gives ∙ c.recs-dir-items.ensures.rest ∙ ap (λ (s : Shard). entries s.recs) c.contents.ensures in (
      ap (λ es. list_any (λ e. not (counts_rows (contents_in (map shard_view (shard_items c.args.places.now))) e.0 e.1)) es) (sym all),
      subst MayFold (sym all) (shard_folds c.args.shard.now),
    )
