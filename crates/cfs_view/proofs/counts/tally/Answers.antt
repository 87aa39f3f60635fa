use Rattle.std.proofs.Common.{◌∙◌}
use Rattle.cfs_rules.specs.Several.{contents_in}
use Rattle.cfs_view.specs.PlaceLists.{roster_in}
use Rattle.cfs_view.specs.Views.{places_of, shards_of, stores_of}
use Rattle.cfs_view.proofs.Finding.{few_places}
use Rattle.cfs_view.proofs.WholeCounts.{owed_whole, strays_whole}
use Rattle.cfs_view.proofs.counts.tally.Goals as goal

pub count_owed-requires : goal.count_owed-requires
count_owed-requires c = rw c.as_slice-places.ensures (few_places (places_of c.args.places.now) c.requires.all)

pub count_strays-requires : goal.count_strays-requires
count_strays-requires c = rw c.as_slice-places.ensures (few_places (places_of c.args.places.now) c.requires.all)

pub returns : goal.returns
returns c =
    let p = c.args.places.now in
    let owed = (rw c.as_slice-places.ensures at c.count_owed.ensures) ∙ owed_whole (contents_in (shards_of p)) (contents_in (stores_of p)) c.requires.all.shards.own c.requires.all.stores.own in
    let strays = (rw c.as_slice-places.ensures at c.count_strays.ensures) ∙ strays_whole (roster_in (places_of p)) (contents_in (shards_of p)) (contents_in (stores_of p)) c.requires.all.shards.own c.requires.all.stores.own in
    λ j. record { owed = owed j; debts = 0; marks = 0; strays = strays j }
