use Rattle.next_places.specs.Views.{items_of}
use Rattle.next_places.proofs.Finding.{few_places}
use Rattle.next_places.proofs.places.Places.from_list.Goals as goal

pub count_shards-shards-requires : goal.count_shards-shards-requires
count_shards-shards-requires c = rw c.as_slice.ensures.value (few_places (items_of c.args.list) c.requires)
