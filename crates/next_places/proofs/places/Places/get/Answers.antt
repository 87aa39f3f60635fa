use Rattle.std.proofs.Common.{◌∙◌, ap}
use Rattle.std.specs.Prelude.{slice_get, is_some}
use Rattle.next_places.specs.Views.{places_of}
use Rattle.next_places.proofs.Finding.{place_at_index, still_some, there}
use Rattle.next_places.proofs.places.Places.get.Goals as goal

pub returns : goal.returns
returns c =
    let place = c.at.ensures ∙ ap (slice_get (places_of c.args.self.now)) c.index_of-index.ensures ∙ place_at_index (places_of c.args.self.now) c.args.place.0 in
    record { place = place; there = still_some (λ lent. lent.now) c.at.result ∙ ap is_some place ∙ there (places_of c.args.self.now) c.requires.all c.args.place.0 }
