-- What holds of the places and the actors of a core.
use Rattle.std.specs.Prelude.{◌≡◌, List, reverse, Bool, true}
use Rattle.std.specs.List.{list_all}
use Rattle.next_ids.specs.declared.ids.PlaceNo.{PlaceNo}
use Rattle.next_ids.specs.declared.counts.Counts.{Counts}
use Rattle.next_rules.specs.Setups.{IsSetup, has_place}
use Rattle.next_rules.specs.Worlds.{World, Setup, Turn, played}
use Rattle.next_actor.specs.Standings.{Standing}
use Rattle.next_places.specs.declared.places.Places.{Places}
use Rattle.next_places.specs.Views.{held, counts_of, IsService}
use Rattle.next_core.specs.Casts.{actors_in, works_with}
use Rattle.next_core.specs.Counted.{IsCounted}
use Rattle.next_core.specs.Weave.{world_from}

-- turns of some setup with these counts lead to the world
pub record IsReached (counts : Counts) (w : World) : Type 0 where
  pub setup : Setup
  pub good : IsSetup setup
  pub same : setup.counts ≡ counts
  pub turns : List Turn
  pub world : w ≡ played setup turns

-- each place of the list is there
abbrev pub places_there : Counts → List PlaceNo → Bool
places_there counts places = list_all (λ (place : PlaceNo). has_place counts place.0) places

-- the world of these places and actors, the places having been asked in this order, the oldest first
abbrev pub world_in : Places → List Standing → List PlaceNo → World
world_in places ss order = world_from (reverse order) (held places) (actors_in ss)

-- the places are all of a service, the actors know how many there are, the steps are counted, what was asked is there,
-- and turns lead here
pub record IsSound (places : Places) (ss : List Standing) (order : List PlaceNo) : Type 0 where
  pub service : IsService places
  pub alike : list_all (works_with (counts_of places)) ss ≡ true
  pub counted : IsCounted (reverse order) (held places) (actors_in ss)
  pub asked : places_there (counts_of places) order ≡ true
  pub reached : ∥ IsReached (counts_of places) (world_in places ss order) ∥₁
