-- What the places of a service end as, where one of them is lent.
use Rattle.std.specs.Prelude.{ℕ, Option}
use Rattle.std.specs.Borrow.{LendsIf, Fml, MutBor}
use Rattle.std.specs.Vec.{with_item}
use Rattle.next_places.specs.declared.place.Place.{Place}
use Rattle.next_places.specs.declared.places.Places.{Places}
use Rattle.next_places.specs.contracts.place.Place.{the_row as place_row}
use Rattle.next_places.specs.contracts.places.Places.{the_row}
use Rattle.next_places.specs.PlaceLists.{index_in}

-- the places with another at the index
abbrev pub with_place : Places → ℕ → Place → Places
with_place places index place = record places { places = with_item places.places index place }

-- once the borrow ends, the index has what was written last, and past the length all is as before
abbrev pub LendsAt : MutBor Places → ℕ → Option (MutBor Place) → Fml
LendsAt places index lent = LendsIf the_row place_row places lent (with_place places.now index) places.now

-- the same of the place with a number
abbrev pub LendsPlace : MutBor Places → ℕ → Option (MutBor Place) → Fml
LendsPlace places number lent = LendsAt places (index_in places.now.places.items number) lent
