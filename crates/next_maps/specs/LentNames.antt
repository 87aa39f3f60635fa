-- What a map of names ends as, once a `&mut` to one of its values has ended.
use Rattle.std.specs.Prelude.{◌≡◌, ℕ, List, Option}
use Rattle.std.specs.Option.{OnSome}
use Rattle.std.specs.Borrow.{Fml, RattleType, MutBor, LendsSo}
use Rattle.std.specs.FinMap.{insert}
use Rattle.next_ids.specs.Maps.{Names}
use Rattle.next_maps.specs.contracts.names.NameMap.{the_row}

-- the name has the last value that was written, and where there was no value the map stays
abbrev pub lends_value : (V : RattleType) → MutBor (Names V.Denot) → List ℕ → Option (MutBor V.Denot) → Fml
lends_value V m name r = LendsSo (the_row V) V m r (λ n w. OnSome r (n ≡ insert m.now name w)) (λ n. n ≡ m.now)
