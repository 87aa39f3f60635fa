-- What a map of numbers ends as, once a `&mut` to one of its values has ended.
use Rattle.std.specs.Prelude.{◌≡◌, ℕ, Option}
use Rattle.std.specs.Option.{OnSome}
use Rattle.std.specs.Borrow.{Fml, RattleType, MutBor, LendsSo}
use Rattle.std.specs.FinMap.{insert}
use Rattle.next_ids.specs.Maps.{Numbers}
use Rattle.next_maps.specs.contracts.numbers.NumberMap.{the_row}

-- the key has the last value that was written, and where there was no value the map stays
abbrev pub lends_value : (V : RattleType) → MutBor (Numbers V.Denot) → ℕ → Option (MutBor V.Denot) → Fml
lends_value V m key r = LendsSo (the_row V) V m r (λ n w. OnSome r (n ≡ insert m.now key w)) (λ n. n ≡ m.now)
