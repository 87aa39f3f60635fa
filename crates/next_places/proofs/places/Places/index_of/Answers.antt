use Rattle.std.proofs.Common.{◌≡◌, ◌+◌, ◌-◌, sym, subst, length, arith}
use Rattle.next_places.specs.PlaceLists.{index_in, shard_items}
use Rattle.next_places.specs.Views.{places_of}
use Rattle.next_places.proofs.Finding.{places_length, index_of_shard, index_of_store, index_of_end, no_index}
use Rattle.next_places.proofs.places.Places.index_of.Goals as goal

pub overflow_sub-stores : goal.overflow_sub-stores
overflow_sub-stores c = let total = places_length (places_of c.args.self.now) c.requires.all in omega (arith, c.len-count.ensures, total)

pub overflow_sub-stores-2 : goal.overflow_sub-stores-2
overflow_sub-stores-2 c = let total = places_length (places_of c.args.self.now) c.requires.all in omega (arith, c.len-count.ensures, total, c.requires.counted)

pub returns-then-number-self : goal.returns-then-number-self
returns-then-number-self c = sym (index_of_shard (places_of c.args.self.now) c.requires.all c.args.place.0 (omega (arith, c.requires.counted, c.if-number-self.true)))

pub returns-then-number-lt64 : goal.returns-then-number-lt64
returns-then-number-lt64 c = let none = no_index (places_of c.args.self.now) c.requires.all c.args.place.0
    (omega (arith, c.requires.counted, c.if-number-self.false)) (λ high. absurd (omega (arith, high, c.if-number-lt64.true))) (λ e. omega (arith, e, c.if-number-lt64.true)) (λ e. omega (arith, e, c.if-number-lt64.true)) in omega (arith, c.len-count.ensures, none)

pub returns-then-number-stores : goal.returns-then-number-stores
returns-then-number-stores c =
    let total = places_length (places_of c.args.self.now) c.requires.all in
    let is : 64 + (c.args.place.0 - 64) ≡ c.args.place.0 = omega (arith, c.if-number-lt64.false) in
    omega (
      arith,
      c.requires.counted,
      subst (λ n. index_in (places_of c.args.self.now) n ≡ length (shard_items (places_of c.args.self.now)) + (c.args.place.0 - 64)) is
          (index_of_store (places_of c.args.self.now) c.requires.all (c.args.place.0 - 64) (omega (arith, total, c.requires.counted, c.len-count.ensures, c.if-number-lt64.false, c.if-number-stores.true))),
    )

pub returns-then-number-lt128 : goal.returns-then-number-lt128
returns-then-number-lt128 c =
    let total = places_length (places_of c.args.self.now) c.requires.all in
    let none = no_index (places_of c.args.self.now) c.requires.all c.args.place.0
    (omega (arith, c.requires.counted, c.if-number-self.false)) (λ high. omega (arith, total, c.requires.counted, c.len-count.ensures, c.if-number-stores.false)) (λ e. omega (arith, e, c.if-number-lt128.true)) (λ e. omega (arith, e, c.if-number-lt128.true)) in omega (arith, c.len-count.ensures, none)

pub returns-then-number-lt130 : goal.returns-then-number-lt130
returns-then-number-lt130 c =
    let total = places_length (places_of c.args.self.now) c.requires.all in
    let at = index_of_end (places_of c.args.self.now) c.requires.all c.args.place.0 (omega (arith, c.if-number-lt128.false)) (omega (arith, c.if-number-lt130.true)) in
    omega (arith, at, total, c.requires.counted, c.len-count.ensures)

pub returns-else-number-lt130 : goal.returns-else-number-lt130
returns-else-number-lt130 c =
    let total = places_length (places_of c.args.self.now) c.requires.all in
    let none = no_index (places_of c.args.self.now) c.requires.all c.args.place.0
    (omega (arith, c.requires.counted, c.if-number-self.false)) (λ high. omega (arith, total, c.requires.counted, c.len-count.ensures, c.if-number-stores.false)) (λ e. omega (arith, e, c.if-number-lt130.false)) (λ e. omega (arith, e, c.if-number-lt130.false)) in omega (arith, c.len-count.ensures, none)
