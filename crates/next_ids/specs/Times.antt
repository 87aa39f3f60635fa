-- Times, and the later of two.
use Rattle.std.specs.Prelude.{ℕ, Bool, nat_lt, ◌==◌, ◌||◌, ◌&&◌, if◌then◌else◌}
use Rattle.next_ids.specs.declared.time.Ts.{Ts}

abbrev pub ts_at : (moment number : ℕ) → Ts
ts_at moment number = record { moment = moment; number = number }

-- the time before the first step
abbrev pub start : Ts
start = ts_at 0 0

-- whether the second time is later than the first: by its moment, and at one moment by its number
abbrev pub is_before : Ts → Ts → Bool
is_before a b = nat_lt a.moment b.moment || ((a.moment == b.moment) && nat_lt a.number b.number)

abbrev pub later : Ts → Ts → Ts
later a b = if is_before a b then b else a
