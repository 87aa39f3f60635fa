-- The end of input, told once at most.
use Rattle.std.proofs.Common.{ℕ, Bool, true, false, refl, ◌∙◌}
use Rattle.next_io.specs.Ends.{TellsEndOnce}

-- nothing was read
pub TellsEndOnce-still : (was : Bool) (n : ℕ) → TellsEndOnce was was n n
TellsEndOnce-still true n = (refl, refl)
TellsEndOnce-still false n = refl

-- one after the other
pub TellsEndOnce-on : (was then is : Bool) (n m k : ℕ) → TellsEndOnce was then n m → TellsEndOnce then is m k → TellsEndOnce was is n k
TellsEndOnce-on true true true n m k first next = (refl, next.1 ∙ first.1)
TellsEndOnce-on true true false n m k first next = cc (next.0)
TellsEndOnce-on true false is n m k first next = cc (first.0)
TellsEndOnce-on false true true n m k first next = next.1 ∙ first
TellsEndOnce-on false true false n m k first next = cc (next.0)
TellsEndOnce-on false false true n m k first next = rw (← first) next
TellsEndOnce-on false false false n m k first next = next ∙ first

pub ruleset ending = (TellsEndOnce-still, TellsEndOnce-on)
