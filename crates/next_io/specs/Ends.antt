-- How often a source tells the end of input.
use Rattle.std.specs.Prelude.{◌≡◌, ℕ, ◌==◌, Bool, true, false, if◌then◌else◌, List, None, Some, Result, Ok, Err}
use Rattle.std.proofs.Props.{props}
use Rattle.std.specs.Io.KnownBytes.{IsAtEnd}
use Rattle.std.specs.declared.option.Option.{Option}
use Rattle.next_io.specs.Causes.{one_more}

-- once more where a read gives no byte
abbrev pub ends_after : {E : Type 0} → ℕ → Result ℕ E → ℕ
ends_after before (Ok count) = if count == 0 then one_more before else before
ends_after before (Err failed) = before

-- a reader to which the end was told reads no more, and it is told once at most
abbrev pub TellsEndOnce : (was is : Bool) → (before now : ℕ) → Type 0
TellsEndOnce false false before now = now ≡ before
TellsEndOnce false true before now = now ≡ one_more before
TellsEndOnce true is before now = (is ≡ true) × (now ≡ before)

-- that no byte is left has one proof at most, so it may be kept with a reader
pub IsAtEnd-prop : (left : Option (List ℕ)) → IsProp (IsAtEnd left)
IsAtEnd-prop None = hlevel props
IsAtEnd-prop (Some xs) = hlevel props
