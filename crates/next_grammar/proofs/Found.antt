-- What the words `IfSome` and `IfNone` say of an option that is known.
use Rattle.std.proofs.Common.{◌≡◌, true, Option, Some, None, IfSome, IfNone, is_some}

pub some_found : {X : Type 0} (o : Option X) (P : X → Type 0) → is_some o ≡ true → IfSome o P → (x : X) × P x
some_found None P h p = cc
some_found (Some x) P h p = (x, p)

pub IfNone-from : {X : Type 0} (o : Option X) (P : Type 0) → P → IfNone o P
IfNone-from None P p = p
IfNone-from (Some x) P p = tt
