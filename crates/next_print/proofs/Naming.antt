-- Which files are among those collected.
use Rattle.std.proofs.Common.{◌≡◌, ℕ, List, [], ◌∷◌, Bool, true, false, refl, ap, sym, ◌∙◌}
use Rattle.std.proofs.Math.Bool.{or-false}
use Rattle.std.specs.Prelude.{◌||◌, is_some}
use Rattle.std.specs.List.{list_any}
use Rattle.std.specs.Ordering.{nat_cmp}
use Rattle.std.specs.FinMap.{get, empty, get-empty}
use Rattle.next_ids.specs.Maps.{Numbers}

or-assoc : (a b c : Bool) → ((a || b) || c) ≡ (a || (b || c))
or-assoc true b c = refl
or-assoc false b c = refl

-- one more was collected
pub any-step : {X : Type 0} (p : X → Bool) (all before now : Bool) (es : List X) (e : X) (rest : List X) → es ≡ e ∷ rest → (before || list_any p es) ≡ all → now ≡ (before || p e) → (now || list_any p rest) ≡ all
any-step p all before now es e rest is h n = ap (λ b. b || list_any p rest) n ∙ or-assoc before (p e) (list_any p rest) ∙ sym (ap (λ l. before || list_any p l) is) ∙ h

-- none is left
pub any-all : {X : Type 0} (p : X → Bool) (all now : Bool) (es : List X) → es ≡ [] → (now || list_any p es) ≡ all → now ≡ all
any-all p all now es is h = sym (or-false now) ∙ sym (ap (λ l. now || list_any p l) is) ∙ h

-- none was collected yet
pub any-start : {X Y : Type 0} (p : X → Bool) (m : Numbers Y) (es all : List X) (f : ℕ) → m ≡ empty → es ≡ all → (is_some (get m f) || list_any p es) ≡ list_any p all
any-start p m es all f is h = ap (λ n. is_some (get n f) || list_any p es) is ∙ ap (λ o. is_some o || list_any p es) (get-empty nat_cmp f) ∙ ap (list_any p) h
