-- A walk through a set of clients, by their places.
use Rattle.std.proofs.Common.{◌≡◌, ℕ, suc, zero, ◌+◌, ◌<◌, List, [], ◌∷◌, Bool, true, false, drop, length, get_or, refl, sym, ap, ◌∙◌, arith}
use Rattle.std.specs.Prelude.{slice_get, ◌==◌, ◌||◌}
use Rattle.std.proofs.Math.Seq.{drop-cons}
use Rattle.std.proofs.lemmas.Option.{slice_get-get_or}
use Rattle.next_ids.specs.declared.ids.Client.{Client}
use Rattle.next_steps.specs.ClientSets.{is_client, holds}

-- a client that stands at a place is in the set
pub held-at : (cs : List Client) (i : ℕ) (y : Client) → is_client y (slice_get cs i) ≡ true → holds cs y ≡ true
held-at [] i y e = cc
held-at (c ∷ cs) zero y e = ap (λ b. b || holds cs y) e
held-at (c ∷ cs) (suc i) y e = either (c.0 == y.0) (held-at cs i y e)
  where
    either : (b : Bool) → holds cs y ≡ true → (b || holds cs y) ≡ true
    either true h = refl
    either false h = h

-- one that doesn't stand at a place is in the rest or not at all
pub held-after : (cs : List Client) (i : ℕ) (y : Client) → i < length cs → is_client y (slice_get cs i) ≡ false → holds (drop i cs) y ≡ holds (drop (i + 1) cs) y
held-after cs i y within e =
    let next : suc i ≡ i + 1 = omega arith in
    let other : ((get_or cs i y).0 == y.0) ≡ false = ap (is_client y) (sym (slice_get-get_or cs i y within)) ∙ e in
    ap (λ l. holds l y) (drop-cons cs i y within) ∙ ap (λ b. b || holds (drop (suc i) cs) y) other ∙ ap (λ n. holds (drop n cs) y) next
