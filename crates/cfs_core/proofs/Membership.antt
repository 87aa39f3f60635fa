-- The members, by the clients' states and by the clients' numbers.
use Rattle.std.proofs.Common.{◌≡◌, ℕ, List, [], ◌∷◌, ◌==◌, refl, sym, ap, ◌∙◌, subst}
use Rattle.std.specs.Prelude.{IsTrue}
use Rattle.std.specs.List.{list_any}
use Rattle.cfs_actor.specs.declared.client_state.ClientState.{ClientState}
use Rattle.cfs_core.specs.Clients.{members_of, is_member}

by-number : (states : List ClientState) (c : ℕ) → list_any (λ m. m == c) (members_of states) ≡ is_member states c
by-number [] c = refl
by-number (s ∷ states) c = rw (by-number states c) refl

pub among : (states : List ClientState) (members : List ℕ) (c : ℕ) → members_of states ≡ members → IsTrue (list_any (λ m. m == c) members) → IsTrue (is_member states c)
among states members c same h = subst IsTrue (ap (λ (ms : List ℕ). list_any (λ m. m == c) ms) (sym same) ∙ by-number states c) h
