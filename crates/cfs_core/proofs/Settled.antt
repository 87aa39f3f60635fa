-- Clients that work in what they keep show the same as before.
use Rattle.std.proofs.Common.{◌≡◌, ℕ, List, sym, ◌∙◌, subst, map, reverse}
use Rattle.cfs_ids.specs.declared.ids.PlaceNo.{PlaceNo}
use Rattle.cfs_rules.specs.Worlds.{Progress}
use Rattle.cfs_actor.specs.declared.client_state.ClientState.{ClientState}
use Rattle.cfs_actor.specs.Clients.{counts_of}
use Rattle.cfs_view.specs.declared.places.Places.{Places}
use Rattle.cfs_view.specs.Views.{held, counts_of as places_of}
use Rattle.cfs_core.specs.Clients.{IsSound}
use Rattle.cfs_core.specs.Counted.{IsCounted}
use Rattle.cfs_core.specs.Opening.{shown}
use Rattle.cfs_core.specs.Reach.{ProgressThere}
use Rattle.cfs_core.proofs.Alike.{alike-same}
use Rattle.cfs_core.proofs.Shown.{progress_in-shown}

pub sound-settled : (places : Places) (new old : List ClientState) (order : List PlaceNo) → map shown new ≡ map shown old → map counts_of new ≡ map counts_of old → IsSound places old order → IsSound places new order
sound-settled places new old order same counts sound =
    let progress = sym (progress_in-shown new old same) in
    record {
      service = sound.service;
      counted = subst (λ (cs : ℕ → Progress). IsCounted (reverse order) (held places) cs) progress sound.counted;
      sized = sound.sized;
      alike = alike-same (places_of places) new old counts ∙ sound.alike;
      there = λ c. subst (λ (cs : ℕ → Progress). ProgressThere (places_of places) (cs c)) progress (sound.there c);
      asked = sound.asked;
      named = sound.named;
      free = sound.free;
    }
