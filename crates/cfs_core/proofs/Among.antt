-- A turn among all clients, by the state of the one that makes it.
use Rattle.std.proofs.Common.{◌≡◌, ℕ, List, Bool, true, false, sym, ap, ◌∙◌, subst, set, get_or}
use Rattle.std.specs.Prelude.{Option, Some, ◌==◌, if◌then◌else◌, position}
use Rattle.cfs_ids.specs.declared.ids.Client.{Client}
use Rattle.cfs_ids.specs.declared.ids.PlaceNo.{PlaceNo}
use Rattle.cfs_ids.specs.declared.ids.Actor.TheVariants.{Client as ClientActor}
use Rattle.cfs_steps.specs.declared.ask.Ask.{Ask}
use Rattle.cfs_rules.specs.Facts.{Unlocked}
use Rattle.cfs_rules.specs.Worlds.{Counts, AreCounts, Progress, client_of, next_ask, set_client}
use Rattle.cfs_actor.specs.declared.client_state.ClientState.{ClientState}
use Rattle.cfs_actor.specs.Clients as states
use Rattle.cfs_view.specs.Held.{Held, serve}
use Rattle.cfs_core.specs.Clients.{progress_in}
use Rattle.cfs_core.specs.Counted.{IsCounted}
use Rattle.cfs_core.specs.Reach.{ProgressThere, RowsThere}
use Rattle.cfs_core.specs.Parts.{Part, turned, turn_part, full_next}
use Rattle.cfs_core.proofs.States.{progress_in-at, client-at, progress_in-set}
use Rattle.cfs_core.proofs.Counting.{turn-counted}
use Rattle.cfs_core.proofs.Named.{turn-named}

-- the client's progress is that of its state
pub was-progress : (all : List ClientState) (i : ℕ) (old : ClientState) (client : Client) → position (λ (state : ClientState). (states.client_of state).0 == client.0) all ≡ Some i → old ≡ get_or all i old → progress_in all client.0 ≡ states.progress_of old
was-progress all i old client at is = progress_in-at all client.0 i old at ∙ ap states.progress_of (sym is)

pub was-client : (all : List ClientState) (i : ℕ) (old : ClientState) (client : Client) → position (λ (state : ClientState). (states.client_of state).0 == client.0) all ≡ Some i → old ≡ get_or all i old → states.client_of old ≡ client
was-client all i old client at is = ap client_of (ap (λ (s : ClientState). (states.client_of s).0) is ∙ client-at all client.0 i old at)

pub stepped-counted : (counts : Counts) → AreCounts counts → (all : List ClientState) (i : ℕ) (old new : ClientState) (client : Client) (h h' : Held) (order order' : List PlaceNo)
    → position (λ (state : ClientState). (states.client_of state).0 == client.0) all ≡ Some i → old ≡ get_or all i old → states.client_of new ≡ states.client_of old
    → ◌≡◌ {A = Part} (record { held = h'; progress = states.progress_of new; order = order' }) (turn_part counts (states.client_of old) (record { held = h; progress = states.progress_of old; order = order }))
    → ProgressThere counts (states.progress_of old) → full_next counts (states.client_of old) h (states.progress_of old) ≡ false → IsCounted order h (progress_in all) → IsCounted order' h' (progress_in (set all i new))
stepped-counted counts good all i old new client h h' order order' at is same step there room k =
    let here : states.client_of old ≡ client = was-client all i old client at is in
    let own : (states.client_of new).0 ≡ client.0 = ap (λ (c : Client). c.0) (same ∙ here) in
    let part = step ∙ ap (λ (c : Client). turn_part counts c (record { held = h; progress = states.progress_of old; order = order })) here in
    let room' = ap (λ (c : Client). full_next counts c h (states.progress_of old)) (sym here) ∙ room in
    let counted = turn-counted counts good order h (progress_in all) client.0 (states.progress_of old) (was-progress all i old client at is) there k room' in
    subst (λ (cs : ℕ → Progress). IsCounted order' h' cs) (sym (progress_in-set all client.0 i new at own))
    (subst (λ (q : Part). IsCounted q.order q.held (set_client (progress_in all) client.0 q.progress)) (sym part) counted)

-- what the places hold after a step
pub stepped-held : (counts : Counts) (c k : Client) (p q new : Progress) (h h' : Held) (order order' : List PlaceNo) (ask : Ask)
    → ◌≡◌ {A = Part} (record { held = h'; progress = new; order = order' }) (turn_part counts c (record { held = h; progress = p; order = order }))
    → c ≡ k → q ≡ p → Some ask ≡ next_ask counts k q → h' ≡ (serve h (ClientActor k) q.last ask).held
stepped-held counts c k p q new h h' order order' ask step same was next =
    let asked = ap (λ (d : Client). next_ask counts d p) same ∙ ap (λ (r : Progress). next_ask counts k r) (sym was) ∙ sym next in
    ap (λ (part : Part). part.held) step
    ∙ ap (λ (o : Option Ask). (turned c (record { held = h; progress = p; order = order }) o).held) asked
    ∙ ap (λ (d : Client). (serve h (ClientActor d) p.last ask).held) same
    ∙ ap (λ (r : Progress). (serve h (ClientActor k) r.last ask).held) (sym was)

-- what each client asks is there, the one with the new state too
pub there-set : (counts : Counts) (all : List ClientState) (i : ℕ) (old new : ClientState) (client : Client)
    → position (λ (state : ClientState). (states.client_of state).0 == client.0) all ≡ Some i → old ≡ get_or all i old → states.client_of new ≡ states.client_of old
    → ((c : ℕ) → ProgressThere counts (progress_in all c)) → ProgressThere counts (states.progress_of new) → (c : ℕ) → ProgressThere counts (progress_in (set all i new) c)
there-set counts all i old new client at is same there now c =
    let own : (states.client_of new).0 ≡ client.0 = ap (λ (k : Client). k.0) (same ∙ was-client all i old client at is) in
    subst (λ (cs : ℕ → Progress). ProgressThere counts (cs c)) (sym (progress_in-set all client.0 i new at own)) (by_test (c == client.0))
  where
    by_test : (b : Bool) → ProgressThere counts (if b then states.progress_of new else progress_in all c)
    by_test true = now
    by_test false = there c

-- what rows name is there after a step
pub stepped-named : (counts : Counts) (c : Client) (p new : Progress) (h h' : Held) (order order' : List PlaceNo)
    → ◌≡◌ {A = Part} (record { held = h'; progress = new; order = order' }) (turn_part counts c (record { held = h; progress = p; order = order }))
    → Unlocked h.shard → ProgressThere counts p → RowsThere counts h.shard → RowsThere counts h'.shard
stepped-named counts c p new h h' order order' step free there named = subst (λ (part : Part). RowsThere counts part.held.shard) (sym step) (turn-named counts c order h p free named there)
