-- A turn of one client on the places is a turn of the world.
use Rattle.std.proofs.Common.{◌≡◌, ℕ, List, ◌∷◌, ◌++◌, Bool, true, false, refl, sym, ap, ◌∙◌, arith, set, get_or}
use Rattle.std.specs.Prelude.{Option, Some, None, nat_lt, ◌==◌, if◌then◌else◌, position}
use Rattle.std.proofs.lemmas.Bool.Decides.{nat_tests}
use Rattle.cfs_ids.specs.declared.ids.Client.{Client}
use Rattle.cfs_actor.specs.declared.client_state.ClientState.{ClientState}
use Rattle.cfs_actor.specs.Clients as states
use Rattle.cfs_core.specs.Clients.{progress_in}
use Rattle.cfs_core.proofs.States.{progress_in-at, client-at, progress_in-set}
use Rattle.cfs_ids.specs.declared.ids.PlaceNo.{PlaceNo}
use Rattle.cfs_ids.specs.declared.ids.Actor.TheVariants.{Client as ClientActor}
use Rattle.cfs_steps.specs.declared.ask.Ask.{Ask}
use Rattle.cfs_steps.specs.declared.ask.Ask.TheVariants.{Read, List as ListAsk, Insert, Put, PutDir, Settle, TakeBack, End}
use Rattle.cfs_steps.specs.declared.answer.Answer.TheVariants.{None as NoneAnswer}
use Rattle.cfs_steps.specs.Asks.{place_of}
use Rattle.cfs_rules.specs.Worlds.{Counts, Progress, client_of, next_ask, set_client, hears, after_roster, step_in, turn_asking, turn}
use Rattle.cfs_rules.specs.Places.{Roster, Served, unmoved, serve_roster, number_after}
use Rattle.cfs_view.specs.Held.{Held, set_log, serve_in, serve_late}
use Rattle.cfs_core.specs.Parts.{Part, after_step, turned, turn_part}
use Rattle.cfs_steps.specs.declared.entry.Entry.{Entry}
use Rattle.cfs_core.specs.Weave.{first_entry, without_first, woven, world_from}

-- the run of the logs with one more step is the run with that step
first_of_log : (logs : ℕ → List Entry) (place : ℕ) (log : List Entry) → set_log logs place log place ≡ log
first_of_log logs place log = let same : (place == place) ≡ true = grind (arith, nat_tests) in rw same refl

without_it : (logs : ℕ → List Entry) (place : ℕ) (log : List Entry) → set_log (set_log logs place log) place (logs place) ≡ logs
without_it logs place log = λ j q. by_test q (q == place) refl j
  where
    by_test : (q : ℕ) (b : Bool) → (q == place) ≡ b → (if b then logs place else (if b then log else logs q)) ≡ logs q
    by_test q true t = let same : q ≡ place = grind (arith, nat_tests) in ap logs (sym same)
    by_test q false t = refl

woven_more : (place : PlaceNo) (e : Entry) (order : List PlaceNo) (logs : ℕ → List Entry) → woven (place ∷ order) (set_log logs place.0 (e ∷ logs place.0)) ≡ (place, e) ∷ woven order logs
woven_more place e order logs =
    ap (λ l. first_entry place l ++ woven order (set_log (set_log logs place.0 (e ∷ logs place.0)) place.0 (without_first l))) (first_of_log logs place.0 (e ∷ logs place.0))
    ∙ ap (λ ls. (place, e) ∷ woven order ls) (without_it logs place.0 (e ∷ logs place.0))

-- the roster has no ask of the desk's place
desk_alike : (roster : Roster) (ask : Ask) → (place_of ask).0 ≡ 128 → serve_roster roster ask ≡ unmoved roster NoneAnswer
desk_alike roster (Read dir name) at = refl
desk_alike roster (ListAsk dir) at = refl
desk_alike roster (Insert client dir name node ts) at = refl
desk_alike roster (Put client place home) at = refl
desk_alike roster (PutDir client place dir name) at = refl
desk_alike roster (Settle node) at = refl
desk_alike roster (TakeBack client node) at = refl
desk_alike roster (End client) at = absurd (omega (arith, at))

step-world : (a b : Bool) (order : List PlaceNo) (h : Held) (clients : ℕ → Progress) (c : ℕ) (p : Progress) (ask : Ask) (number : ℕ)
    → (let part = after_step (record { held = h; progress = p; order = order }) ask (serve_in a b h (ClientActor (client_of c)) ask number) in world_from part.order part.held (set_client clients c part.progress))
    ≡ step_in a b (world_from order h clients) c p ask number
step-world true b order h clients c p ask number = let more = woven_more (place_of ask) (serve_in true b h (ClientActor (client_of c)) ask number).entry order h.logs in
    λ j. record (step_in true b (world_from order h clients) c p ask number) { run = more j }
step-world false true order h clients c p ask number = let more = woven_more (place_of ask) (serve_in false true h (ClientActor (client_of c)) ask number).entry order h.logs in
    λ j. record (step_in false true (world_from order h clients) c p ask number) { run = more j }
step-world false false order h clients c p ask number = late ((place_of ask).0 == 128) refl
  where
    late : (b : Bool) → ((place_of ask).0 == 128) ≡ b
        → (let part = after_step (record { held = h; progress = p; order = order }) ask (serve_late b h (ClientActor (client_of c)) ask number) in world_from part.order part.held (set_client clients c part.progress))
        ≡ step_in false false (world_from order h clients) c p ask number
    late false t = let more = woven_more (place_of ask) (serve_late false h (ClientActor (client_of c)) ask number).entry order h.logs in
        λ j. record (step_in false false (world_from order h clients) c p ask number) { run = more j }
    late true t =
        let at : (place_of ask).0 ≡ 128 = grind (arith, nat_tests) in
        let same = desk_alike h.roster ask at in
        let e = serve_late true h (ClientActor (client_of c)) ask number in
        (λ j. record {
          shard = h.shard;
          store = h.store;
          roster = h.roster;
          lasts = e.held.lasts;
          clients = set_client clients c (hears p (place_of ask) e.entry);
          run = woven_more (place_of ask) e.entry order h.logs j;
        })
        ∙ ap (λ (s : Served Roster). after_roster (world_from order h clients) c p ask number s) (sym same)

turned-world : (order : List PlaceNo) (h : Held) (clients : ℕ → Progress) (c : ℕ) (p : Progress) (ask : Ask)
    → (let part = turned (client_of c) (record { held = h; progress = p; order = order }) (Some ask) in world_from part.order part.held (set_client clients c part.progress))
    ≡ turn_asking (world_from order h clients) c p (Some ask)
turned-world order h clients c p ask = step-world (nat_lt (place_of ask).0 64) (nat_lt (place_of ask).0 128) order h clients c p ask (number_after p.last (h.lasts (place_of ask).0))

-- ---- a turn among all clients
set_client-same : (clients : ℕ → Progress) (c : ℕ) (p : Progress) → clients c ≡ p → set_client clients c p ≡ clients
set_client-same clients c p is = λ j q. by_test q (q == c) refl j
  where
    by_test : (q : ℕ) (b : Bool) → (q == c) ≡ b → (if b then p else clients q) ≡ clients q
    by_test q true t = let same : q ≡ c = grind (arith, nat_tests) in rw same (sym is)
    by_test q false t = refl

abbrev part_of : List PlaceNo → Held → Progress → Part
part_of order h p = record { held = h; progress = p; order = order }

turned-any : (order : List PlaceNo) (h : Held) (clients : ℕ → Progress) (c : ℕ) (p : Progress) → clients c ≡ p → (o : Option Ask)
    → (let part = turned (client_of c) (part_of order h p) o in world_from part.order part.held (set_client clients c part.progress))
    ≡ turn_asking (world_from order h clients) c p o
turned-any order h clients c p is None = ap (λ (cs : ℕ → Progress). world_from order h cs) (set_client-same clients c p is)
turned-any order h clients c p is (Some ask) = turned-world order h clients c p ask

pub turn-world : (counts : Counts) (order : List PlaceNo) (h : Held) (clients : ℕ → Progress) (c : ℕ) (p : Progress) → clients c ≡ p
    → (let part = turn_part counts (client_of c) (part_of order h p) in world_from part.order part.held (set_client clients c part.progress))
    ≡ turn counts (world_from order h clients) c
turn-world counts order h clients c p is =
    turned-any order h clients c p is (next_ask counts (client_of c) p)
    ∙ ap (λ (q : Progress). turn_asking (world_from order h clients) c q (next_ask counts (client_of c) q)) (sym is)

-- what stands for a client's new state in the world, where it is the part after its turn
pub stepped-world : (counts : Counts) (all : List ClientState) (i : ℕ) (old new : ClientState) (client : Client) (h h' : Held) (order order' : List PlaceNo)
    → position (λ (state : ClientState). (states.client_of state).0 == client.0) all ≡ Some i → old ≡ get_or all i old → states.client_of new ≡ states.client_of old
    → part_of order' h' (states.progress_of new) ≡ turn_part counts (states.client_of old) (part_of order h (states.progress_of old))
    → world_from order' h' (progress_in (set all i new)) ≡ turn counts (world_from order h (progress_in all)) client.0
stepped-world counts all i old new client h h' order order' at is same step =
    let here : (states.client_of old).0 ≡ client.0 = ap (λ (s : ClientState). (states.client_of s).0) is ∙ client-at all client.0 i old at in
    let own : (states.client_of new).0 ≡ client.0 = ap (λ (c : Client). c.0) same ∙ here in
    let was : progress_in all client.0 ≡ states.progress_of old = progress_in-at all client.0 i old at ∙ ap states.progress_of (sym is) in
    let whose : states.client_of old ≡ client_of client.0 = ap client_of here in
    let part = step ∙ ap (λ (c : Client). turn_part counts c (part_of order h (states.progress_of old))) whose in
    ap (λ (cs : ℕ → Progress). world_from order' h' cs) (progress_in-set all client.0 i new at own)
    ∙ ap (λ (q : Part). world_from q.order q.held (set_client (progress_in all) client.0 q.progress)) part
    ∙ turn-world counts order h (progress_in all) client.0 (states.progress_of old) was

-- and where nothing was done
pub same-clients : (all : List ClientState) (i : ℕ) (old new : ClientState) (client : Client)
    → position (λ (state : ClientState). (states.client_of state).0 == client.0) all ≡ Some i → old ≡ get_or all i old → states.client_of new ≡ states.client_of old
    → states.progress_of new ≡ states.progress_of old → progress_in (set all i new) ≡ progress_in all
same-clients all i old new client at is same kept =
    let here : (states.client_of old).0 ≡ client.0 = ap (λ (s : ClientState). (states.client_of s).0) is ∙ client-at all client.0 i old at in
    let own : (states.client_of new).0 ≡ client.0 = ap (λ (c : Client). c.0) same ∙ here in
    let was : progress_in all client.0 ≡ states.progress_of old = progress_in-at all client.0 i old at ∙ ap states.progress_of (sym is) in
    progress_in-set all client.0 i new at own ∙ set_client-same (progress_in all) client.0 (states.progress_of new) (was ∙ sym kept)
