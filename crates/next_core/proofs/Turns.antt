-- A turn of one actor on the places is a turn of the world.
use Rattle.std.proofs.Common.{◌≡◌, true, ℕ, List, refl, ap, ◌∙◌, set, get_or}
use Rattle.std.specs.Prelude.{Option, Some, None, position}
use Rattle.std.specs.List.{list_all}
use Rattle.next_ids.specs.declared.ids.Actor.{Actor}
use Rattle.next_ids.specs.declared.ids.PlaceNo.{PlaceNo}
use Rattle.next_ids.specs.declared.counts.Counts.{Counts}
use Rattle.next_steps.specs.declared.ask.Ask.{Ask}
use Rattle.next_steps.specs.Asks.{place_of}
use Rattle.next_rules.specs.Contents.{Served, entry_by, number_after}
use Rattle.next_rules.specs.Actors.{Actors, heard_by, next_ask}
use Rattle.next_rules.specs.Actors as rules
use Rattle.next_rules.specs.Worlds.{World, Service, serve, stamped, after_served, turn_asking, turn}
use Rattle.next_actor.specs.Standings.{Standing, actor_of, last_of}
use Rattle.next_places.specs.Held.{Held, served, stepped}
use Rattle.next_core.specs.Casts.{is_of, actors_in, works_with}
use Rattle.next_core.specs.Parts.{Part, with_served, turned, turn_part}
use Rattle.next_core.specs.Weave.{world_from}
use Rattle.next_core.proofs.Alike.{next-at, last-at, actors-set, set-same}
use Rattle.next_core.proofs.Casting.{actor-at}
use Rattle.next_core.proofs.Same.{same-is}
use Rattle.next_core.proofs.Weaving.{woven-more}

abbrev pub part_of : List PlaceNo → Held → Standing → Part
part_of order h s = record { held = h; standing = s; order = order }

abbrev world_with : Part → List Standing → ℕ → World
world_with part ss i = world_from part.order part.held (actors_in (set ss i part.standing))

-- what the places gave, as the world's step
gave : (counts : Counts) (order : List PlaceNo) (h : Held) (ss : List Standing) (actor : Actor) (i : ℕ) (d : Standing) (moment : ℕ) (ask : Ask) (number : ℕ) (o : Option (Served Service))
    → position (is_of actor) ss ≡ Some i → list_all (works_with counts) ss ≡ true
    → world_with (with_served (part_of order h (get_or ss i d)) ask (stepped h actor ask number moment o)) ss i
    ≡ after_served counts (world_from order h (actors_in ss)) actor ask number moment o
gave counts order h ss actor i d moment ask number None at all = ap (λ (ts : List Standing). world_from order h (actors_in ts)) (set-same ss i (get_or ss i d) d refl)
gave counts order h ss actor i d moment ask number (Some s) at all =
    let entry = entry_by actor number moment ask s in
    let heard = actors-set counts ss actor i d (place_of ask) entry at all in
    let more = woven-more (place_of ask) entry order h.logs in
    λ j. record (after_served counts (world_from order h (actors_in ss)) actor ask number moment (Some s)) { actors = heard j; run = more j }

asking : (counts : Counts) (order : List PlaceNo) (h : Held) (ss : List Standing) (actor : Actor) (i : ℕ) (d : Standing) (moment : ℕ) (o : Option Ask)
    → position (is_of actor) ss ≡ Some i → list_all (works_with counts) ss ≡ true
    → world_with (turned moment (part_of order h (get_or ss i d)) o) ss i ≡ turn_asking counts (world_from order h (actors_in ss)) actor moment o
asking counts order h ss actor i d moment None at all = ap (λ (ts : List Standing). world_from order h (actors_in ts)) (set-same ss i (get_or ss i d) d refl)
asking counts order h ss actor i d moment (Some ask) at all =
    let whose = same-is (actor_of (get_or ss i d)) actor (actor-at ss actor i d at) in
    let last = last-at counts ss actor i d at all in
    ap (λ (a : Actor). world_with (with_served (part_of order h (get_or ss i d)) ask (served h a (last_of (get_or ss i d)) moment ask)) ss i) whose
    ∙ ap (λ (n : ℕ). world_with (with_served (part_of order h (get_or ss i d)) ask (served h actor n moment ask)) ss i) last
    ∙ gave counts order h ss actor i d moment ask (number_after (rules.last_of (actors_in ss) actor) (h.lasts (place_of ask).0))
    (serve h.service (stamped (number_after (rules.last_of (actors_in ss) actor) (h.lasts (place_of ask).0)) ask) moment ask) at all

pub turn-world : (counts : Counts) (order : List PlaceNo) (h : Held) (ss : List Standing) (actor : Actor) (i : ℕ) (d : Standing) (moment : ℕ)
    → position (is_of actor) ss ≡ Some i → list_all (works_with counts) ss ≡ true
    → world_with (turn_part moment (part_of order h (get_or ss i d))) ss i ≡ turn counts (world_from order h (actors_in ss)) (record { actor = actor; moment = moment })
turn-world counts order h ss actor i d moment at all =
    ap (λ (o : Option Ask). world_with (turned moment (part_of order h (get_or ss i d)) o) ss i) (next-at counts ss actor moment i d at all)
    ∙ asking counts order h ss actor i d moment (next_ask counts (actors_in ss) moment actor) at all

-- the world with the actor's new place, where that is the part after its turn
pub stepped-world : (counts : Counts) (ss : List Standing) (actor : Actor) (i : ℕ) (d new : Standing) (h h' : Held) (order order' : List PlaceNo) (moment : ℕ)
    → position (is_of actor) ss ≡ Some i → list_all (works_with counts) ss ≡ true
    → part_of order' h' new ≡ turn_part moment (part_of order h (get_or ss i d))
    → world_from order' h' (actors_in (set ss i new)) ≡ turn counts (world_from order h (actors_in ss)) (record { actor = actor; moment = moment })
stepped-world counts ss actor i d new h h' order order' moment at all step =
    ap (λ (part : Part). world_with part ss i) step ∙ turn-world counts order h ss actor i d moment at all
