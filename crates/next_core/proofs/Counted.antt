-- A turn keeps what is counted.
use Rattle.std.proofs.Common.{◌≡◌, ℕ, ◌+◌, ◌≤◌, ◌<◌, List, ◌∷◌, true, false, refl, sym, ap, ◌∙◌, subst, arith, set, get_or, length}
use Rattle.std.specs.Prelude.{Option, Some, None, position}
use Rattle.std.specs.List.{list_all}
use Rattle.next_ids.specs.declared.ids.Actor.{Actor}
use Rattle.next_ids.specs.declared.ids.PlaceNo.{PlaceNo}
use Rattle.next_ids.specs.declared.counts.Counts.{Counts}
use Rattle.next_steps.specs.declared.ask.Ask.{Ask}
use Rattle.next_steps.specs.Asks.{place_of}
use Rattle.next_rules.specs.Contents.{Served, entry_by, number_after, is_full}
use Rattle.next_rules.specs.Actors.{Actors, heard_by}
use Rattle.next_rules.specs.Worlds.{Service, serve, stamped}
use Rattle.next_actor.specs.Standings.{Standing, actor_of, last_of, next_of}
use Rattle.next_places.specs.Held.{Held, stepped, full, with_entry}
use Rattle.next_core.specs.Casts.{is_of, actors_in, works_with}
use Rattle.next_core.specs.Counted.{IsCounted}
use Rattle.next_core.specs.Parts.{Part, with_served, turned, turn_part, full_asked, full_next}
use Rattle.next_core.proofs.Alike.{last-at, actors-set, set-same}
use Rattle.next_core.proofs.Counting.{step-counted}
use Rattle.next_core.proofs.Lasts.{heard-low}
use Rattle.next_core.proofs.Turns.{part_of}

abbrev pub IsCountedIn : Part → List Standing → ℕ → Type 0
IsCountedIn part ss i = IsCounted part.order part.held (actors_in (set ss i part.standing))

gave : (counts : Counts) (order : List PlaceNo) (h : Held) (ss : List Standing) (actor whose : Actor) (i : ℕ) (d : Standing) (moment : ℕ) (ask : Ask) (o : Option (Served Service))
    → position (is_of actor) ss ≡ Some i → list_all (works_with counts) ss ≡ true → IsCounted order h (actors_in ss) → (place_of ask).0 < 130 → full h (last_of (get_or ss i d)) ask ≡ false
    → IsCountedIn (with_served (part_of order h (get_or ss i d)) ask (stepped h whose ask (number_after (last_of (get_or ss i d)) (h.lasts (place_of ask).0)) moment o)) ss i
gave counts order h ss actor whose i d moment ask None at all k low room = subst (λ (ts : List Standing). IsCounted order h (actors_in ts)) (sym (set-same ss i (get_or ss i d) d refl)) k
gave counts order h ss actor whose i d moment ask (Some s) at all k low room =
    let number = number_after (last_of (get_or ss i d)) (h.lasts (place_of ask).0) in
    let entry = entry_by whose number moment ask s in
    let last = last-at counts ss actor i d at all in
    let room' = ap (λ (n : ℕ). is_full (length (h.logs (place_of ask).0)) n (h.lasts (place_of ask).0)) (sym last) ∙ room in
    let is = ap (λ (n : ℕ). number_after n (h.lasts (place_of ask).0)) last in
    let own = k.actors_low actor in
    let there = k.low (place_of ask).0 in
    let number_low : number ≤ length order + 1 = omega (arith, own, there, last) in
    subst (λ (a : Actors). IsCounted (place_of ask ∷ order) (with_entry h (place_of ask).0 entry s.contents) a) (sym (actors-set counts ss actor i d (place_of ask) entry at all))
    (step-counted order h (actors_in ss) (heard_by counts (actors_in ss) actor (place_of ask) entry) actor (place_of ask) entry s.contents k low room' is
    (heard-low (length order) counts (actors_in ss) actor (place_of ask) entry k.actors_low number_low))

asking : (counts : Counts) (order : List PlaceNo) (h : Held) (ss : List Standing) (actor : Actor) (i : ℕ) (d : Standing) (moment : ℕ) (o : Option Ask)
    → position (is_of actor) ss ≡ Some i → list_all (works_with counts) ss ≡ true → IsCounted order h (actors_in ss) → ((ask : Ask) → Some ask ≡ o → (place_of ask).0 < 130)
    → full_asked h (last_of (get_or ss i d)) o ≡ false → IsCountedIn (turned moment (part_of order h (get_or ss i d)) o) ss i
asking counts order h ss actor i d moment None at all k low room = subst (λ (ts : List Standing). IsCounted order h (actors_in ts)) (sym (set-same ss i (get_or ss i d) d refl)) k
asking counts order h ss actor i d moment (Some ask) at all k low room =
    gave counts order h ss actor (actor_of (get_or ss i d)) i d moment ask
    (serve h.service (stamped (number_after (last_of (get_or ss i d)) (h.lasts (place_of ask).0)) ask) moment ask) at all k (low ask refl) room

pub turn-counted : (counts : Counts) (order : List PlaceNo) (h : Held) (ss : List Standing) (actor : Actor) (i : ℕ) (d : Standing) (moment : ℕ)
    → position (is_of actor) ss ≡ Some i → list_all (works_with counts) ss ≡ true → IsCounted order h (actors_in ss) → ((ask : Ask) → Some ask ≡ next_of (get_or ss i d) moment → (place_of ask).0 < 130)
    → full_next moment h (get_or ss i d) ≡ false → IsCountedIn (turn_part moment (part_of order h (get_or ss i d))) ss i
turn-counted counts order h ss actor i d moment at all k low room = asking counts order h ss actor i d moment (next_of (get_or ss i d) moment) at all k low room
