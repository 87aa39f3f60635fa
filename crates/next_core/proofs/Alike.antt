-- Each actor knows how many places there are, and the world sees it where it is.
use Rattle.std.proofs.Common.{◌≡◌, ℕ, suc, zero, ◌<◌, List, [], ◌∷◌, Bool, true, false, refl, sym, ap, ◌∙◌, arith, set, get_or, length}
use Rattle.std.specs.Prelude.{◌==◌, ◌&&◌, if◌then◌else◌, position, Some}
use Rattle.std.specs.List.{list_all}
use Rattle.std.proofs.lemmas.Bool.Decides.{nat_tests}
use Rattle.next_ids.specs.declared.ids.Actor.{Actor}
use Rattle.next_ids.specs.declared.ids.Actor.TheVariants.{Client as ClientActor, Renamer, Collector}
use Rattle.next_ids.specs.declared.ids.PlaceNo.{PlaceNo}
use Rattle.next_ids.specs.declared.counts.Counts.{Counts}
use Rattle.next_steps.specs.declared.entry.Entry.{Entry}
use Rattle.next_rules.specs.Actors.{Actors, Progress, next_ask, heard_by, hears, set_client}
use Rattle.next_rules.specs.Actors as rules
use Rattle.next_steps.specs.Jobs.{heard_job}
use Rattle.next_steps.specs.Rounds.{heard_round}
use Rattle.next_actor.specs.Standings.{Standing, OfClient, OfRenamer, OfCollector, actor_of, last_of, next_of, after, standing_in}
use Rattle.next_actor.proofs.Standing.{last-standing_in, next-standing_in}
use Rattle.next_core.specs.Casts.{is_same, is_of, standing_at, progress_in, job_in, round_in, actors_in, clients_in, works_with}
use Rattle.next_core.proofs.Same.{same-is}
use Rattle.next_core.proofs.Casting.{within-at, standing-at, actor-at, standing-set}
use Rattle.next_core.proofs.Truths.{and_left, and_right, both}

same_counts : (a b : Counts) → ((a.shards == b.shards) && (a.stores == b.stores)) ≡ true → a ≡ b
same_counts a b e =
    let first = and_left (a.shards == b.shards) _ e in
    let second = and_right (a.shards == b.shards) _ e in
    let shards : a.shards ≡ b.shards = grind (arith, nat_tests, first) in
    let stores : a.stores ≡ b.stores = grind (arith, nat_tests, second) in
    λ j. record { shards = shards j; stores = stores j }

-- the rule's view of an actor that stands here
abbrev rebuilt : Counts → Actor → Standing → Standing
rebuilt counts (ClientActor c) s = OfClient counts c (progress_in s)
rebuilt counts Renamer s = OfRenamer (job_in s).0 (job_in s).1
rebuilt counts Collector s = OfCollector counts (round_in s).0 (round_in s).1

rebuilt-is : (counts : Counts) (actor : Actor) (s : Standing) → is_of actor s ≡ true → works_with counts s ≡ true → rebuilt counts actor s ≡ s
rebuilt-is counts (ClientActor c) (OfClient own d p) of works =
    let who : d.0 ≡ c.0 = grind (arith, nat_tests) in
    let know = same_counts own counts works in
    λ j. OfClient (sym know j) (record { 0 = sym who j }) p
rebuilt-is counts (ClientActor c) (OfRenamer phase last) of works = cc
rebuilt-is counts (ClientActor c) (OfCollector own phase last) of works = cc
rebuilt-is counts Renamer (OfClient own d p) of works = cc
rebuilt-is counts Renamer (OfRenamer phase last) of works = refl
rebuilt-is counts Renamer (OfCollector own phase last) of works = cc
rebuilt-is counts Collector (OfClient own d p) of works = cc
rebuilt-is counts Collector (OfRenamer phase last) of works = cc
rebuilt-is counts Collector (OfCollector own phase last) of works = let know = same_counts own counts works in λ j. OfCollector (sym know j) phase last

seen : (counts : Counts) (ss : List Standing) (actor : Actor) → standing_in counts (actors_in ss) actor ≡ rebuilt counts actor (standing_at ss actor)
seen counts ss (ClientActor c) = refl
seen counts ss Renamer = refl
seen counts ss Collector = refl

-- ---- lists of actors that work with so many places
pub alike-at : (counts : Counts) (ss : List Standing) (i : ℕ) (d : Standing) → i < length ss → list_all (works_with counts) ss ≡ true → works_with counts (get_or ss i d) ≡ true
alike-at counts [] i d lt all = absurd (omega arith)
alike-at counts (s ∷ ss) zero d lt all = and_left (works_with counts s) _ all
alike-at counts (s ∷ ss) (suc i) d lt all = alike-at counts ss i d (omega arith) (and_right (works_with counts s) _ all)

pub alike-set : (counts : Counts) (ss : List Standing) (i : ℕ) (new : Standing) → list_all (works_with counts) ss ≡ true → works_with counts new ≡ true → list_all (works_with counts) (set ss i new) ≡ true
alike-set counts [] i new all works = refl
alike-set counts (s ∷ ss) zero new all works = both _ _ works (and_right (works_with counts s) _ all)
alike-set counts (s ∷ ss) (suc i) new all works = both _ _ (and_left (works_with counts s) _ all) (alike-set counts ss i new (and_right (works_with counts s) _ all) works)

pub works-after : (counts : Counts) (s : Standing) (place : PlaceNo) (entry : Entry) → works_with counts s ≡ true → works_with counts (after s place entry) ≡ true
works-after counts (OfClient own c p) place entry works = works
works-after counts (OfRenamer phase last) place entry works = works
works-after counts (OfCollector own phase last) place entry works = works

pub actor-after : (s : Standing) (place : PlaceNo) (entry : Entry) → actor_of (after s place entry) ≡ actor_of s
actor-after (OfClient own c p) place entry = refl
actor-after (OfRenamer phase last) place entry = refl
actor-after (OfCollector own phase last) place entry = refl

-- the world sees the actor where its state is
pub seen-at : (counts : Counts) (ss : List Standing) (actor : Actor) (i : ℕ) (d : Standing) → position (is_of actor) ss ≡ Some i → list_all (works_with counts) ss ≡ true
    → standing_in counts (actors_in ss) actor ≡ get_or ss i d
seen-at counts ss actor i d at all =
    seen counts ss actor ∙ ap (rebuilt counts actor) (standing-at ss actor i d at)
    ∙ rebuilt-is counts actor (get_or ss i d) (actor-at ss actor i d at) (alike-at counts ss i d (within-at ss actor i at) all)

pub next-at : (counts : Counts) (ss : List Standing) (actor : Actor) (moment i : ℕ) (d : Standing) → position (is_of actor) ss ≡ Some i → list_all (works_with counts) ss ≡ true
    → next_of (get_or ss i d) moment ≡ next_ask counts (actors_in ss) moment actor
next-at counts ss actor moment i d at all = ap (λ (s : Standing). next_of s moment) (sym (seen-at counts ss actor i d at all)) ∙ next-standing_in counts (actors_in ss) actor moment

pub last-at : (counts : Counts) (ss : List Standing) (actor : Actor) (i : ℕ) (d : Standing) → position (is_of actor) ss ≡ Some i → list_all (works_with counts) ss ≡ true
    → last_of (get_or ss i d) ≡ rules.last_of (actors_in ss) actor
last-at counts ss actor i d at all = ap last_of (sym (seen-at counts ss actor i d at all)) ∙ last-standing_in counts (actors_in ss) actor

-- ---- the actors after the step of one
same_actors : (a b : Actors) → a.clients ≡ b.clients → a.job ≡ b.job → a.job_last ≡ b.job_last → a.round ≡ b.round → a.round_last ≡ b.round_last → a ≡ b
same_actors a b c j k r l = λ i. record { clients = c i; job = j i; job_last = k i; round = r i; round_last = l i }

-- what is seen of all of them, where each is found elsewhere
abbrev seen_by : (Actor → Standing) → Actors
seen_by at = record {
  clients = λ c. progress_in (at (ClientActor (record { 0 = c })));
  job = (job_in (at Renamer)).0;
  job_last = (job_in (at Renamer)).1;
  round = (round_in (at Collector)).0;
  round_last = (round_in (at Collector)).1;
}

abbrev with_new : List Standing → Actor → Standing → Actor → Standing
with_new ss actor new other = if is_same actor other then new else standing_at ss other

new_seen : (counts : Counts) (ss : List Standing) (actor : Actor) (s : Standing) (place : PlaceNo) (entry : Entry) → standing_at ss actor ≡ s → is_of actor s ≡ true → works_with counts s ≡ true
    → seen_by (with_new ss actor (after s place entry)) ≡ heard_by counts (actors_in ss) actor place entry
new_seen counts ss (ClientActor c) (OfClient own d p) place entry is of works = same_actors _ _ (λ j q. at q (q == c.0) refl j) refl refl refl refl
  where
    at : (q : ℕ) (b : Bool) → (q == c.0) ≡ b
        → progress_in (if c.0 == q then OfClient own d (hears p place entry) else standing_at ss (ClientActor (record { 0 = q })))
        ≡ (if b then hears (progress_in (standing_at ss (ClientActor c))) place entry else progress_in (standing_at ss (ClientActor (record { 0 = q }))))
    at q true t = let there : (c.0 == q) ≡ true = grind (arith, nat_tests) in rw there (ap (λ (s : Standing). hears (progress_in s) place entry) (sym is))
    at q false t = let no : (c.0 == q) ≡ false = grind (arith, nat_tests) in rw no refl
new_seen counts ss (ClientActor c) (OfRenamer phase last) place entry is of works = cc
new_seen counts ss (ClientActor c) (OfCollector own phase last) place entry is of works = cc
new_seen counts ss Renamer (OfClient own d p) place entry is of works = cc
new_seen counts ss Renamer (OfRenamer phase last) place entry is of works = same_actors _ _ refl (ap (λ (s : Standing). heard_job (job_in s).0 place entry) (sym is)) refl refl refl
new_seen counts ss Renamer (OfCollector own phase last) place entry is of works = cc
new_seen counts ss Collector (OfClient own d p) place entry is of works = cc
new_seen counts ss Collector (OfRenamer phase last) place entry is of works = cc
new_seen counts ss Collector (OfCollector own phase last) place entry is of works =
    same_actors _ _ refl refl refl (ap (λ (k : Counts). heard_round k phase entry) (same_counts own counts works) ∙ ap (λ (s : Standing). heard_round counts (round_in s).0 entry) (sym is)) refl

pub actors-set : (counts : Counts) (ss : List Standing) (actor : Actor) (i : ℕ) (d : Standing) (place : PlaceNo) (entry : Entry) → position (is_of actor) ss ≡ Some i → list_all (works_with counts) ss ≡ true
    → actors_in (set ss i (after (get_or ss i d) place entry)) ≡ heard_by counts (actors_in ss) actor place entry
actors-set counts ss actor i d place entry at all =
    let s = get_or ss i d in
    let of = actor-at ss actor i d at in
    let own : actor_of (after s place entry) ≡ actor = actor-after s place entry ∙ same-is (actor_of s) actor of in
    ap seen_by (λ j other. standing-set ss actor i (after s place entry) at own other j)
    ∙ new_seen counts ss actor s place entry (standing-at ss actor i d at) of (alike-at counts ss i d (within-at ss actor i at) all)

-- ---- one that stands where it stood
pub set-same : (ss : List Standing) (i : ℕ) (new d : Standing) → new ≡ get_or ss i d → set ss i new ≡ ss
set-same [] i new d is = refl
set-same (s ∷ ss) zero new d is = ap (λ (t : Standing). t ∷ ss) is
set-same (s ∷ ss) (suc i) new d is = ap (λ (ts : List Standing). s ∷ ts) (set-same ss i new d is)

-- a client's number
abbrev number_of : Actor → ℕ
number_of (ClientActor c) = c.0
number_of actor = 0

pub clients-like : (ss : List Standing) (i : ℕ) (new d : Standing) → actor_of new ≡ actor_of (get_or ss i d) → clients_in (set ss i new) ≡ clients_in ss
clients-like [] i new d same = refl
clients-like (s ∷ ss) zero new d same = by_kind new s same
  where
    by_kind : (a b : Standing) → actor_of a ≡ actor_of b → clients_in (a ∷ ss) ≡ clients_in (b ∷ ss)
    by_kind (OfClient own c p) (OfClient other e q) same = let who : c.0 ≡ e.0 = ap number_of same in ap (λ (n : ℕ). n ∷ clients_in ss) who
    by_kind (OfClient own c p) (OfRenamer phase last) same = cc
    by_kind (OfClient own c p) (OfCollector other phase last) same = cc
    by_kind (OfRenamer phase last) (OfClient own c p) same = cc
    by_kind (OfRenamer phase last) (OfRenamer other n) same = refl
    by_kind (OfRenamer phase last) (OfCollector own other n) same = cc
    by_kind (OfCollector own phase last) (OfClient other c p) same = cc
    by_kind (OfCollector own phase last) (OfRenamer other n) same = cc
    by_kind (OfCollector own phase last) (OfCollector other q n) same = refl
clients-like (OfClient own c p ∷ ss) (suc i) new d same = ap (λ (ns : List ℕ). c.0 ∷ ns) (clients-like ss i new d same)
clients-like (OfRenamer phase last ∷ ss) (suc i) new d same = clients-like ss i new d same
clients-like (OfCollector own phase last ∷ ss) (suc i) new d same = clients-like ss i new d same
