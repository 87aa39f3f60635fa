-- One step of a world: its stamp is new, the other clients keep what holds of them, and so it is enough to know it of the actor.
use Rattle.std.proofs.Common.{◌≡◌, ℕ, ◌≤◌, ◌<◌, List, ◌∷◌, Bool, true, false, refl, ap, subst, arith}
use Rattle.std.specs.Prelude.{if◌then◌else◌, ◌||◌, ◌&&◌, ◌==◌, Option, Some, None}
use Rattle.std.proofs.lemmas.Bool.Decides.{nat_tests}
use Rattle.cfs_ids.specs.declared.ids.Stamp.{Stamp}
use Rattle.cfs_ids.specs.declared.ids.PlaceNo.{PlaceNo}
use Rattle.cfs_steps.specs.declared.ask.Ask.{Ask}
use Rattle.cfs_steps.specs.declared.entry.Entry.{Entry}
use Rattle.cfs_steps.specs.declared.moves.Moved.{Moved}
use Rattle.cfs_steps.specs.declared.moves.Moved.TheVariants.{Move}
use Rattle.cfs_steps.specs.Asks.{place_of}
use Rattle.cfs_rules.specs.Places.{Served}
use Rattle.cfs_rules.specs.Worlds.{World, Progress, client_of, entry_of, set_client, set_last, hears}
use Rattle.cfs_laws_places.proofs.Changes.{raised, last_set}
use Rattle.cfs_laws_history.proofs.Stamps.{stands, IsFresh}
use Rattle.cfs_laws_history.proofs.Pasts.{ClientPast, IsOthers, ClientPast-grown}

-- no stamp of the run is above the last number of its place
abbrev pub IsLow : (ℕ → ℕ) → List (PlaceNo × Entry) → Type 0
IsLow last run = (s : Stamp) → stands s run ≡ true → s.number ≤ last s.place.0

pub record PastIn (lasts : ℕ → ℕ) (run : List (PlaceNo × Entry)) (all : ℕ → Progress) : Type 0 where
  pub low : IsLow lasts run
  pub clients : (i : ℕ) → ClientPast run i (all i).done (all i).current

abbrev pub Past : World → Type 0
Past w = PastIn w.lasts w.run w.clients

pub fresh_step : (last : ℕ → ℕ) (run : List (PlaceNo × Entry)) (e : PlaceNo × Entry) → IsLow last run → last e.0.0 < e.1.number → IsFresh run e
fresh_step last run e low new s there = by_test (e.1.number == s.number) refl (e.0.0 == s.place.0) refl
  where
    by_test : (a : Bool) → (e.1.number == s.number) ≡ a → (b : Bool) → (e.0.0 == s.place.0) ≡ b → (a && b) ≡ false
    by_test true t true u =
        let number : e.1.number ≡ s.number = grind (arith, nat_tests) in
        let place : e.0.0 ≡ s.place.0 = grind (arith, nat_tests) in
        absurd (omega (arith, low s there, ap last place))
    by_test true t false u = refl
    by_test false t b u = refl

low_step : (last last' : ℕ → ℕ) (run : List (PlaceNo × Entry)) (e : PlaceNo × Entry) → IsLow last run → ((p : ℕ) → last p ≤ last' p) → e.1.number ≤ last' e.0.0 → IsLow last' (e ∷ run)
low_step last last' run e low more le s there = by_test (e.1.number == s.number) refl (e.0.0 == s.place.0) refl there
  where
    by_test : (a : Bool) → (e.1.number == s.number) ≡ a → (b : Bool) → (e.0.0 == s.place.0) ≡ b → ((a && b) || stands s run) ≡ true → s.number ≤ last' s.place.0
    by_test true t true u there =
        let number : e.1.number ≡ s.number = grind (arith, nat_tests) in
        let place : e.0.0 ≡ s.place.0 = grind (arith, nat_tests) in
        omega (arith, ap last' place)
    by_test true t false u there = omega (arith, low s there, more s.place.0)
    by_test false t b u there = omega (arith, low s there, more s.place.0)

-- ---- the clients
-- what a step moved is the client's, if it moved anything
abbrev pub IsBy : ℕ → Option Moved → Type 0
IsBy c None = Unit {0}
IsBy c (Some (Move m)) = m.client ≡ client_of c

others_of : (c i : ℕ) (moved : Option Moved) → IsBy c moved → (i == c) ≡ false → IsOthers i moved
others_of c i None by differ = tt
others_of c i (Some (Move m)) by differ = let at : m.client.0 ≡ c = ap (λ x. x.0) by in grind (arith, nat_tests)

step_clients : (run : List (PlaceNo × Entry)) (e : PlaceNo × Entry) (clients : ℕ → Progress) (c : ℕ) (p : Progress) → IsFresh run e → IsBy c e.1.moved
    → ((i : ℕ) → ClientPast run i (clients i).done (clients i).current) → ClientPast (e ∷ run) c p.done p.current
    → (i : ℕ) → ClientPast (e ∷ run) i (set_client clients c p i).done (set_client clients c p i).current
step_clients run e clients c p fresh by h own i = by_test (i == c) refl
  where
    by_test : (b : Bool) → (i == c) ≡ b → ClientPast (e ∷ run) i (if b then p else clients i).done (if b then p else clients i).current
    by_test true t = let same : c ≡ i = grind (arith, nat_tests) in subst (λ j. ClientPast (e ∷ run) j p.done p.current) same own
    by_test false t = ClientPast-grown run e fresh i (clients i).done (clients i).current (others_of c i e.1.moved by t) (h i)

-- ---- the worlds
abbrev pub step_entry : {C : Type 0} → ℕ → ℕ → Ask → Served C → PlaceNo × Entry
step_entry c number ask s = (place_of ask, entry_of c number ask s)

-- what the actor has to show of its step
abbrev pub ActorKeeps : {C : Type 0} → World → ℕ → Progress → Ask → ℕ → Served C → Type 0
ActorKeeps w c p ask number s = IsFresh w.run (step_entry c number ask s) → ClientPast (step_entry c number ask s ∷ w.run) c (hears p (place_of ask) (entry_of c number ask s)).done (hears p (place_of ask) (entry_of c number ask s)).current

pub past_step : {C : Type 0} (w : World) (c : ℕ) (p : Progress) (ask : Ask) (number : ℕ) (s : Served C) → Past w → w.lasts (place_of ask).0 < number → IsBy c s.moved → ActorKeeps w c p ask number s
    → PastIn (set_last w.lasts (place_of ask).0 number) (step_entry c number ask s ∷ w.run) (set_client w.clients c (hears p (place_of ask) (entry_of c number ask s)))
past_step w c p ask number s h new by own = record {
  low = low_step w.lasts (set_last w.lasts (place_of ask).0 number) w.run (step_entry c number ask s) h.low (raised w.lasts (place_of ask).0 number new) (omega (arith, last_set w.lasts (place_of ask).0 number));
  clients = step_clients w.run (step_entry c number ask s) w.clients c (hears p (place_of ask) (entry_of c number ask s)) fresh by h.clients (own fresh);
}
  where
    fresh : IsFresh w.run (step_entry c number ask s)
    fresh = fresh_step w.lasts w.run (step_entry c number ask s) h.low new
