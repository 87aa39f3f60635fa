-- A step's number is the last one of its actor, and those of the others stay.
use Rattle.std.proofs.Common.{◌≡◌, ℕ, ◌+◌, ◌≤◌, Bool, true, false, refl, arith}
use Rattle.std.specs.Prelude.{if◌then◌else◌, ◌==◌}
use Rattle.next_ids.specs.declared.ids.Actor.{Actor}
use Rattle.next_ids.specs.declared.ids.Actor.TheVariants.{Client as ClientActor, Renamer, Collector}
use Rattle.next_ids.specs.declared.ids.PlaceNo.{PlaceNo}
use Rattle.next_ids.specs.declared.counts.Counts.{Counts}
use Rattle.next_steps.specs.declared.entry.Entry.{Entry}
use Rattle.next_steps.specs.Calls.{heard}
use Rattle.next_steps.specs.Phases.{Phase, Asking, Reads, Writes, Removes, Finished}
use Rattle.next_rules.specs.Actors.{Actors, Progress, Doing, Nothing, Stops, Leaves, Goes, doing, with_phase, hears_doing, hears, heard_by, last_of}

with_phase-last : (p : Progress) (entry : Entry) (phase : Phase) → (with_phase p entry phase).last ≡ entry.number
with_phase-last p entry (Asking call) = refl
with_phase-last p entry (Reads phase) = refl
with_phase-last p entry (Writes phase) = refl
with_phase-last p entry (Removes phase) = refl
with_phase-last p entry (Finished done) = refl

hears-low : (n : ℕ) (p : Progress) (place : PlaceNo) (entry : Entry) (what : Doing) → p.last ≤ n → entry.number ≤ n + 1 → (hears_doing p place entry what).last ≤ n + 1
hears-low n p place entry Nothing low number = omega arith
hears-low n p place entry Stops low number = number
hears-low n p place entry Leaves low number = number
hears-low n p place entry (Goes phase) low number = let is = with_phase-last p entry (heard phase place entry) in omega (arith, is, number)

pub heard-low : (n : ℕ) (counts : Counts) (actors : Actors) (actor : Actor) (place : PlaceNo) (entry : Entry) → ((a : Actor) → last_of actors a ≤ n) → entry.number ≤ n + 1
    → (a : Actor) → last_of (heard_by counts actors actor place entry) a ≤ n + 1
heard-low n counts actors (ClientActor c) place entry low number (ClientActor q) = by_test (q.0 == c.0)
  where
    by_test : (b : Bool) → (if b then hears (actors.clients c.0) place entry else actors.clients q.0).last ≤ n + 1
    by_test true = hears-low n (actors.clients c.0) place entry (doing (actors.clients c.0)) (low (ClientActor c)) number
    by_test false = let l = low (ClientActor q) in omega (arith, l)
heard-low n counts actors (ClientActor c) place entry low number Renamer = let l = low Renamer in omega (arith, l)
heard-low n counts actors (ClientActor c) place entry low number Collector = let l = low Collector in omega (arith, l)
heard-low n counts actors Renamer place entry low number Renamer = number
heard-low n counts actors Renamer place entry low number (ClientActor q) = let l = low (ClientActor q) in omega (arith, l)
heard-low n counts actors Renamer place entry low number Collector = let l = low Collector in omega (arith, l)
heard-low n counts actors Collector place entry low number Collector = number
heard-low n counts actors Collector place entry low number (ClientActor q) = let l = low (ClientActor q) in omega (arith, l)
heard-low n counts actors Collector place entry low number Renamer = let l = low Renamer in omega (arith, l)
