-- Runs, turn by turn.
use Rattle.std.proofs.Common.{◌≡◌, ℕ, suc, zero, ◌+◌, ◌<◌, List, [], ◌∷◌, ◌++◌, Bool, true, refl, sym, ap, ◌∙◌, subst, map, take, arith, Ok, Some, Result}
use Rattle.std.specs.Prelude.{replicate, slice_get}
use Rattle.std.proofs.lemmas.List.{replicate_more, map-append, take-map, length-map, length-replicate, take-replicate}
use Rattle.cfs_ids.specs.declared.ids.Actor.{Actor}
use Rattle.cfs_ids.specs.declared.ids.PlaceNo.{PlaceNo}
use Rattle.cfs_ids.specs.declared.memory.NoMemory.{NoMemory}
use Rattle.cfs_ids.specs.Namespace.{IsWhole}
use Rattle.cfs_rules.specs.Facts.{CountsHold, AttributesHold}
use Rattle.cfs_rules.specs.Trees.{tree}
use Rattle.cfs_rules.specs.Worlds.{World, Counts, Setup, turn, turn_asking, asked_next, next_ask, client_of as numbered, opening, run_of, played}
use Rattle.cfs_laws_places.proofs.Laws.{counts_of as counts_hold, attributes_of as attributes_hold, whole_of}
use Rattle.cfs_core.specs.Clients.{number_in}
use Rattle.cfs_core.specs.Cores.{AsksFull, counts_of, held_of, world_of}
use Rattle.cfs_core.specs.declared.service.Core.{Core}
use Rattle.cfs_view.specs.Held.{Held, log_full}
use Rattle.cfs_law_tree.specs.declared.turns.Driven.{Driven}
use Rattle.cfs_law_tree.specs.declared.turns.Driven.TheVariants.{Full}
use Rattle.cfs_law_tree.specs.Drives.{IsPlayed, StopsIn, StopsFull, world_at}

pub run-append : (counts : Counts) (xs ys : List ℕ) (w : World) → run_of counts (xs ++ ys) w ≡ run_of counts ys (run_of counts xs w)
run-append counts [] ys w = refl
run-append counts (x ∷ xs) ys w = run-append counts xs ys (turn counts w x)

-- a turn of a client that has ended
pub idle-turn : (counts : Counts) (w : World) (c : ℕ) → (w.clients c).ended ≡ true → turn counts w c ≡ w
idle-turn counts w c e = ap (λ (b : Bool). turn_asking w c (w.clients c) (asked_next counts (numbered c) (w.clients c).puts b (w.clients c).current)) e

-- the turns before, and then these
played-on : (setup : Setup) (before turns : List ℕ) (core : Core) → IsPlayed setup before core → played setup (before ++ turns) ≡ run_of (counts_of core) turns (world_of core)
played-on setup before turns core is = run-append setup.counts before turns (opening setup) ∙ (λ j. run_of (is.counts j) turns (sym is.world j))

pub counts-at : (setup : Setup) (before : List ℕ) (core : Core) → IsPlayed setup before core → (turns : List Actor) (n : ℕ) → CountsHold (world_at core turns n).shard
counts-at setup before core is turns n = let some = take n (map number_in turns) in
    subst (λ (w : World). CountsHold w.shard) (played-on setup before some core is) (counts_hold setup is.good (before ++ some))

pub attributes-at : (setup : Setup) (before : List ℕ) (core : Core) → IsPlayed setup before core → (turns : List Actor) (n : ℕ) → AttributesHold (world_at core turns n).shard (world_at core turns n).store
attributes-at setup before core is turns n = let some = take n (map number_in turns) in
    subst (λ (w : World). AttributesHold w.shard w.store) (played-on setup before some core is) (attributes_hold setup is.good (before ++ some))

pub whole-at : (setup : Setup) (before : List ℕ) (core : Core) → IsPlayed setup before core → (turns : List Actor) (n : ℕ) → IsWhole (tree (world_at core turns n).shard (world_at core turns n).store)
whole-at setup before core is turns n = let some = take n (map number_in turns) in
    subst (λ (w : World). IsWhole (tree w.shard w.store)) (played-on setup before some core is) (whole_of setup is.good (before ++ some))

-- one more turn of the same actor
pub run-more : (counts : Counts) (actor : Actor) (made : ℕ) (w : World) → run_of counts (map number_in (replicate (made + 1) actor)) w ≡ turn counts (run_of counts (map number_in (replicate made actor)) w) (number_in actor)
run-more counts actor made w = ap (λ (turns : List ℕ). run_of counts turns w) (ap (map number_in) (sym (replicate_more made actor)) ∙ map-append number_in (replicate made actor) (actor ∷ []))
    ∙ run-append counts (map number_in (replicate made actor)) (number_in actor ∷ []) w

pub get-replicate : (made count : ℕ) (actor : Actor) → made < count → Some actor ≡ slice_get (replicate count actor) made
get-replicate made zero actor lt = absurd (omega arith)
get-replicate zero (suc count) actor lt = refl
get-replicate (suc made) (suc count) actor lt = get-replicate made count actor (omega arith)

-- the turns before one are some of all turns
abbrev pub stops : (counts : Counts) (actor : Actor) (count made : ℕ) (before after : World) → made < count → after ≡ run_of counts (map number_in (replicate made actor)) before → StopsIn counts (map number_in (replicate count actor)) before after
stops counts actor count made before after lt e = record {
  made = made;
  early = let all = length-map (replicate count actor) number_in in let each = length-replicate count actor in omega (arith, all, each, lt);
  so_far = e ∙ ap (λ (turns : List ℕ). run_of counts turns before) (ap (map number_in) (sym (take-replicate made count actor (omega (arith, lt)))) ∙ sym (take-map number_in made (replicate count actor)));
}

-- of one core to the next, where only what was asked of it has changed
pub same-full : (was is : Core) (c : ℕ) (place : PlaceNo) → world_of is ≡ world_of was → held_of is ≡ held_of was → counts_of is ≡ counts_of was → AsksFull was c place → AsksFull is c place
same-full was is c place world held counts full = record {
  ask = full.ask;
  next = full.next ∙ (λ j. next_ask (sym counts j) (numbered c) ((sym world j).clients c));
  there = full.there;
  full = ap (λ (h : Held). log_full h full.ask) held ∙ full.full;
}

pub stops-full : (counts : Counts) (actor : Actor) (count made : ℕ) (before : World) (was is : Core) (place : PlaceNo) → made < count → world_of is ≡ run_of counts (map number_in (replicate made actor)) before
    → world_of is ≡ world_of was → held_of is ≡ held_of was → counts_of is ≡ counts_of was → AsksFull was (number_in actor) place → StopsFull counts (replicate count actor) before is place
stops-full counts actor count made before was is place lt e world held places full = record {
  stops = stops counts actor count made before (world_of is) lt e;
  actor = actor;
  next = get-replicate made count actor lt;
  full = same-full was is (number_in actor) place world held places full;
}

pub same-place : (p q : PlaceNo) → ◌≡◌ {A = Result Driven NoMemory} (Ok (Full p)) (Ok (Full q)) → p ≡ q
same-place p q e = cc
