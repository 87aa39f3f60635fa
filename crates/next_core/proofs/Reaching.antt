-- What is known of a world that turns have reached.
use Rattle.std.proofs.Common.{◌≡◌, List, [], ◌∷◌, ◌++◌, true, refl, sym, ap, ◌∙◌}
use Rattle.std.specs.Prelude.{ℕ, Some}
use Rattle.std.proofs.Props.{props}
use Rattle.std.proofs.Math.Logic.{∥∥₁_elim, ∥∥₁_map}
use Rattle.next_ids.specs.declared.ids.Actor.{Actor}
use Rattle.next_ids.specs.declared.counts.Counts.{Counts}
use Rattle.next_steps.specs.declared.ask.Ask.{Ask}
use Rattle.next_steps.specs.Asks.{place_of, suits}
use Rattle.next_rules.specs.Actors.{next_ask}
use Rattle.next_rules.specs.Setups.{has_place}
use Rattle.next_rules.specs.Worlds.{World, Turn, turn, run_of}
use Rattle.next_laws_reach.proofs.Turns.{places_there}
use Rattle.next_core.specs.Reached.{IsReached}

run-more : (counts : Counts) (turns : List Turn) (t : Turn) (w : World) → run_of counts (turns ++ t ∷ []) w ≡ turn counts (run_of counts turns w) t
run-more counts [] t w = refl
run-more counts (u ∷ turns) t w = run-more counts turns t (turn counts w u)

-- what is asked there is there, and is served
pub asks-there : (counts : Counts) (w : World) → ∥ IsReached counts w ∥₁ → (moment : ℕ) (actor : Actor) (ask : Ask) → Some ask ≡ next_ask counts w.actors moment actor
    → (has_place counts (place_of ask).0 ≡ true) × (suits ask ≡ true)
asks-there counts w r moment actor ask next = ∥∥₁_elim r (hlevel props) (λ it.
    let asked = ap (λ (v : World). next_ask it.setup.counts v.actors moment actor) (sym it.world) ∙ ap (λ (k : Counts). next_ask k w.actors moment actor) it.same ∙ sym next in
    let there = places_there it.setup it.good it.turns actor moment ask asked in
    (ap (λ (k : Counts). has_place k (place_of ask).0) (sym it.same) ∙ there.0, there.1))

-- and one more turn leads to a world that is reached
pub reached-more : (counts : Counts) (w : World) (t : Turn) → ∥ IsReached counts w ∥₁ → ∥ IsReached counts (turn counts w t) ∥₁
reached-more counts w t r = ∥∥₁_map r (λ it. record {
  setup = it.setup;
  good = it.good;
  same = it.same;
  turns = it.turns ++ t ∷ [];
  world = ap (λ (k : Counts). turn k w t) (sym it.same) ∙ ap (λ (v : World). turn it.setup.counts v t) it.world ∙ sym (run-more it.setup.counts it.turns t _);
})
