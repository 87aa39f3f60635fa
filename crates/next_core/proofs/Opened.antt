-- The core of a script before its first turn.
use Rattle.std.proofs.Common.{◌≡◌, ◌≤◌, ℕ, suc, zero, List, [], ◌∷◌, Bool, true, false, refl, sym, ap, arith, subst, map}
use Rattle.std.specs.Prelude.{if◌then◌else◌, ◌==◌, ◌&&◌}
use Rattle.std.specs.List.{list_all}
use Rattle.std.proofs.lemmas.Bool.Decides.{nat_tests}
use Rattle.next_ids.specs.declared.ids.Actor.TheVariants.{Client as ClientActor, Renamer, Collector}
use Rattle.next_ids.specs.declared.ids.Client.{Client}
use Rattle.next_ids.specs.declared.ids.Node.TheVariants.{Dir}
use Rattle.next_ids.specs.declared.counts.Counts.{Counts}
use Rattle.next_rules.specs.Actors.{Plan, Progress, starts}
use Rattle.next_rules.specs.Setups.{AreCounts, KeepsTo}
use Rattle.next_rules.specs.Worlds.{World, opening}
use Rattle.next_setup.specs.declared.script.Script.{Script}
use Rattle.next_setup.specs.Stops.{stop_in}
use Rattle.next_walk.specs.declared.command.Command.{Command}
use Rattle.next_actor.specs.Plans.{plan_of}
use Rattle.next_actor.specs.Standings.{Standing}
use Rattle.next_actor.proofs.Keeping.{plan-keeps}
use Rattle.next_places.specs.Held.{opening_held}
use Rattle.next_core.specs.Casts.{standing_at, progress_in, actors_in, clients_in, works_with}
use Rattle.next_core.specs.Counted.{IsCounted, sum_below}
use Rattle.next_core.specs.Opening.{plans_in, stops_in, counts_in, setup_of, started, opening_cast, members_in}
use Rattle.next_core.specs.Reached.{IsReached}
use Rattle.next_core.specs.Weave.{world_from}
use Rattle.next_core.proofs.Truths.{both}

module _ (tries : ℕ) (counts : Counts) (stops : List (Client × ℕ)) where
  started_at : (lists : List (Client × List Command)) (c : ℕ)
      → progress_in (standing_at (map (started tries counts stops) lists) (ClientActor (record { 0 = c }))) ≡ starts (plans_in tries lists c) (stops_in stops lists c)
  started_at [] c = refl
  started_at (l ∷ lists) c = by_test (l.0.0 == c) refl (started_at lists c)
    where
      by_test : (b : Bool) → (l.0.0 == c) ≡ b
          → progress_in (standing_at (map (started tries counts stops) lists) (ClientActor (record { 0 = c }))) ≡ starts (plans_in tries lists c) (stops_in stops lists c)
          → progress_in (if b then started tries counts stops l else standing_at (map (started tries counts stops) lists) (ClientActor (record { 0 = c })))
          ≡ starts (if b then plan_of tries l.1 else plans_in tries lists c) (if b then stop_in stops c else stops_in stops lists c)
      by_test true t rest = let is : l.0.0 ≡ c = grind (arith, nat_tests) in ap (λ (n : ℕ). starts (plan_of tries l.1) (stop_in stops n)) is
      by_test false t rest = rest

  same_itself : ((counts.shards == counts.shards) && (counts.stores == counts.stores)) ≡ true
  same_itself = both (counts.shards == counts.shards) (counts.stores == counts.stores) (grind (arith, nat_tests)) (grind (arith, nat_tests))

  clients_alike : (lists : List (Client × List Command)) → list_all (works_with counts) (map (started tries counts stops) lists) ≡ true
  clients_alike [] = refl
  clients_alike (l ∷ lists) = both _ _ same_itself (clients_alike lists)

  pub opening-alike : (lists : List (Client × List Command)) → list_all (works_with counts) (opening_cast tries counts stops lists) ≡ true
  opening-alike lists = both _ _ same_itself (clients_alike lists)

  clients_named : (lists : List (Client × List Command)) → clients_in (map (started tries counts stops) lists) ≡ members_in lists
  clients_named [] = refl
  clients_named (l ∷ lists) = ap (λ (ns : List ℕ). l.0.0 ∷ ns) (clients_named lists)

  pub opening-clients : (lists : List (Client × List Command)) → clients_in (opening_cast tries counts stops lists) ≡ members_in lists
  opening-clients lists = clients_named lists

plans_keep : (tries : ℕ) (lists : List (Client × List Command)) (c : ℕ) → KeepsTo (Dir (record { 0 = 0 }) ∷ []) (plans_in tries lists c)
plans_keep tries [] c = tt
plans_keep tries (l ∷ lists) c = by_test (l.0.0 == c) (plans_keep tries lists c)
  where
    by_test : (b : Bool) → KeepsTo (Dir (record { 0 = 0 }) ∷ []) (plans_in tries lists c) → KeepsTo (Dir (record { 0 = 0 }) ∷ []) (if b then plan_of tries l.1 else plans_in tries lists c)
    by_test true rest = plan-keeps tries l.1 (Dir (record { 0 = 0 }) ∷ []) refl
    by_test false rest = rest

sum_of_none : (n : ℕ) → sum_below n (λ p. 0) ≡ 0
sum_of_none zero = refl
sum_of_none (suc n) = let low = sum_of_none n in omega arith

module _ (tries : ℕ) (script : Script) where
  cast : List Standing
  cast = opening_cast tries (counts_in script) script.stops script.commands

  pub opening-world : world_from [] opening_held (actors_in (opening_cast tries (counts_in script) script.stops script.commands)) ≡ opening (setup_of tries script)
  opening-world = λ j. record (opening (setup_of tries script)) {
    actors = record (opening (setup_of tries script)).actors { clients = λ c. started_at tries (counts_in script) script.stops script.commands c j };
  }

  pub opening-reached : AreCounts (counts_in script) → IsReached (counts_in script) (world_from [] opening_held (actors_in (opening_cast tries (counts_in script) script.stops script.commands)))
  opening-reached good = record {
    setup = setup_of tries script;
    good = record { counts = good; plans = plans_keep tries script.commands };
    same = refl;
    turns = [];
    world = opening-world;
  }

  pub opening-counted : IsCounted [] opening_held (actors_in (opening_cast tries (counts_in script) script.stops script.commands))
  opening-counted = subst (λ (w : World). IsCounted [] opening_held w.actors) (sym opening-world)
      (record { total = sum_of_none 130; short = λ p. omega arith; low = λ p. omega arith; actors_low = λ a. none a })
    where
      none : (a : _) → Rattle.next_rules.specs.Actors.last_of (opening (setup_of tries script)).actors a ≤ 0
      none (ClientActor c) = omega arith
      none Renamer = omega arith
      none Collector = omega arith
