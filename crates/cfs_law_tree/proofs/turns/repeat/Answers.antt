use Rattle.std.proofs.Common.{◌≡◌, ap, sym, ◌∙◌, arith, Ok, inl, inr, subst}
use Rattle.cfs_rules.specs.Worlds.{turn}
use Rattle.cfs_core.specs.Clients.{number_in}
use Rattle.cfs_core.specs.declared.turned.Turned.TheVariants.{Idle, Stepped}
use Rattle.cfs_core.specs.Cores.{counts_of, world_of, members_of}
use Rattle.cfs_core.proofs.Membership.{among}
use Rattle.cfs_law_tree.specs.Drives.{StopsFull}
use Rattle.cfs_law_tree.proofs.Runs.{run-more, stops, stops-full, same-place, idle-turn}
use Rattle.cfs_law_tree.proofs.turns.repeat.Goals as goal

pub turn-requires : goal.turn-requires
turn-requires c = among c.loop-made.core.clients.items (members_of c.args.core.now) (number_in c.args.actor) c.loop-made.invariant.members c.requires

pub returns-in_err-turn-clause-stopped : goal.returns-in_err-turn-clause-stopped
returns-in_err-turn-clause-stopped c = λ n. stops (counts_of c.args.core.now) c.args.actor c.args.count c.loop-made.made (world_of c.args.core.now) (world_of c.turn.new.self) (omega (arith, c.loop-made-test.true)) (c.in_err-turn.ensures.same (λ e. cc) ∙ c.loop-made.invariant.so_far)

pub returns-in-Full-clause-stopped : goal.returns-in-Full-clause-stopped
returns-in-Full-clause-stopped c = λ n. stops (counts_of c.args.core.now) c.args.actor c.args.count c.loop-made.made (world_of c.args.core.now) (world_of c.turn.new.self) (omega (arith, c.loop-made-test.true)) (c.in_ok-turn.ensures.same (λ e. cc) ∙ c.loop-made.invariant.so_far)

pub returns-in-Full-clause-full : goal.returns-in-Full-clause-full
returns-in-Full-clause-full c = λ place e.
    subst (StopsFull (counts_of c.args.core.now) _ (world_of c.args.core.now) c.turn.new.self) (same-place c.in-Full.place place e)
    (stops-full (counts_of c.args.core.now) c.args.actor c.args.count c.loop-made.made (world_of c.args.core.now) c.loop-made.core c.turn.new.self c.in-Full.place (omega (arith, c.loop-made-test.true))
    (c.in_ok-turn.ensures.same (λ e. cc) ∙ c.loop-made.invariant.so_far) (c.in_ok-turn.ensures.same (λ e. cc)) (c.in_ok-turn.ensures.same_held (λ e. cc)) c.in_ok-turn.ensures.counts (c.in_ok-turn.ensures.full c.in-Full.place (ap Ok c.in-Full.is)))

pub loop-made-preserved : goal.loop-made-preserved
loop-made-preserved c = record {
  so_far = (elim c.in-Stepped.is [
    | inl e ↦ c.turn.ensures.stepped (c.in_ok-turn.was ∙ ap Ok e)
    | inr e ↦ c.turn.ensures.same (rw (c.in_ok-turn.was ∙ ap Ok e) (λ (no : Ok Idle ≡ Ok Stepped). cc)) ∙ sym (idle-turn (counts_of c.loop-made.core) (world_of c.loop-made.core) _ (c.turn.ensures.idle.0 (c.in_ok-turn.was ∙ ap Ok e)))
  ]) ∙ (λ j. turn (c.loop-made.invariant.places j) (c.loop-made.invariant.so_far j) (number_in c.args.actor)) ∙ sym (run-more (counts_of c.args.core.now) c.args.actor c.loop-made.made (world_of c.args.core.now));
  steps = elim c.in-Stepped.is [
    | inl e ↦ omega (arith, c.turn.ensures.steps (c.in_ok-turn.was ∙ ap Ok e), c.loop-made.invariant.steps)
    | inr e ↦ omega (arith, c.turn.ensures.same_steps (rw (c.in_ok-turn.was ∙ ap Ok e) (λ (no : Ok Idle ≡ Ok Stepped). cc)), c.loop-made.invariant.steps)
  ];
  members = c.turn.ensures.members ∙ c.loop-made.invariant.members;
  places = c.turn.ensures.counts ∙ c.loop-made.invariant.places;
}
