use Rattle.std.proofs.Common.{◌≤◌, ℕ, List, ◌+◌, ap, sym, ◌∙◌, arith, get_or, ◌<◌, length, map, take, drop, Ok, subst}
use Rattle.std.specs.Prelude.{IsTrue, replicate}
use Rattle.std.proofs.lemmas.List.{take_all}
use Rattle.cfs_ids.specs.declared.ids.Actor.{Actor}
use Rattle.cfs_ids.specs.declared.ids.Actor.TheVariants.{Client as ClientTurn}
use Rattle.cfs_rules.specs.Worlds.{Counts, run_of}
use Rattle.cfs_setup.specs.Lists.{turns_in}
use Rattle.cfs_core.specs.Clients.{number_in}
use Rattle.cfs_core.specs.Cores.{counts_of, world_of, members_of}
use Rattle.cfs_law_tree.proofs.Rows.{count_in-more, count_in-take, count_in-with, full-within, run-more-rows, stops-within, turns_in-at}
use Rattle.cfs_core.proofs.Commands.{true-at}
use Rattle.cfs_law_tree.specs.Drives.{are_turns_of, is_turn_of, StopsFull, StopsIn}
use Rattle.cfs_law_tree.proofs.Runs.{counts-at, attributes-at, whole-at}
use Rattle.cfs_law_tree.proofs.turns.drive.Goals as goal

abbrev none : Actor × ℕ
none = (ClientTurn (record { 0 = 0 }), 0)

pub repeat-requires : goal.repeat-requires
repeat-requires c = subst (λ (ms : List ℕ). IsTrue (is_turn_of ms (get_or c.as_slice-listed-items.result.now c.loop-listed.listed-index none).0)) (sym c.loop-listed.invariant.members)
    (true-at (are_turns_of (members_of c.args.core.now)) c.as_slice-listed-items.result.now c.loop-listed.listed-index none (omega (arith, c.loop-listed-test.true)) (rw (sym c.as_slice-listed-items.ensures) at c.requires))

pub returns-in_err-repeat-clause-stopped : goal.returns-in_err-repeat-clause-stopped
returns-in_err-repeat-clause-stopped c = λ n.
    let within : c.loop-listed.listed-index < length c.args.turns.now = rw c.as_slice-listed-items.ensures at c.loop-listed-test.true in
    stops-within (counts_of c.args.core.now) (turns_in c.args.turns.now) (turns_in (take c.loop-listed.listed-index c.args.turns.now)) (replicate (get_or c.args.turns.now c.loop-listed.listed-index none).1 (get_or c.args.turns.now c.loop-listed.listed-index none).0) (turns_in (drop (c.loop-listed.listed-index + 1) c.args.turns.now)) (world_of c.args.core.now) (world_of c.loop-listed.core) (world_of c.repeat.new.core)
    (turns_in-at c.args.turns.now c.loop-listed.listed-index none within) c.loop-listed.invariant.so_far
    (subst (λ (k : Counts). StopsIn k (map number_in (replicate (get_or c.args.turns.now c.loop-listed.listed-index none).1 (get_or c.args.turns.now c.loop-listed.listed-index none).0)) (world_of c.loop-listed.core) (world_of c.repeat.new.core)) c.loop-listed.invariant.places (rw c.as_slice-listed-items.ensures at (c.in_err-repeat.ensures.stopped (λ e. cc))))

pub returns-in_err-repeat-clause-counts : goal.returns-in_err-repeat-clause-counts
returns-in_err-repeat-clause-counts c = λ setup before is n. counts-at setup before c.args.core.now is (turns_in c.args.turns.now) n

pub returns-in_err-repeat-clause-attributes : goal.returns-in_err-repeat-clause-attributes
returns-in_err-repeat-clause-attributes c = λ setup before is n. attributes-at setup before c.args.core.now is (turns_in c.args.turns.now) n

pub returns-in_err-repeat-clause-whole : goal.returns-in_err-repeat-clause-whole
returns-in_err-repeat-clause-whole c = λ setup before is n. whole-at setup before c.args.core.now is (turns_in c.args.turns.now) n

pub returns-in-Full-clause-stopped : goal.returns-in-Full-clause-stopped
returns-in-Full-clause-stopped c = λ n.
    let within : c.loop-listed.listed-index < length c.args.turns.now = rw c.as_slice-listed-items.ensures at c.loop-listed-test.true in
    stops-within (counts_of c.args.core.now) (turns_in c.args.turns.now) (turns_in (take c.loop-listed.listed-index c.args.turns.now)) (replicate (get_or c.args.turns.now c.loop-listed.listed-index none).1 (get_or c.args.turns.now c.loop-listed.listed-index none).0) (turns_in (drop (c.loop-listed.listed-index + 1) c.args.turns.now)) (world_of c.args.core.now) (world_of c.loop-listed.core) (world_of c.repeat.new.core)
    (turns_in-at c.args.turns.now c.loop-listed.listed-index none within) c.loop-listed.invariant.so_far
    (subst (λ (k : Counts). StopsIn k (map number_in (replicate (get_or c.args.turns.now c.loop-listed.listed-index none).1 (get_or c.args.turns.now c.loop-listed.listed-index none).0)) (world_of c.loop-listed.core) (world_of c.repeat.new.core)) c.loop-listed.invariant.places (rw c.as_slice-listed-items.ensures at (c.in_ok-repeat.ensures.stopped (λ e. cc))))

pub returns-in-Full-clause-full : goal.returns-in-Full-clause-full
returns-in-Full-clause-full c = λ place e.
    let within : c.loop-listed.listed-index < length c.args.turns.now = rw c.as_slice-listed-items.ensures at c.loop-listed-test.true in
    full-within (counts_of c.args.core.now) (turns_in c.args.turns.now) (turns_in (take c.loop-listed.listed-index c.args.turns.now)) (replicate (get_or c.args.turns.now c.loop-listed.listed-index none).1 (get_or c.args.turns.now c.loop-listed.listed-index none).0) (turns_in (drop (c.loop-listed.listed-index + 1) c.args.turns.now)) (world_of c.args.core.now) (world_of c.loop-listed.core) c.repeat.new.core place
    (turns_in-at c.args.turns.now c.loop-listed.listed-index none within) c.loop-listed.invariant.so_far
    (subst (λ (k : Counts). StopsFull k (replicate (get_or c.args.turns.now c.loop-listed.listed-index none).1 (get_or c.args.turns.now c.loop-listed.listed-index none).0) (world_of c.loop-listed.core) c.repeat.new.core place) c.loop-listed.invariant.places (rw c.as_slice-listed-items.ensures at (c.in_ok-repeat.ensures.full place (ap Ok c.in-Full.is ∙ e))))

pub returns-in-Full-clause-counts : goal.returns-in-Full-clause-counts
returns-in-Full-clause-counts c = λ setup before is n. counts-at setup before c.args.core.now is (turns_in c.args.turns.now) n

pub returns-in-Full-clause-attributes : goal.returns-in-Full-clause-attributes
returns-in-Full-clause-attributes c = λ setup before is n. attributes-at setup before c.args.core.now is (turns_in c.args.turns.now) n

pub returns-in-Full-clause-whole : goal.returns-in-Full-clause-whole
returns-in-Full-clause-whole c = λ setup before is n. whole-at setup before c.args.core.now is (turns_in c.args.turns.now) n

pub loop-listed-preserved : goal.loop-listed-preserved
loop-listed-preserved c =
    let within : c.loop-listed.listed-index < length c.args.turns.now = rw c.as_slice-listed-items.ensures at c.loop-listed-test.true in
    let more = count_in-more c.args.turns.now c.loop-listed.listed-index none within in
    record {
      so_far = rw c.as_slice-listed-items.ensures at (c.in_ok-repeat.ensures.done (ap Ok c.in-Done.is))
          ∙ (λ j. run_of (c.loop-listed.invariant.places j) (map number_in (replicate (get_or c.args.turns.now c.loop-listed.listed-index none).1 (get_or c.args.turns.now c.loop-listed.listed-index none).0)) (c.loop-listed.invariant.so_far j))
          ∙ sym (run-more-rows (counts_of c.args.core.now) c.args.turns.now c.loop-listed.listed-index none (world_of c.args.core.now) within);
      steps = omega (arith, more, rw c.as_slice-listed-items.ensures at c.repeat.ensures.steps, c.loop-listed.invariant.steps);
      members = c.repeat.ensures.members ∙ c.loop-listed.invariant.members;
      places = c.repeat.ensures.places ∙ c.loop-listed.invariant.places;
    }

pub returns-clause-counts : goal.returns-clause-counts
returns-clause-counts c = λ setup before is n. counts-at setup before c.args.core.now is (turns_in c.args.turns.now) n

pub returns-clause-attributes : goal.returns-clause-attributes
returns-clause-attributes c = λ setup before is n. attributes-at setup before c.args.core.now is (turns_in c.args.turns.now) n

pub returns-clause-whole : goal.returns-clause-whole
returns-clause-whole c = λ setup before is n. whole-at setup before c.args.core.now is (turns_in c.args.turns.now) n

pub returns-in_err-repeat-clause-steps : goal.returns-in_err-repeat-clause-steps
returns-in_err-repeat-clause-steps c =
    let within : c.loop-listed.listed-index < length c.args.turns.now = rw c.as_slice-listed-items.ensures at c.loop-listed-test.true in
    let all = count_in-with c.args.turns.now c.loop-listed.listed-index none within in
    omega (arith, all, rw c.as_slice-listed-items.ensures at c.repeat.ensures.steps, c.loop-listed.invariant.steps)

pub returns-in-Full-clause-steps : goal.returns-in-Full-clause-steps
returns-in-Full-clause-steps c =
    let within : c.loop-listed.listed-index < length c.args.turns.now = rw c.as_slice-listed-items.ensures at c.loop-listed-test.true in
    let all = count_in-with c.args.turns.now c.loop-listed.listed-index none within in
    omega (arith, all, rw c.as_slice-listed-items.ensures at c.repeat.ensures.steps, c.loop-listed.invariant.steps)

pub returns-clause-steps : goal.returns-clause-steps
returns-clause-steps c = let all = count_in-take c.args.turns.now c.loop-listed.listed-index in omega (arith, all, c.loop-listed.invariant.steps)

pub returns-in-Full-clause-many : goal.returns-in-Full-clause-many
returns-in-Full-clause-many c = λ place e. c.in_ok-repeat.ensures.many place (ap Ok c.in-Full.is ∙ e)

pub returns-clause-done : goal.returns-clause-done
returns-clause-done c = λ e.
    let past : length c.args.turns.now ≤ c.loop-listed.listed-index = rw c.as_slice-listed-items.ensures at c.loop-listed-test.false in
    c.loop-listed.invariant.so_far ∙ ap (λ (ts : List (Actor × ℕ)). run_of (counts_of c.args.core.now) (map number_in (turns_in ts)) (world_of c.args.core.now)) (take_all c.loop-listed.listed-index c.args.turns.now past)
