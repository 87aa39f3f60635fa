-- The history of a run that turns made of the opening of a setup.
use Rattle.std.proofs.Common.{ℕ, List, map, reverse, sym, subst}
use Rattle.cfs_rules.specs.Histories.{history_of, world_history}
use Rattle.cfs_rules.specs.Members.{HasCallers, IsRising}
use Rattle.cfs_rules.specs.Worlds.{Setup, IsSetup, calls_of, client_of, played}
use Rattle.cfs_laws_history.proofs.Histories.{history_legal, history_final, history_moves}
use Rattle.cfs_laws_history.proofs.EachLine.{each-line}
use Rattle.cfs_laws_history.proofs.Whole.{legal-whole}
use Rattle.cfs_laws_order.proofs.Lines.{ends_own, steps_in_lines}
use Rattle.cfs_core.specs.Finished.{IsRunOf}
use Rattle.cfs_core.specs.declared.run.Run.{Run}
use Rattle.cfs_law_reply.specs.Judged.{IsJudged}

module _ (setup : Setup) (good : IsSetup setup) (turns members : List ℕ) (rising : IsRising members) (callers : HasCallers setup.plans members) where
  of-world : IsJudged members (played setup turns) (world_history members (played setup turns))
  of-world = record {
    history = λ j. world_history members (played setup turns);
    legal = history_legal setup good turns members rising callers;
    last = history_final setup good turns members rising callers;
    whole = legal-whole (world_history members (played setup turns)) (history_legal setup good turns members rising callers);
    moves = history_moves setup good turns members rising callers;
    calls = each-line (played setup turns).run (map (λ c. calls_of (client_of c) ((played setup turns).clients c)) members);
    ends = ends_own setup good turns members;
    steps = steps_in_lines setup good turns members callers;
  }

  pub of-run : (run : Run) → IsRunOf members (played setup turns) run → IsJudged members (played setup turns) (history_of (reverse run.entries) run.calls.items)
  of-run run of_world = subst (IsJudged members (played setup turns)) (λ j. history_of (sym of_world.entries j) (sym (of_world.calls rising) j)) of-world
