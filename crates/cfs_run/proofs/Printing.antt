-- What is printed of a run.
use Rattle.std.proofs.Common.{◌≡◌, length, sym, ap, ◌∙◌}
use Rattle.std.proofs.lemmas.List.{length-reverse}
use Rattle.cfs_rules.specs.Trees.{tree, owed_in, strays_in}
use Rattle.cfs_core.specs.Finished.{IsRunOf}
use Rattle.cfs_core.specs.Opening.{members_in}
use Rattle.cfs_core.specs.declared.run.Run.{Run}
use Rattle.cfs_law_reply.specs.Judged.{IsJudged}
use Rattle.cfs_print.specs.declared.printed.Printed.{Printed}
use Rattle.cfs_setup.specs.declared.script.Script.{Script}
use Rattle.cfs_script.specs.Outcomes.{IsInForm}
use Rattle.cfs_view.specs.declared.counts.Tallied.{Tallied}
use Rattle.cfs_view.specs.Tallies.{tallied}
use Rattle.cfs_view.specs.Views.{held}
use Rattle.cfs_run.specs.Replies.{replies_of}
use Rattle.cfs_run.specs.Runs.{IsReplayOf, world_after}
use Rattle.cfs_run.proofs.Members.{rising}

-- the parts of a run, printed
pub of-run : (script : Script) (run : Run) (p : Printed) → IsInForm script → IsRunOf (members_in script.commands) (world_after script) run
    → IsJudged (members_in script.commands) (world_after script) p.history
    → p.shards ≡ script.shards → p.stores ≡ script.stores → p.replies ≡ replies_of script.commands run.calls.items
    → p.tree ≡ tree (held run.places).shard (held run.places).store → p.steps ≡ length run.entries → p.tally ≡ tallied (held run.places)
    → IsReplayOf script p
of-run script run p form of judged shards stores replies trees steps tally = record {
  legal = judged.legal;
  last = judged.last ∙ sym printed_tree;
  whole = judged.whole;
  moves = judged.moves;
  calls = judged.calls;
  ends = judged.ends;
  own_steps = judged.steps;
  history = judged.history;
  tree = printed_tree;
  replies = replies ∙ ap (replies_of script.commands) (of.calls (rising 0 script.commands form.rising).1);
  steps = steps ∙ sym (length-reverse run.entries) ∙ ap length of.entries;
  owed = ap (λ (t : Tallied). t.owed) tally ∙ (λ j. owed_in (of.shard j) (of.store j));
  debts = ap (λ (t : Tallied). t.debts) tally;
  marks = ap (λ (t : Tallied). t.marks) tally;
  strays = ap (λ (t : Tallied). t.strays) tally ∙ (λ j. strays_in (of.shard j) (of.store j) (of.roster j));
  shards = shards;
  stores = stores;
}
  where
    printed_tree : p.tree ≡ tree (world_after script).shard (world_after script).store
    printed_tree = trees ∙ (λ j. tree (of.shard j) (of.store j))
