use Rattle.std.proofs.Common.{ap, sym, ◌∙◌, refl}
use Rattle.std.specs.List.{flat_map}
use Rattle.next_print.specs.Trees.{unnamed_line, unnamed_lines}
use Rattle.next_print.proofs.Walked.{WrittenUpTo-start, WrittenUpTo-step, WrittenUpTo-front}
use Rattle.next_print.proofs.tree.put_unnamed.Goals as goal

-- one more part
pub loop-file-preserved : goal.loop-file-preserved
loop-file-preserved g c = record {
  written = WrittenUpTo-step (unnamed_line c.args.tree.now) _ _ _ _ _ _ _ _ _ _ c.in-Some.ensures.steps c.loop-file.invariant.written c.in_ok-put_unnamed_file.ensures.ok;
  same = c.in_ok-put_unnamed_file.ensures.cause.same ∙ c.loop-file.invariant.same;
}

-- the parts before this one and a front of it
pub returns-in_err-put_unnamed_file-clause-front : goal.returns-in_err-put_unnamed_file-clause-front
unfolding unnamed_lines
returns-in_err-put_unnamed_file-clause-front g c = WrittenUpTo-front (unnamed_line c.args.tree.now) _ _ _ _ _ _ _ _ _ c.in-Some.ensures.steps c.loop-file.invariant.written c.in_err-put_unnamed_file.ensures.front

-- nothing yet
pub loop-file-init : goal.loop-file-init
loop-file-init g c = record {
  written = WrittenUpTo-start _ _ _ _ (sym (ap (flat_map (unnamed_line c.args.tree.now)) (c.into_iter-file-iterator.ensures.into_iter_gives ∙ c.files-file-items.ensures.rest)));
  same = refl;
}
