use Rattle.std.proofs.Common.{ap, sym, ◌∙◌, refl}
use Rattle.std.specs.List.{flat_map}
use Rattle.next_print.specs.Trees.{rows_of}
use Rattle.next_print.proofs.Walked.{WrittenUpTo-start, WrittenUpTo-step, WrittenUpTo-front}
use Rattle.next_print.proofs.tree.put_dirs.Goals as goal

-- one more part
pub loop-dir-preserved : goal.loop-dir-preserved
loop-dir-preserved g c = record {
  written = WrittenUpTo-step (rows_of c.args.tree.now) _ _ _ _ _ _ _ _ _ _ c.in-Some.ensures.steps c.loop-dir.invariant.written c.in_ok-put_rows.ensures.ok;
  same = c.in_ok-put_rows.ensures.cause.same ∙ c.loop-dir.invariant.same;
}

-- the parts before this one and a front of it
pub returns-in_err-put_rows-clause-front : goal.returns-in_err-put_rows-clause-front
returns-in_err-put_rows-clause-front g c = WrittenUpTo-front (rows_of c.args.tree.now) _ _ _ _ _ _ _ _ _ c.in-Some.ensures.steps c.loop-dir.invariant.written c.in_err-put_rows.ensures.front

-- nothing yet
pub loop-dir-init : goal.loop-dir-init
loop-dir-init g c = record {
  written = WrittenUpTo-start _ _ _ _ (sym (ap (flat_map (rows_of c.args.tree.now)) (c.into_iter-dir-iterator.ensures.into_iter_gives ∙ c.dirs-dir-items.ensures.rest)));
  same = refl;
}
