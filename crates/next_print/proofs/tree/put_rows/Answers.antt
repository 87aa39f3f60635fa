use Rattle.std.proofs.Common.{ap, sym, ◌∙◌, refl}
use Rattle.std.specs.List.{flat_map}
use Rattle.next_print.specs.Trees.{row_line, rows_of}
use Rattle.next_print.proofs.Walked.{WrittenUpTo-start, WrittenUpTo-step, WrittenUpTo-front}
use Rattle.next_print.proofs.tree.put_rows.Goals as goal

-- one more part
pub loop-name-preserved : goal.loop-name-preserved
loop-name-preserved g c = record {
  written = WrittenUpTo-step (row_line c.args.tree.now c.args.dir) _ _ _ _ _ _ _ _ _ _ c.in-Some.ensures.steps c.loop-name.invariant.written c.in_ok-put_row.ensures.ok;
  same = c.in_ok-put_row.ensures.cause.same ∙ c.loop-name.invariant.same;
}

-- the parts before this one and a front of it
pub returns-in_err-put_row-clause-front : goal.returns-in_err-put_row-clause-front
unfolding rows_of
returns-in_err-put_row-clause-front g c = WrittenUpTo-front (row_line c.args.tree.now c.args.dir) _ _ _ _ _ _ _ _ _ c.in-Some.ensures.steps c.loop-name.invariant.written c.in_err-put_row.ensures.front

-- nothing yet
pub loop-name-init : goal.loop-name-init
loop-name-init g c = record {
  written = WrittenUpTo-start _ _ _ _ (sym (ap (flat_map (row_line c.args.tree.now c.args.dir)) (c.into_iter-name-iterator.ensures.into_iter_gives ∙ c.iter-name-items.ensures.rest)));
  same = refl;
}
