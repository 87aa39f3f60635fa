use Rattle.std.proofs.Common.{arith}
use Rattle.std.proofs.lemmas.List.{length-reverse}
use Rattle.next_history.specs.Indexed.{run_of}
use Rattle.next_history.proofs.IndexLemmas.{position_of-within}
use Rattle.next_history.proofs.index.Index.point.Goals as goal

pub overflow_add-result : goal.overflow_add-result
overflow_add-result c =
    let within = position_of-within c.in-After.stamp (run_of c.args.self.now) in
    let many = length-reverse c.args.self.now.run.now in
    omega (arith, c.position.ensures, within, many, c.args.self.now.fits)
