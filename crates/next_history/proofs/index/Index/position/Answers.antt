use Rattle.std.proofs.Common.{ap, ◌∙◌}
use Rattle.std.specs.Option.{unwrap_or}
use Rattle.next_history.specs.Indexed.{run_of}
use Rattle.next_history.proofs.IndexLemmas.{place_in-position}
use Rattle.next_history.proofs.index.Index.position.Goals as goal

pub returns : goal.returns
returns c = c.unwrap_or.ensures ∙ ap (λ o. unwrap_or o 0) (c.copied.ensures ∙ c.get.ensures.value ∙ c.args.self.now.follows c.args.stamp) ∙ place_in-position c.args.stamp (run_of c.args.self.now)
