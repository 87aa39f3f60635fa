use Rattle.cfs_place.proofs.Stories.{some_taken}
use Rattle.cfs_place.proofs.Gives.{gives}
use Rattle.cfs_place.proofs.Takes.{learns_empty}
use Rattle.cfs_place.proofs.holding.HeldFrom+ref+Cell+T+T.give.Goals as goal

pub push_as-given-requires-clause-rule : goal.push_as-given-requires-clause-rule
push_as-given-requires-clause-rule g c = let held = some_taken _ c.requires.holds in (
  gives _ _ _ _ _ _ _ held.0 c.requires.pass.1 held.1 c.requires.grows c.requires.fixed,
  learns_empty _ _ _ _ _ held.0 c.requires.pass.1 held.1,
)
