use Rattle.cfs_laws_history.proofs.Whole.{legal-whole}
use Rattle.cfs_laws_history.proofs.legal_histories_end_whole.Goals as goal

pub returns : goal.returns
returns c = legal-whole
