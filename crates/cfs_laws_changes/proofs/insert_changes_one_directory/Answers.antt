use Rattle.cfs_laws_changes.proofs.Inserting.{insert_alike, insert_done}
use Rattle.cfs_laws_changes.proofs.insert_changes_one_directory.Goals as goal

pub returns-clause-alike : goal.returns-clause-alike
returns-clause-alike c = insert_alike

pub returns-clause-done : goal.returns-clause-done
returns-clause-done c = insert_done
