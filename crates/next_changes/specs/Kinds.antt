-- Which changes take no memory, and which of the others are of a job.
use Rattle.next_lines.specs.declared.change.Change.{Change}
use Rattle.next_lines.specs.declared.change.Change.TheVariants.{Keep, PutRec, SetRow, CutRow, SwapRows, SetLock, CutSource, Commit}

-- the change only cuts, or only writes to records that are there
abbrev pub IsInPlace : Change → Type 0
IsInPlace (PutRec dir rec) = ⊥
IsInPlace (SetRow dir name node ts) = ⊥
IsInPlace (CutRow dir name node owner ts) = ⊥
IsInPlace (SwapRows dir name to_name file old owner ts) = ⊥
IsInPlace (SetLock dir name lock) = ⊥
IsInPlace (CutSource dir name ts) = ⊥
IsInPlace (Commit job dir name to_dir to_name node old ts) = ⊥
IsInPlace change = Unit {0}

-- or it is of the rows of a job
abbrev pub IsOfJobOrInPlace : Change → Type 0
IsOfJobOrInPlace (PutRec dir rec) = ⊥
IsOfJobOrInPlace (SetRow dir name node ts) = ⊥
IsOfJobOrInPlace (CutRow dir name node owner ts) = ⊥
IsOfJobOrInPlace (SwapRows dir name to_name file old owner ts) = ⊥
IsOfJobOrInPlace (SetLock dir name lock) = ⊥
IsOfJobOrInPlace change = Unit {0}
