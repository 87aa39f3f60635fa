-- The counts of a shard's directories that an answer may tell.
use Rattle.std.specs.Prelude.{◌≡◌, ℕ, true, Some}
use Rattle.std.specs.FinMap.{get}
use Rattle.next_steps.specs.declared.contents.DirRec.{DirRec}
use Rattle.next_steps.specs.Answers.{are_counts}
use Rattle.next_rules.specs.Contents.{Shard, attr_of}

-- the counts of each directory are at most 2^62
abbrev pub CountsFit : Shard → Type 0
CountsFit s = (d : ℕ) (r : DirRec) → get s.recs d ≡ Some r → are_counts (attr_of r) ≡ true
