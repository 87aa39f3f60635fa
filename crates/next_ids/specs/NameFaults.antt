-- What is wrong with bytes that are no name.
use Rattle.std.specs.Prelude.{◌≡◌, ℕ, ◌<◌, List, [], length, Some, None, Result, Ok, Err, IsTrue}
use Rattle.next_ids.specs.declared.name.NameFault.{NameFault}
use Rattle.next_ids.specs.declared.name.NameFault.TheVariants.{Empty, BadByte, TooLong, NoMemory}
use Rattle.next_ids.specs.Names.{first_bad, is_name}

-- what reading these bytes gives: no bytes at all, then the first byte that isn't allowed, then the length; memory is
-- wanted for a name alone
abbrev pub ReadsName : List ℕ → Result (List ℕ) NameFault → Type 0
ReadsName bytes (Ok name) = name ≡ bytes
ReadsName bytes (Err Empty) = bytes ≡ []
ReadsName bytes (Err (BadByte index)) = first_bad bytes ≡ Some index
ReadsName bytes (Err (TooLong count)) = (first_bad bytes ≡ None) × (count ≡ length bytes) × (255 < length bytes)
ReadsName bytes (Err NoMemory) = IsTrue (is_name bytes)
