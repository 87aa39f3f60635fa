-- The locks of one directory, out of the one map of all locks.
use Rattle.std.proofs.Common.{◌≡◌, ℕ, [], sym, ◌∙◌, ap}
use Rattle.std.specs.Prelude.{Some, None}
use Rattle.std.specs.Ordering.{nat_cmp}
use Rattle.std.specs.Cmp.Lexicographic.{slice_cmp}
use Rattle.std.specs.FinMap.{get, entries}
use Rattle.next_ids.specs.Maps.{Names, Numbers, within}
use Rattle.next_ids.proofs.Entries.{entries-empty}
use Rattle.next_steps.specs.declared.contents.RowLock.{RowLock}
use Rattle.next_maps.specs.Nested.{names_of}
use Rattle.next_table.specs.Flat.{flat}
use Rattle.next_table.proofs.Flattened.{get-flat, get-names_of, flat-with_name, flat-without_name}
use Rattle.next_table.proofs.Within.{within-flat}

pub ruleset flattening = (get-flat, get-names_of, flat-with_name, flat-without_name)

module _ (locks : Numbers (Names RowLock)) (d : ℕ) where
  -- where names are kept for the directory, the locks are those
  pub locks-there : (names : Names RowLock) → Some names ≡ get locks d → within d (entries (flat locks)) ≡ entries names
  locks-there names there = within-flat locks d ∙ ap (λ o. entries (names_of o)) (sym there)

  -- where none are, it has no locks
  pub locks-none : None ≡ get locks d → within d (entries (flat locks)) ≡ []
  locks-none none = within-flat locks d ∙ ap (λ o. entries (names_of o)) (sym none) ∙ entries-empty {X = RowLock} (slice_cmp nat_cmp)
