-- Which files a tree's lists name.
use Rattle.std.specs.Prelude.{◌≡◌, ℕ, Bool, is_some}
use Rattle.std.specs.FinMap.{get}
use Rattle.next_ids.specs.Namespace.{Namespace, is_listed}
use Rattle.next_print.specs.declared.named.NamedFiles.{NamedFiles}

-- whether the file is among them
abbrev pub has_file : NamedFiles → ℕ → Bool
has_file named f = is_some (get named.files f)

-- these are the files that the lists of the namespace name, and no others
abbrev pub AreNamed : NamedFiles → Namespace → Type 0
AreNamed named n = (f : ℕ) → has_file named f ≡ is_listed n f
