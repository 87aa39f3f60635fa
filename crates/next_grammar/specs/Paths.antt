-- Paths: a slash before each component.
use Rattle.std.specs.Prelude.{ℕ, nat_le, nat_lt, Bool, not, ◌&&◌, ◌||◌, if◌then◌else◌, List, [], ◌∷◌, length, codes, Option, Some, None}
use Rattle.std.specs.List.{list_all}
use Rattle.std.specs.Str.{bytes_eq}
use Rattle.next_ids.specs.Names.{is_allowed}
use Rattle.next_grammar.specs.Words.{pieces}

-- one dot or two
unfoldable pub is_dots : List ℕ → Bool
is_dots name = bytes_eq name (codes ".") || bytes_eq name (codes "..")

-- allowed bytes, one or more, that are neither one dot nor two
unfoldable pub is_component : List ℕ → Bool
is_component name = nat_lt 0 (length name) && list_all is_allowed name && not (is_dots name)

-- 1 to 64 components, behind the nothing that stands before the first slash
unfoldable pub components_of : List (List ℕ) → Option (List (List ℕ))
components_of ([] ∷ first ∷ more) = if nat_le (length (first ∷ more)) 64 && list_all is_component (first ∷ more) then Some (first ∷ more) else None
components_of parts = None

-- a path of 1,024 bytes at most, but the root's
unfoldable pub path_of : List ℕ → Option (List (List ℕ))
path_of text = if nat_le (length text) 1024 then components_of (pieces 47 text) else None

-- such a path, or the root's
unfoldable pub place_of : List ℕ → Option (List (List ℕ))
place_of text = if bytes_eq text (codes "/") then Some [] else path_of text
