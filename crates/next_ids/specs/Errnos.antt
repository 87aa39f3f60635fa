-- The names of errnos.
use Rattle.std.specs.Prelude.{ℕ, List, [], ◌∷◌, codes, Option, Some, None, if◌then◌else◌}
use Rattle.std.specs.Str.{bytes_eq}
use Rattle.next_ids.specs.declared.errno.Errno.{Errno}
use Rattle.next_ids.specs.declared.errno.Errno.TheVariants.{Enoent, Eexist, Enotdir, Eisdir, Enotempty, Eperm, Einval, Enametoolong, Emlink}

abbrev pub text_of : Errno → List ℕ
text_of Enoent = codes "ENOENT"
text_of Eexist = codes "EEXIST"
text_of Enotdir = codes "ENOTDIR"
text_of Eisdir = codes "EISDIR"
text_of Enotempty = codes "ENOTEMPTY"
text_of Eperm = codes "EPERM"
text_of Einval = codes "EINVAL"
text_of Enametoolong = codes "ENAMETOOLONG"
text_of Emlink = codes "EMLINK"

abbrev pub errnos : List Errno
errnos = Enoent ∷ Eexist ∷ Enotdir ∷ Eisdir ∷ Enotempty ∷ Eperm ∷ Einval ∷ Enametoolong ∷ Emlink ∷ []

-- the first of these errnos with this name
abbrev pub named_among : List ℕ → List Errno → Option Errno
named_among word [] = None
named_among word (e ∷ es) = if bytes_eq word (text_of e) then Some e else named_among word es

-- the errno of this name
abbrev pub errno_named : List ℕ → Option Errno
errno_named word = named_among word errnos
