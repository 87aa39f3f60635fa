-- What the words behind `client` say: a client and its command, or the first of these faults: the command or the number
-- of its words is wrong, a number is, a path is.
use Rattle.std.specs.Prelude.{ℕ, Bool, true, false, if◌then◌else◌, List, ◌∷◌, codes, Option, Some, None, Result, Ok, Err}
use Rattle.std.specs.Str.{bytes_eq}
use Rattle.next_ids.specs.declared.ids.Client.{Client}
use Rattle.next_walk.specs.declared.command.Command.{Command}
use Rattle.next_walk.specs.declared.command.Command.TheVariants as command
use Rattle.next_grammar.specs.declared.fault.Fault.{Fault}
use Rattle.next_grammar.specs.declared.fault.Fault.TheVariants.{BadCommand, BadNumber, BadPath}
use Rattle.next_grammar.specs.declared.order.Order.{Order}
use Rattle.next_grammar.specs.declared.verb.PathVerb.{PathVerb}
use Rattle.next_grammar.specs.declared.verb.PathVerb.TheVariants.{Lookup, List as ListVerb, Stat, Create, Mkdir, Unlink, Rmdir}
use Rattle.next_grammar.specs.declared.verb.Verb.{Verb}
use Rattle.next_grammar.specs.declared.verb.Verb.TheVariants.{OnPath, Truncate, Rename}
use Rattle.next_grammar.specs.Numbers.{client_of, size_of}
use Rattle.next_grammar.specs.Paths.{path_of, place_of}
use Rattle.next_grammar.specs.Words.{only, pair}

-- the command of this name
unfoldable pub verb_of : List ℕ → Option Verb
verb_of word =
    if bytes_eq word (codes "lookup") then Some (OnPath Lookup)
    else (if bytes_eq word (codes "list") then Some (OnPath ListVerb)
    else (if bytes_eq word (codes "stat") then Some (OnPath Stat)
    else (if bytes_eq word (codes "create") then Some (OnPath Create)
    else (if bytes_eq word (codes "mkdir") then Some (OnPath Mkdir)
    else (if bytes_eq word (codes "unlink") then Some (OnPath Unlink)
    else (if bytes_eq word (codes "rmdir") then Some (OnPath Rmdir)
    else (if bytes_eq word (codes "truncate") then Some Truncate
    else (if bytes_eq word (codes "rename") then Some Rename else None))))))))

-- whether the command may be of the root
abbrev pub may_be_root : PathVerb → Bool
may_be_root ListVerb = true
may_be_root Stat = true
may_be_root Lookup = false
may_be_root Create = false
may_be_root Mkdir = false
may_be_root Unlink = false
may_be_root Rmdir = false

abbrev pub on_path : PathVerb → List (List ℕ) → Command
on_path Lookup path = command.Lookup path
on_path ListVerb path = command.List path
on_path Stat path = command.Stat path
on_path Create path = command.Create path
on_path Mkdir path = command.Mkdir path
on_path Unlink path = command.Unlink path
on_path Rmdir path = command.Rmdir path

abbrev pub with_path : PathVerb → Option (List (List ℕ)) → Result Command Fault
with_path verb None = Err BadPath
with_path verb (Some path) = Ok (on_path verb path)

-- a command with one path
abbrev pub path_said : PathVerb → Option (List ℕ) → Result Command Fault
path_said verb None = Err BadCommand
path_said verb (Some text) = with_path verb (if may_be_root verb then place_of text else path_of text)

abbrev pub truncated : Option (List (List ℕ)) → Option ℕ → Result Command Fault
truncated path None = Err BadNumber
truncated None (Some size) = Err BadPath
truncated (Some path) (Some size) = Ok (command.Truncate path size)

-- a path and a size
abbrev pub truncate_said : Option (List ℕ × List ℕ) → Result Command Fault
truncate_said None = Err BadCommand
truncate_said (Some texts) = truncated (path_of texts.0) (size_of texts.1)

abbrev pub renamed : Option (List (List ℕ)) → Option (List (List ℕ)) → Result Command Fault
renamed None to = Err BadPath
renamed (Some path) None = Err BadPath
renamed (Some path) (Some to) = Ok (command.Rename path to)

-- two paths
abbrev pub rename_said : Option (List ℕ × List ℕ) → Result Command Fault
rename_said None = Err BadCommand
rename_said (Some texts) = renamed (path_of texts.0) (path_of texts.1)

-- the words behind the name of a command
abbrev pub command_said : Option Verb → List (List ℕ) → Result Command Fault
command_said None words = Err BadCommand
command_said (Some (OnPath verb)) words = path_said verb (only words)
command_said (Some Truncate) words = truncate_said (pair words)
command_said (Some Rename) words = rename_said (pair words)

-- a client's number and its command: what is wrong with the command's name comes before what is wrong with the number
abbrev pub ordered : Option Client → Result Command Fault → Result Order Fault
ordered (Some client) (Ok command) = Ok (record { client = client; command = command })
ordered (Some client) (Err fault) = Err fault
ordered None (Err BadCommand) = Err BadCommand
ordered None said = Err BadNumber

unfoldable pub order_said : List (List ℕ) → Result Order Fault
order_said (client ∷ verb ∷ words) = ordered (client_of client) (command_said (verb_of verb) words)
order_said words = Err BadCommand
