-- The commands that are built.
use Rattle.std.specs.Prelude.{Bool, false, List}
use Rattle.std.specs.List.{list_all}
use Rattle.next_ids.specs.declared.ids.Client.{Client}
use Rattle.next_walk.specs.declared.command.Command.{Command}
use Rattle.next_walk.specs.declared.command.Command.TheVariants.{Lookup, List as ListCommand, Create, Mkdir}
use Rattle.next_walk.specs.Paths.{is_filled, names_entry}

-- look-ups, creates and mkdirs of any entry, and lists of any path
abbrev pub is_built : Command → Bool
is_built (Lookup path) = names_entry path
is_built (Create path) = names_entry path
is_built (Mkdir path) = names_entry path
is_built (ListCommand path) = is_filled path
is_built command = false

-- all commands of the client are built
abbrev pub are_built : Client × List Command → Bool
are_built list = list_all is_built list.1
