-- Commands in form.
use Rattle.std.specs.Prelude.{Bool, ◌&&◌}
use Rattle.next_walk.specs.declared.command.Command.{Command}
use Rattle.next_walk.specs.declared.command.Command.TheVariants.{Lookup, List as ListCommand, Stat, Create, Mkdir, Unlink, Rmdir, Truncate, Rename}
use Rattle.next_walk.specs.Paths.{is_filled, names_entry}

-- a command in form: `list` and `stat` alone may be of the root
abbrev pub is_in_form : Command → Bool
is_in_form (Lookup path) = names_entry path
is_in_form (ListCommand path) = is_filled path
is_in_form (Stat path) = is_filled path
is_in_form (Create path) = names_entry path
is_in_form (Mkdir path) = names_entry path
is_in_form (Unlink path) = names_entry path
is_in_form (Rmdir path) = names_entry path
is_in_form (Truncate path size) = names_entry path
is_in_form (Rename path to) = names_entry path && names_entry to
