-- Which calls take memory.
use Rattle.std.specs.Prelude.{Bool, true, false}
use Rattle.next_ids.specs.declared.call.Call.{Call}
use Rattle.next_ids.specs.declared.call.Call.TheVariants.{List as ListCall, Create, Mkdir, Rename}

-- to be answered: a list alone, for its rows
abbrev pub takes_memory : Call → Bool
takes_memory (ListCall dir) = true
takes_memory _ = false

-- to be made: those that set a name
abbrev pub sets_name : Call → Bool
sets_name (Create dir name) = true
sets_name (Mkdir dir name) = true
sets_name (Rename dir name to_dir to_name) = true
sets_name _ = false
