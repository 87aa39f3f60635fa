-- Room in a directory, as the code tells it.
use Rattle.next_rules.specs.Room.{Room as Rule, HasRoom, IsFull, DependsOn}
use Rattle.next_contents.specs.declared.room.Room.{Room}
use Rattle.next_contents.specs.declared.room.Room.TheVariants as told

abbrev pub shown_room : Room → Rule
shown_room told.HasRoom = HasRoom
shown_room told.IsFull = IsFull
shown_room (told.DependsOn job) = DependsOn job
