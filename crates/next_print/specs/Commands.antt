-- The lines of commands.
use Rattle.std.specs.Prelude.{ℕ, List, [], ◌∷◌, ◌++◌, length, codes, decimal, Option, Some, None}
use Rattle.std.specs.List.{concat}
use Rattle.next_ids.specs.Errnos.{text_of}
use Rattle.next_ids.specs.declared.call.Reply.{Reply}
use Rattle.next_ids.specs.declared.call.Reply.TheVariants.{Moved, Kept, Node, Rows, DirStat, FileStat, Refused, Busy}
use Rattle.next_ids.specs.declared.time.Ts.{Ts}
use Rattle.next_print.specs.Pieces.{node_text}
use Rattle.next_print.specs.declared.commands.CommandReply.{CommandReply}

-- the attributes of a directory and of a file
unfoldable pub dir_word : (children links : ℕ) (time : Ts) → List ℕ
dir_word children links time = concat (codes "DIR children=" ∷ decimal children ∷ codes " links=" ∷ decimal links ∷ codes " time=" ∷ decimal time.number ∷ codes "\n" ∷ [])

unfoldable pub file_word : (size : ℕ) (time : Ts) → List ℕ
file_word size time = concat (codes "FILE size=" ∷ decimal size ∷ codes " time=" ∷ decimal time.number ∷ codes "\n" ∷ [])

-- a command's reply and the line's end; a command that isn't answered has -
unfoldable pub reply_word : Option Reply → List ℕ
reply_word None = codes "-\n"
reply_word (Some Moved) = codes "OK\n"
reply_word (Some Kept) = codes "OK\n"
reply_word (Some (Node node)) = concat (codes "NODE " ∷ node_text (Some node) ∷ codes "\n" ∷ [])
reply_word (Some (Rows rows)) = concat (codes "LIST " ∷ decimal (length rows) ∷ codes "\n" ∷ [])
reply_word (Some (DirStat children links time)) = dir_word children links time
reply_word (Some (FileStat size time)) = file_word size time
reply_word (Some (Refused errno)) = concat (text_of errno ∷ codes "\n" ∷ [])
reply_word (Some (Busy job)) = concat (codes "BUSY " ∷ decimal job.0 ∷ codes "\n" ∷ [])

-- c CLIENT NUMBER
unfoldable pub command_start : CommandReply → List ℕ
command_start command = concat (codes "c " ∷ decimal command.client.0 ∷ codes " " ∷ decimal command.number ∷ codes " " ∷ [])

-- c CLIENT NUMBER REPLY
unfoldable pub command_line : CommandReply → List ℕ
command_line command = command_start command ++ reply_word command.reply
