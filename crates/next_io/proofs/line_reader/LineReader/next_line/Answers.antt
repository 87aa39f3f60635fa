use Rattle.next_io.proofs.ToldLines.{TellsLine-told}
use Rattle.next_io.proofs.line_reader.LineReader.next_line.Goals as goal
use Rattle.next_io.proofs.line_reader.LineReader.next_line.Goals.{in-Line, in_default}

pub returns-clause-told : goal.returns-clause-told
returns-clause-told g c = λ text known. elim c.match-got.branch [
  | in-Line w ↦ rw w.self-is (TellsLine-told _ _ _ _ _ c.in_ok-got.ensures.line text known)
  | in_default w ↦ rw w.self-is (TellsLine-told _ _ _ _ _ c.in_ok-got.ensures.line text known)
]
