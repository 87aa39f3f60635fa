use Rattle.std.proofs.Common.{◌≡◌, ◌==◌, true, length, arith}
use Rattle.std.proofs.lemmas.Bool.Decides.{nat_tests}
use Rattle.next_script.proofs.lines.with_kind.Goals as goal

pub returns-in-Turns : goal.returns-in-Turns
returns-in-Turns c = rw (c.in-Some.is, c.in-Turns.is) c.with_turns_line.ensures

pub returns-in-Client : goal.returns-in-Client
returns-in-Client c =
    let none : (length c.in-Some.reading.script.turns == 0) ≡ true = grind (arith, nat_tests) in
    rw (c.in-Some.is, c.in-Client.is, none) c.with_client_line.ensures

pub returns-in-Stop : goal.returns-in-Stop
returns-in-Stop c =
    let none : (length c.in-Some.reading.script.turns == 0) ≡ true = grind (arith, nat_tests) in
    rw (c.in-Some.is, c.in-Stop.is, none) c.with_stop_line.ensures
