use Rattle.next_grammar.specs.Orders.{verb_of}
use Rattle.next_grammar.specs.Words.{words}
use Rattle.next_grammar.proofs.InForm.{command_said-in_form}
use Rattle.next_grammar.proofs.order.read_order.Goals as goal

pub returns-clause-in_form : goal.returns-clause-in_form
returns-clause-in_form c =
    command_said-in_form (verb_of c.in-Some-cut_word.word.now) (words c.in-Some-cut_word.rest.now) c.in_ok-command.command c.in_ok-command.ensures
