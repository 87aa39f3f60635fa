use Rattle.std.proofs.Common.{◌≡◌, [], sym, ap, ◌∙◌}
use Rattle.std.proofs.lemmas.List.{take_rest}
use Rattle.next_grammar.specs.Words.{pieces, words}
use Rattle.next_grammar.proofs.Found.{IfNone-from}
use Rattle.next_grammar.proofs.Spaces.{words-cut, words-last, words-none}
use Rattle.next_grammar.proofs.words.cut_word.Goals as goal

pub returns-in_err-start-clause-none : goal.returns-in_err-start-clause-none
returns-in_err-start-clause-none c = IfNone-from c.from_residual.result (words c.args.text.now ≡ []) (words-none c.args.text.now (sym c.in_err-start.ensures))

pub returns-in-Some-clause-found : goal.returns-in-Some-clause-found
returns-in-Some-clause-found c =
    words-cut c.args.text.now c.in_ok-start.start (sym c.in_ok-start.ensures) c.in-Some.parts.0.now c.in-Some.parts.1.now
    (ap (pieces 32) (sym (take_rest c.args.text.now c.in_ok-start.start)) ∙ c.in-Some.ensures.found)

pub returns-in-None-clause-found : goal.returns-in-None-clause-found
returns-in-None-clause-found c =
    rw (take_rest c.args.text.now c.in_ok-start.start)
    (words-last c.args.text.now c.in_ok-start.start (sym c.in_ok-start.ensures) (rw (take_rest c.args.text.now c.in_ok-start.start) at c.in-None.ensures.none))
