use Rattle.std.proofs.Common.{◌≡◌, ◌+◌, ◌≤◌, length, None}
use Rattle.next_script.specs.Pieces.{lines, rest_of_lines}
use Rattle.next_script.specs.Scripts.{after_lines}
use Rattle.next_script.proofs.lines.read_text.Given as goal

abbrev pub invariant-loop-line : goal.invariant-loop-line
invariant-loop-line l = record {
  same : after_lines 1 None (lines l.text) (rest_of_lines l.text) l.within ≡ after_lines l.number l.state (lines l.rest) (rest_of_lines l.rest) l.within;
  low : l.number + length l.rest ≤ 1 + length l.text;
}

abbrev pub decreases-loop-line : goal.decreases-loop-line
decreases-loop-line l = length l.rest
