-- A legal history ends in a whole namespace.
use Rattle.std.proofs.Common.{List, [], ◌∷◌}
use Rattle.std.specs.Prelude.{Some, None}
use Rattle.cfs_ids.specs.Namespace.{Namespace, empty_root, IsWhole}
use Rattle.cfs_steps.specs.declared.line.Line.{Line}
use Rattle.cfs_steps.specs.declared.line.Outcome.{Outcome}
use Rattle.cfs_steps.specs.declared.line.Outcome.TheVariants as outcome
use Rattle.cfs_steps.specs.declared.line.HistoryItem.{HistoryItem}
use Rattle.cfs_steps.specs.declared.line.HistoryItem.TheVariants.{Line as LineItem}
use Rattle.cfs_rules.specs.Legal.{IsLegal, RightIn, Replies, after_outcome, final_from, final}
use Rattle.cfs_laws_namespace.proofs.Whole.{empty_root-whole, whole-after}

-- what is right of a move is that the namespace so far allows it
whole-outcome : (n : Namespace) (line : Line) (out : Outcome) → RightIn n line out → IsWhole n → IsWhole (after_outcome n line out)
whole-outcome n line (outcome.Moved ts made) right whole = whole-after n line.call made ts right whole
whole-outcome n line (outcome.Reply reply) right whole = whole
whole-outcome n line (outcome.Unfinished None) right whole = whole
whole-outcome n line (outcome.Unfinished (Some found)) right whole = whole-after n line.call found.1 found.0 right whole

whole-final : (n : Namespace) (items : List HistoryItem) → Replies n items → IsWhole n → IsWhole (final_from n items)
whole-final n [] right whole = whole
whole-final n (LineItem line ∷ items) right whole = whole-final (after_outcome n line line.outcome) items right.1 (whole-outcome n line line.outcome right.0 whole)

pub legal-whole : (items : List HistoryItem) → IsLegal items → IsWhole (final items)
legal-whole items legal = whole-final empty_root items legal.replies empty_root-whole
