-- Three laws of every run, from which it follows that the history is legal.
use Rattle.std.specs.Prelude.{◌≡◌, ℕ, List, [], ◌∷◌, length, nat_le, if◌then◌else◌, Some}
use Rattle.next_ids.specs.declared.ids.PlaceNo.{PlaceNo}
use Rattle.next_ids.specs.declared.call.Reply.{Reply}
use Rattle.next_ids.specs.Namespace.{Namespace, empty_root}
use Rattle.next_steps.specs.declared.entry.Entry.{Entry}
use Rattle.next_steps.specs.declared.line.Outcome.TheVariants as outcome
use Rattle.next_steps.specs.declared.line.HistoryItem.{HistoryItem}
use Rattle.next_steps.specs.declared.line.HistoryItem.TheVariants.{Line as LineItem}
use Rattle.next_rules.specs.Worlds.{World}
use Rattle.next_rules.specs.Trees.{tree}
use Rattle.next_rules.specs.Histories.{world_history}
use Rattle.next_rules.specs.Legal.{Each, EachPair, HasPositions, Apart, IsReply}
use Rattle.next_rules.specs.Moves.{space, MovesAllowed, MovesMatch}

-- ---- the tree: each move was one that the tree allowed, and the tree is what the moves have made of the empty root
pub record TreeLaw (w : World) : Type 0 where
  pub allowed : MovesAllowed w.run
  pub same : tree w.service ≡ space w.run

-- ---- replies: each but Busy is the namespace's at its point
-- the namespace after the first p steps
abbrev pub space_at : List (PlaceNo × Entry) → (p : ℕ) → Namespace
space_at [] p = empty_root
space_at (e ∷ older) p = if nat_le p (length older) then space_at older p else space (e ∷ older)

abbrev pub IsAnswered : List (PlaceNo × Entry) → HistoryItem → Type 0
IsAnswered run (LineItem line) =
    (p : ℕ) (reply : Reply) → line.at ≡ Some p → line.outcome ≡ outcome.Reply reply → IsReply (space_at run p) line reply
IsAnswered run item = Unit {0}

abbrev pub ReplyLaw : List ℕ → World → Type 0
ReplyLaw members w = Each (IsAnswered w.run) (world_history members w)

-- ---- order: each point lies between its call's steps, each move has its line, and a client's calls follow one another
pub record OrderLaw (members : List ℕ) (w : World) : Type 0 where
  pub positions : Each HasPositions (world_history members w)
  pub moves : MovesMatch w.run (world_history members w)
  pub calls : EachPair Apart (world_history members w)
