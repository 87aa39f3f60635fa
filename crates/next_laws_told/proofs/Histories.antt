-- The history of every run about which a ledger is right.
use Rattle.std.proofs.Common.{◌≡◌, ℕ, List, Bool, true}
use Rattle.std.specs.List.{list_all}
use Rattle.next_ids.specs.Namespace.{empty_root}
use Rattle.next_steps.specs.declared.line.Line.{Line}
use Rattle.next_rules.specs.Histories.{ordered, world_history}
use Rattle.next_rules.specs.Laws.{IsAnswered}
use Rattle.next_rules.specs.Legal.{Each, HasPositions, IsLegal, final}
use Rattle.next_rules.specs.Members.{IsRising, HasCallers}
use Rattle.next_rules.specs.Moves.{space, MovesAllowed, ItemsMatch, MovesMatch}
use Rattle.next_rules.specs.Setups.{AreCounts}
use Rattle.next_rules.specs.Worlds.{World, Turn, Setup, played}
use Rattle.next_laws_order.proofs.Turns.{Holds, played-holds}
use Rattle.next_laws_order.proofs.Lines.{members_lines}
use Rattle.next_laws_order.proofs.Apart.{calls_apart}
use Rattle.next_laws_told.specs.Ledgers.{Ledger, IsRight}
use Rattle.next_laws_told.proofs.Runs.{moved_in}
use Rattle.next_laws_told.proofs.Turns.{PastOf, past_of}
use Rattle.next_laws_told.proofs.AllLines.{LineFacts, HasMover, facts_of_members, one_told, all_keys_told}
use Rattle.next_laws_told.proofs.Callers.{idle_of, mover_of}
use Rattle.next_laws_told.proofs.Ordered.{moving_at, moving_match, every_ordered}
use Rattle.next_laws_told.proofs.Orders.{in_order, moves_apart}
use Rattle.next_laws_told.proofs.Moves.{moves_match}
use Rattle.next_laws_told.proofs.Replies.{Makes, makes_ordered}

module _ (setup : Setup) (may : Turn → Bool) (claims : Ledger) (good : AreCounts setup.counts) (right : IsRight setup may claims) (turns : List Turn) (all : list_all may turns ≡ true)
    (allowed : MovesAllowed (played setup turns).run) (members : List ℕ) (rising : IsRising members) (has : HasCallers setup.plans members) where
  abbrev w : World
  w = played setup turns

  abbrev lines : List Line
  lines = members_lines w members

  holds : Holds w
  holds = played-holds setup good turns

  past : PastOf claims w
  past = past_of setup good may claims right turns all

  facts : LineFacts w.run lines
  facts = facts_of_members claims w past (right.begun turns all) holds members rising

  movers : (q : ℕ) → HasMover members (moved_in w.run q)
  movers q = mover_of setup w.run w.actors.clients members (idle_of setup turns) has q (λ c. one_told claims w past (right.begun turns all) holds c q)

  matched : (p : ℕ) → ItemsMatch p (moved_in w.run p) (moving_at p w.run lines)
  matched p = moving_match p w.run lines (all_keys_told claims w past (right.begun turns all) holds members rising movers p)

  makes : Makes empty_root (ordered w.run lines) (space w.run)
  makes = makes_ordered w.run lines facts.right facts.placed matched allowed

  pub history_legal : IsLegal (world_history members (played setup turns))
  history_legal = record {
    positions = every_ordered w.run lines HasPositions (λ p file. tt) facts.placed;
    order = in_order w.run lines facts.placed facts.order matched;
    calls = calls_apart setup good turns members rising;
    once = moves_apart w.run lines facts.placed facts.order matched;
    replies = makes.replies;
  }

  pub history_moves : MovesMatch (played setup turns).run (world_history members (played setup turns))
  history_moves = moves_match w.run lines matched

  pub history_last : final (world_history members (played setup turns)) ≡ space (played setup turns).run
  history_last = makes.last

  pub history_replies : Each (IsAnswered (played setup turns).run) (world_history members (played setup turns))
  history_replies = every_ordered w.run lines (IsAnswered w.run) (λ p file. tt) facts.right
