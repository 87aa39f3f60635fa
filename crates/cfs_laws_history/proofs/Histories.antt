-- The history of every run is legal, ends in the tree of the places, and has each move once.
use Rattle.std.proofs.Common.{◌≡◌, ℕ, List, length, sym, ◌∙◌}
use Rattle.cfs_ids.specs.Namespace.{empty_root}
use Rattle.cfs_steps.specs.declared.line.Line.{Line}
use Rattle.cfs_rules.specs.Worlds.{World, Setup, IsSetup, played}
use Rattle.cfs_rules.specs.Trees.{tree}
use Rattle.cfs_rules.specs.Facts.{space, LinesMatch, MovesMatch}
use Rattle.cfs_rules.specs.Known.{Known}
use Rattle.cfs_rules.specs.Histories.{moved_at, ordered, world_history}
use Rattle.cfs_rules.specs.Legal.{HasPositions, StandsBefore, Apart, MovesApart, IsLegal, final}
use Rattle.cfs_laws_places.proofs.Laws.{known_of}
use Rattle.cfs_rules.specs.Members.{IsRising, HasCallers}
use Rattle.cfs_laws_history.proofs.Stamps.{moved_in}
use Rattle.cfs_laws_history.proofs.Keys.{keys_at, all_keys, lines_match}
use Rattle.cfs_laws_history.proofs.Pasts.{IsPlaced}
use Rattle.cfs_laws_history.proofs.AllLines.{LineFacts, HasMover, lines_of_members, facts_of_members, all_keys_told}
use Rattle.cfs_laws_history.proofs.Ordered.{each_item, each_pair, every_ordered}
use Rattle.cfs_laws_history.proofs.Orders.{in_order, calls_apart, moves_apart}
use Rattle.cfs_laws_history.proofs.Replies.{Leads, leads_ordered}
use Rattle.cfs_laws_history.proofs.Moves.{moves_match}
use Rattle.cfs_laws_history.proofs.Steps.{Past}
use Rattle.cfs_laws_history.proofs.Turns.{past_of}
use Rattle.cfs_laws_history.proofs.Callers.{idle_of, mover_of}

module _ (w : World) (known : Known w) (past : Past w) (members : List ℕ) (rising : IsRising members) (movers : (q : ℕ) → HasMover members (moved_in w.run q)) where
  abbrev lines : List Line
  lines = lines_of_members w.run w.clients members

  facts : LineFacts w.run lines
  facts = facts_of_members w.run w.clients past.clients members rising

  told : (q : ℕ) → keys_at q lines ≡ all_keys (moved_in w.run q)
  told = all_keys_told w.run w.clients past.clients members rising movers

  matched : (q : ℕ) → LinesMatch (moved_in w.run q) (moved_at q lines)
  matched q = lines_match q (moved_in w.run q) lines (told q)

  leads : Leads empty_root (ordered (length w.run) lines) (space w.run)
  leads = leads_ordered w.run lines facts.right facts.placed matched known.allowed

  legal_of : IsLegal (world_history members w)
  legal_of = record {
    positions = each_item HasPositions (ordered (length w.run) lines) (every_ordered IsPlaced (length w.run) lines facts.placed);
    order = each_pair StandsBefore (ordered (length w.run) lines) (in_order lines facts.placed facts.order (moved_in w.run) matched (length w.run));
    calls = each_pair Apart (ordered (length w.run) lines) (calls_apart lines facts.placed facts.order (moved_in w.run) matched (length w.run));
    once = each_pair MovesApart (ordered (length w.run) lines) (moves_apart lines facts.placed facts.order (moved_in w.run) matched (length w.run));
    replies = leads.replies;
  }

  final_of : final (world_history members w) ≡ tree w.shard w.store
  final_of = leads.last ∙ sym known.same

  moves_of : MovesMatch w.run (world_history members w)
  moves_of = moves_match w.run lines told

module _ (setup : Setup) (good : IsSetup setup) (turns members : List ℕ) (rising : IsRising members) (has : HasCallers setup.plans members) where
  past_now : Past (played setup turns)
  past_now = past_of setup good turns (known_of setup good)

  movers_now : (q : ℕ) → HasMover members (moved_in (played setup turns).run q)
  movers_now = let w = played setup turns in mover_of setup w.run w.clients members (idle_of setup turns) has past_now.clients

  pub history_legal : IsLegal (world_history members (played setup turns))
  history_legal = legal_of (played setup turns) (known_of setup good turns) past_now members rising movers_now

  pub history_final : final (world_history members (played setup turns)) ≡ tree (played setup turns).shard (played setup turns).store
  history_final = final_of (played setup turns) (known_of setup good turns) past_now members rising movers_now

  pub history_moves : MovesMatch (played setup turns).run (world_history members (played setup turns))
  history_moves = moves_of (played setup turns) (known_of setup good turns) past_now members rising movers_now
