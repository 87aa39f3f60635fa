-- The history of every plain run, and the tree that it ends in.
use Rattle.std.proofs.Common.{◌≡◌, ℕ, List, true, sym, ◌∙◌}
use Rattle.std.specs.List.{list_all}
use Rattle.next_rules.specs.Histories.{world_history}
use Rattle.next_rules.specs.Laws.{ReplyLaw, TreeLaw}
use Rattle.next_rules.specs.Legal.{IsLegal, final}
use Rattle.next_rules.specs.Members.{HasCallers, IsRising}
use Rattle.next_rules.specs.Moves.{MovesMatch}
use Rattle.next_rules.specs.Trees.{tree}
use Rattle.next_rules.specs.Worlds.{Setup, Turn, played}
use Rattle.next_laws_told.proofs.Histories.{history_legal, history_moves, history_last, history_replies}
use Rattle.next_laws_stages.proofs.Shown.{tree-still}
use Rattle.next_laws_calls.specs.Plain.{IsPlain, by_client}
use Rattle.next_laws_calls.specs.Claimed.{ledger}
use Rattle.next_laws_calls.proofs.Runs.{played_holds, right_ledger}

module _ (setup : Setup) (plain : IsPlain setup) (turns : List Turn) (all : list_all by_client turns ≡ true) where
  pub tree_law : TreeLaw (played setup turns)
  tree_law =
      let it = played_holds setup plain turns all in
      record { allowed = it.past.allowed; same = tree-still (played setup turns).service it.holds.free.locks ∙ it.past.same }

  module _ (members : List ℕ) (rising : IsRising members) (has : HasCallers setup.plans members) where
    pub plain_legal : IsLegal (world_history members (played setup turns))
    plain_legal = history_legal setup by_client ledger plain.good.counts (right_ledger setup plain) turns all tree_law.allowed members rising has

    pub plain_moves : MovesMatch (played setup turns).run (world_history members (played setup turns))
    plain_moves = history_moves setup by_client ledger plain.good.counts (right_ledger setup plain) turns all tree_law.allowed members rising has

    pub plain_last : final (world_history members (played setup turns)) ≡ tree (played setup turns).service
    plain_last = history_last setup by_client ledger plain.good.counts (right_ledger setup plain) turns all tree_law.allowed members rising has ∙ sym tree_law.same

    pub plain_replies : ReplyLaw members (played setup turns)
    plain_replies = history_replies setup by_client ledger plain.good.counts (right_ledger setup plain) turns all tree_law.allowed members rising has
