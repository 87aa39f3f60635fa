-- A client's plan: the directories that it knows are in the tree, and so is that of the call that it begins.
use Rattle.std.proofs.Common.{◌≡◌, ℕ, List, [], ◌∷◌, Bool, true, false, refl, subst, arith}
use Rattle.std.specs.Prelude.{◌||◌, ◌==◌}
use Rattle.std.proofs.lemmas.Bool.Decides.{nat_tests}
use Rattle.cfs_ids.specs.declared.ids.Node.TheVariants.{Dir}
use Rattle.cfs_ids.specs.declared.call.Reply.{Reply}
use Rattle.cfs_ids.specs.declared.call.Reply.TheVariants.{Node as NodeReply}
use Rattle.cfs_steps.specs.declared.entry.Entry.{Entry}
use Rattle.cfs_steps.specs.Phases.{Phase, Asking, Inserting, Settling, TakingBack, Finished}
use Rattle.cfs_rules.specs.Places.{Shard, Store}
use Rattle.cfs_rules.specs.Trees.{is_shown}
use Rattle.cfs_rules.specs.Worlds.{Plan, Ends, Calls, Progress, first_of, rest_of, starts, dir_of, knows, with_told, with_phase, KeepsTo}
use Rattle.cfs_laws_places.proofs.Invariant.{PhaseHolds, CurrentHolds, Follows, ClientHolds}

-- the directory that a reply tells of is in the tree
abbrev pub TellsShown : Shard → Reply → Type 0
TellsShown shard (NodeReply (Dir dir)) = is_shown shard dir.0 ≡ true
TellsShown shard reply = Unit {0}

-- what a step has to show of the phase that it leads to: what the client relies on there, and where its call has ended,
-- that the reply tells of the tree
abbrev pub PhaseReached : Shard → Store → ℕ → Phase → Type 0
PhaseReached shard store c (Finished done) = TellsShown shard done.reply
PhaseReached shard store c phase = PhaseHolds shard store c phase

-- the root is in the tree
pub root_shown : (shard : Shard) (d : ℕ) → knows (0 ∷ []) d ≡ true → is_shown shard d ≡ true
root_shown shard d known = by_test (0 == d) refl known
  where
    by_test : (b : Bool) → (0 == d) ≡ b → (b || false) ≡ true → is_shown shard d ≡ true
    by_test true e known = let root : d ≡ 0 = grind (arith, nat_tests) in rw root refl
    by_test false e known = cc

-- and so are the directories that are known with the reply
told_shown : (shard : Shard) (dirs : List ℕ) (reply : Reply) → ((d : ℕ) → knows dirs d ≡ true → is_shown shard d ≡ true) → TellsShown shard reply
    → (d : ℕ) → knows (with_told reply dirs) d ≡ true → is_shown shard d ≡ true
told_shown shard dirs (NodeReply (Dir dir)) shown tells d known = by_test (dir.0 == d) refl known
  where
    by_test : (b : Bool) → (dir.0 == d) ≡ b → (b || knows dirs d) ≡ true → is_shown shard d ≡ true
    by_test true e known = let same : dir.0 ≡ d = grind (arith, nat_tests) in subst (λ x. is_shown shard x ≡ true) same tells
    by_test false e known = shown d known
told_shown shard dirs reply shown tells d known = shown d known

-- ---- a client goes on by its plan
module _ (shard : Shard) (store : Store) (c : ℕ) (dirs : List ℕ) (shown : (d : ℕ) → knows dirs d ≡ true → is_shown shard d ≡ true) where
  first_holds : (plan : Plan) → KeepsTo dirs plan → CurrentHolds shard store c (first_of plan)
  first_holds Ends h = tt
  first_holds (Calls call next) h = record { built = h.0.built; sees = shown (dir_of call).0 h.0.known }

  rest_follows : (plan : Plan) → KeepsTo dirs plan → Follows shard (rest_of plan)
  rest_follows Ends h = record { dirs = dirs; shown = shown; keeps = λ reply. tt }
  rest_follows (Calls call next) h = record { dirs = dirs; shown = shown; keeps = h.1 }

  pub starts_hold : (plan : Plan) → KeepsTo dirs plan → ClientHolds shard store c (starts plan)
  starts_hold plan h = record { current = first_holds plan h; follows = rest_follows plan h }

module _ (shard : Shard) (store : Store) (c : ℕ) (p : Progress) (entry : Entry) (follows : Follows shard p.rest) where
  pub phase_holds : (phase : Phase) → PhaseReached shard store c phase → ClientHolds shard store c (with_phase p entry phase)
  phase_holds (Asking call) h = record { current = h; follows = follows }
  phase_holds (Inserting dir name node ts first) h = record { current = h; follows = follows }
  phase_holds (Settling dir name node ts first at) h = record { current = h; follows = follows }
  phase_holds (TakingBack dir name node errno first at) h = record { current = h; follows = follows }
  phase_holds (Finished done) h =
      let shown = told_shown shard follows.dirs done.reply follows.shown h in
      let dirs = with_told done.reply follows.dirs in
      let keeps = follows.keeps done.reply in
      record { current = first_holds shard store c dirs shown (p.rest done.reply) keeps; follows = rest_follows shard store c dirs shown (p.rest done.reply) keeps }
