-- The calls of the clients, by their numbers.
use Rattle.std.proofs.Common.{◌≡◌, ℕ, List, [], ◌∷◌, Bool, true, false, refl, sym, ◌∙◌, arith, map, ◌==◌, if◌then◌else◌}
use Rattle.std.proofs.lemmas.Bool.Decides.{nat_tests}
use Rattle.cfs_steps.specs.declared.call_done.ClientCalls.{ClientCalls}
use Rattle.cfs_rules.specs.Members.{IsBelowAll, IsRising}
use Rattle.cfs_rules.specs.Worlds.{Progress, calls_of, client_of as numbered}
use Rattle.cfs_actor.specs.declared.client_state.ClientState.{ClientState}
use Rattle.cfs_actor.specs.Clients.{client_of, progress_of}
use Rattle.cfs_core.specs.Clients.{progress_in, members_of}
use Rattle.cfs_core.specs.Ends.{calls_of_states}

-- the calls of a client in a list of states
abbrev pub calls_at : List ClientState → ℕ → ClientCalls
calls_at states c = calls_of (numbered c) (progress_in states c)

-- a state in front changes nothing for the clients above it
skips : (s : ClientState) (states : List ClientState) (numbers : List ℕ) → IsBelowAll (client_of s).0 numbers → map (calls_at (s ∷ states)) numbers ≡ map (calls_at states) numbers
skips s states [] below = refl
skips s states (n ∷ numbers) below =
    let differ : ((client_of s).0 == n) ≡ false = grind (arith, nat_tests, below.0) in
    let later = skips s states numbers below.1 in
    rw differ (λ j. calls_at states n ∷ later j)

same_as : (b : Bool) → b ≡ true → (p q : Progress) → (if b then p else q) ≡ p
same_as true e p q = refl
same_as false e p q = cc

pub calls-by-number : (states : List ClientState) → IsRising (members_of states) → calls_of_states states ≡ map (calls_at states) (members_of states)
calls-by-number [] rising = refl
calls-by-number (s ∷ states) rising =
    let own : ((client_of s).0 == (client_of s).0) ≡ true = grind (arith, nat_tests) in
    let first = same_as ((client_of s).0 == (client_of s).0) own (progress_of s) (progress_in states (client_of s).0) in
    let later = calls-by-number states rising.1 ∙ sym (skips s states (members_of states) rising.0) in
    λ j. calls_of (client_of s) (sym first j) ∷ later j
