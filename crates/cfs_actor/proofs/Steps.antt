-- Plans whose calls have steps.
use Rattle.std.proofs.Common.{ℕ, List}
use Rattle.cfs_rules.specs.Worlds.{Plan, Ends, Calls, KeepsTo, with_told}
use Rattle.cfs_actor.specs.Plans.{HasSteps}

-- a plan that keeps to directories has only such calls
pub keeps-steps : (dirs : List ℕ) (plan : Plan) → KeepsTo dirs plan → HasSteps plan
keeps-steps dirs Ends keeps = tt
keeps-steps dirs (Calls call next) keeps = (keeps.0.built, λ reply. keeps-steps (with_told reply dirs) (next reply) (keeps.1 reply))
