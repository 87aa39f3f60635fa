-- Plans whose calls are there.
use Rattle.std.proofs.Common.{◌≡◌, ℕ, List, [], ◌∷◌, Bool, true, false, ◌==◌, ◌%◌, refl, arith, subst}
use Rattle.std.specs.Prelude.{nat_lt, ◌||◌}
use Rattle.std.specs.List.{list_all}
use Rattle.std.proofs.lemmas.Bool.Decides.{nat_tests}
use Rattle.cfs_ids.specs.declared.ids.Node.TheVariants.{Dir}
use Rattle.cfs_ids.specs.declared.call.Reply.{Reply}
use Rattle.cfs_ids.specs.declared.call.Reply.TheVariants.{Node as NodeReply}
use Rattle.cfs_rules.specs.Worlds.{Plan, Ends, Calls, Counts, KeepsTo, knows, with_told, dir_of, first_of, rest_of, starts}
use Rattle.cfs_core.specs.Reach.{PlanThere, ProgressThere, current_there, reply_there}
use Rattle.cfs_core.proofs.Truths.{and_left, and_right, both}

-- ---- a plan at its start, and after a reply
pub first-there : (counts : Counts) (plan : Plan) → PlanThere counts plan → current_there counts (first_of plan) ≡ true
first-there counts Ends there = refl
first-there counts (Calls call next) there = there.0

pub rest-there : (counts : Counts) (plan : Plan) → PlanThere counts plan → (reply : Reply) → reply_there counts reply ≡ true → PlanThere counts (rest_of plan reply)
rest-there counts Ends there reply told = tt
rest-there counts (Calls call next) there reply told = there.1 reply told

pub starts-there : (counts : Counts) (plan : Plan) → PlanThere counts plan → ProgressThere counts (starts plan)
starts-there counts plan there = record { current = first-there counts plan there; rest = rest-there counts plan there }

-- ---- a plan that keeps to directories that are there
abbrev pub are_there : Counts → List ℕ → Bool
are_there counts dirs = list_all (λ dir. nat_lt (dir % 64) counts.shards) dirs

known-there : (counts : Counts) (dirs : List ℕ) (dir : ℕ) → are_there counts dirs ≡ true → knows dirs dir ≡ true → nat_lt (dir % 64) counts.shards ≡ true
known-there counts [] dir there known = cc
known-there counts (d ∷ dirs) dir there known = by_test (d == dir) refl known (known-there counts dirs dir (and_right (nat_lt (d % 64) counts.shards) _ there))
  where
    by_test : (b : Bool) → (d == dir) ≡ b → (b || knows dirs dir) ≡ true → (knows dirs dir ≡ true → nat_lt (dir % 64) counts.shards ≡ true) → nat_lt (dir % 64) counts.shards ≡ true
    by_test true t k later = let same : d ≡ dir = grind (arith, nat_tests) in subst (λ (n : ℕ). nat_lt (n % 64) counts.shards ≡ true) same (and_left (nat_lt (d % 64) counts.shards) _ there)
    by_test false t k later = later k

told-there : (counts : Counts) (dirs : List ℕ) (reply : Reply) → are_there counts dirs ≡ true → reply_there counts reply ≡ true → are_there counts (with_told reply dirs) ≡ true
told-there counts dirs (NodeReply (Dir dir)) there told = both _ _ told there
told-there counts dirs reply there told = there

pub keeps-there : (counts : Counts) (dirs : List ℕ) (plan : Plan) → are_there counts dirs ≡ true → KeepsTo dirs plan → PlanThere counts plan
keeps-there counts dirs Ends there keeps = tt
keeps-there counts dirs (Calls call next) there keeps =
    (both _ _ keeps.0.built (known-there counts dirs (dir_of call).0 there keeps.0.known), λ reply told. keeps-there counts (with_told reply dirs) (next reply) (told-there counts dirs reply there told) (keeps.1 reply))
