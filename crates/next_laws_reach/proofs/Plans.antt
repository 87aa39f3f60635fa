-- A plan whose calls are on what the client knows is one whose calls are on what is there.
use Rattle.std.proofs.Common.{◌≡◌, ℕ, ◌%◌, List, [], ◌∷◌, Bool, true, false, refl, subst, arith}
use Rattle.std.specs.Prelude.{Option, ◌&&◌, ◌||◌}
use Rattle.std.specs.List.{list_all}
use Rattle.std.proofs.lemmas.Bool.Decides.{nat_tests}
use Rattle.next_ids.specs.declared.ids.Node.{Node}
use Rattle.next_ids.specs.declared.ids.Node.TheVariants.{Dir, File}
use Rattle.next_ids.specs.declared.counts.Counts.{Counts}
use Rattle.next_ids.specs.declared.call.Reply.{Reply}
use Rattle.next_ids.specs.declared.call.Reply.TheVariants as reply
use Rattle.next_ids.specs.Namespace.{is_node}
use Rattle.next_steps.specs.declared.entry.Entry.{Entry}
use Rattle.next_steps.specs.Phases.{Phase, Finished}
use Rattle.next_rules.specs.Setups.{nodes_of, knows, with_told, KeepsTo}
use Rattle.next_rules.specs.Actors.{Plan, Ends, Calls, Progress, first_of, rest_of, starts, with_phase}
use Rattle.next_laws_order.proofs.Lists.{Every}
use Rattle.next_laws_reach.proofs.Maps.{IfThere}
use Rattle.next_laws_reach.proofs.There.{IsShard, IsStore, NodeThere, ReplyThere, PhaseThere, PlanThere, ProgressThere}

module _ (counts : Counts) where
  -- ---- what the client knows is there
  same_node : (a b : Node) → is_node a b ≡ true → NodeThere counts b → NodeThere counts a
  same_node (Dir a) (Dir b) same h = let number : b.0 ≡ a.0 = grind (arith, nat_tests) in subst (λ (n : ℕ). IsShard counts (n % 64)) number h
  same_node (Dir a) (File b) same h = absurd (cc)
  same_node (File a) (Dir b) same h = absurd (cc)
  same_node (File a) (File b) same h = let number : b.0 ≡ a.0 = grind (arith, nat_tests) in subst (λ (n : ℕ). IsStore counts (n % 64)) number h

  known-there : (nodes : List Node) (node : Node) → Every (NodeThere counts) nodes → knows nodes node ≡ true → NodeThere counts node
  known-there [] node h known = absurd (cc)
  known-there (n ∷ nodes) node h known = by_test (is_node node n) refl known (known-there nodes node h.1)
    where
      by_test : (b : Bool) → is_node node n ≡ b → (b || knows nodes node) ≡ true → (knows nodes node ≡ true → NodeThere counts node) → NodeThere counts node
      by_test true same k later = same_node node n same h.0
      by_test false same k later = later k

  all_known-there : (nodes asked : List Node) → Every (NodeThere counts) nodes → list_all (knows nodes) asked ≡ true → Every (NodeThere counts) asked
  all_known-there nodes [] h known = tt
  all_known-there nodes (node ∷ asked) h known = by_test (knows nodes node) refl known (all_known-there nodes asked h)
    where
      by_test : (b : Bool) → knows nodes node ≡ b → (b && list_all (knows nodes) asked) ≡ true → (list_all (knows nodes) asked ≡ true → Every (NodeThere counts) asked) → Every (NodeThere counts) (node ∷ asked)
      by_test true k all later = (known-there nodes node h k, later all)
      by_test false k all later = absurd (cc)

  told-there : (r : Reply) (nodes : List Node) → ReplyThere counts r → Every (NodeThere counts) nodes → Every (NodeThere counts) (with_told r nodes)
  told-there (reply.Node node) nodes r h = (r, h)
  told-there _ nodes r h = h

  pub keeps-there : (nodes : List Node) (plan : Plan) → Every (NodeThere counts) nodes → KeepsTo nodes plan → PlanThere counts plan
  keeps-there nodes Ends h keeps = tt
  keeps-there nodes (Calls c next) h keeps = (all_known-there nodes (nodes_of c) h keeps.0, λ r there. keeps-there (with_told r nodes) (next r) (told-there r nodes there h) (keeps.1 r))

  -- ---- a plan at its start, and after a reply
  first-there : (plan : Plan) → PlanThere counts plan → IfThere (PhaseThere counts) (first_of plan)
  first-there Ends h = tt
  first-there (Calls c next) h = h.0

  rest-there : (plan : Plan) → PlanThere counts plan → (r : Reply) → ReplyThere counts r → PlanThere counts (rest_of plan r)
  rest-there Ends h r told = tt
  rest-there (Calls c next) h r told = h.1 r told

  pub starts-there : (plan : Plan) (stop : Option ℕ) → PlanThere counts plan → ProgressThere counts (starts plan stop)
  starts-there plan stop h = record { current = first-there plan h; rest = rest-there plan h }

  pub with_phase-there : (p : Progress) (entry : Entry) (phase : Phase) → PhaseThere counts phase → ((r : Reply) → ReplyThere counts r → PlanThere counts (p.rest r)) → ProgressThere counts (with_phase p entry phase)
  with_phase-there p entry (Finished done) h rest = record { current = first-there (p.rest done.reply) (rest done.reply h); rest = rest-there (p.rest done.reply) (rest done.reply h) }
  with_phase-there p entry phase h rest = record { current = h; rest = rest }
