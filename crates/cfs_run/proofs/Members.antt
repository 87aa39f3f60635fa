-- The clients of a script that is in form.
use Rattle.std.proofs.Common.{◌≡◌, ◌≢◌, ℕ, ◌<◌, List, [], ◌∷◌, Bool, true, false, ◌==◌, refl, arith, subst}
use Rattle.std.specs.Prelude.{IsTrue, nat_lt, nat_le, ◌&&◌}
use Rattle.std.specs.List.{list_any, list_all}
use Rattle.std.proofs.lemmas.Bool.{or_right}
use Rattle.std.proofs.lemmas.Bool.Decides.{nat_tests}
use Rattle.cfs_ids.specs.declared.ids.Actor.{Actor}
use Rattle.cfs_ids.specs.declared.ids.Actor.TheVariants.{Client as ClientTurn}
use Rattle.cfs_ids.specs.declared.ids.Client.{Client}
use Rattle.cfs_rules.specs.Members.{HasCallers, IsBelowAll, IsRising}
use Rattle.cfs_rules.specs.Worlds.{Ends}
use Rattle.cfs_walk.specs.declared.command.Command.{Command}
use Rattle.cfs_setup.specs.Lists.{rises_from}
use Rattle.cfs_script.specs.Outcomes as script
use Rattle.cfs_core.specs.Opening.{plans_in, members_in}
use Rattle.cfs_law_tree.specs.Drives.{is_turn_of, are_turns_of}

abbrev pub Lists : Type 0
Lists = List (Client × List Command)

both : (a b : Bool) → IsTrue (a && b) → IsTrue a × IsTrue b
both true b h = (refl, h)
both false b h = cc

-- a number below the first of rising clients is below all of them
weaker : (low m : ℕ) (numbers : List ℕ) → low < m → IsBelowAll m numbers → IsBelowAll low numbers
weaker low m [] lt below = _
weaker low m (n ∷ numbers) lt below = (omega (arith, lt, below.0), weaker low m numbers lt below.1)

pub rising : (low : ℕ) (lists : Lists) → IsTrue (rises_from low lists) → IsBelowAll low (members_in lists) × IsRising (members_in lists)
rising low [] h = (_, _)
rising low (l ∷ lists) h =
    let parts = both (nat_lt low l.0.0 && nat_le l.0.0 32) (rises_from l.0.0 lists) h in
    let tests = both (nat_lt low l.0.0) (nat_le l.0.0 32) parts.0 in
    let above : low < l.0.0 = grind (arith, nat_tests, tests.0) in
    let later = rising l.0.0 lists parts.1 in
    ((above, weaker low l.0.0 (members_in lists) above later.0), later)

pub callers : (lists : Lists) → HasCallers (plans_in lists) (members_in lists)
callers [] c some = absurd (some refl)
callers (l ∷ lists) c some = by_test (l.0.0 == c) refl (callers lists c)
  where
    by_test : (b : Bool) → (l.0.0 == c) ≡ b → (plans_in lists c ≢ Ends → list_any (λ m. m == c) (members_in lists) ≡ true) → list_any (λ m. m == c) (members_in (l ∷ lists)) ≡ true
    by_test true e later = rw e refl
    by_test false e later = or_right (l.0.0 == c) (list_any (λ m. m == c) (members_in lists)) (later (rw e at some))

-- whether a client is a member, and whether it has commands
in-members : (lists : Lists) (c : ℕ) → list_any (λ (l : Client × List Command). l.0.0 == c) lists ≡ list_any (λ m. m == c) (members_in lists)
in-members [] c = refl
in-members (l ∷ lists) c = rw (in-members lists c) refl

of-turn : (lists : Lists) (actor : Actor) → script.is_turn_of lists actor ≡ is_turn_of (members_in lists) actor
of-turn lists (ClientTurn client) = in-members lists client.0

pub turns-of : (lists : Lists) (turns : List (Actor × ℕ)) → IsTrue (list_all (script.are_turns_of lists) turns) → IsTrue (list_all (are_turns_of (members_in lists)) turns)
turns-of lists [] h = refl
turns-of lists (listed ∷ turns) h =
    let parts = both (script.are_turns_of lists listed) (list_all (script.are_turns_of lists) turns) h in
    joined (are_turns_of (members_in lists) listed) (list_all (are_turns_of (members_in lists)) turns) (subst IsTrue (of-turn lists listed.0) parts.0) (turns-of lists turns parts.1)
  where
    joined : (a b : Bool) → IsTrue a → IsTrue b → IsTrue (a && b)
    joined true b p q = q
    joined false b p q = cc
