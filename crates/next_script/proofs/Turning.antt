-- What the words behind `turns` list, and the turns of clients among these.
use Rattle.std.proofs.Common.{◌≡◌, ℕ, ◌+◌, ◌≤◌, Bool, true, false, cond, List, [], ◌∷◌, ◌++◌, map, refl, ap, sym, ◌∙◌, append_assoc, arith, Option, Some, None}
use Rattle.std.specs.List.{All, list_all, flat_map}
use Rattle.std.proofs.lemmas.List.Elements.{All-nil, All-cons, All-head, All-tail}
use Rattle.next_ids.specs.declared.ids.Actor.{Actor}
use Rattle.next_ids.specs.declared.ids.Client.{Client}
use Rattle.next_walk.specs.declared.command.Command.{Command}
use Rattle.next_grammar.specs.declared.turns.ListedActor.{ListedActor}
use Rattle.next_grammar.specs.declared.turns.ListedActor.TheVariants.{Client as ListedClient, Renamer, Collector}
use Rattle.next_grammar.specs.declared.turns.ListedTurns.{ListedTurns}
use Rattle.next_grammar.specs.Turns.{turns_said}
use Rattle.next_script.specs.declared.reading.Reading.{Reading}
use Rattle.next_script.specs.Forms.{IsListedIn}
use Rattle.next_setup.specs.Lists.{is_in, count_in}
use Rattle.next_script.specs.Outcomes.{are_turns_of}
use Rattle.next_script.specs.Scripts.{is_known, known, onto, all_listed, turn_count, is_client, turns_of, client_turns}
use Rattle.next_script.proofs.Choices.{and-left, and-right, and-both}

-- the turns of all lines, one after another
abbrev pub flat : List (List ListedTurns) → List ListedTurns
flat listed = flat_map (λ turns. turns) listed

-- each of these turns is of a client that has commands
abbrev pub AreListedIn : List (Client × List Command) → List ListedTurns → Type 0
AreListedIn commands listed = All (λ (turns : ListedTurns). IsListedIn commands turns.actor) listed

-- ---- good words, one by one
pub record IsAllListed (r : Reading) (words : List (List ℕ)) (listed : List ListedTurns) : Type 0 where
  pub said : map turns_said words ≡ map Some listed
  pub known : list_all (λ turns. is_known r turns.actor) listed ≡ true

pub all_listed-said : (r : Reading) (words : List (List ℕ)) (listed : List ListedTurns) → all_listed r words ≡ Some listed → IsAllListed r words listed
all_listed-said r [] listed e = let is : [] ≡ listed = cc in rw (← is) (record { said = refl; known = refl })
all_listed-said r (word ∷ words) listed e = by_word (turns_said word) refl (all_listed r words) refl e (λ more f. all_listed-said r words more f)
  where
    by_known : (turns : ListedTurns) → turns_said word ≡ Some turns → (b : Bool) → is_known r turns.actor ≡ b → (m : Option (List ListedTurns)) → onto (cond b (Some turns) None) m ≡ Some listed →
        ((more : List ListedTurns) → m ≡ Some more → IsAllListed r words more) → IsAllListed r (word ∷ words) listed
    by_known turns o true k (Some more) e rest =
        let is : turns ∷ more ≡ listed = cc in
        let h = rest more refl in
        rw (← is) (record {
          said = rw o (ap (λ (l : List (Option ListedTurns)). Some turns ∷ l) h.said);
          known = and-both (is_known r turns.actor) (list_all (λ (t : ListedTurns). is_known r t.actor) more) k h.known;
        })
    by_known turns o true k None e rest = cc
    by_known turns o false k m e rest = cc

    by_word : (o : Option ListedTurns) → turns_said word ≡ o → (m : Option (List ListedTurns)) → all_listed r words ≡ m → onto (known r o) m ≡ Some listed →
        ((more : List ListedTurns) → all_listed r words ≡ Some more → IsAllListed r words more) → IsAllListed r (word ∷ words) listed
    by_word None o m p e rest = cc
    by_word (Some turns) o m p e rest = by_known turns o (is_known r turns.actor) refl m e (λ more f. rest more (p ∙ f))

-- known turns of clients alone
pub listed-clients : (r : Reading) (listed : List ListedTurns) → list_all (λ turns. is_known r turns.actor) listed ≡ true → list_all (λ turns. is_client turns.actor) listed ≡ true → AreListedIn r.script.commands listed
listed-clients r [] known clients = All-nil (λ (turns : ListedTurns). IsListedIn r.script.commands turns.actor)
listed-clients r (t ∷ ts) known clients =
    All-cons (λ (turns : ListedTurns). IsListedIn r.script.commands turns.actor) t ts (one t.actor (and-left _ _ known) (and-left _ _ clients)) (listed-clients r ts (and-right (is_known r t.actor) _ known) (and-right (is_client t.actor) _ clients))
  where
    one : (actor : ListedActor) → is_known r actor ≡ true → is_client actor ≡ true → IsListedIn r.script.commands actor
    one (ListedClient c) k l = k
    one Renamer k l = cc
    one Collector k l = cc

-- ---- and back
clients-known : (r : Reading) (actor : ListedActor) → IsListedIn r.script.commands actor → is_known r actor ≡ true
clients-known r (ListedClient c) h = h
clients-known r Renamer h = refl
clients-known r Collector h = refl

is_client-listed : (commands : List (Client × List Command)) (actor : ListedActor) → IsListedIn commands actor → is_client actor ≡ true
is_client-listed commands (ListedClient c) h = refl
is_client-listed commands Renamer h = absurd h
is_client-listed commands Collector h = absurd h

onto-some : (r : Reading) (o : Option ListedTurns) (turns : ListedTurns) (m : Option (List ListedTurns)) (more : List ListedTurns) → o ≡ Some turns → is_known r turns.actor ≡ true → m ≡ Some more → onto (known r o) m ≡ Some (turns ∷ more)
onto-some r o turns m more h k l =
    ap (λ (p : Option ListedTurns). onto (known r p) m) h ∙ ap (λ (b : Bool). onto (cond b (Some turns) None) m) k ∙ ap (λ (p : Option (List ListedTurns)). onto (Some turns) p) l

pub all_listed-from : (r : Reading) (words : List (List ℕ)) (listed : List ListedTurns) → map turns_said words ≡ map Some listed → AreListedIn r.script.commands listed → all_listed r words ≡ Some listed
all_listed-from r [] [] said h = refl
all_listed-from r [] (t ∷ ts) said h = cc
all_listed-from r (w ∷ ws) [] said h = cc
all_listed-from r (w ∷ ws) (t ∷ ts) said h =
    let first : turns_said w ≡ Some t = cc in
    let rest : map turns_said ws ≡ map Some ts = cc in
    onto-some r (turns_said w) t (all_listed r ws) ts first (clients-known r t.actor (All-head (λ (turns : ListedTurns). IsListedIn r.script.commands turns.actor) t ts h)) (all_listed-from r ws ts rest (All-tail (λ (turns : ListedTurns). IsListedIn r.script.commands turns.actor) t ts h))

pub all-clients : (commands : List (Client × List Command)) (listed : List ListedTurns) → AreListedIn commands listed → list_all (λ turns. is_client turns.actor) listed ≡ true
all-clients commands [] h = refl
all-clients commands (t ∷ ts) h =
    and-both (is_client t.actor) (list_all (λ (turns : ListedTurns). is_client turns.actor) ts) (is_client-listed commands t.actor (All-head (λ (turns : ListedTurns). IsListedIn commands turns.actor) t ts h)) (all-clients commands ts (All-tail (λ (turns : ListedTurns). IsListedIn commands turns.actor) t ts h))

-- ---- lists behind lists
pub client_turns-append : (xs ys : List ListedTurns) → client_turns (xs ++ ys) ≡ client_turns xs ++ client_turns ys
client_turns-append [] ys = refl
client_turns-append (x ∷ xs) ys = ap (λ (l : List (Actor × ℕ)). turns_of x.actor x.count ++ l) (client_turns-append xs ys) ∙ sym (append_assoc (turns_of x.actor x.count) (client_turns xs) (client_turns ys))

pub turn_count-append : (xs ys : List ListedTurns) → turn_count (xs ++ ys) ≡ turn_count xs + turn_count ys
turn_count-append [] ys = omega arith
turn_count-append (x ∷ xs) ys = let rest = turn_count-append xs ys in omega (arith, rest)

-- ---- the turns of a script
pub turns-members : (commands : List (Client × List Command)) (listed : List ListedTurns) → AreListedIn commands listed → list_all (are_turns_of commands) (client_turns listed) ≡ true
turns-members commands [] h = refl
turns-members commands (t ∷ ts) h = one t.actor (All-head (λ (turns : ListedTurns). IsListedIn commands turns.actor) t ts h) (turns-members commands ts (All-tail (λ (turns : ListedTurns). IsListedIn commands turns.actor) t ts h))
  where
    one : (actor : ListedActor) → IsListedIn commands actor → list_all (are_turns_of commands) (client_turns ts) ≡ true → list_all (are_turns_of commands) (turns_of actor t.count ++ client_turns ts) ≡ true
    one (ListedClient c) member rest = and-both (is_in commands c) (list_all (are_turns_of commands) (client_turns ts)) member rest
    one Renamer member rest = rest
    one Collector member rest = rest

pub count_in-turns : (listed : List ListedTurns) → count_in (client_turns listed) ≤ turn_count listed
count_in-turns [] = omega arith
count_in-turns (t ∷ ts) = one t.actor (count_in-turns ts)
  where
    one : (actor : ListedActor) → count_in (client_turns ts) ≤ turn_count ts → count_in (turns_of actor t.count ++ client_turns ts) ≤ t.count + turn_count ts
    one (ListedClient c) rest = omega arith
    one Renamer rest = omega arith
    one Collector rest = omega arith
