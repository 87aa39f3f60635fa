-- How many turns the first items list, and which of them are clients'.
use Rattle.std.proofs.Common.{◌≡◌, ℕ, ◌+◌, ◌<◌, ◌≤◌, List, [], ◌∷◌, ◌++◌, length, get_or, take, refl, ap, sym, ◌∙◌}
use Rattle.std.specs.List.{sum_by}
use Rattle.std.proofs.lemmas.List.{append_assoc, append-nil, take_more}
use Rattle.std.proofs.lemmas.List.Recursion.{is_sum_by}
use Rattle.std.proofs.lemmas.List.Sums.{sum_by_more, sum_by_more_le}
use Rattle.next_ids.specs.declared.ids.Actor.{Actor}
use Rattle.next_ids.specs.declared.ids.Actor.TheVariants.{Client as ClientTurn}
use Rattle.next_ids.specs.declared.ids.Client.{Client}
use Rattle.next_grammar.specs.declared.turns.ListedActor.{ListedActor}
use Rattle.next_grammar.specs.declared.turns.ListedActor.TheVariants.{Client as ListedClient, Renamer, Collector}
use Rattle.next_grammar.specs.declared.turns.ListedTurns.{ListedTurns}
use Rattle.next_script.specs.Scripts.{turn_count, turns_of, client_turns}

turn_count-sum : (xs : List ListedTurns) → turn_count xs ≡ sum_by (λ turns. turns.count) xs
turn_count-sum xs = is_sum_by turn_count (λ turns. turns.count) refl (λ _ _. refl) xs

-- one more item
pub turn_count-more : (xs : List ListedTurns) (i : ℕ) (d : ListedTurns) → i < length xs → turn_count (take (i + 1) xs) ≡ turn_count (take i xs) + (get_or xs i d).count
turn_count-more xs i d h = rw (turn_count-sum (take (i + 1) xs), turn_count-sum (take i xs)) (sum_by_more (λ (turns : ListedTurns). turns.count) xs i d h)

-- the items so far and the next are within all
pub turn_count-part : (xs : List ListedTurns) (i : ℕ) (d : ListedTurns) → i < length xs → turn_count (take i xs) + (get_or xs i d).count ≤ turn_count xs
turn_count-part xs i d h = rw (turn_count-sum (take i xs), turn_count-sum xs) (sum_by_more_le (λ (turns : ListedTurns). turns.count) xs i d h)

client_turns-append : (xs ys : List ListedTurns) → client_turns (xs ++ ys) ≡ client_turns xs ++ client_turns ys
client_turns-append [] ys = refl
client_turns-append (x ∷ xs) ys =
    ap (λ more. turns_of x.actor x.count ++ more) (client_turns-append xs ys) ∙ sym (append_assoc (turns_of x.actor x.count) (client_turns xs) (client_turns ys))

client_turns-more : (xs : List ListedTurns) (i : ℕ) (d : ListedTurns) → i < length xs → client_turns (take (i + 1) xs) ≡ client_turns (take i xs) ++ turns_of (get_or xs i d).actor (get_or xs i d).count
client_turns-more xs i d h =
    rw (take_more xs i d h, client_turns-append (take i xs) (get_or xs i d ∷ [])) (ap (λ more. client_turns (take i xs) ++ more) (append-nil (turns_of (get_or xs i d).actor (get_or xs i d).count)))

turns_of-other : (actor : ListedActor) (count : ℕ) → ((client : Client) → actor ≡ ListedClient client → ⊥) → turns_of actor count ≡ []
turns_of-other (ListedClient client) count other = absurd (other client refl)
turns_of-other Renamer count other = refl
turns_of-other Collector count other = refl

-- one more item, which is a client's, and one which is not
pub client_turns-client : (xs : List ListedTurns) (i : ℕ) (d : ListedTurns) (client : Client) → i < length xs → (get_or xs i d).actor ≡ ListedClient client →
    client_turns (take (i + 1) xs) ≡ client_turns (take i xs) ++ (ClientTurn client, (get_or xs i d).count) ∷ []
client_turns-client xs i d client h is = client_turns-more xs i d h ∙ ap (λ (actor : ListedActor). client_turns (take i xs) ++ turns_of actor (get_or xs i d).count) is

pub client_turns-other : (xs : List ListedTurns) (i : ℕ) (d : ListedTurns) → i < length xs → ((client : Client) → (get_or xs i d).actor ≡ ListedClient client → ⊥) → client_turns (take (i + 1) xs) ≡ client_turns (take i xs)
client_turns-other xs i d h other =
    client_turns-more xs i d h
    ∙ ap (λ (turns : List (Actor × ℕ)). client_turns (take i xs) ++ turns) (turns_of-other (get_or xs i d).actor (get_or xs i d).count other)
    ∙ append-nil (client_turns (take i xs))

pub ruleset turn_counts = (turn_count-more, turn_count-part)
