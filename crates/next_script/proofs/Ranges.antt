-- The numbers that a line says are within their limits.
use Rattle.std.proofs.Common.{◌≡◌, ℕ, ◌<◌, ◌≤◌, nat_le, Bool, true, false, cond, ◌&&◌, List, [], ◌∷◌, refl, ap, arith, Option, Some, None, Result, Ok, Err}
use Rattle.std.specs.Option.{option_map}
use Rattle.std.proofs.lemmas.Bool.Decides.{nat_tests}
use Rattle.next_ids.specs.declared.ids.Client.{Client}
use Rattle.next_walk.specs.declared.command.Command.{Command}
use Rattle.next_grammar.specs.declared.fault.Fault.{Fault}
use Rattle.next_grammar.specs.declared.fault.Fault.TheVariants.{BadCommand}
use Rattle.next_grammar.specs.declared.line.Counts.{Counts}
use Rattle.next_grammar.specs.declared.order.Order.{Order}
use Rattle.next_grammar.specs.Lines.{counted, places_in, places_said}
use Rattle.next_grammar.specs.Numbers.{is_numeral, value, number_of, client_of, count_of}
use Rattle.next_grammar.specs.Orders.{verb_of, command_said, ordered, order_said}
use Rattle.next_grammar.specs.Words.{pair}
use Rattle.next_script.specs.Forms.{IsCount}

-- a number that is read is the least to the most
number_of-range : (least most : ℕ) (word : List ℕ) (n : ℕ) → number_of least most word ≡ Some n → (least ≤ n) × (n ≤ most)
unfolding number_of
number_of-range least most word n e = by_test (is_numeral word && nat_le least (value word) && nat_le (value word) most) refl e
  where
    by_test : (b : Bool) → (is_numeral word && nat_le least (value word) && nat_le (value word) most) ≡ b → cond b (Some (value word)) None ≡ Some n → (least ≤ n) × (n ≤ most)
    by_test false t e = cc
    by_test true t e =
        let is : value word ≡ n = cc in
        let low : least ≤ value word = grind (arith, nat_tests) in
        let high : value word ≤ most = grind (arith, nat_tests) in
        (rw (← is) low, rw (← is) high)

abbrev client : ℕ → Client
client number = record { 0 = number }

client_of-number : (word : List ℕ) (c : Client) → client_of word ≡ Some c → number_of 1 32 word ≡ Some c.0
unfolding client_of
client_of-number word c e = by_number (number_of 1 32 word) e
  where
    by_number : (o : Option ℕ) → option_map client o ≡ Some c → o ≡ Some c.0
    by_number None e = cc
    by_number (Some number) e = cc

-- a client's number is 1 to 32
client_of-range : (word : List ℕ) (c : Client) → client_of word ≡ Some c → (0 < c.0) × (c.0 ≤ 32)
client_of-range word c e = number_of-range 1 32 word c.0 (client_of-number word c e)

count_of-range : (word : List ℕ) (n : ℕ) → count_of word ≡ Some n → IsCount n
unfolding count_of
count_of-range word n e = number_of-range 1 64 word n e

-- ---- the counts of `places` are 1 to 64
abbrev counts_of : ℕ → ℕ → Counts
counts_of shards stores = record { shards = shards; stores = stores }

counted-range : (a b : Option ℕ) (counts : Counts) → ((n : ℕ) → a ≡ Some n → IsCount n) → ((n : ℕ) → b ≡ Some n → IsCount n) → counted a b ≡ Ok counts → IsCount counts.shards × IsCount counts.stores
counted-range None b counts f g e = cc
counted-range (Some n) None counts f g e = cc
counted-range (Some n) (Some m) counts f g e =
    let is : counts_of n m ≡ counts = cc in
    (rw (← is) (f n refl), rw (← is) (g m refl))

places_in-range : (texts : Option (List ℕ × List ℕ)) (counts : Counts) → places_in texts ≡ Ok counts → IsCount counts.shards × IsCount counts.stores
places_in-range None counts e = cc
places_in-range (Some t) counts e = counted-range (count_of t.0) (count_of t.1) counts (count_of-range t.0) (count_of-range t.1) e

pub places_said-range : (words : List (List ℕ)) (counts : Counts) → places_said words ≡ Ok counts → IsCount counts.shards × IsCount counts.stores
unfolding places_said
places_said-range words counts e = places_in-range (pair words) counts e

-- ---- the client of an order is 1 to 32
abbrev order_of : Client → Command → Order
order_of client command = record { client = client; command = command }

ordered-client : (o : Option Client) (said : Result Command Fault) (order : Order) → ordered o said ≡ Ok order → o ≡ Some order.client
ordered-client (Some c) (Ok x) order e = let is : order_of c x ≡ order = cc in ap (λ (o : Order). Some o.client) is
ordered-client (Some c) (Err fault) order e = cc
ordered-client None (Ok x) order e = cc
ordered-client None (Err BadCommand) order e = cc
ordered-client None (Err fault) order e = cc

pub order_said-range : (words : List (List ℕ)) (order : Order) → order_said words ≡ Ok order → (0 < order.client.0) × (order.client.0 ≤ 32)
unfolding order_said
order_said-range [] order e = cc
order_said-range (a ∷ []) order e = cc
order_said-range (a ∷ b ∷ more) order e = client_of-range a order.client (ordered-client (client_of a) (command_said (verb_of b) more) order e)
