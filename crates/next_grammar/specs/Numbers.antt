-- Numbers, in decimal digits with no sign and no leading zero.
use Rattle.std.specs.Prelude.{ℕ, ◌+◌, ◌-◌, ◌*◌, ◌==◌, nat_le, Bool, false, not, ◌&&◌, ◌||◌, if◌then◌else◌, List, [], ◌∷◌, length, Option, Some, None, fold}
use Rattle.std.specs.List.{list_all}
use Rattle.std.specs.Option.{option_map}
use Rattle.next_ids.specs.declared.ids.Client.{Client}

abbrev pub is_digit : ℕ → Bool
is_digit b = nat_le 48 b && nat_le b 57

-- what the digits say
abbrev pub value : List ℕ → ℕ
value digits = fold (λ n b. 10 * n + (b - 48)) 0 digits

-- digits without a leading zero, but 0 itself
unfoldable pub is_numeral : List ℕ → Bool
is_numeral [] = false
is_numeral (first ∷ more) = list_all is_digit (first ∷ more) && (not (first == 48) || length more == 0)

-- a number from the least to the most
unfoldable pub number_of : ℕ → ℕ → List ℕ → Option ℕ
number_of least most word = if is_numeral word && nat_le least (value word) && nat_le (value word) most then Some (value word) else None

-- a client's number, 1 to 32
unfoldable pub client_of : List ℕ → Option Client
client_of word = option_map (λ number. record { 0 = number }) (number_of 1 32 word)

-- how many shards or stores, 1 to 64
unfoldable pub count_of : List ℕ → Option ℕ
count_of word = number_of 1 64 word

-- how many turns, 1 to 1,000,000
unfoldable pub times_of : List ℕ → Option ℕ
times_of word = number_of 1 1000000 word

-- how many steps of its own a client makes, 0 to 1,000,000
unfoldable pub steps_of : List ℕ → Option ℕ
steps_of word = number_of 0 1000000 word

-- the size of a file, 0 to 2^63 - 1
unfoldable pub size_of : List ℕ → Option ℕ
size_of word = number_of 0 9223372036854775807 word
