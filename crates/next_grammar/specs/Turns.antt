-- What a word behind `turns` says: whose turns, and how many.
use Rattle.std.specs.Prelude.{ℕ, if◌then◌else◌, List, [], ◌∷◌, codes, Option, Some, None}
use Rattle.std.specs.Option.{option_map}
use Rattle.std.specs.Str.{bytes_eq}
use Rattle.next_grammar.specs.declared.turns.ListedActor.{ListedActor}
use Rattle.next_grammar.specs.declared.turns.ListedActor.TheVariants.{Client as ListedClient, Renamer, Collector}
use Rattle.next_grammar.specs.declared.turns.ListedTurns.{ListedTurns}
use Rattle.next_grammar.specs.Numbers.{client_of, times_of}
use Rattle.next_grammar.specs.Words.{pieces}

-- `r`, `g`, or a client's number
unfoldable pub listed_of : List ℕ → Option ListedActor
listed_of word =
    if bytes_eq word (codes "r") then Some Renamer
    else (if bytes_eq word (codes "g") then Some Collector else option_map ListedClient (client_of word))

abbrev pub listed : Option ListedActor → Option ℕ → Option ListedTurns
listed None count = None
listed (Some actor) None = None
listed (Some actor) (Some count) = Some (record { actor = actor; count = count })

-- one turn, or as many as stand behind a star
abbrev pub in_parts : List (List ℕ) → Option ListedTurns
in_parts (actor ∷ []) = listed (listed_of actor) (Some 1)
in_parts (actor ∷ count ∷ []) = listed (listed_of actor) (times_of count)
in_parts parts = None

unfoldable pub turns_said : List ℕ → Option ListedTurns
turns_said word = in_parts (pieces 42 word)
