-- The moves that lines tell of, by position.
use Rattle.std.proofs.Common.{◌≡◌, ℕ, List, [], ◌∷◌, ◌++◌, Bool, true, false, refl, sym, ◌∙◌, ap, append_assoc}
use Rattle.std.specs.Prelude.{if◌then◌else◌, ◌&&◌, ◌==◌, Option, Some, None}
use Rattle.next_steps.specs.declared.moves.Moved.{Moved}
use Rattle.next_steps.specs.declared.moves.Move.{Move as MoveFacts}
use Rattle.next_steps.specs.declared.moves.Moved.TheVariants.{Move, Forget}
use Rattle.next_steps.specs.declared.line.Line.{Line}
use Rattle.next_steps.specs.declared.line.Outcome.{Outcome}
use Rattle.next_steps.specs.declared.line.Outcome.TheVariants as outcome
use Rattle.next_rules.specs.Moves.{IsMoveOf}
use Rattle.next_rules.specs.Histories.{is_move, stands_at, moved_at}

-- the move that a line tells of
abbrev pub keys_of : Line → Outcome → List MoveFacts
keys_of line (outcome.Moved ts made) = record { client = line.client; call = line.call; ts = ts; made = made } ∷ []
keys_of line (outcome.Reply reply) = []
keys_of line (outcome.Unfinished None) = []
keys_of line (outcome.Unfinished (Some found)) = record { client = line.client; call = line.call; ts = found.0; made = found.1 } ∷ []

abbrev pub key_at : ℕ → Line → List MoveFacts
key_at p line = if stands_at p line.at then keys_of line line.outcome else []

-- the moves that the lines tell of at a position
abbrev pub keys_at : ℕ → List Line → List MoveFacts
keys_at p [] = []
keys_at p (line ∷ lines) = key_at p line ++ keys_at p lines

-- the move of a step, and that if it is this client's
abbrev pub all_keys : Option Moved → List MoveFacts
all_keys None = []
all_keys (Some (Move m)) = m ∷ []
all_keys (Some (Forget file)) = []

abbrev pub own_keys : ℕ → Option Moved → List MoveFacts
own_keys c None = []
own_keys c (Some (Move m)) = if m.client.0 == c then m ∷ [] else []
own_keys c (Some (Forget file)) = []

pub keys_at-append : (p : ℕ) (xs ys : List Line) → keys_at p (xs ++ ys) ≡ keys_at p xs ++ keys_at p ys
keys_at-append p [] ys = refl
keys_at-append p (x ∷ xs) ys = ap (λ l. key_at p x ++ l) (keys_at-append p xs ys) ∙ sym (append_assoc (key_at p x) (keys_at p xs) (keys_at p ys))

-- ---- lines that tell of no move, or of the one of a step
pub none_moved : (p : ℕ) (lines : List Line) → keys_at p lines ≡ [] → moved_at p lines ≡ []
none_moved p [] h = refl
none_moved p (line ∷ lines) h = by_at (stands_at p line.at) line.outcome h (none_moved p lines)
  where
    by_at : (b : Bool) (o : Outcome) → ((if b then keys_of line o else []) ++ keys_at p lines) ≡ [] → (keys_at p lines ≡ [] → moved_at p lines ≡ []) → (if (b && is_move o) then line ∷ moved_at p lines else moved_at p lines) ≡ []
    by_at false o h rest = rest h
    by_at true (outcome.Moved ts made) h rest = cc
    by_at true (outcome.Reply reply) h rest = rest h
    by_at true (outcome.Unfinished None) h rest = rest h
    by_at true (outcome.Unfinished (Some found)) h rest = cc

pub record OneLine (m : MoveFacts) (lines : List Line) : Type 0 where
  pub line : Line
  pub only : lines ≡ line ∷ []
  pub same : IsMoveOf m line line.outcome

head_same : (x y : MoveFacts) (xs ys : List MoveFacts) → x ∷ xs ≡ y ∷ ys → x ≡ y
head_same x y xs ys h = cc

tail_same : (x y : MoveFacts) (xs ys : List MoveFacts) → x ∷ xs ≡ y ∷ ys → xs ≡ ys
tail_same x y xs ys h = cc

is_move_of : (m : MoveFacts) (line : Line) (o : Outcome) → keys_of line o ≡ m ∷ [] → IsMoveOf m line o
is_move_of m line (outcome.Moved ts made) h = let e = head_same _ _ _ _ h in (ap (λ k. k.client) e, ap (λ k. k.call) e, ap (λ k. k.ts) e, ap (λ k. k.made) e)
is_move_of m line (outcome.Reply reply) h = cc
is_move_of m line (outcome.Unfinished None) h = cc
is_move_of m line (outcome.Unfinished (Some found)) h = let e = head_same _ _ _ _ h in (ap (λ k. k.client) e, ap (λ k. k.call) e, ap (λ k. k.ts) e, ap (λ k. k.made) e)

pub one_moved : (p : ℕ) (m : MoveFacts) (lines : List Line) → keys_at p lines ≡ m ∷ [] → OneLine m (moved_at p lines)
one_moved p m [] h = cc
one_moved p m (line ∷ lines) h = by_at (stands_at p line.at) line.outcome refl h (one_moved p m lines)
  where
    first_line : (o : Outcome) → line.outcome ≡ o → (k : MoveFacts) → keys_of line o ≡ k ∷ [] → k ∷ keys_at p lines ≡ m ∷ [] → OneLine m (line ∷ moved_at p lines)
    first_line o is k one h = record {
      line = line;
      only = ap (λ l. line ∷ l) (none_moved p lines (tail_same _ _ _ _ h));
      same = rw is (is_move_of m line o (one ∙ ap (λ x. x ∷ []) (head_same _ _ _ _ h)));
    }

    by_at : (b : Bool) (o : Outcome) → line.outcome ≡ o → ((if b then keys_of line o else []) ++ keys_at p lines) ≡ m ∷ [] → (keys_at p lines ≡ m ∷ [] → OneLine m (moved_at p lines)) → OneLine m (if (b && is_move o) then line ∷ moved_at p lines else moved_at p lines)
    by_at false o is h rest = rest h
    by_at true (outcome.Moved ts made) is h rest = first_line (outcome.Moved ts made) is _ refl h
    by_at true (outcome.Reply reply) is h rest = rest h
    by_at true (outcome.Unfinished None) is h rest = rest h
    by_at true (outcome.Unfinished (Some found)) is h rest = first_line (outcome.Unfinished (Some found)) is _ refl h
