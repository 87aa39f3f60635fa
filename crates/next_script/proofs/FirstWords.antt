-- What a line is, by its first word.
use Rattle.std.proofs.Common.{◌≡◌, ℕ, Bool, true, false, cond, List, refl, arith, Some, None}
use Rattle.std.specs.Prelude.{codes}
use Rattle.std.specs.Str.{bytes_eq}
use Rattle.std.proofs.lemmas.Bool.Decides.{nat_tests}
use Rattle.std.proofs.lemmas.Slice.Eq.{bytes_eq-Decides}
use Rattle.next_grammar.specs.declared.line.LineKind.{LineKind}
use Rattle.next_grammar.specs.declared.line.LineKind.TheVariants.{Places, Client as ClientLine, Stop as StopLine, Turns as TurnsLine}
use Rattle.next_grammar.specs.Lines.{kind_of}

abbrev pub word_of : LineKind → List ℕ
word_of Places = codes "places"
word_of ClientLine = codes "client"
word_of StopLine = codes "stop"
word_of TurnsLine = codes "turns"

bytes_eq-same : (xs ys : List ℕ) → bytes_eq xs ys ≡ true → xs ≡ ys
bytes_eq-same xs ys h = grind (arith, nat_tests, bytes_eq-Decides)

-- a known word is that of its kind
pub kind_of-word : (word : List ℕ) (kind : LineKind) → kind_of word ≡ Some kind → word ≡ word_of kind
unfolding kind_of
kind_of-word word kind e = by_tests (bytes_eq word (codes "places")) refl (bytes_eq word (codes "client")) refl (bytes_eq word (codes "stop")) refl (bytes_eq word (codes "turns")) refl e
  where
    by_tests : (a : Bool) → bytes_eq word (codes "places") ≡ a → (b : Bool) → bytes_eq word (codes "client") ≡ b → (c : Bool) → bytes_eq word (codes "stop") ≡ c → (d : Bool) → bytes_eq word (codes "turns") ≡ d →
        cond a (Some Places) (cond b (Some ClientLine) (cond c (Some StopLine) (cond d (Some TurnsLine) None))) ≡ Some kind → word ≡ word_of kind
    by_tests true t b u c v d w e = let is : Places ≡ kind = cc in rw (← is) (bytes_eq-same word (codes "places") t)
    by_tests false t true u c v d w e = let is : ClientLine ≡ kind = cc in rw (← is) (bytes_eq-same word (codes "client") u)
    by_tests false t false u true v d w e = let is : StopLine ≡ kind = cc in rw (← is) (bytes_eq-same word (codes "stop") v)
    by_tests false t false u false v true w e = let is : TurnsLine ≡ kind = cc in rw (← is) (bytes_eq-same word (codes "turns") w)
    by_tests false t false u false v false w e = cc

-- the word of a kind is known
pub kind_of-word_of : (kind : LineKind) → kind_of (word_of kind) ≡ Some kind
unfolding kind_of
kind_of-word_of Places = refl
kind_of-word_of ClientLine = refl
kind_of-word_of StopLine = refl
kind_of-word_of TurnsLine = refl
