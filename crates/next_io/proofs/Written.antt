-- What a sink has taken after several writes.
use Rattle.std.proofs.Common.{◌≡◌, ℕ, ◌<◌, suc, List, ◌++◌, Some, None, ap, sym, ◌∙◌, append_assoc, take, drop, get_or, length, drop-cons}
use Rattle.std.specs.List.{flat_map}
use Rattle.std.proofs.lemmas.List.{take-append-drop}
use Rattle.std.proofs.lemmas.List.Concat.{flat_map-append}
use Rattle.std.specs.declared.option.Option.{Option}
use Rattle.std.specs.Io.KnownBytes.{Appends, Keeps}
use Rattle.next_io.specs.Output.{AppendsFront}

-- one text after another
pub Appends-append : (a b c : Option (List ℕ)) (xs ys : List ℕ) → Appends a b xs → Appends b c ys → Appends a c (xs ++ ys)
Appends-append None b c xs ys h i = tt
Appends-append (Some x) None c xs ys h i = absurd h
Appends-append (Some x) (Some y) None xs ys h i = absurd i
Appends-append (Some x) (Some y) (Some z) xs ys h i = i ∙ ap (λ l. l ++ ys) h ∙ append_assoc x xs ys

-- nothing more
pub Appends-kept : (a b c : Option (List ℕ)) (xs : List ℕ) → Appends a b xs → Keeps b c → Appends a c xs
Appends-kept None b c xs h i = tt
Appends-kept (Some x) None c xs h i = absurd h
Appends-kept (Some x) (Some y) None xs h i = absurd i
Appends-kept (Some x) (Some y) (Some z) xs h i = i ∙ h

-- a failed write after a front
pub AppendsFront-kept : (a b c : Option (List ℕ)) (i : ℕ) (xs : List ℕ) → Appends a b (take i xs) → Keeps b c → AppendsFront a c xs
AppendsFront-kept a b c i xs h k = record { front = take i xs; back = drop i xs; whole = sym (take-append-drop i xs); taken = Appends-kept a b c (take i xs) h k }

-- a front of the first of two texts
pub AppendsFront-first : (a b : Option (List ℕ)) (xs ys : List ℕ) → AppendsFront a b xs → AppendsFront a b (xs ++ ys)
AppendsFront-first a b xs ys h = record { front = h.front; back = h.back ++ ys; whole = ap (λ l. l ++ ys) h.whole ∙ append_assoc h.front h.back ys; taken = h.taken }

-- the first of two texts and a front of the second
pub AppendsFront-next : (a b c : Option (List ℕ)) (xs ys : List ℕ) → Appends a b xs → AppendsFront b c ys → AppendsFront a c (xs ++ ys)
AppendsFront-next a b c xs ys h i = record { front = xs ++ i.front; back = i.back; whole = ap (λ l. xs ++ l) i.whole ∙ sym (append_assoc xs i.front i.back); taken = Appends-append a b c xs i.front h i.taken }

-- a whole text, split at one of its parts
pub flat_map-at : {X : Type 0} (f : X → List ℕ) (xs : List X) (i : ℕ) (d : X) → i < length xs → flat_map f xs ≡ flat_map f (take i xs) ++ (f (get_or xs i d) ++ flat_map f (drop (suc i) xs))
flat_map-at f xs i d h = ap (flat_map f) (sym (take-append-drop i xs)) ∙ flat_map-append f (take i xs) (drop i xs) ∙ ap (λ l. flat_map f (take i xs) ++ flat_map f l) (drop-cons xs i d h)

pub ruleset writing = (Appends-append, AppendsFront-kept, AppendsFront-first, AppendsFront-next)
