-- Several texts on their way to a sink, one after another.
use Rattle.std.proofs.Common.{◌≡◌, ℕ, ◌<◌, ◌+◌, List, [], ◌∷◌, ◌++◌, Some, None, Ok, Err, Result, OnOk, ap, sym, ◌∙◌, subst, append_assoc, append-nil, take, get_or, length}
use Rattle.std.specs.List.{flat_map}
use Rattle.std.proofs.lemmas.List.{take_more}
use Rattle.std.proofs.lemmas.List.Concat.{flat_map-append}
use Rattle.std.specs.declared.option.Option.{Option}
use Rattle.std.specs.Io.KnownBytes.{Appends}
use Rattle.next_io.specs.Output.{AppendsFront}
use Rattle.next_io.proofs.Written.{Appends-append, AppendsFront-first, AppendsFront-next, flat_map-at}
use Rattle.next_print.specs.Passing.{Adds, AddsFront}

-- one text after another
pub Adds-append : (a : Option (List ℕ)) (l : List ℕ) (b : Option (List ℕ)) (m : List ℕ) (c : Option (List ℕ)) (n : List ℕ) (xs ys : List ℕ) → Adds a l b m xs → Adds b m c n ys → Adds a l c n (xs ++ ys)
Adds-append a l b m c n xs ys h i = record {
  passed = h.passed ++ i.passed;
  taken = Appends-append a b c h.passed i.passed h.taken i.taken;
  whole = sym (append_assoc l xs ys) ∙ ap (λ t. t ++ ys) h.whole ∙ append_assoc h.passed m ys ∙ ap (λ t. h.passed ++ t) i.whole ∙ sym (append_assoc h.passed i.passed n);
}

-- one text after another, where the second may fail
pub Adds-last : {T E : Type 0} (r : Result T E) (a : Option (List ℕ)) (l : List ℕ) (b : Option (List ℕ)) (m : List ℕ) (c : Option (List ℕ)) (n : List ℕ) (xs ys : List ℕ) → Adds a l b m xs → OnOk r (Adds b m c n ys) → OnOk r (Adds a l c n (xs ++ ys))
Adds-last (Ok v) a l b m c n xs ys h i = Adds-append a l b m c n xs ys h i
Adds-last (Err e) a l b m c n xs ys h i = tt

-- all of the text is a front of it
pub AddsFront-all : (a : Option (List ℕ)) (l : List ℕ) (b : Option (List ℕ)) (m : List ℕ) (xs : List ℕ) → Adds a l b m xs → AddsFront a l b xs
AddsFront-all a l b m xs h = record { front = record { front = h.passed; back = m; whole = h.whole; taken = h.taken } }

-- a front of the first of two texts
pub AddsFront-first : (a : Option (List ℕ)) (l : List ℕ) (b : Option (List ℕ)) (xs ys : List ℕ) → AddsFront a l b xs → AddsFront a l b (xs ++ ys)
AddsFront-first a l b xs ys h = record { front = subst (AppendsFront a b) (append_assoc l xs ys) (AppendsFront-first a b (l ++ xs) ys h.front) }

-- the first of two texts and a front of the second
pub AddsFront-next : (a : Option (List ℕ)) (l : List ℕ) (b : Option (List ℕ)) (m : List ℕ) (c : Option (List ℕ)) (xs ys : List ℕ) → Adds a l b m xs → AddsFront b m c ys → AddsFront a l c (xs ++ ys)
AddsFront-next a l b m c xs ys h i = record {
  front = subst (AppendsFront a c)
      (sym (append_assoc h.passed m ys) ∙ ap (λ t. t ++ ys) (sym h.whole) ∙ append_assoc l xs ys)
      (AppendsFront-next a b c h.passed (m ++ ys) h.taken i.front);
}

-- the parts before this one, and a front of this one
pub AddsFront-at : {X : Type 0} (f : X → List ℕ) (xs : List X) (i : ℕ) (d : X) (a : Option (List ℕ)) (l : List ℕ) (b : Option (List ℕ)) (m : List ℕ) (c : Option (List ℕ)) → i < length xs → Adds a l b m (flat_map f (take i xs)) → AddsFront b m c (f (get_or xs i d)) → AddsFront a l c (flat_map f xs)
AddsFront-at f xs i d a l b m c h p q =
    subst (AddsFront a l c) (sym (flat_map-at f xs i d h)) (AddsFront-next a l b m c _ _ p (AddsFront-first b m c _ _ q))

-- one more part
pub Adds-at : {X : Type 0} (f : X → List ℕ) (xs : List X) (i : ℕ) (d : X) (a : Option (List ℕ)) (l : List ℕ) (b : Option (List ℕ)) (m : List ℕ) (c : Option (List ℕ)) (n : List ℕ) → i < length xs → Adds a l b m (flat_map f (take i xs)) → Adds b m c n (f (get_or xs i d)) → Adds a l c n (flat_map f (take (i + 1) xs))
Adds-at f xs i d a l b m c n h p q =
    subst (Adds a l c n) (sym (ap (flat_map f) (take_more xs i d h) ∙ flat_map-append f (take i xs) (get_or xs i d ∷ []) ∙ ap (λ t. flat_map f (take i xs) ++ t) (append-nil (f (get_or xs i d)))))
    (Adds-append a l b m c n _ _ p q)

-- the same at an item that was read of the list
module _ {X : Type 0} (f : X → List ℕ) (xs : List X) (i : ℕ) (x : X) (a : Option (List ℕ)) (l : List ℕ) (b : Option (List ℕ)) (m : List ℕ) (c : Option (List ℕ)) where
  pub Adds-item : (n : List ℕ) → i < length xs → x ≡ get_or xs i x → Adds a l b m (flat_map f (take i xs)) → Adds b m c n (f x) → Adds a l c n (flat_map f (take (i + 1) xs))
  Adds-item n h is p q = Adds-at f xs i x a l b m c n h p (subst (λ y. Adds b m c n (f y)) is q)

  pub AddsFront-item : i < length xs → x ≡ get_or xs i x → Adds a l b m (flat_map f (take i xs)) → AddsFront b m c (f x) → AddsFront a l c (flat_map f xs)
  AddsFront-item h is p q = AddsFront-at f xs i x a l b m c h p (subst (λ y. AddsFront b m c (f y)) is q)

-- in the page alone
pub Adds-kept : (a : Option (List ℕ)) (l m xs : List ℕ) → m ≡ l ++ xs → Adds a l a m xs
Adds-kept None l m xs h = record { passed = []; taken = tt; whole = sym h }
Adds-kept (Some x) l m xs h = record { passed = []; taken = sym (append-nil x); whole = sym h }

-- past a page that was handed over
pub Adds-past : (a : Option (List ℕ)) (l : List ℕ) (b : Option (List ℕ)) (m : List ℕ) (c : Option (List ℕ)) (xs : List ℕ) → Appends a b l → m ≡ [] → Appends b c xs → Adds a l c m xs
Adds-past a l b m c xs h e i = record { passed = l ++ xs; taken = Appends-append a b c l xs h i; whole = sym (append-nil (l ++ xs)) ∙ ap (λ t. (l ++ xs) ++ t) (sym e) }

pub AddsFront-past : (a : Option (List ℕ)) (l : List ℕ) (b c : Option (List ℕ)) (xs : List ℕ) → Appends a b l → AppendsFront b c xs → AddsFront a l c xs
AddsFront-past a l b c xs h i = record { front = AppendsFront-next a b c l xs h i }

-- a front of the page
pub AddsFront-page : (a : Option (List ℕ)) (l : List ℕ) (b : Option (List ℕ)) (xs : List ℕ) → AppendsFront a b l → AddsFront a l b xs
AddsFront-page a l b xs h = record { front = AppendsFront-first a b l xs h }

-- the page and all texts, handed over
pub Appends-whole : (a b : Option (List ℕ)) (m : List ℕ) (c : Option (List ℕ)) (l xs : List ℕ) → l ≡ [] → Adds a l b m xs → Appends b c m → Appends a c xs
Appends-whole a b m c l xs first h i = subst (Appends a c) (sym h.whole ∙ ap (λ t. t ++ xs) first) (Appends-append a b c h.passed m h.taken i)

pub AppendsFront-whole : (a b : Option (List ℕ)) (m : List ℕ) (c : Option (List ℕ)) (l xs : List ℕ) → l ≡ [] → Adds a l b m xs → AppendsFront b c m → AppendsFront a c xs
AppendsFront-whole a b m c l xs first h i = subst (AppendsFront a c) (sym h.whole ∙ ap (λ t. t ++ xs) first) (AppendsFront-next a b c h.passed m h.taken i)

pub AppendsFront-page : (a b : Option (List ℕ)) (l xs : List ℕ) → l ≡ [] → AddsFront a l b xs → AppendsFront a b xs
AppendsFront-page a b l xs first h = subst (AppendsFront a b) (ap (λ t. t ++ xs) first) h.front

pub ruleset passing = (Adds-append, AddsFront-all, AddsFront-first, AddsFront-next, AddsFront-at)

pub ruleset paging = (Adds-kept, Adds-past, AddsFront-all, AddsFront-past, AddsFront-page)

pub ruleset handing = (Appends-whole, AppendsFront-whole, AppendsFront-page)
