-- Writing the parts of a text one after another, along a list that is used up.
use Rattle.std.proofs.Common.{◌≡◌, ℕ, List, [], ◌∷◌, ◌++◌, Some, None, ap, sym, ◌∙◌, append_assoc, append-nil}
use Rattle.std.specs.List.{flat_map}
use Rattle.std.specs.declared.option.Option.{Option}
use Rattle.next_print.specs.Passing.{Adds, AddsFront}
use Rattle.next_print.proofs.Passed.{Adds-append, AddsFront-first, AddsFront-next}

-- what was taken, and then the rest, are the text
pub record WrittenUpTo (old : Option (List ℕ)) (old_page : List ℕ) (new : Option (List ℕ)) (new_page text rest : List ℕ) : Type 0 where
  pub front : List ℕ
  pub whole : text ≡ front ++ rest
  pub taken : Adds old old_page new new_page front

pub WrittenUpTo-start : (a : Option (List ℕ)) (l text rest : List ℕ) → text ≡ rest → WrittenUpTo a l a l text rest
WrittenUpTo-start None l text rest h = record { front = []; whole = h; taken = record { passed = []; taken = tt; whole = append-nil l } }
WrittenUpTo-start (Some x) l text rest h = record { front = []; whole = h; taken = record { passed = []; taken = sym (append-nil x); whole = append-nil l } }

module _ {X : Type 0} (f : X → List ℕ) (a : Option (List ℕ)) (l : List ℕ) (b : Option (List ℕ)) (m : List ℕ) (c : Option (List ℕ)) (text : List ℕ) (es : List X) (e : X) (rest : List X) where
  -- one more part
  pub WrittenUpTo-step : (n : List ℕ) → es ≡ e ∷ rest → WrittenUpTo a l b m text (flat_map f es) → Adds b m c n (f e) → WrittenUpTo a l c n text (flat_map f rest)
  WrittenUpTo-step n is w h = record {
    front = w.front ++ f e;
    whole = w.whole ∙ ap (λ t. w.front ++ flat_map f t) is ∙ sym (append_assoc w.front (f e) (flat_map f rest));
    taken = Adds-append a l b m c n w.front (f e) w.taken h;
  }

  -- a front of one more part
  pub WrittenUpTo-front : es ≡ e ∷ rest → WrittenUpTo a l b m text (flat_map f es) → AddsFront b m c (f e) → AddsFront a l c text
  WrittenUpTo-front is w h =
      rw (w.whole ∙ ap (λ t. w.front ++ flat_map f t) is) (AddsFront-next a l b m c w.front (flat_map f (e ∷ rest)) w.taken (AddsFront-first b m c (f e) (flat_map f rest) h))

-- all parts
pub WrittenUpTo-all : {X : Type 0} (f : X → List ℕ) (a : Option (List ℕ)) (l : List ℕ) (b : Option (List ℕ)) (m text : List ℕ) (es : List X) → es ≡ [] → WrittenUpTo a l b m text (flat_map f es) → Adds a l b m text
WrittenUpTo-all f a l b m text es is w = rw (w.whole ∙ ap (λ t. w.front ++ flat_map f t) is ∙ append-nil w.front) w.taken
