-- What a change of the names at a key makes of the whole map.
use Rattle.std.proofs.Common.{◌≡◌, ℕ, List, true, false, refl, sym, ◌∙◌, ap, arith}
use Rattle.std.specs.Prelude.{◌==◌, Some, None, Result, Ok, Err, OnOk, OnErr}
use Rattle.std.proofs.lemmas.Bool.Decides.{nat_tests}
use Rattle.std.specs.Ordering.{nat_cmp}
use Rattle.std.specs.Cmp.{nat_cmp_total}
use Rattle.std.specs.Cmp.Lexicographic.{slice_cmp}
use Rattle.std.specs.FinMap.{get, insert, remove, empty, len, gets, get-empty, same_map, nat_cmp-IsAntisymmetric}
use Rattle.next_ids.specs.Maps.{Names, Numbers}
use Rattle.next_ids.proofs.MapLemmas.{get-insert_here}
use Rattle.next_maps.specs.Nested.{names_of, with_name, without_name}

-- to insert what is there changes nothing
pub insert-same : {X : Type 0} (m : Numbers X) (key : ℕ) (x : X) → Some x ≡ get m key → insert m key x ≡ m
insert-same m key x there = same_map nat_cmp_total nat_cmp-IsAntisymmetric _ _ (λ q. grind (arith, nat_tests, gets, there))

-- the last of two inserts at a key stays
pub insert-twice : {X : Type 0} (m : Numbers X) (key : ℕ) (x y : X) → insert (insert m key x) key y ≡ insert m key y
insert-twice m key x y = same_map nat_cmp_total nat_cmp-IsAntisymmetric _ _ (λ q. grind (arith, nat_tests, gets))

-- to take out what was inserted at a new key gives the map back
pub remove-insert : {X : Type 0} (m : Numbers X) (key : ℕ) (x : X) → get m key ≡ None → remove (insert m key x) key ≡ m
remove-insert m key x none = same_map nat_cmp_total nat_cmp-IsAntisymmetric _ _ (λ q. grind (arith, nat_tests, gets, none))

-- to take out what was inserted is to take out what stood there
pub remove-insert_there : {X : Type 0} (m : Numbers X) (key : ℕ) (x : X) → remove (insert m key x) key ≡ remove m key
remove-insert_there m key x = same_map nat_cmp_total nat_cmp-IsAntisymmetric _ _ (λ q. grind (arith, nat_tests, gets))

-- to take out what isn't there changes nothing
pub remove-absent : {X : Type 0} (m : Numbers X) (key : ℕ) → get m key ≡ None → remove m key ≡ m
remove-absent m key none = same_map nat_cmp_total nat_cmp-IsAntisymmetric _ _ (λ q. grind (arith, nat_tests, gets, none))

-- there is no name to cut among none
len-cut_empty : (X : Type 0) (name : List ℕ) → len (remove (empty {K = List ℕ} {X = X} {R = slice_cmp nat_cmp}) name) ≡ 0
len-cut_empty X name = grind (arith, gets)

module _ {X : Type 0} (m : Numbers (Names X)) (key : ℕ) (name : List ℕ) where
  pub with_name-there : {A E : Type 0} (r : Result A E) (n : Numbers (Names X)) (old new : Names X) (value : X) → Some old ≡ get m key → n ≡ insert m key new → OnOk r (new ≡ insert old name value) → OnOk r (n ≡ with_name m key name value)
  with_name-there (Ok a) n old new value there is ok = is ∙ ap (insert m key) (ok ∙ ap (λ o. insert (names_of o) name value) there)
  with_name-there (Err e) n old new value there is ok = tt

  pub unchanged-there : {A E : Type 0} (r : Result A E) (n : Numbers (Names X)) (old new : Names X) → Some old ≡ get m key → n ≡ insert m key new → OnErr r (new ≡ old) → OnErr r (n ≡ m)
  unchanged-there (Ok a) n old new there is err = tt
  unchanged-there (Err e) n old new there is err = is ∙ ap (insert m key) err ∙ insert-same m key old there

  -- a name cut from the names at a key, where some are left and where none is
  pub without_name-left : (n : Numbers (Names X)) (old new : Names X) → Some old ≡ get m key → n ≡ insert m key new → new ≡ remove old name → (len new == 0) ≡ false → n ≡ without_name m key name
  without_name-left n old new there is cut some =
      let names : new ≡ remove (names_of (get m key)) name = cut ∙ ap (λ o. remove (names_of o) name) there in
      is ∙ rw (← names, some) refl

  pub without_name-last : (n : Numbers (Names X)) (old new : Names X) → Some old ≡ get m key → n ≡ insert m key new → new ≡ remove old name → (len new == 0) ≡ true → remove n key ≡ without_name m key name
  without_name-last n old new there is cut none =
      let names : new ≡ remove (names_of (get m key)) name = cut ∙ ap (λ o. remove (names_of o) name) there in
      ap (λ n. remove n key) is ∙ remove-insert_there m key new ∙ rw (← names, none) refl

  -- where the key isn't there, there is nothing to cut
  pub without_name-none : get m key ≡ None → m ≡ without_name m key name
  without_name-none none =
      let names : len (remove (names_of (get m key)) name) ≡ 0 = ap (λ o. len (remove (names_of o) name)) none ∙ len-cut_empty X name in
      rw names (sym (remove-absent m key none))

  pub no_name : get m key ≡ None → get (names_of (get m key)) name ≡ None
  no_name none = ap (λ o. get (names_of o) name) none ∙ get-empty (slice_cmp nat_cmp) name

-- the same at a new key, where the empty names were put first
module _ {X : Type 0} (m s n : Numbers (Names X)) (key : ℕ) (here new : Names X) (none : get m key ≡ None) (first : s ≡ insert m key empty) (is : n ≡ insert s key new) where
  pub here-empty : Some here ≡ get s key → here ≡ empty
  here-empty there = let both : Some here ≡ Some empty = there ∙ ap (λ m. get m key) first ∙ get-insert_here m key empty in cc

  pub with_name-first : (name : List ℕ) (value : X) → Some here ≡ get s key → new ≡ insert here name value → n ≡ with_name m key name value
  with_name-first name value there ok =
      is ∙ ap (λ s. insert s key new) first ∙ insert-twice m key empty new ∙ ap (insert m key) (ok ∙ ap (λ names. insert names name value) (here-empty there ∙ ap names_of (sym none)))

  pub unchanged-first : remove n key ≡ m
  unchanged-first = ap (λ n. remove n key) (is ∙ ap (λ s. insert s key new) first ∙ insert-twice m key empty new) ∙ remove-insert m key new none
