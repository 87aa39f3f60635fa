-- Facts about finite maps and their entries, for the laws of worlds.
use Rattle.std.proofs.Common.{◌≡◌, ℕ, ◌+◌, ◌-◌, ◌≤◌, List, [], ◌∷◌, map, Bool, true, false, cond, refl, sym, ◌∙◌, ap, arith}
use Rattle.std.specs.Prelude.{◌||◌, Some, None}
use Rattle.std.proofs.lemmas.Bool.Decides.{nat_tests}
use Rattle.std.specs.Option.{option_map}
use Rattle.std.specs.List.{list_any}
use Rattle.std.specs.declared.cmp.Ordering.{Ordering}
use Rattle.std.specs.declared.cmp.Ordering.TheVariants.{Equal}
use Rattle.std.specs.Ordering.{nat_cmp}
use Rattle.std.specs.Cmp.{IsTotalOrder, nat_cmp_total}
use Rattle.std.specs.Cmp.Lexicographic.{slice_cmp}
use Rattle.std.specs.FinMap.{FinMap, get, insert, remove, len, contains_key, entries, find, put, gets, get-entries, get-from_entries, len-insert, len-remove}
use Rattle.next_ids.specs.Maps.{Numbers, within, how_many, map_values}

module _ {K X : Type 0} (R : K → K → Ordering) where
  -- a new key adds what the test says of it
  pub how_many-put : (p : K × X → Bool) (k : K) (v : X) (es : List (K × X)) → find R k es ≡ None → how_many p (put R k v es) ≡ how_many p es + cond (p (k, v)) 1 0
  how_many-put p k v [] none = grind arith
  how_many-put p k v (e ∷ es) none = grind (arith, how_many-put p k v es)

  pub list_any-put : (p : K × X → Bool) (k : K) (v : X) (es : List (K × X)) → find R k es ≡ None → list_any p (put R k v es) ≡ (p (k, v) || list_any p es)
  list_any-put p k v [] none = grind arith
  list_any-put p k v (e ∷ es) none = grind (arith, list_any-put p k v es)

-- what is found under a name in a directory is what the rows have under the key
pub find-within : {X Y : Type 0} (f : X → Y) (d : ℕ) (name : List ℕ) (es : List (List ℕ × X)) → find (slice_cmp nat_cmp) name (map (λ e. (e.0, f e.1)) (within d es)) ≡ option_map f (find (slice_cmp nat_cmp) (d ∷ name) es)
find-within f d name [] = refl
find-within f d name (([], x) ∷ es) = find-within f d name es
find-within f d name ((k ∷ m, x) ∷ es) = grind (arith, nat_tests, find-within f d name es)

-- and so are the values themselves
pub find-within_all : {X : Type 0} (d : ℕ) (name : List ℕ) (es : List (List ℕ × X)) → find (slice_cmp nat_cmp) name (within d es) ≡ find (slice_cmp nat_cmp) (d ∷ name) es
find-within_all d name [] = refl
find-within_all d name (([], x) ∷ es) = find-within_all d name es
find-within_all d name ((k ∷ m, x) ∷ es) = grind (arith, nat_tests, find-within_all d name es)

pub find-map : {K X Y : Type 0} (R : K → K → Ordering) (f : K → X → Y) (q : K) (es : List (K × X)) → ((k : K) → R q k ≡ Equal → q ≡ k) → find R q (map (λ e. (e.0, f e.0 e.1)) es) ≡ option_map (f q) (find R q es)
find-map R f q [] same = refl
find-map R f q (e ∷ es) same = grind (arith, find-map R f q es same, same e.0)

pub get-map_values : {K X Y : Type 0} {R : K → K → Ordering} (o : IsTotalOrder R) → ((x y : K) → R x y ≡ Equal → x ≡ y) → (f : K → X → Y) (m : FinMap R X) (q : K) → get (map_values f m) q ≡ option_map (f q) (get m q)
get-map_values {R = R} o same f m q = get-from_entries o (map (λ e. (e.0, f e.0 e.1)) (entries m)) q ∙ find-map R f q (entries m) (same q) ∙ ap (option_map (f q)) (sym (get-entries m q))

-- what is inserted at a key is found there
pub get-insert_here : {X : Type 0} (m : Numbers X) (key : ℕ) (x : X) → get (insert m key x) key ≡ Some x
get-insert_here m key x = grind (arith, nat_tests, gets)

-- a map has one entry more at most once a key is set or cut
pub set-few : {X : Type 0} (m : Numbers X) (key : ℕ) (x : X) → len (insert m key x) ≤ len m + 1
set-few m key x = let e = len-insert nat_cmp_total m key x in let le = at_most (contains_key m key) (len m) in omega arith
  where
    at_most : (b : Bool) (n : ℕ) → cond b n (n + 1) ≤ n + 1
    at_most true n = omega arith
    at_most false n = omega arith

pub cut-few : {X : Type 0} (m : Numbers X) (key : ℕ) → len (remove m key) ≤ len m + 1
cut-few m key = let e = len-remove nat_cmp_total m key in let le = at_most (contains_key m key) (len m) in omega arith
  where
    at_most : (b : Bool) (n : ℕ) → cond b (n - 1) n ≤ n + 1
    at_most true n = omega arith
    at_most false n = omega arith
