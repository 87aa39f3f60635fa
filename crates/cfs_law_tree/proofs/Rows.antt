-- Turns that are listed by how many stand in a row.
use Rattle.std.proofs.Common.{◌≡◌, ℕ, suc, zero, ◌+◌, ◌<◌, ◌≤◌, List, [], ◌∷◌, ◌++◌, refl, sym, ap, ◌∙◌, arith, subst, map, take, drop, get_or, length, append_assoc, Some}
use Rattle.std.specs.Prelude.{replicate, slice_get}
use Rattle.std.proofs.lemmas.List.{length-append, map-append, length-map, length-replicate}
use Rattle.cfs_ids.specs.declared.ids.Actor.{Actor}
use Rattle.cfs_ids.specs.declared.ids.PlaceNo.{PlaceNo}
use Rattle.cfs_rules.specs.Worlds.{World, Counts, run_of}
use Rattle.cfs_core.specs.Clients.{number_in}
use Rattle.cfs_core.specs.Cores.{world_of}
use Rattle.cfs_core.specs.declared.service.Core.{Core}
use Rattle.cfs_setup.specs.Lists.{turns_in, count_in}
use Rattle.cfs_law_tree.specs.Drives.{StopsIn, StopsFull}
use Rattle.cfs_law_tree.proofs.Runs.{run-append}

-- as many turns as are counted
pub length-turns_in : (listed : List (Actor × ℕ)) → length (turns_in listed) ≡ count_in listed
length-turns_in [] = refl
length-turns_in (l ∷ listed) = length-append (replicate l.1 l.0) (turns_in listed) ∙ (λ j. length-replicate l.1 l.0 j + length-turns_in listed j)

pub count_in-take : (listed : List (Actor × ℕ)) (i : ℕ) → count_in (take i listed) ≤ count_in listed
count_in-take [] zero = omega arith
count_in-take [] (suc i) = omega arith
count_in-take (l ∷ listed) zero = omega arith
count_in-take (l ∷ listed) (suc i) = let more = count_in-take listed i in omega (arith, more)

plus-one : (i : ℕ) → suc i ≡ i + 1
plus-one i = omega arith

end : (xs : List Actor) → xs ++ [] ≡ xs
end [] = refl
end (x ∷ xs) = ap (λ ys. x ∷ ys) (end xs)

at_item : (listed : List (Actor × ℕ)) (i : ℕ) (d : Actor × ℕ) → i < length listed
    → turns_in listed ≡ turns_in (take i listed) ++ (replicate (get_or listed i d).1 (get_or listed i d).0 ++ turns_in (drop (suc i) listed))
at_item [] i d lt = absurd (omega arith)
at_item (l ∷ listed) zero d lt = refl
at_item (l ∷ listed) (suc i) d lt = ap (λ ts. replicate l.1 l.0 ++ ts) (at_item listed i d (omega arith))
    ∙ sym (append_assoc (replicate l.1 l.0) (turns_in (take i listed)) (replicate (get_or listed i d).1 (get_or listed i d).0 ++ turns_in (drop (suc i) listed)))

-- the turns before an item, those of the item, and those behind it
pub turns_in-at : (listed : List (Actor × ℕ)) (i : ℕ) (d : Actor × ℕ) → i < length listed
    → turns_in listed ≡ turns_in (take i listed) ++ (replicate (get_or listed i d).1 (get_or listed i d).0 ++ turns_in (drop (i + 1) listed))
turns_in-at listed i d lt = subst (λ (n : ℕ). turns_in listed ≡ turns_in (take i listed) ++ (replicate (get_or listed i d).1 (get_or listed i d).0 ++ turns_in (drop n listed))) (plus-one i) (at_item listed i d lt)

more_items : (listed : List (Actor × ℕ)) (i : ℕ) (d : Actor × ℕ) → i < length listed
    → turns_in (take (suc i) listed) ≡ turns_in (take i listed) ++ replicate (get_or listed i d).1 (get_or listed i d).0
more_items [] i d lt = absurd (omega arith)
more_items (l ∷ listed) zero d lt = end (replicate l.1 l.0)
more_items (l ∷ listed) (suc i) d lt = ap (λ ts. replicate l.1 l.0 ++ ts) (more_items listed i d (omega arith))
    ∙ sym (append_assoc (replicate l.1 l.0) (turns_in (take i listed)) (replicate (get_or listed i d).1 (get_or listed i d).0))

-- one more item
pub turns_in-more : (listed : List (Actor × ℕ)) (i : ℕ) (d : Actor × ℕ) → i < length listed
    → turns_in (take (i + 1) listed) ≡ turns_in (take i listed) ++ replicate (get_or listed i d).1 (get_or listed i d).0
turns_in-more listed i d lt = subst (λ (n : ℕ). turns_in (take n listed) ≡ turns_in (take i listed) ++ replicate (get_or listed i d).1 (get_or listed i d).0) (plus-one i) (more_items listed i d lt)

more_counted : (listed : List (Actor × ℕ)) (i : ℕ) (d : Actor × ℕ) → i < length listed → count_in (take (suc i) listed) ≡ count_in (take i listed) + (get_or listed i d).1
more_counted [] i d lt = absurd (omega arith)
more_counted (l ∷ listed) zero d lt = omega arith
more_counted (l ∷ listed) (suc i) d lt = let more = more_counted listed i d (omega arith) in omega (arith, more)

pub count_in-more : (listed : List (Actor × ℕ)) (i : ℕ) (d : Actor × ℕ) → i < length listed → count_in (take (i + 1) listed) ≡ count_in (take i listed) + (get_or listed i d).1
count_in-more listed i d lt = subst (λ (n : ℕ). count_in (take n listed) ≡ count_in (take i listed) + (get_or listed i d).1) (plus-one i) (more_counted listed i d lt)

-- an item and those before it are no more than all
pub count_in-with : (listed : List (Actor × ℕ)) (i : ℕ) (d : Actor × ℕ) → i < length listed → count_in (take i listed) + (get_or listed i d).1 ≤ count_in listed
count_in-with listed i d lt = let more = count_in-more listed i d lt in let all = count_in-take listed (i + 1) in omega (arith, more, all)

-- ---- a stop among some turns is one among more
take-front : (ys zs : List ℕ) (m : ℕ) → m < length ys → take m (ys ++ zs) ≡ take m ys
take-front [] zs m lt = absurd (omega arith)
take-front (y ∷ ys) zs zero lt = refl
take-front (y ∷ ys) zs (suc m) lt = ap (λ ts. y ∷ ts) (take-front ys zs m (omega arith))

take-within : (xs ys zs : List ℕ) (m n : ℕ) → n ≡ length xs + m → m < length ys → take n (xs ++ (ys ++ zs)) ≡ xs ++ take m ys
take-within [] ys zs m n e lt = let same : m ≡ n = omega (arith, e) in subst (λ (k : ℕ). take k (ys ++ zs) ≡ take m ys) same (take-front ys zs m lt)
take-within (x ∷ xs) ys zs m zero e lt = absurd (omega (arith, e))
take-within (x ∷ xs) ys zs m (suc n) e lt = ap (λ ts. x ∷ ts) (take-within xs ys zs m n (omega (arith, e)) lt)

get-front : (ys zs : List Actor) (m : ℕ) (a : Actor) → Some a ≡ slice_get ys m → Some a ≡ slice_get (ys ++ zs) m
get-front [] zs m a e = cc
get-front (y ∷ ys) zs zero a e = e
get-front (y ∷ ys) zs (suc m) a e = get-front ys zs m a e

get-within : (xs ys zs : List Actor) (m n : ℕ) (a : Actor) → n ≡ length xs + m → Some a ≡ slice_get ys m → Some a ≡ slice_get (xs ++ (ys ++ zs)) n
get-within [] ys zs m n a is e = let same : m ≡ n = omega (arith, is) in subst (λ (k : ℕ). Some a ≡ slice_get (ys ++ zs) k) same (get-front ys zs m a e)
get-within (x ∷ xs) ys zs m zero a is e = absurd (omega (arith, is))
get-within (x ∷ xs) ys zs m (suc n) a is e = get-within xs ys zs m n a (omega (arith, is)) e

-- the numbers of these turns
numbers-of : (xs ys zs : List Actor) → map number_in (xs ++ (ys ++ zs)) ≡ map number_in xs ++ (map number_in ys ++ map number_in zs)
numbers-of xs ys zs = map-append number_in xs (ys ++ zs) ∙ ap (λ ts. map number_in xs ++ ts) (map-append number_in ys zs)

pub taken : (all xs ys zs : List Actor) (m : ℕ) → all ≡ xs ++ (ys ++ zs) → m < length (map number_in ys) → take (length xs + m) (map number_in all) ≡ map number_in xs ++ take m (map number_in ys)
taken all xs ys zs m is lt =
    ap (λ ts. take (length xs + m) ts) (ap (map number_in) is ∙ numbers-of xs ys zs)
    ∙ (let numbers = length-map xs number_in in take-within (map number_in xs) (map number_in ys) (map number_in zs) m (length xs + m) (omega (arith, numbers)) lt)

pub early : (all xs ys zs : List Actor) (m : ℕ) → all ≡ xs ++ (ys ++ zs) → m < length (map number_in ys) → length xs + m < length (map number_in all)
early all xs ys zs m is lt =
    let whole = length-map all number_in in
    let part = length-map ys number_in in
    let same = ap length is in
    let front = length-append xs (ys ++ zs) in
    let behind = length-append ys zs in
    omega (arith, whole, part, same, front, behind, lt)

abbrev pub stops-within : (counts : Counts) (all xs ys zs : List Actor) (before mid after : World) → all ≡ xs ++ (ys ++ zs) → mid ≡ run_of counts (map number_in xs) before
    → StopsIn counts (map number_in ys) mid after → StopsIn counts (map number_in all) before after
stops-within counts all xs ys zs before mid after is e stop = record {
  made = length xs + stop.made;
  early = early all xs ys zs stop.made is stop.early;
  so_far = stop.so_far ∙ ap (run_of counts (take stop.made (map number_in ys))) e ∙ sym (run-append counts (map number_in xs) (take stop.made (map number_in ys)) before)
      ∙ sym (ap (λ ts. run_of counts ts before) (taken all xs ys zs stop.made is stop.early));
}

pub full-within : (counts : Counts) (all xs ys zs : List Actor) (before mid : World) (core : Core) (place : PlaceNo) → all ≡ xs ++ (ys ++ zs) → mid ≡ run_of counts (map number_in xs) before
    → StopsFull counts ys mid core place → StopsFull counts all before core place
full-within counts all xs ys zs before mid core place is e full = record {
  stops = stops-within counts all xs ys zs before mid (world_of core) is e full.stops;
  actor = full.actor;
  next = subst (λ ts. Some full.actor ≡ slice_get ts (length xs + full.stops.made)) (sym is) (get-within xs ys zs full.stops.made (length xs + full.stops.made) full.actor refl full.next);
  full = full.full;
}

-- the turns of one more item
pub run-more-rows : (counts : Counts) (listed : List (Actor × ℕ)) (i : ℕ) (d : Actor × ℕ) (w : World) → i < length listed
    → run_of counts (map number_in (turns_in (take (i + 1) listed))) w ≡ run_of counts (map number_in (replicate (get_or listed i d).1 (get_or listed i d).0)) (run_of counts (map number_in (turns_in (take i listed))) w)
run-more-rows counts listed i d w lt =
    ap (λ ts. run_of counts ts w) (ap (map number_in) (turns_in-more listed i d lt) ∙ map-append number_in (turns_in (take i listed)) (replicate (get_or listed i d).1 (get_or listed i d).0))
    ∙ run-append counts (map number_in (turns_in (take i listed))) (map number_in (replicate (get_or listed i d).1 (get_or listed i d).0)) w
