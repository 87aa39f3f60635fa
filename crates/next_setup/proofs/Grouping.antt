-- Where a command goes.
use Rattle.std.proofs.Common.{◌≡◌, ◌≢◌, ℕ, ◌<◌, ◌≤◌, suc, ◌+◌, nat_le, ◌==◌, Bool, true, false, cond, not, List, [], ◌∷◌, ◌++◌, length, get_or, set, refl, ap, sym, ◌∙◌, arith, Some, None}
use Rattle.std.specs.Prelude.{insert, position, slice_index_or, slice_set}
use Rattle.std.specs.List.{position_or_len}
use Rattle.std.proofs.lemmas.Bool.Decides.{nat_tests}
use Rattle.std.proofs.lemmas.List.{get_or_default}
use Rattle.std.proofs.lemmas.List.Sums.{prefix_len-le-length}
use Rattle.next_ids.specs.declared.ids.Client.{Client}
use Rattle.next_walk.specs.declared.command.Command.{Command}
use Rattle.next_setup.specs.Lists.{with_command}

-- the index of the first client that is not below
abbrev place : Client → List (Client × List Command) → ℕ
place c lists = position_or_len (λ list. nat_le c.0 list.0.0) lists

add_at : (c : Client) (x : Command) (y : Client × List Command) (lists : List (Client × List Command)) → place c lists < length lists → get_or lists (place c lists) y ≡ y → y.0.0 ≡ c.0 →
    set lists (place c lists) (y.0, y.1 ++ x ∷ []) ≡ with_command lists c x
add_at c x y [] few there same = absurd (omega arith)
add_at c x y (l ∷ ls) few there same = by_test (nat_le c.0 l.0.0) few there (add_at c x y ls)
  where
    by_test : (b : Bool) → cond (not b) (1 + place c ls) 0 < suc (length ls) → get_or (l ∷ ls) (cond (not b) (1 + place c ls) 0) y ≡ y →
        (place c ls < length ls → get_or ls (place c ls) y ≡ y → y.0.0 ≡ c.0 → set ls (place c ls) (y.0, y.1 ++ x ∷ []) ≡ with_command ls c x) →
        set (l ∷ ls) (cond (not b) (1 + place c ls) 0) (y.0, y.1 ++ x ∷ []) ≡ cond b (cond (l.0.0 == c.0) ((l.0, l.1 ++ x ∷ []) ∷ ls) ((c, x ∷ []) ∷ l ∷ ls)) (l ∷ with_command ls c x)
    by_test true few there rest = let is : (l.0.0 == c.0) ≡ true = grind (arith, nat_tests) in rw (is, there) refl
    by_test false few there rest = let next : 1 + place c ls ≡ suc (place c ls) = omega arith in
        rw next (ap (λ more. l ∷ more) (rest (omega arith) (rw next at there) same))

insert_at : (c : Client) (x : Command) (lists : List (Client × List Command)) (d : Client × List Command) → (place c lists < length lists → (get_or lists (place c lists) d).0.0 ≢ c.0) →
    insert lists (place c lists) (c, x ∷ []) ≡ with_command lists c x
insert_at c x [] d other = refl
insert_at c x (l ∷ ls) d other = by_test (nat_le c.0 l.0.0) other (insert_at c x ls d)
  where
    by_test : (b : Bool) → (cond (not b) (1 + place c ls) 0 < suc (length ls) → (get_or (l ∷ ls) (cond (not b) (1 + place c ls) 0) d).0.0 ≢ c.0) →
        ((place c ls < length ls → (get_or ls (place c ls) d).0.0 ≢ c.0) → insert ls (place c ls) (c, x ∷ []) ≡ with_command ls c x) →
        insert (l ∷ ls) (cond (not b) (1 + place c ls) 0) (c, x ∷ []) ≡ cond b (cond (l.0.0 == c.0) ((l.0, l.1 ++ x ∷ []) ∷ ls) ((c, x ∷ []) ∷ l ∷ ls)) (l ∷ with_command ls c x)
    by_test true other rest = let differ = other (omega arith) in let is : (l.0.0 == c.0) ≡ false = grind (arith, nat_tests) in rw is refl
    by_test false other rest = let next : 1 + place c ls ≡ suc (place c ls) = omega arith in
        rw next (ap (λ more. l ∷ more) (rest (λ few. (rw next at other) (omega arith))))

-- a client that is there
pub add_known : (lists : List (Client × List Command)) (i : ℕ) (c : Client) (x : Command) (y z : Client × List Command) → Some i ≡ position (λ list. nat_le c.0 list.0.0) lists → y ≡ slice_index_or lists i y → z ≡ slice_index_or lists i z → z.0.0 ≡ c.0 →
    slice_set lists i (y.0, y.1 ++ x ∷ []) ≡ with_command lists c x
add_known lists i c x y z found there seen same =
    let few : place c lists < length lists = grind (arith, nat_tests) in
    let is : place c lists ≡ i = grind (arith, nat_tests) in
    let low : i < length lists = omega arith in
    let one : y ≡ z = there ∙ get_or_default lists i y z low ∙ sym seen in
    let known : y.0.0 ≡ c.0 = ap (λ (e : Client × List Command). e.0.0) one ∙ same in
    let is_there : get_or lists (place c lists) y ≡ y = rw is (sym there) in
    rw (← is) (add_at c x y lists few is_there known)

-- a new client behind all that are there
pub add_last : (lists : List (Client × List Command)) (c : Client) (x : Command) → None ≡ position (λ list. nat_le c.0 list.0.0) lists →
    insert lists (length lists) (c, x ∷ []) ≡ with_command lists c x
add_last lists c x none =
    let bound = prefix_len-le-length (λ (list : Client × List Command). not (nat_le c.0 list.0.0)) lists in
    let past : length lists ≤ place c lists = grind (arith, nat_tests) in
    let is : place c lists ≡ length lists = omega (arith, bound) in
    rw (← is) (insert_at c x lists (c, []) (λ few. absurd (omega (arith, few, is))))

-- a new client before one that is there
pub add_before : (lists : List (Client × List Command)) (i : ℕ) (c : Client) (x : Command) (y : Client × List Command) → Some i ≡ position (λ list. nat_le c.0 list.0.0) lists → y ≡ slice_index_or lists i y → y.0.0 ≢ c.0 →
    insert lists i (c, x ∷ []) ≡ with_command lists c x
add_before lists i c x y found there other =
    let is : place c lists ≡ i = grind (arith, nat_tests) in
    let is_there : get_or lists (place c lists) y ≡ y = rw is (sym there) in
    rw (← is) (insert_at c x lists y (λ few. rw is_there other))

pub ruleset grouping = (add_known, add_last, add_before)
