-- The components of a path, read one after another.
use Rattle.std.proofs.Common.{◌≡◌, ◌≢◌, ℕ, ◌<◌, ◌≤◌, true, false, ◌&&◌, List, [], ◌∷◌, ◌++◌, length, take, drop, get_or, ◌-◌, Some, None, refl, sym, ap, ◌∙◌, arith, eqb, nat_le, nat_lt, IsTrue, inl, inr}
use Rattle.std.specs.List.{list_all, slice_split, onto_first}
use Rattle.std.proofs.lemmas.List.{length-append, take_rest}
use Rattle.std.proofs.lemmas.List.Folds.{list_all-append}
use Rattle.std.proofs.lemmas.List.Splits.{slice_split-cons_no}
use Rattle.std.proofs.lemmas.Bool.{and_cases, and_from, and_left, and_parts, and_right, cond-false, cond-true, le-leb, lt-leb, ltb-false, ltb-true, ne_eqb}
use Rattle.next_ids.specs.Names.{is_allowed}
use Rattle.next_grammar.specs.Paths.{components_of, is_component, path_of}
use Rattle.next_grammar.specs.Words.{pieces}

-- the bytes of a component are allowed
pub component-allowed : (name : List ℕ) → is_component name ≡ true → IsTrue (list_all is_allowed name)
unfolding is_component
component-allowed name h = (and_parts _ _ (and_parts _ _ h).0).1

-- 1 to 64 components
components_of-some : (parts : List (List ℕ)) → 0 < length parts → length parts ≤ 64 → list_all is_component parts ≡ true → components_of ([] ∷ parts) ≡ Some parts
unfolding components_of
components_of-some [] some few all = absurd (omega arith)
components_of-some (first ∷ more) some few all =
    cond-true _ _ _ (and_from (nat_le (length (first ∷ more)) 64) (list_all is_component (first ∷ more)) (le-leb (length (first ∷ more)) 64 few) all)

-- too many parts, or one that is no component
components_of-none : (parts : List (List ℕ)) → (nat_le (length parts) 64 && list_all is_component parts) ≡ false → components_of ([] ∷ parts) ≡ None
unfolding components_of
components_of-none [] h = refl
components_of-none (first ∷ more) h = cond-false _ _ _ h

-- a part that is no component, or stands behind 64
components_of-bad : (path more : List (List ℕ)) (name : List ℕ) → (is_component name && nat_lt (length path) 64) ≡ false → components_of ([] ∷ (path ++ name ∷ more)) ≡ None
components_of-bad path more name h = elim (and_cases (is_component name) (nat_lt (length path) 64) h) [
  | inl bad ↦ components_of-none (path ++ name ∷ more) (and_right (nat_le (length (path ++ name ∷ more)) 64) (list_all is_component (path ++ name ∷ more))
      (list_all-append is_component path (name ∷ more) ∙ and_right (list_all is_component path) (is_component name && list_all is_component more) (and_left (is_component name) (list_all is_component more) bad)))
  | inr full ↦
      let many : 64 ≤ length path = ltb-false (length path) 64 full in
      components_of-none (path ++ name ∷ more) (and_left (nat_le (length (path ++ name ∷ more)) 64) (list_all is_component (path ++ name ∷ more))
      (lt-leb (length (path ++ name ∷ more)) 64 (omega (arith, length-append path (name ∷ more)))))
]

-- what was read so far stands before what is left
pub record IsRead (text rest : List ℕ) (path : List (List ℕ)) : Type 0 where
  pub same : pieces 47 text ≡ path ++ pieces 47 rest
  pub each : list_all is_component path ≡ true

module _ (text rest : List ℕ) (path : List (List ℕ)) (read : IsRead text rest path) where
  -- the next part does not fit
  pub one_bad : (name : List ℕ) (more : List (List ℕ)) → pieces 47 rest ≡ name ∷ more → (is_component name && nat_lt (length path) 64) ≡ false → components_of ([] ∷ pieces 47 text) ≡ None
  one_bad name more cut bad =
      ap (λ (ps : List (List ℕ)). components_of ([] ∷ ps)) (read.same ∙ ap (λ (ps : List (List ℕ)). path ++ ps) cut) ∙ components_of-bad path more name bad

  -- the last part fits
  pub all_read : pieces 47 rest ≡ rest ∷ [] → (is_component rest && nat_lt (length path) 64) ≡ true → components_of ([] ∷ pieces 47 text) ≡ Some (path ++ rest ∷ [])
  all_read cut fits =
      let parts = and_parts (is_component rest) (nat_lt (length path) 64) fits in
      let few : length path < 64 = ltb-true (length path) 64 parts.1 in
      let long = length-append path (rest ∷ []) in
      ap (λ (ps : List (List ℕ)). components_of ([] ∷ ps)) (read.same ∙ ap (λ (ps : List (List ℕ)). path ++ ps) cut)
      ∙ components_of-some (path ++ rest ∷ []) (omega arith) (omega arith)
      (list_all-append is_component path (rest ∷ []) ∙ and_from (list_all is_component path) (is_component rest && true) read.each (and_from (is_component rest) true parts.0 refl))

-- ---- what stands in front

-- a text that is short enough
short-path : (text : List ℕ) → length text ≤ 1024 → path_of text ≡ components_of (pieces 47 text)
unfolding path_of
short-path text h = cond-true _ _ _ (le-leb (length text) 1024 h)

-- a slash in front
pub path_of-slash : (text : List ℕ) → 0 < length text → get_or text 0 0 ≡ 47 → length text ≤ 1024 → path_of text ≡ components_of ([] ∷ pieces 47 (take (length text - 1) (drop 1 text)))
unfolding pieces
path_of-slash [] some slash h = absurd (omega arith)
path_of-slash (x ∷ rest) some slash h =
    let first : x ≡ 47 = slash in
    short-path (x ∷ rest) h ∙ ap (λ y. components_of (pieces 47 (y ∷ rest))) first
    ∙ ap (λ (t : List ℕ). components_of ([] ∷ pieces 47 t)) (sym (take_rest (x ∷ rest) 1))

-- another byte in front
onto_first-none : (x : ℕ) (parts : List (List ℕ)) → components_of (onto_first x parts) ≡ None
unfolding components_of
onto_first-none x [] = refl
onto_first-none x (part ∷ parts) = refl

-- no slash in front
pub path_of-other : (text : List ℕ) → get_or text 0 0 ≢ 47 → length text ≤ 1024 → path_of text ≡ None
unfolding path_of components_of pieces
path_of-other [] other h = refl
path_of-other (x ∷ rest) other h =
    short-path (x ∷ rest) h ∙ ap components_of (slice_split-cons_no (λ b. eqb b 47) x rest (ne_eqb x 47 other))
    ∙ onto_first-none x (slice_split (λ b. eqb b 47) rest)
