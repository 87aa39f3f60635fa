-- A directory that no row lies in counts no rows.
use Rattle.std.proofs.Common.{◌≡◌, ℕ, List, [], ◌∷◌, Bool, true, false, cond, refl, sym, ◌∙◌, ap, arith}
use Rattle.std.specs.Prelude.{◌||◌, ◌&&◌, Some, None}
use Rattle.std.proofs.lemmas.Bool.Decides.{nat_tests}
use Rattle.std.specs.List.{list_any}
use Rattle.std.specs.Ordering.{nat_cmp, is_eq}
use Rattle.std.proofs.lemmas.Cmp.{tied_itself}
use Rattle.std.specs.Cmp.Lexicographic.{slice_cmp, nat_list_cmp_total}
use Rattle.std.specs.FinMap.{get, entries, find, get-entries}
use Rattle.next_ids.specs.Maps.{lies_in, how_many}
use Rattle.next_ids.specs.Namespace.{is_dir}
use Rattle.next_steps.specs.declared.contents.Row.{Row}
use Rattle.next_rules.specs.Contents.{Shard}

-- an entry whose key passes is found
record Found (p : List ℕ → Bool) (es : List (List ℕ × Row)) : Type 0 where
  key : List ℕ
  row : Row
  there : find (slice_cmp nat_cmp) key es ≡ Some row
  passes : p key ≡ true

found : (p : List ℕ → Bool) (es : List (List ℕ × Row)) → list_any (λ e. p e.0) es ≡ true → Found p es
found p [] h = cc
found p (x ∷ es) h = by_test (p x.0) refl h (found p es)
  where
    later : Found p es → Found p (x ∷ es)
    later f = record { key = f.key; row = cond (is_eq (slice_cmp nat_cmp f.key x.0)) x.1 f.row; there = rw f.there (either (is_eq (slice_cmp nat_cmp f.key x.0)) x.1 f.row); passes = f.passes }
      where
        either : (b : Bool) (u v : Row) → cond b (Some u) (Some v) ≡ Some (cond b u v)
        either true u v = refl
        either false u v = refl

    by_test : (b : Bool) → p x.0 ≡ b → (b || list_any (λ e. p e.0) es) ≡ true → (list_any (λ e. p e.0) es ≡ true → Found p es) → Found p (x ∷ es)
    by_test true e h rest = record { key = x.0; row = x.1; there = rw (tied_itself nat_list_cmp_total x.0) refl; passes = e }
    by_test false e h rest = later (rest h)

none_pass : {X : Type 0} (p q : X → Bool) (es : List X) → list_any p es ≡ false → ((x : X) → p x ≡ false → q x ≡ false) → how_many q es ≡ 0
none_pass p q [] h below = refl
none_pass p q (x ∷ es) h below = grind (arith, none_pass p q es, below x)

pub none_in : (shard : Shard) (d : ℕ) → ((name : List ℕ) → get shard.rows (d ∷ name) ≡ None) → list_any (λ e. lies_in d e.0) (entries shard.rows) ≡ false
none_in shard d none = by_test (list_any (λ e. lies_in d e.0) (entries shard.rows)) refl
  where
    by_key : (k : List ℕ) (row : Row) → find (slice_cmp nat_cmp) k (entries shard.rows) ≡ Some row → lies_in d k ≡ true → ⊥
    by_key [] row e h = cc
    by_key (x ∷ name) row e h =
        let same : x ≡ d = grind (arith, nat_tests) in
        let gone = none name in
        let there : get shard.rows (d ∷ name) ≡ Some row = ap (λ k. get shard.rows (k ∷ name)) (sym same) ∙ get-entries shard.rows (x ∷ name) ∙ e in
        cc

    by_test : (b : Bool) → list_any (λ e. lies_in d e.0) (entries shard.rows) ≡ b → b ≡ false
    by_test true e = let f = found (lies_in d) (entries shard.rows) e in absurd (by_key f.key f.row f.there f.passes)
    by_test false e = refl

and_false : (a b : Bool) → a ≡ false → (a && b) ≡ false
and_false a b e = rw e refl

-- so both counts of it are 0
pub no_children : (shard : Shard) (d : ℕ) → ((name : List ℕ) → get shard.rows (d ∷ name) ≡ None) → how_many (λ e. lies_in d e.0) (entries shard.rows) ≡ 0
no_children shard d none = none_pass (λ e. lies_in d e.0) (λ e. lies_in d e.0) (entries shard.rows) (none_in shard d none) (λ x e. e)

pub no_subdirs : (shard : Shard) (d : ℕ) → ((name : List ℕ) → get shard.rows (d ∷ name) ≡ None) → how_many (λ e. lies_in d e.0 && is_dir e.1.node) (entries shard.rows) ≡ 0
no_subdirs shard d none = none_pass (λ e. lies_in d e.0) (λ e. lies_in d e.0 && is_dir e.1.node) (entries shard.rows) (none_in shard d none) (λ x e. and_false (lies_in d x.0) (is_dir x.1.node) e)
