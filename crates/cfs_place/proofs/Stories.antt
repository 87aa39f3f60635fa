-- What a view says of the cell's story.
use Rattle.std.proofs.Common.{◌≡◌, ◌≢◌, ℕ, zero, suc, true, false, List, [], ◌∷◌, set, Option, Some, None, refl, sym, ap, ◌∙◌, subst, ⊎_elim, inl, inr, arith}
use Rattle.std.proofs.lemmas.Bool.Decides.{nat_tests}
use mathlib.Core.Option.{some, some-injective, some-ne-none}
use lib.ListN.{get_elem?}
use Rattle.crossbeam_queue.proofs.Lists.{at_set}
use Rattle.cfs_place.specs.declared.views.Stage.TheVariants.{Live}
use Rattle.cfs_place.specs.declared.views.View.{View}
use Rattle.std.specs.Prelude.{is_some}
use Rattle.cfs_place.specs.Logs.{is_in}
use Rattle.cfs_place.specs.Views.{fresh, HasFixed}
use Rattle.cfs_place.specs.Rule.{Story, content, taken_by, Fits, Tells, Kept}

module _ {V : Type 0} where
  pub only : (w v : V) (pass : ℕ) → get_elem? (w ∷ []) pass ≡ some v → (w ≡ v) × (pass ≡ 0)
  only w v zero at = (some-injective w v at, refl)
  only w v (suc pass) at = absurd (some-ne-none v (sym at))

  pub set_there : (views : List V) (pass : ℕ) (v w : V) → get_elem? views pass ≡ some v → get_elem? (set views pass w) pass ≡ some w
  set_there [] pass v w at = absurd (some-ne-none v (sym at))
  set_there (u ∷ us) zero v w at = refl
  set_there (u ∷ us) (suc pass) v w at = set_there us pass v w at

  -- what holds of each pass after one changed
  pub each_set : (F : ℕ → V → Type 0) (views : List V) (pass : ℕ) (w : V) → F pass w → ((j : ℕ) (u : V) → j ≢ pass → get_elem? views j ≡ some u → F j u)
      → (j : ℕ) (u : V) → get_elem? (set views pass w) j ≡ some u → F j u
  each_set F views pass w mine others j u at = ⊎_elim (λ (h : (j ≡ pass) × (w ≡ u)). subst (λ (y : ℕ × V). F y.0 y.1) (λ i. (sym h.0 i, h.1 i)) mine)
      (λ (h : (j ≢ pass) × (get_elem? views j ≡ some u)). others j u h.0 h.1) (at_set views pass j w u at)

module _ {T : Type 0} where
  pub content-one : (holder : Option ℕ) (value x : T) (items : List T) → x ∷ items ≡ content holder value → (holder ≡ None) × (value ≡ x) × (items ≡ [])
  content-one None value x items e = (refl, cc, cc)
  content-one (Some h) value x items e = absurd cc

  pub content-none : (holder : Option ℕ) (value : T) (items : List T) → items ≡ content holder value → items ≡ [] → (h : ℕ) × (holder ≡ Some h)
  content-none None value items e none = absurd cc
  content-none (Some h) value items e none = (h, refl)

  pub taken_by-holder : (h : ℕ) (value : T) → taken_by (Some h) value h ≡ Some value
  taken_by-holder h value = grind (arith, nat_tests)

  pub taken_by-other : (h pass : ℕ) (value : T) → pass ≢ h → taken_by (Some h) value pass ≡ None
  taken_by-other h pass value differ = grind (arith, nat_tests)

  pub holder_is : (holder : Option ℕ) (value : T) (pass : ℕ) (x : T) → taken_by holder value pass ≡ Some x → (holder ≡ Some pass) × (value ≡ x)
  holder_is None value pass x e = absurd cc
  holder_is (Some h) value pass x e = let there : h ≡ pass = grind (arith, nat_tests) in (ap Some there, grind (arith, nat_tests))

  pub some_taken : (taken : Option T) → is_some taken ≡ true → (x : T) × (taken ≡ Some x)
  some_taken None is = absurd cc
  some_taken (Some x) is = (x, refl)

module _ {T E F : Type 0} (log : T → List E) (maker : E → ℕ) (fixed : T → F) where
  -- a cell with a pass in use has a story
  pub story : (items : List T) (views : List (View T E)) (pass : ℕ) (v : View T E) → Kept log maker fixed items views → get_elem? views pass ≡ some v → v.stage ≡ Live
      → (s : Story T E) × Tells log maker fixed s items views
  story items views pass v (inl new) at live = let first = only fresh v pass (ap (λ l. get_elem? l pass) (sym new.1) ∙ at) in absurd (let same = ap (λ (u : View T E). u.stage) first.0 in cc)
  story items views pass v (inr told) at live = told

  -- passes in use have different numbers
  pub apart : (s : Story T E) (i j : ℕ) (v w : View T E) → Fits log maker fixed s i v → Fits log maker fixed s j w → i ≢ j → v.by ≢ w.by
  apart s i j v w f g differ same = differ (sym f.alone ∙ ap s.seat same ∙ g.alone)

  -- what was joined in, or never given out, is no number of a pass in use
  pub not_back : (s : Story T E) (pass : ℕ) (v : View T E) → Fits log maker fixed s pass v → (n : ℕ) → is_in n s.out ≡ false → n ≢ s.own → n ≢ v.by
  not_back s pass v f n back other same = elim v.leads as (λ b. v.leads ≡ b → ⊥) [ true ↦ λ leads. other (same ∙ (f.as_first leads).0) | false ↦ λ follows. let mine = f.as_other follows in let there = ap (λ m. is_in m s.out) same in cc ] refl

  pub same_fixed : (s : Story T E) (pass : ℕ) (v : View T E) → Fits log maker fixed s pass v → fixed s.value ≡ fixed s.start → HasFixed fixed v s.value
  same_fixed s pass v f same = subst (λ o. HasFixed fixed (record v { start = o }) s.value) (sym f.origin) same

  -- one pass leads
  pub follows : (s : Story T E) (i j : ℕ) (v w : View T E) → Fits log maker fixed s i v → Fits log maker fixed s j w → i ≢ j → v.leads ≡ true → w.leads ≡ false
  follows s i j v w f g differ leads = elim w.leads as (λ b. w.leads ≡ b → b ≡ false) [ true ↦ λ both. absurd (apart s i j v w f g differ ((f.as_first leads).0 ∙ sym (g.as_first both).0)) | false ↦ λ _. refl ] refl
