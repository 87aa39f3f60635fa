-- A number given out, a pass joined in, and the end of a cell.
use Rattle.std.proofs.Common.{◌≡◌, ◌≢◌, ◌⊎◌, ℕ, zero, suc, true, false, List, [], ◌∷◌, ◌++◌, length, set, Option, Some, None, refl, sym, ap, ◌∙◌, subst, ⊎_elim, inl, inr, arith, ltb}
use Rattle.std.proofs.lemmas.Bool.Decides.{nat_tests}
use mathlib.Core.Option.{some, some-injective, some-ne-none}
use lib.ListN.{get_elem?}
use Rattle.std.specs.Prelude.{◌==◌, if◌then◌else◌}
use Rattle.crossbeam_queue.proofs.Lists.{at_set, set_else, at_longer}
use Rattle.crossbeam_queue.specs.Fifo.{Pops, Forks, Merges, Learns}
use Rattle.cfs_place.specs.declared.views.Stage.TheVariants.{Live}
use Rattle.cfs_place.specs.declared.views.View.{View}
use Rattle.cfs_place.specs.Logs.{StartsWith, is_in, without, list_of, has_list, entries_by}
use Rattle.cfs_place.specs.Views.{spent, gave_out, newcomer, joined, HasFixed, IsNew}
use Rattle.cfs_place.specs.Rule.{Story, taken_by, Fits, Sits, Kept, IsWhole}
use Rattle.cfs_place.proofs.Entries.{is_in-without, list_of-new}
use Rattle.cfs_place.proofs.Stories.{set_there, each_set, content-one, content-none, taken_by-holder, taken_by-other, story, apart, follows}
use Rattle.cfs_place.proofs.Takes.{takes}

module _ {V : Type 0} where
  at_more : (views : List V) (w u : V) (j : ℕ) → get_elem? (views ++ w ∷ []) j ≡ some u → (get_elem? views j ≡ some u) ⊎ ((j ≡ length views) × (w ≡ u))
  at_more [] w u zero at = inr (refl, some-injective w u at)
  at_more [] w u (suc j) at = absurd (some-ne-none u (sym at))
  at_more (v ∷ vs) w u zero at = inl at
  at_more (v ∷ vs) w u (suc j) at = ⊎_elim (λ x. inl x) (λ x. inr (ap suc x.0, x.1)) (at_more vs w u j at)

  -- what holds of each pass, with one more
  each_more : (F : ℕ → V → Type 0) (views : List V) (w : V) → ((j : ℕ) (u : V) → get_elem? views j ≡ some u → F j u) → F (length views) w → (j : ℕ) (u : V) → get_elem? (views ++ w ∷ []) j ≡ some u → F j u
  each_more F views w old new j u at = ⊎_elim (λ x. old j u x) (λ (x : (j ≡ length views) × (w ≡ u)). subst (λ (y : ℕ × V). F y.0 y.1) (λ i. (sym x.0 i, x.1 i)) new) (at_more views w u j at)

  before_end : (views : List V) (w : V) (j : ℕ) → get_elem? views j ≡ some w → j ≢ length views
  before_end [] w j at = absurd (some-ne-none w (sym at))
  before_end (v ∷ vs) w zero at = λ e. omega arith
  before_end (v ∷ vs) w (suc j) at = let less = before_end vs w j at in λ e. less (omega arith)

module _ {T E F : Type 0} (log : T → List E) (maker : E → ℕ) (fixed : T → F) where
  -- the story once a number was given out, with a new pass
  abbrev more : Story T E → ℕ → ℕ → Story T E
  more s n pass = record s { out = n ∷ s.out; seat = λ m. if m == n then pass else s.seat m }

  -- a pass in use has another number than a new one
  not_new : (s : Story T E) (j : ℕ) (v u : View T E) (n : ℕ) → IsNew n v → (v.by ≡ s.own) × (v.out ≡ s.out) × (v.kept ≡ s.kept) → Fits log maker fixed s j u → u.by ≢ n
  not_new s j v u n new first f same = elim u.leads as (λ b. u.leads ≡ b → ⊥) [
    | true ↦ λ leads. new.0 (sym same ∙ (f.as_first leads).0 ∙ sym first.0)
    | false ↦ λ follows. let mine = f.as_other follows in let none = new.1 in let there = ap (λ m. is_in m s.out) same in let here = ap (λ o. is_in n o) first.1 in cc
  ] refl

  grown : (s : Story T E) (j : ℕ) (u : View T E) (n pass : ℕ) → u.by ≢ n → u.leads ≡ false → Fits log maker fixed s j u → Fits log maker fixed (more s n pass) j u
  grown s j u n pass differ follows f = record {
    alone = (let a = f.alone in grind (arith, nat_tests));
    origin = f.origin;
    holds = f.holds;
    whole = f.whole;
    beginning = f.beginning;
    own_list = f.own_list;
    as_first = λ leads. absurd cc;
    as_other = λ _. (let mine = f.as_other follows in grind (arith, nat_tests));
  }

  giver : (s : Story T E) (pass : ℕ) (v : View T E) (n end : ℕ) → v.leads ≡ true → v.by ≢ n → Fits log maker fixed s pass v → Fits log maker fixed (more s n end) pass (gave_out n v)
  giver s pass v n end leads differ f = record {
    alone = (let a = f.alone in grind (arith, nat_tests));
    origin = f.origin;
    holds = f.holds;
    whole = f.whole;
    beginning = f.beginning;
    own_list = f.own_list;
    as_first = λ _. ((f.as_first leads).0, ap (λ o. n ∷ o) (f.as_first leads).1, (f.as_first leads).2);
    as_other = λ follows. absurd cc;
  }

  receiver : (s : Story T E) (pass : ℕ) (v : View T E) (n end : ℕ) → v.leads ≡ true → IsNew n v → Fits log maker fixed s pass v
      → ((m : ℕ) → is_in m s.out ≡ false → m ≢ s.own → entries_by maker m (log s.value) ≡ list_of m s.kept) → taken_by s.holder s.value end ≡ None → Fits log maker fixed (more s n end) end (newcomer n v)
  receiver s pass v n end leads new f back nothing = let first = f.as_first leads in record {
    alone = grind (arith, nat_tests);
    origin = f.origin;
    holds = sym nothing;
    whole = λ x e. absurd cc;
    beginning = f.beginning;
    own_list = back n (ap (λ o. is_in n o) (sym first.1) ∙ new.1) (λ e. new.0 (e ∙ sym first.0)) ∙ list_of-new n s.kept (ap (λ k. has_list n k) (sym first.2) ∙ new.2);
    as_first = λ e. absurd cc;
    as_other = λ _. grind (arith, nat_tests);
  }

  -- a pass of the story that is in use
  abbrev There : List (View T E) → ℕ → Type 0
  There views h = (w : View T E) × (get_elem? views h ≡ some w) × (w.stage ≡ Live)

  still_there : (views : List (View T E)) (pass h : ℕ) (v w : View T E) → get_elem? views pass ≡ some v → w.stage ≡ Live → There views h → There (set views pass w) h
  still_there views pass h v w at live old = elim (h == pass) as (λ b. (h == pass) ≡ b → There (set views pass w) h) [
    | true ↦ λ same. (w, subst (λ i. get_elem? (set views pass w) i ≡ some w) (let e : pass ≡ h = grind (arith, nat_tests) in e) (set_there views pass v w at), live)
    | false ↦ λ differ. (old.0, set_else views pass h w (let e : h ≢ pass = grind (arith, nat_tests) in e) ∙ old.1, old.2)
  ] refl

  not_taken : (holder : Option ℕ) (value : T) (pass : ℕ) → ((h : ℕ) → holder ≡ Some h → h ≢ pass) → taken_by holder value pass ≡ None
  not_taken None value pass other = refl
  not_taken (Some h) value pass other = taken_by-other h pass value (λ e. other h refl (sym e))

  pub forks : (pass : ℕ) (v : View T E) (n : ℕ) → v.stage ≡ Live → v.leads ≡ true → IsNew n v → Forks (Kept log maker fixed) pass v (gave_out n v) (newcomer n v)
  forks pass v n live leads new items views h at =
      let told = story log maker fixed items views pass v h at live in
      let s = told.0 in let t = told.1 in
      let f = (t.sits pass v at).1 live in
      let l : View T E = gave_out n v in let r : View T E = newcomer n v in
      let vs : List (View T E) = set views pass l in
      let end : ℕ = length vs in
      let mine : Sits log maker fixed (more s n end) pass l = ((λ e. let k = live in cc), λ _. giver s pass v n end leads (λ e. new.0 (sym e)) f) in
      let others : (j : ℕ) (u : View T E) → j ≢ pass → get_elem? views j ≡ some u → Sits log maker fixed (more s n end) j u = λ j u differ there. (
        (t.sits j u there).0,
        λ on. let g = (t.sits j u there).1 on in grown s j u n end (not_new s j v u n new (f.as_first leads) g) (follows log maker fixed s pass j v u f g (λ e. differ (sym e)) leads) g,
      ) in
      let here : (h : ℕ) → s.holder ≡ Some h → There vs h = λ h is. still_there views pass h v l at live (t.held h is) in
      let nothing : taken_by s.holder s.value end ≡ None = not_taken s.holder s.value end (λ h is. before_end vs (here h is).0 h (here h is).1) in
      inr (
        more s n end,
        record {
          there = t.there;
          same_fixed = t.same_fixed;
          back = λ m out own. t.back m (grind (arith, nat_tests)) own;
          held = λ h is. ((here h is).0, at_longer vs (r ∷ []) h (here h is).0 (here h is).1, (here h is).2);
          sits = each_more (Sits log maker fixed (more s n end)) vs r (each_set (Sits log maker fixed (more s n end)) views pass l mine others) ((λ e. cc), λ _. receiver s pass v n end leads new f t.back nothing);
        },
      )

  -- the story once a pass was joined in
  abbrev fewer : Story T E → View T E → Story T E
  fewer s w = record s { out = without w.by s.out; kept = (w.by, w.made) ∷ s.kept }

  joiner : (s : Story T E) (pass other : ℕ) (v w : View T E) → v.leads ≡ true → v.taken ≡ None → Fits log maker fixed s pass v → Fits log maker fixed s other w → Fits log maker fixed (fewer s w) pass (joined v w)
  joiner s pass other v w leads nothing f g = record {
    alone = f.alone;
    origin = f.origin;
    holds = f.holds;
    whole = λ x e. (let none = nothing in absurd cc);
    beginning = elim (ltb (length v.seen) (length w.seen)) as (λ b. StartsWith (log s.value) (if b then w.seen else v.seen)) [ true ↦ g.beginning | false ↦ f.beginning ];
    own_list = f.own_list;
    as_first = λ _. ((f.as_first leads).0, ap (without w.by) (f.as_first leads).1, ap (λ k. (w.by, w.made) ∷ k) (f.as_first leads).2);
    as_other = λ follows. absurd cc;
  }

  stayer : (s : Story T E) (j : ℕ) (u w : View T E) → u.leads ≡ false → u.by ≢ w.by → Fits log maker fixed s j u → Fits log maker fixed (fewer s w) j u
  stayer s j u w follows differ f = record {
    alone = f.alone;
    origin = f.origin;
    holds = f.holds;
    whole = f.whole;
    beginning = f.beginning;
    own_list = f.own_list;
    as_first = λ leads. absurd cc;
    as_other = λ _. is_in-without w.by u.by s.out differ ∙ f.as_other follows;
  }

  one_back : (s : Story T E) (other : ℕ) (w : View T E) → Fits log maker fixed s other w → ((n : ℕ) → is_in n s.out ≡ false → n ≢ s.own → entries_by maker n (log s.value) ≡ list_of n s.kept)
      → (n : ℕ) → is_in n (without w.by s.out) ≡ false → n ≢ s.own → entries_by maker n (log s.value) ≡ list_of n ((w.by, w.made) ∷ s.kept)
  one_back s other w g back n out own = elim (w.by == n) as (λ b. (w.by == n) ≡ b → entries_by maker n (log s.value) ≡ (if b then w.made else list_of n s.kept)) [
    | true ↦ λ same. let e : w.by ≡ n = grind (arith, nat_tests) in ap (λ m. entries_by maker m (log s.value)) (sym e) ∙ g.own_list
    | false ↦ λ differ. back n (sym (is_in-without w.by n s.out (let e : n ≢ w.by = grind (arith, nat_tests) in e)) ∙ out) own
  ] refl

  pub merges : (pass : ℕ) (v : View T E) (other : ℕ) (w : View T E) → v.stage ≡ Live → v.leads ≡ true → v.taken ≡ None → w.stage ≡ Live → w.taken ≡ None
      → Merges (Kept log maker fixed) pass v other w (joined v w) spent
  merges pass v other w live leads nothing live' nothing' items views h at two at' =
      let told = story log maker fixed items views pass v h at live in
      let s = told.0 in let t = told.1 in
      let f = (t.sits pass v at).1 live in
      let both : View T E = joined v w in
      let vs : List (View T E) = set views pass both in
      let was : get_elem? views other ≡ some w = ⊎_elim (λ x. absurd (two x.0)) (λ x. x.1) (at_set views pass other both w at') in
      let g = (t.sits other w was).1 live' in
      let After : ℕ → View T E → Type 0 = λ j u. j ≢ other → Sits log maker fixed (fewer s w) j u in
      let now : (j : ℕ) (u : View T E) → get_elem? vs j ≡ some u → After j u = each_set After views pass both (λ _. ((λ e. let k = live in cc), λ _. joiner s pass other v w leads nothing f g))
      (λ j u differ there apart'. (
        (t.sits j u there).0,
        λ on. let k = (t.sits j u there).1 on in
            stayer s j u w (follows log maker fixed s pass j v u f k (λ e. differ (sym e)) leads) (apart log maker fixed s j other u w k g apart') k,
      )) in
      let free : (h : ℕ) → s.holder ≡ Some h → h ≢ other = λ h is same. let has : w.taken ≡ Some s.value = g.holds ∙ ap (λ o. taken_by o s.value other) (is ∙ ap Some same) ∙ taken_by-holder other s.value in cc in
      let here : (h : ℕ) → s.holder ≡ Some h → There vs h = λ h is. still_there views pass h v both at live (t.held h is) in
      inr (
        fewer s w,
        record {
          there = t.there;
          same_fixed = t.same_fixed;
          back = one_back s other w g t.back;
          held = λ h is. ((here h is).0, set_else vs other h spent (free h is) ∙ (here h is).1, (here h is).2);
          sits = each_set (Sits log maker fixed (fewer s w)) vs other spent ((λ e. cc), λ e. absurd cc) (λ j u differ there. now j u there differ);
        },
      )

  -- once no pass is out and the first holds nothing, the queue holds the value
  pub learns_full : (pass : ℕ) (v : View T E) → v.stage ≡ Live → v.leads ≡ true → v.taken ≡ None → v.out ≡ [] → Learns (Kept log maker fixed) pass v (λ items. items ≢ [])
  learns_full pass v live leads nothing out items views h at none =
      let told = story log maker fixed items views pass v h at live in
      let s = told.0 in let t = told.1 in
      let f = (t.sits pass v at).1 live in
      let who = content-none s.holder s.value items t.there none in
      let holder = t.held who.0 who.1 in
      let g = (t.sits who.0 holder.0 holder.1).1 holder.2 in
      elim (who.0 == pass) as (λ b. (who.0 == pass) ≡ b → ⊥) [
        | true ↦ λ same. let e : who.0 ≡ pass = grind (arith, nat_tests) in
            let has : v.taken ≡ Some s.value = f.holds ∙ ap (λ o. taken_by o s.value pass) (who.1 ∙ ap Some e) ∙ taken_by-holder pass s.value in cc
        | false ↦ λ differ. let e : pass ≢ who.0 = grind (arith, nat_tests) in
            let mine = g.as_other (follows log maker fixed s pass who.0 v holder.0 f g e leads) in let empty = ap (λ o. is_in holder.0.by o) (sym (f.as_first leads).1 ∙ out) in cc
      ] refl

  whole : (s : Story T E) (pass : ℕ) (v : View T E) → v.leads ≡ true → v.out ≡ [] → Fits log maker fixed s pass v → ((n : ℕ) → is_in n s.out ≡ false → n ≢ s.own → entries_by maker n (log s.value) ≡ list_of n s.kept)
      → IsWhole log maker v s.value
  whole s pass v leads out f back n = elim (v.by == n) as (λ b. (v.by == n) ≡ b → entries_by maker n (log s.value) ≡ (if b then v.made else list_of n v.kept)) [
    | true ↦ λ same. let e : v.by ≡ n = grind (arith, nat_tests) in ap (λ m. entries_by maker m (log s.value)) (sym e) ∙ f.own_list
    | false ↦ λ differ. let e : n ≢ v.by = grind (arith, nat_tests) in
        back n (ap (is_in n) (sym (f.as_first leads).1 ∙ out)) (λ same. e (same ∙ sym (f.as_first leads).0)) ∙ ap (list_of n) (sym (f.as_first leads).2)
  ] refl

  pub closes : (pass : ℕ) (v : View T E) → v.stage ≡ Live → v.leads ≡ true → v.out ≡ [] → Pops (Kept log maker fixed) pass v (λ x w. StartsWith (log x) v.seen × HasFixed fixed v x × IsWhole log maker v x)
  closes pass v live leads out x items views h at =
      let told = story log maker fixed (x ∷ items) views pass v h at live in
      let s = told.0 in let t = told.1 in
      let f = (t.sits pass v at).1 live in
      let now = content-one s.holder s.value x items t.there in
      let take = takes log maker fixed pass v live x items views h at in
      (take.0, take.1, (take.2.2, take.2.3, subst (IsWhole log maker v) now.1 (whole s pass v leads out f t.back)))
