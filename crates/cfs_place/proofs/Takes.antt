-- A take keeps the rule, and what an empty cell tells.
use Rattle.std.proofs.Common.{◌≡◌, ◌≢◌, ℕ, List, [], ◌∷◌, set, Some, None, sym, ap, ◌∙◌, subst, inr}
use Rattle.std.proofs.lemmas.List.{append-nil}
use mathlib.Core.Option.{some}
use lib.ListN.{get_elem?}
use Rattle.crossbeam_queue.specs.Fifo.{Pops, Learns}
use Rattle.cfs_place.specs.declared.views.Stage.TheVariants.{Live}
use Rattle.cfs_place.specs.declared.views.View.{View}
use Rattle.cfs_place.specs.Logs.{StartsWith, is_in}
use Rattle.cfs_place.specs.Views.{took, HasFixed}
use Rattle.cfs_place.specs.Rule.{Story, content, taken_by, Fits, Sits, Tells, Kept, IsOut}
use Rattle.cfs_place.proofs.Stories.{set_there, each_set, content-one, content-none, taken_by-holder, taken_by-other, holder_is, story, same_fixed, follows}

module _ {T E F : Type 0} (log : T → List E) (maker : E → ℕ) (fixed : T → F) where
  -- the story once this pass has taken the value
  abbrev taken : Story T E → ℕ → Story T E
  taken s pass = record s { holder = Some pass }

  taker : (s : Story T E) (pass : ℕ) (v : View T E) → v.stage ≡ Live → Fits log maker fixed s pass v → Sits log maker fixed (taken s pass) pass (took log v s.value)
  taker s pass v live f = (
    (λ e. let l = live in cc),
    λ _. record {
      alone = f.alone;
      origin = f.origin;
      holds = sym (taken_by-holder pass s.value);
      whole = λ x e. ap log cc;
      beginning = ([], sym (append-nil (log s.value)));
      own_list = f.own_list;
      as_first = f.as_first;
      as_other = f.as_other;
    },
  )

  others : (s : Story T E) (pass j : ℕ) (u : View T E) → s.holder ≡ None → j ≢ pass → Sits log maker fixed s j u → Sits log maker fixed (taken s pass) j u
  others s pass j u there differ h = (
    h.0,
    λ live. let f = h.1 live in record {
      alone = f.alone;
      origin = f.origin;
      holds = f.holds ∙ ap (λ o. taken_by o s.value j) there ∙ sym (taken_by-other pass j s.value differ);
      whole = f.whole;
      beginning = f.beginning;
      own_list = f.own_list;
      as_first = f.as_first;
      as_other = f.as_other;
    },
  )

  held_now : (views : List (View T E)) (pass : ℕ) (v w : View T E) → get_elem? views pass ≡ some v → w.stage ≡ Live → (h : ℕ) → Some pass ≡ Some h
      → (u : View T E) × (get_elem? (set views pass w) h ≡ some u) × (u.stage ≡ Live)
  held_now views pass v w at live h e = let same : pass ≡ h = cc in (w, subst (λ i. get_elem? (set views pass w) i ≡ some w) same (set_there views pass v w at), live)

  pub takes : (pass : ℕ) (v : View T E) → v.stage ≡ Live → Pops (Kept log maker fixed) pass v (λ x w. (v.taken ≡ None) × (w ≡ took log v x) × StartsWith (log x) v.seen × HasFixed fixed v x)
  takes pass v live x items views h at =
      let told = story log maker fixed (x ∷ items) views pass v h at live in
      let s = told.0 in let t = told.1 in
      let now = content-one s.holder s.value x items t.there in
      let f = (t.sits pass v at).1 live in
      let w : View T E = took log v s.value in
      let after : Tells log maker fixed (taken s pass) items (set views pass w) = record {
        there = now.2;
        same_fixed = t.same_fixed;
        back = t.back;
        held = held_now views pass v w at live;
        sits = each_set (Sits log maker fixed (taken s pass)) views pass w (taker s pass v live f) (λ j u differ there. others s pass j u now.0 differ (t.sits j u there));
      } in (
        w,
        inr (taken s pass, after),
        (f.holds ∙ ap (λ o. taken_by o s.value pass) now.0, ap (took log v) now.1, subst (λ y. StartsWith (log y) v.seen) now.1 f.beginning, subst (HasFixed fixed v) now.1 (same_fixed log maker fixed s pass v f t.same_fixed)),
      )

  -- where the queue is empty, some pass has taken the value; where this one holds nothing it is another
  pub learns_out : (pass : ℕ) (v : View T E) → v.stage ≡ Live → Learns (Kept log maker fixed) pass v (λ items. items ≡ [] → IsOut log fixed v)
  learns_out pass v live items views h at none =
      let told = story log maker fixed items views pass v h at live in
      let s = told.0 in let t = told.1 in
      let who = content-none s.holder s.value items t.there none in
      let holder = t.held who.0 who.1 in
      let f = (t.sits pass v at).1 live in
      let g = (t.sits who.0 holder.0 holder.1).1 holder.2 in
      let has : holder.0.taken ≡ Some s.value = g.holds ∙ ap (λ o. taken_by o s.value who.0) who.1 ∙ taken_by-holder who.0 s.value in (
        s.value,
        holder.0,
        holder.2,
        has,
        f.beginning,
        same_fixed log maker fixed s pass v f t.same_fixed,
        λ nothing. let differ : who.0 ≢ pass = λ one. let mine : v.taken ≡ Some s.value = f.holds ∙ ap (λ o. taken_by o s.value pass) (who.1 ∙ ap Some one) ∙ taken_by-holder pass s.value in cc in (
          (λ same. differ (sym g.alone ∙ ap s.seat same ∙ f.alone)),
          λ leads. ap (λ o. is_in holder.0.by o) (f.as_first leads).1 ∙ g.as_other (follows log maker fixed s pass who.0 v holder.0 f g (λ e. differ (sym e)) leads),
        ),
      )

  -- where this pass holds the value, the queue is empty
  pub learns_empty : (pass : ℕ) (v : View T E) (x : T) → v.stage ≡ Live → v.taken ≡ Some x → Learns (Kept log maker fixed) pass v (λ items. items ≡ [])
  learns_empty pass v x live holds items views h at =
      let told = story log maker fixed items views pass v h at live in
      let s = told.0 in let t = told.1 in
      let f = (t.sits pass v at).1 live in
      let mine = holder_is s.holder s.value pass x (sym f.holds ∙ holds) in t.there ∙ ap (λ o. content o s.value) mine.0
