-- A give keeps the rule: the first one, of the value that the cell is made with, and each later one.
use Rattle.std.proofs.Common.{◌≡◌, ◌≢◌, ℕ, false, List, [], ◌∷◌, ◌++◌, length, drop, set, Some, None, refl, sym, ap, ◌∙◌, subst, inl, inr}
use Rattle.std.proofs.lemmas.List.{append-nil}
use mathlib.Core.Option.{some}
use lib.ListN.{get_elem?}
use Rattle.std.specs.Prelude.{All}
use Rattle.crossbeam_queue.specs.Fifo.{Pushes, Learns}
use Rattle.cfs_place.specs.declared.views.Stage.TheVariants.{Live}
use Rattle.cfs_place.specs.declared.views.View.{View}
use Rattle.cfs_place.specs.Logs.{StartsWith, is_in, list_of, entries_by, GrowsBy}
use Rattle.cfs_place.specs.Views.{fresh, begun, gave, HasFixed}
use Rattle.cfs_place.specs.Rule.{Story, content, taken_by, Fits, Sits, Tells, Kept}
use Rattle.cfs_place.proofs.Entries.{drop-seen, StartsWith-grown, entries_by-append, entries_by-own, entries_by-other}
use Rattle.cfs_place.proofs.Stories.{only, each_set, taken_by-other, holder_is, story, apart, not_back}

module _ {T E F : Type 0} (log : T → List E) (maker : E → ℕ) (fixed : T → F) where
  -- the story once the value is back
  abbrev given : Story T E → T → Story T E
  given s x = record s { value = x; holder = None }

  -- the log of the value that is given back is the last one with this pass's entries
  abbrev Adds : Story T E → ℕ → T → List E → Type 0
  Adds s by x added = (log x ≡ log s.value ++ added) × All (λ e. maker e ≡ by) added

  giver : (s : Story T E) (pass : ℕ) (v : View T E) (x : T) (added : List E) → v.stage ≡ Live → Fits log maker fixed s pass v → v.seen ≡ log s.value → Adds s v.by x added
      → Sits log maker fixed (given s x) pass (gave log v x)
  giver s pass v x added live f seen adds =
      let new : drop (length v.seen) (log x) ≡ added = ap (λ l. drop (length v.seen) l) (adds.0 ∙ ap (λ l. l ++ added) (sym seen)) ∙ drop-seen v.seen added in (
        (λ e. let l = live in cc),
        λ _. record {
          alone = f.alone;
          origin = f.origin;
          holds = refl;
          whole = λ y e. absurd cc;
          beginning = ([], sym (append-nil (log x)));
          own_list = ap (entries_by maker v.by) adds.0 ∙ entries_by-append maker v.by (log s.value) added ∙ ap (λ l. l ++ entries_by maker v.by added) f.own_list
              ∙ ap (λ l. v.made ++ l) (entries_by-own maker v.by added adds.1 ∙ sym new);
          as_first = f.as_first;
          as_other = f.as_other;
        },
      )

  others : (s : Story T E) (pass j : ℕ) (v u : View T E) (x : T) (added : List E) → Fits log maker fixed s pass v → s.holder ≡ Some pass → Adds s v.by x added → j ≢ pass
      → Sits log maker fixed s j u → Sits log maker fixed (given s x) j u
  others s pass j v u x added mine holder adds differ h = (
    h.0,
    λ live. let f = h.1 live in
        let none : u.taken ≡ None = f.holds ∙ ap (λ o. taken_by o s.value j) holder ∙ taken_by-other pass j s.value differ in record {
          alone = f.alone;
          origin = f.origin;
          holds = none;
          whole = λ y e. let n = none in absurd cc;
          beginning = subst (λ l. StartsWith l u.seen) (sym adds.0) (StartsWith-grown (log s.value) u.seen added f.beginning);
          own_list = ap (entries_by maker u.by) adds.0 ∙ entries_by-append maker u.by (log s.value) added ∙ ap (λ l. entries_by maker u.by (log s.value) ++ l) (entries_by-other maker u.by v.by added (apart log maker fixed s j pass u v f mine differ) adds.1)
              ∙ append-nil (entries_by maker u.by (log s.value)) ∙ f.own_list;
          as_first = f.as_first;
          as_other = f.as_other;
        },
  )

  -- what the lists of the first pass say stays
  stays_back : (s : Story T E) (pass : ℕ) (v : View T E) (x : T) (added : List E) → Fits log maker fixed s pass v → Adds s v.by x added
      → ((n : ℕ) → is_in n s.out ≡ false → n ≢ s.own → entries_by maker n (log s.value) ≡ list_of n s.kept)
      → (n : ℕ) → is_in n s.out ≡ false → n ≢ s.own → entries_by maker n (log x) ≡ list_of n s.kept
  stays_back s pass v x added mine adds back n out own =
      ap (entries_by maker n) adds.0 ∙ entries_by-append maker n (log s.value) added ∙ ap (λ l. entries_by maker n (log s.value) ++ l) (entries_by-other maker n v.by added (not_back log maker fixed s pass v mine n out own) adds.1)
      ∙ append-nil (entries_by maker n (log s.value)) ∙ back n out own

  pub gives : (room pass : ℕ) (v : View T E) (x y : T) → v.stage ≡ Live → v.taken ≡ Some y → GrowsBy maker v.by v.seen (log x) → HasFixed fixed v x
      → Pushes (Kept log maker fixed) room pass v x (λ w. w ≡ gave log v x)
  gives room pass v x y live holds grows same items views _ h at =
      let told = story log maker fixed items views pass v h at live in
      let s = told.0 in let t = told.1 in
      let f = (t.sits pass v at).1 live in
      let mine = holder_is s.holder s.value pass y (sym f.holds ∙ holds) in
      let seen : v.seen ≡ log s.value = f.whole s.value (holds ∙ ap Some (sym mine.1)) in
      let adds : Adds s v.by x grows.0 = (grows.1 ∙ ap (λ l. l ++ grows.0) seen, grows.2) in
      let empty : items ≡ [] = t.there ∙ ap (λ o. content o s.value) mine.0 in
      let w : View T E = gave log v x in
      let after : Tells log maker fixed (given s x) (items ++ x ∷ []) (set views pass w) = record {
        there = ap (λ l. l ++ x ∷ []) empty;
        same_fixed = subst (λ o. HasFixed fixed (record v { start = o }) x) f.origin same;
        back = stays_back s pass v x grows.0 f adds t.back;
        held = λ h e. absurd cc;
        sits = each_set (Sits log maker fixed (given s x)) views pass w (giver s pass v x grows.0 live f seen adds) (λ j u differ there. others s pass j v u x grows.0 f mine.0 adds differ (t.sits j u there));
      } in (w, inr (given s x, after), refl)

  -- the story of a new cell
  abbrev opening : ℕ → T → Story T E
  opening by x = record { value = x; start = x; holder = None; own = by; out = []; kept = []; seat = λ n. 0 }

  first_sits : (by : ℕ) (x : T) → log x ≡ [] → Sits log maker fixed (opening by x) 0 (begun by x)
  first_sits by x none = (
    (λ e. cc),
    λ _. record {
      alone = refl;
      origin = refl;
      holds = refl;
      whole = λ y e. absurd cc;
      beginning = (log x, refl);
      own_list = ap (entries_by maker by) none;
      as_first = λ _. (refl, refl, refl);
      as_other = λ e. absurd cc;
    },
  )

  -- before the first give the queue is empty, and there is one pass
  pub still_fresh : (pass : ℕ) (items : List T) (views : List (View T E)) → Kept log maker fixed items views → get_elem? views pass ≡ some fresh → (items ≡ []) × (views ≡ fresh ∷ []) × (pass ≡ 0)
  still_fresh pass items views (inl new) at = (new.0, new.1, (only fresh fresh pass (ap (λ l. get_elem? l pass) (sym new.1) ∙ at)).1)
  still_fresh pass items views (inr told) at = absurd ((told.1.sits pass fresh at).0 refl)

  pub begins : (room pass by : ℕ) (x : T) → log x ≡ [] → Pushes (Kept log maker fixed) room pass fresh x (λ w. w ≡ begun by x)
  begins room pass by x none items views _ h at =
      let now = still_fresh pass items views h at in
      let w : View T E = begun by x in
      let after : Tells log maker fixed (opening by x) (x ∷ []) (w ∷ []) = record {
        there = refl;
        same_fixed = refl;
        back = λ n out own. ap (entries_by maker n) none;
        held = λ h e. absurd cc;
        sits = λ j u there. let it = only w u j there in subst (λ (y : ℕ × View T E). Sits log maker fixed (opening by x) y.0 y.1) (λ i. (sym it.1 i, it.0 i)) (first_sits by x none);
      } in (
        w,
        subst (λ (y : List T × List (View T E)). Kept log maker fixed y.0 y.1) (λ i. (sym (ap (λ l. l ++ x ∷ []) now.0) i, sym (ap (λ l. set l pass w) now.1 ∙ ap (λ k. set (fresh ∷ []) k w) now.2) i)) (inr (opening by x, after)),
        refl,
      )

  pub learns_fresh : (pass : ℕ) → Learns (Kept log maker fixed) pass fresh (λ items. items ≡ [])
  learns_fresh pass items views h at = (still_fresh pass items views h at).0
