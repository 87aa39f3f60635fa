-- What the change of one node's record keeps: a record is put, changed or dropped, a directory marked.
use Rattle.std.proofs.Common.{◌≡◌, ◌≢◌, ℕ, suc, ◌+◌, ◌*◌, ◌%◌, ◌<◌, ◌≤◌, List, [], ◌∷◌, Bool, true, false, cond, refl, sym, ◌∙◌, ap, subst, arith}
use Rattle.std.specs.Prelude.{◌||◌, Some, None}
use Rattle.std.proofs.lemmas.Bool.Decides.{nat_tests}
use Rattle.std.proofs.lemmas.Option.{same_Some}
use Rattle.std.specs.List.{list_any}
use Rattle.std.specs.Ordering.{nat_cmp, eq_by_cmp}
use Rattle.std.specs.Cmp.{nat_cmp_total}
use Rattle.std.specs.Cmp.Lexicographic.{slice_cmp}
use Rattle.std.specs.FinMap.{get, insert, remove, empty, entries, find, get-entries, nat_cmp-IsAntisymmetric}
use Rattle.next_ids.specs.declared.ids.Actor.{Actor}
use Rattle.next_ids.specs.declared.ids.DirId.{DirId}
use Rattle.next_ids.specs.declared.ids.FileId.{FileId}
use Rattle.next_ids.specs.declared.ids.Node.{Node}
use Rattle.next_ids.specs.declared.ids.Node.TheVariants.{Dir, File}
use Rattle.next_ids.specs.declared.ids.Stamp.{Stamp}
use Rattle.next_ids.specs.declared.note.MarkNote.{MarkNote}
use Rattle.next_ids.specs.declared.time.Ts.{Ts}
use Rattle.next_ids.specs.Maps.{lies_in}
use Rattle.next_steps.specs.declared.contents.Row.{Row}
use Rattle.next_steps.specs.declared.contents.DirRec.{DirRec}
use Rattle.next_steps.specs.declared.contents.FileRec.{FileRec}
use Rattle.next_rules.specs.Actors.{client_of}
use Rattle.next_rules.specs.Contents.{Shard, Store, made_at}
use Rattle.next_rules.specs.Changes.{set_rec, cut_rec}
use Rattle.next_rules.specs.Facts.{SumsHold, LinksHold}
use Rattle.next_rules.specs.Primitives.{new_dir}
use Rattle.next_rules.specs.Removing.{has_rows}
use Rattle.next_rules.specs.Room.{links_in}
use Rattle.next_rules.specs.Stores.{new_file}
use Rattle.next_laws_shard.proofs.MapChanges.{from_remove}
use Rattle.next_laws_shard.proofs.Leaving.{NewRec, SameAttr, NoRec}
use Rattle.next_laws_shard.proofs.Summed.{sums-kept}
use Rattle.next_laws_stages.specs.Stages.{Stage, Unborn, Root, Fresh, Named, Marked, Owed, Cleared, Gone, is_born, is_known, is_open, is_kept, key_of, debt_of, Puts, TakesBack, Marks, Drops, from, to}
use Rattle.next_laws_stages.specs.Held.{FileIs, DirIs, PlacesHold, number_of, dir_at}
use Rattle.next_laws_stages.proofs.Counts.{coming_none, sums_left, links_set}
use Rattle.next_laws_stages.proofs.Effects.{none_some, true_false, dir_like, low_stays, record_keeps}
use Rattle.next_laws_stages.proofs.Known.{no_rows_in}
use Rattle.next_laws_stages.proofs.Maps.{set_here_n, set_away_n, cut_here_n, cut_away_n, names_tied}
use Rattle.next_laws_stages.proofs.Stages.{Shifts, shifts_none}

-- ---- a directory without rows has none at any name
any_found : (p : List ℕ → Bool) (k : List ℕ) (row : Row) (es : List (List ℕ × Row)) → p k ≡ true → find (slice_cmp nat_cmp) k es ≡ Some row → list_any (λ e. p e.0) es ≡ true
any_found p k row [] is e = cc
any_found p k row (x ∷ es) is e = by_test (eq_by_cmp (slice_cmp nat_cmp) k x.0) refl e (any_found p k row es is)
  where
    or_true : (a b : Bool) → b ≡ true → (a || b) ≡ true
    or_true true b e = refl
    or_true false b e = e

    by_test : (b : Bool) → eq_by_cmp (slice_cmp nat_cmp) k x.0 ≡ b → cond b (Some x.1) (find (slice_cmp nat_cmp) k es) ≡ Some row
        → (find (slice_cmp nat_cmp) k es ≡ Some row → list_any (λ e. p e.0) es ≡ true) → (p x.0 || list_any (λ e. p e.0) es) ≡ true
    by_test true t e rest = ap (λ b. b || list_any (λ e. p e.0) es) (ap p (sym (names_tied k x.0 t)) ∙ is)
    by_test false t e rest = or_true (p x.0) (list_any (λ e. p e.0) es) (rest e)

pub no_row_in : (shard : Shard) (dir : DirId) → has_rows shard dir ≡ false → (name : List ℕ) (row : Row) → get shard.rows (dir.0 ∷ name) ≡ Some row → ⊥
no_row_in shard dir none name row e =
    true_false (has_rows shard dir) (any_found (lies_in dir.0) (dir.0 ∷ name) row (entries shard.rows) (grind (arith, nat_tests)) (sym (get-entries shard.rows (dir.0 ∷ name)) ∙ e)) none

-- ---- the number of what a step makes is one that its place has given out
pub made_low : (at : Stamp) (lasts : ℕ → ℕ) (p : ℕ) → p ≡ at.place.0 % 64 → at.number ≤ lasts p → made_at at < 64 * suc (lasts (made_at at % 64))
made_low at lasts p here up = let home : made_at at % 64 ≡ p = omega arith in let same = ap lasts home in omega arith

pub made_low_file : (at : Stamp) (lasts : ℕ → ℕ) (p : ℕ) → p ≡ 64 + at.place.0 % 64 → at.number ≤ lasts p → made_at at < 64 * suc (lasts (64 + made_at at % 64))
made_low_file at lasts p here up = let home : 64 + made_at at % 64 ≡ p = omega arith in let same = ap lasts home in omega arith

-- ---- files
module _ (stage stage' : Node → Stage) (shard : Shard) (store : Store) (lasts lasts' : ℕ → ℕ) (h : PlacesHold stage shard store lasts) (up : (p : ℕ) → lasts p ≤ lasts' p) where
  module _ (f : FileId) (s s' : Stage) (shifts : Shifts stage stage' (File f) s s') (keys : key_of s' ≡ key_of s) (debts : debt_of s' ≡ debt_of s)
      (low : is_born s' ≡ true → f.0 < 64 * suc (lasts' (64 + f.0 % 64))) where
    no_root : s ≡ Root → s' ≡ Root
    no_root e = absurd (subst (FileIs (get store f.0)) (shifts.was ∙ e) (h.nodes (File f)))

    differs : (g : ℕ) → File f ≢ File (record { 0 = g }) → g ≢ f.0
    differs g differ e = differ (ap (λ n. File (record { 0 = n })) (sym e))

    file_set : (new : FileRec) → FileIs (Some new) s' → PlacesHold stage' shard (insert store f.0 new) lasts'
    file_set new here = record_keeps stage stage' shard store lasts lasts' h up (File f) s s' shifts shard.recs (insert store f.0 new)
        (record { files = λ g differ. set_away_n store f.0 g new (differs g differ); dirs = λ d differ. refl }) (subst (λ o. FileIs o s') (sym (set_here_n store f.0 new)) here) keys debts
        (λ d name row e there. absurd (cc)) no_root low h.sums h.links

    file_cut : FileIs None s' → PlacesHold stage' shard (remove store f.0) lasts'
    file_cut here = record_keeps stage stage' shard store lasts lasts' h up (File f) s s' shifts shard.recs (remove store f.0)
        (record { files = λ g differ. cut_away_n store f.0 g (differs g differ); dirs = λ d differ. refl }) (subst (λ o. FileIs o s') (sym (cut_here_n store f.0)) here) keys debts
        (λ d name row e there. absurd (cc)) no_root low h.sums h.links

  pub put_file_keeps : (f : FileId) (client : ℕ) (ts : Ts) (dir : DirId) (name : List ℕ) → Shifts stage stage' (File f) (from (Puts client ts dir name)) (to (Puts client ts dir name))
      → f.0 < 64 * suc (lasts' (64 + f.0 % 64)) → PlacesHold stage' shard (insert store f.0 (new_file (client_of client) dir ts)) lasts'
  put_file_keeps f client ts dir name shifts low = file_set f Unborn (Fresh client ts dir name) shifts refl refl (λ born. low) (new_file (client_of client) dir ts) refl

  pub take_back_file_keeps : (f : FileId) (client : ℕ) (ts : Ts) (dir : DirId) (name : List ℕ) → Shifts stage stage' (File f) (from (TakesBack client ts dir name)) (to (TakesBack client ts dir name))
      → PlacesHold stage' shard (remove store f.0) lasts'
  take_back_file_keeps f client ts dir name shifts =
      file_cut f (Fresh client ts dir name) Gone shifts refl refl (λ born. low_stays stage stage' (File f) _ _ shifts lasts lasts' up h.issued refl) refl

  pub drop_file_keeps : (f : FileId) (owner : Actor) (p : ℕ) (at : Stamp) → Shifts stage stage' (File f) (from (Drops owner p at)) (to (Drops owner p at)) → PlacesHold stage' shard (remove store f.0) lasts'
  drop_file_keeps f owner p at shifts =
      file_cut f (Owed owner p at) (Cleared owner p at) shifts refl refl (λ born. low_stays stage stage' (File f) _ _ shifts lasts lasts' up h.issued refl) refl

  -- ---- directories
  module _ (d : DirId) (s s' : Stage) (shifts : Shifts stage stage' (Dir d) s s') (keys : key_of s' ≡ key_of s) (debts : debt_of s' ≡ debt_of s)
      (opens : (name : List ℕ) (row : Row) → get shard.rows (d.0 ∷ name) ≡ Some row → is_open s' ≡ true) (roots : s ≡ Root → s' ≡ Root)
      (low : is_born s' ≡ true → d.0 < 64 * suc (lasts' (d.0 % 64))) where
    dir_differs : (e : ℕ) → Dir d ≢ Dir (record { 0 = e }) → e ≢ d.0
    dir_differs e differ same = differ (ap dir_at (sym same))

    dir_opens : (e : ℕ) (name : List ℕ) (row : Row) → dir_at e ≡ Dir d → get shard.rows (e ∷ name) ≡ Some row → is_open s' ≡ true
    dir_opens e name row same there = opens name row (ap (λ n. get shard.rows (n ∷ name)) (sym (ap number_of same)) ∙ there)

    dir_set : (new : DirRec) → DirIs d.0 (Some new) s' → SumsHold (set_rec shard d new) → LinksHold (set_rec shard d new) → PlacesHold stage' (set_rec shard d new) store lasts'
    dir_set new here sums links = record_keeps stage stage' shard store lasts lasts' h up (Dir d) s s' shifts (insert shard.recs d.0 new) store
        (record { files = λ g differ. refl; dirs = λ e differ. set_away_n shard.recs d.0 e new (dir_differs e differ) }) (subst (λ o. DirIs d.0 o s') (sym (set_here_n shard.recs d.0 new)) here) keys debts
        dir_opens roots low sums links

    dir_cut : DirIs d.0 None s' → PlacesHold stage' (cut_rec shard d) store lasts'
    dir_cut here = record_keeps stage stage' shard store lasts lasts' h up (Dir d) s s' shifts (remove shard.recs d.0) store
        (record { files = λ g differ. refl; dirs = λ e differ. cut_away_n shard.recs d.0 e (dir_differs e differ) }) (subst (λ o. DirIs d.0 o s') (sym (cut_here_n shard.recs d.0)) here) keys debts
        dir_opens roots low (sums_left stage shard store lasts h (record { 0 = 0 }) (cut_rec shard d) (NoRec d))
        (λ e r there. h.links e r (from_remove nat_cmp_total nat_cmp-IsAntisymmetric shard.recs d.0 e.0 r there))

  -- no row lies in a directory that is not open
  not_housed : (d : DirId) (s : Stage) → stage (Dir d) ≡ s → is_open s ≡ false → (name : List ℕ) (row : Row) → get shard.rows (d.0 ∷ name) ≡ Some row → ⊥
  not_housed d s was closed name row there = none_some _ row (no_rows_in stage shard store lasts h d.0 (ap is_open was ∙ closed) name) there

  pub put_dir_keeps : (at : Stamp) (client : ℕ) (ts : Ts) (dir : DirId) (name : List ℕ) → Shifts stage stage' (dir_at (made_at at)) (from (Puts client ts dir name)) (to (Puts client ts dir name))
      → made_at at < 64 * suc (lasts' (made_at at % 64)) → shard.locks ≡ empty → PlacesHold stage' (set_rec shard (record { 0 = made_at at }) (new_dir (client_of client) dir name ts)) store lasts'
  put_dir_keeps at client ts dir name shifts low calm =
      dir_set (record { 0 = made_at at }) Unborn (Fresh client ts dir name) shifts refl refl (λ n row there. absurd (none_some _ row (none n) there)) (λ e. absurd (cc)) (λ born. low) (new_dir (client_of client) dir name ts) refl
      (sums-kept shard at none _ (NewRec (new_dir (client_of client) dir name ts) refl refl refl) h.sums)
      (links_set shard (record { 0 = made_at at }) (new_dir (client_of client) dir name ts) (let coming = coming_none shard (record { 0 = made_at at }) calm in let links : links_in (Some (new_dir (client_of client) dir name ts)) ≡ 2 = refl in omega arith) h.links)
    where
      none : (n : List ℕ) → get shard.rows (made_at at ∷ n) ≡ None
      none = no_rows_in stage shard store lasts h (made_at at) (ap is_open shifts.was)

  pub take_back_dir_keeps : (d : DirId) (client : ℕ) (ts : Ts) (dir : DirId) (name : List ℕ) → Shifts stage stage' (Dir d) (from (TakesBack client ts dir name)) (to (TakesBack client ts dir name))
      → PlacesHold stage' (cut_rec shard d) store lasts'
  take_back_dir_keeps d client ts dir name shifts =
      dir_cut d (Fresh client ts dir name) Gone shifts refl refl (λ n row there. absurd (not_housed d (Fresh client ts dir name) shifts.was refl n row there)) (λ e. absurd (cc))
      (λ born. low_stays stage stage' (Dir d) _ _ shifts lasts lasts' up h.issued refl) refl

  pub drop_dir_keeps : (d : DirId) (owner : Actor) (p : ℕ) (at : Stamp) → Shifts stage stage' (Dir d) (from (Drops owner p at)) (to (Drops owner p at)) → PlacesHold stage' (cut_rec shard d) store lasts'
  drop_dir_keeps d owner p at shifts =
      dir_cut d (Owed owner p at) (Cleared owner p at) shifts refl refl (λ n row there. absurd (not_housed d (Owed owner p at) shifts.was refl n row there)) (λ e. absurd (cc))
      (λ born. low_stays stage stage' (Dir d) _ _ shifts lasts lasts' up h.issued refl) refl

  -- a record whose attributes stay
  sums_same : (d : DirId) (r new : DirRec) → get shard.recs d.0 ≡ Some r → new.base ≡ r.base → new.pending ≡ r.pending → SumsHold (set_rec shard d new)
  sums_same d r new there base pending = sums_left stage shard store lasts h (record { 0 = 0 }) (set_rec shard d new) (SameAttr d r new there base pending)

  links_same : (d : DirId) (r new : DirRec) → get shard.recs d.0 ≡ Some r → new.base ≡ r.base → new.pending ≡ r.pending → LinksHold (set_rec shard d new)
  links_same d r new there base pending =
      let old = h.links d r there in
      let same : links_in (Some new) ≡ links_in (Some r) = (λ i. links_in (Some (record r { base = base i; pending = pending i }))) in
      links_set shard d new (omega arith) h.links

  pub mark_keeps : (note : MarkNote) (r : DirRec) → Shifts stage stage' (Dir note.child) (from (Marks note)) (to (Marks note)) → get shard.recs note.child.0 ≡ Some r → has_rows shard note.child ≡ false
      → PlacesHold stage' (set_rec shard note.child (record r { mark = Some note })) store lasts'
  mark_keeps note r shifts there none =
      dir_set note.child (Named note.dir note.name) (Marked note) shifts refl refl (λ n row e. absurd (no_row_in shard note.child none n row e)) (λ e. absurd (cc))
      (λ born. low_stays stage stage' (Dir note.child) _ _ shifts lasts lasts' up h.issued refl) (record r { mark = Some note })
      (refl, record { r = record r { mark = Some note }; there = refl; mark = refl; back = back }) (sums_same note.child r (record r { mark = Some note }) there refl refl) (links_same note.child r (record r { mark = Some note }) there refl refl)
    where
      back : r.back ≡ Some (note.dir, note.name)
      back = let it = subst (DirIs note.child.0 (get shard.recs note.child.0)) shifts.was (h.nodes (Dir note.child)) in let same : r ≡ it.r = same_Some r it.r (sym there ∙ it.there) in ap (λ (z : DirRec). z.back) same ∙ it.back

-- ---- a record changes, and its node's stage doesn't
module _ (stage : Node → Stage) (shard : Shard) (store : Store) (lasts lasts' : ℕ → ℕ) (h : PlacesHold stage shard store lasts) (up : (p : ℕ) → lasts p ≤ lasts' p) where
  pub file_keeps : (f : FileId) (new : FileRec) → is_kept (stage (File f)) ≡ true → PlacesHold stage shard (insert store f.0 new) lasts'
  file_keeps f new kept =
      let shifts = shifts_none stage (File f) (stage (File f)) refl in
      file_set stage stage shard store lasts lasts' h up f _ _ shifts refl refl (low_stays stage stage (File f) _ _ shifts lasts lasts' up h.issued) new (has (stage (File f)) kept)
    where
      has : (s : Stage) → is_kept s ≡ true → FileIs (Some new) s
      has (Named dir name) k = (new, refl)
      has (Owed owner p at) k = (new, refl)
      has s k = absurd (cc)

  pub dir_keeps : (d : DirId) (r new : DirRec) → get shard.recs d.0 ≡ Some r → new.mark ≡ r.mark → new.back ≡ r.back → new.base ≡ r.base → new.pending ≡ r.pending → is_known (stage (Dir d)) ≡ true
      → PlacesHold stage (set_rec shard d new) store lasts'
  dir_keeps d r new there mark back base pending known =
      let shifts = shifts_none stage (Dir d) (stage (Dir d)) refl in
      dir_set stage stage shard store lasts lasts' h up d _ _ shifts refl refl (λ name row e. h.housed d.0 name row e) (λ e. e) (low_stays stage stage (Dir d) _ _ shifts lasts lasts' up h.issued) new
      (dir_like d.0 r new (stage (Dir d)) mark back (λ client ts dir name e. true_false (is_known (stage (Dir d))) known (ap is_known e)) (subst (λ o. DirIs d.0 o (stage (Dir d))) there (h.nodes (Dir d))))
      (sums_same stage stage shard store lasts lasts' h up d r new there base pending) (links_same stage stage shard store lasts lasts' h up d r new there base pending)
