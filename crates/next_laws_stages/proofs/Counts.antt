-- What each effect leaves of the sums, and of the links where no job has a lock.
use Rattle.std.proofs.Common.{◌≡◌, ℕ, suc, pos, ◌+◌, ◌-◌, ◌%◌, ◌<◌, ◌≤◌, List, [], ◌∷◌, length, Bool, true, false, refl, sym, ◌∙◌, ap, arith, inl, inr}
use Rattle.std.specs.Prelude.{if◌then◌else◌, nat_le, filter, Option, Some, None}
use Rattle.std.proofs.lemmas.Bool.Decides.{nat_tests}
use Rattle.std.specs.Cmp.{nat_cmp_total}
use Rattle.std.specs.Cmp.Lexicographic.{slice_cmp}
use Rattle.std.specs.Ordering.{nat_cmp}
use Rattle.std.specs.FinMap.{get, insert, remove, empty, entries, nat_cmp-IsAntisymmetric}
use Rattle.next_ids.specs.declared.ids.Actor.{Actor}
use Rattle.next_ids.specs.declared.ids.DirId.{DirId}
use Rattle.next_ids.specs.declared.ids.JobNo.{JobNo}
use Rattle.next_ids.specs.declared.ids.Node.{Node}
use Rattle.next_ids.specs.declared.ids.Node.TheVariants.{Dir, File}
use Rattle.next_ids.specs.declared.ids.PlaceNo.{PlaceNo}
use Rattle.next_ids.specs.declared.ids.Stamp.{Stamp}
use Rattle.next_ids.specs.declared.time.Ts.{Ts}
use Rattle.next_ids.specs.Maps.{Names, row_key, within, how_many, map_values}
use Rattle.next_ids.specs.Namespace.{is_dir, link_max}
use Rattle.next_ids.proofs.Entries.{entries-empty}
use Rattle.next_steps.specs.declared.contents.DirRec.{DirRec}
use Rattle.next_steps.specs.declared.contents.Row.{Row}
use Rattle.next_steps.specs.declared.contents.RowLock.{RowLock}
use Rattle.next_rules.specs.Contents.{Shard, Store, attr_of, made_at}
use Rattle.next_rules.specs.Changes.{set_row, cut_row, set_rec, update, leave_debt, delta_of}
use Rattle.next_rules.specs.Facts.{SumsHold, LinksHold}
use Rattle.next_rules.specs.Owning.{merged_at}
use Rattle.next_rules.specs.Room.{HasRoom, IsFull, coming_in, leaving_in, links_in, may_come, may_leave, room_in, room_of, depends_on}
use Rattle.next_rules.specs.Strays.{lies_here, dir_of_number}
use Rattle.next_rules.proofs.Sums.{counts-from_sums, attr-merged, with_delta}
use Rattle.next_laws_shard.proofs.MapChanges.{from_insert, from_map_values}
use Rattle.next_laws_shard.proofs.Turned.{Turned, in_dir, dirs_in, turn-set, turn-cut, turned-alike}
use Rattle.next_laws_shard.proofs.Leaving.{Leaves, NewRow, NoRow}
use Rattle.next_laws_shard.proofs.Summed.{sums-kept}
use Rattle.next_laws_stages.specs.Stages.{Stage, Unborn, is_born, is_open}
use Rattle.next_laws_stages.specs.Held.{PlacesHold, dir_at}
use Rattle.next_laws_stages.proofs.Maps.{numbers_or_not}

-- ---- sums
-- a step that a place has still to make
abbrev pub unmade : (ℕ → ℕ) → PlaceNo → Stamp
unmade lasts place = record { number = suc (lasts (place.0 % 64)); place = place }

open_born : (s : Stage) → is_open s ≡ true → is_born s ≡ true
open_born Unborn h = cc
open_born s h = refl

module _ (stage : Node → Stage) (shard : Shard) (store : Store) (lasts : ℕ → ℕ) (h : PlacesHold stage shard store lasts) where
  -- no row lies in a directory that is still to be put
  no_rows_above : (place : PlaceNo) (name : List ℕ) → get shard.rows (made_at (unmade lasts place) ∷ name) ≡ None
  no_rows_above place name = by_row (get shard.rows (made_at (unmade lasts place) ∷ name)) refl
    where
      by_row : (o : Option Row) → get shard.rows (made_at (unmade lasts place) ∷ name) ≡ o → o ≡ None
      by_row None e = refl
      by_row (Some row) e =
          let low = h.issued (dir_at (made_at (unmade lasts place))) (open_born _ (h.housed (made_at (unmade lasts place)) name row e)) in
          let home : made_at (unmade lasts place) % 64 ≡ place.0 % 64 = omega arith in
          let same = ap lasts home in
          absurd (omega arith)

  -- the sums after any change of a shard's step, but for the stamps that it leaves
  pub sums_left : (place : PlaceNo) (t : Shard) → Leaves shard (unmade lasts place) t → SumsHold t
  sums_left place t leaves = sums-kept shard (unmade lasts place) (no_rows_above place) t leaves h.sums

-- the rows count the same whichever step set one of them
rows_alike : (rows : Names Row) (d : ℕ) (name : List ℕ) (x : Node) (a b : Stamp) (e : ℕ)
    → (in_dir e (insert rows (d ∷ name) (record { node = x; stamp = a })) ≡ in_dir e (insert rows (d ∷ name) (record { node = x; stamp = b })))
    × (dirs_in e (insert rows (d ∷ name) (record { node = x; stamp = a })) ≡ dirs_in e (insert rows (d ∷ name) (record { node = x; stamp = b })))
rows_alike rows d name x a b e =
    let one = turn-set rows d name (record { node = x; stamp = a }) (get rows (d ∷ name)) refl in
    let other = turn-set rows d name (record { node = x; stamp = b }) (get rows (d ∷ name)) refl in
    elim (numbers_or_not e d) [
      | inl same ↦ (
        ap (λ n. in_dir n (insert rows (d ∷ name) (record { node = x; stamp = a }))) same ∙ (let p = one.all in let q = other.all in omega arith) ∙ ap (λ n. in_dir n (insert rows (d ∷ name) (record { node = x; stamp = b }))) (sym same),
        ap (λ n. dirs_in n (insert rows (d ∷ name) (record { node = x; stamp = a }))) same ∙ (let p = one.dirs in let q = other.dirs in omega arith) ∙ ap (λ n. dirs_in n (insert rows (d ∷ name) (record { node = x; stamp = b }))) (sym same),
      )
      | inr differ ↦ (one.other_all e differ ∙ sym (other.other_all e differ), one.other_dirs e differ ∙ sym (other.other_dirs e differ))
    ]

module _ (stage : Node → Stage) (shard : Shard) (store : Store) (lasts : ℕ → ℕ) (h : PlacesHold stage shard store lasts) (dir : DirId) (name : List ℕ) (x : Node) (ts : Ts) (r : DirRec)
    (there : get shard.recs dir.0 ≡ Some r) where
  pub sums_inserted : (at : Stamp) → get shard.rows (row_key dir name) ≡ None → SumsHold (update (set_row shard dir name x at) dir (x ∷ []) [] ts (Some r))
  sums_inserted at free d q e =
      let old = sums_left stage shard store lasts h at.place _ (NewRow dir name x ts r there free) d q e in
      let alike = rows_alike shard.rows dir.0 name x (unmade lasts at.place) at d in
      record { children = old.children ∙ ap pos alike.0; subdirs = old.subdirs ∙ ap pos alike.1 }

  pub sums_cut : (owner : Actor) (at : Stamp) (row : Row) → get shard.rows (row_key dir name) ≡ Some row → row.node ≡ x
      → SumsHold (leave_debt (update (cut_row shard dir name) dir [] (x ∷ []) ts (get shard.recs dir.0)) owner at x)
  sums_cut owner at row found is d q e =
      let old = sums_left stage shard store lasts h at.place _ (NoRow dir name x ts owner row found (ap is_dir is)) d q e in
      record { children = old.children; subdirs = old.subdirs }

-- ---- links
-- where no job has a lock, none brings a directory and none takes one away
pub coming_none : (s : Shard) (dir : DirId) → s.locks ≡ empty → coming_in s dir ≡ 0
coming_none s dir none =
    ap (λ (m : Names RowLock). length (filter may_come (within dir.0 (entries m)))) none
    ∙ ap (λ (es : List (List ℕ × RowLock)). length (filter may_come (within dir.0 es))) (entries-empty (slice_cmp nat_cmp))

pub leaving_none : (s : Shard) (dir : DirId) → s.locks ≡ empty → leaving_in s dir ≡ 0
leaving_none s dir none =
    ap (λ (m : Names RowLock). length (filter (may_leave s dir) (within dir.0 (entries m)))) none
    ∙ ap (λ (es : List (List ℕ × RowLock)). length (filter (may_leave s dir) (within dir.0 es))) (entries-empty (slice_cmp nat_cmp))

-- with room there is a link left
room_left : (links leaving coming : ℕ) (job : Option JobNo) → room_of links leaving coming job ≡ HasRoom → links - leaving < link_max
room_left links leaving coming job h = by_test (nat_le link_max (links - leaving)) refl h
  where
    by_test : (b : Bool) → nat_le link_max (links - leaving) ≡ b
        → (if b then IsFull else (if nat_le link_max (links + coming) then depends_on job else HasRoom)) ≡ HasRoom → links - leaving < link_max
    by_test true e h = absurd (cc)
    by_test false e h = grind (arith, nat_tests)

pub has_link : (s : Shard) (dir : DirId) (x : Node) (r : DirRec) → s.locks ≡ empty → get s.recs dir.0 ≡ Some r → room_in s dir x ≡ HasRoom
    → links_in (Some r) ≤ link_max → links_in (Some r) + how_many is_dir (x ∷ []) ≤ link_max
has_link s dir (File file) r none there room few = omega arith
has_link s dir (Dir child) r none there room few =
    let left = room_left (links_in (get s.recs dir.0)) (leaving_in s dir) (coming_in s dir) _ room in
    let leaving = leaving_none s dir none in
    let links = ap links_in there in
    omega arith

-- rows come to a directory and go from it, as links allow
links_updated : (s t : Shard) (dir : DirId) (come gone : List Node) (ts : Ts) (r : DirRec) → t.recs ≡ s.recs → t.locks ≡ s.locks → get s.recs dir.0 ≡ Some r
    → Turned s.rows t.rows dir.0 come gone → SumsHold s → SumsHold (update t dir come gone ts (Some r))
    → links_in (Some r) + coming_in s dir + how_many is_dir come ≤ link_max + how_many is_dir gone → LinksHold s → LinksHold (update t dir come gone ts (Some r))
links_updated s t dir come gone ts r recs locks there turned sums now fits h d q e =
    elim (from_insert nat_cmp_total nat_cmp-IsAntisymmetric t.recs dir.0 d.0 (with_delta r (delta_of come gone ts)) q e) [
      | inl p ↦ here p.0 (counts-from_sums (update t dir come gone ts (Some r)) now d.0 q e).subdirs
      | inr p ↦ (let old = h d q (ap (λ m. get m d.0) (sym recs) ∙ p.1) in let same = coming d in omega arith)
    ]
  where
    coming : (d : DirId) → coming_in t d ≡ coming_in s d
    coming d = ap (λ (m : Names RowLock). length (filter may_come (within d.0 (entries m)))) locks

    here : d.0 ≡ dir.0 → (attr_of q).subdirs ≡ dirs_in d.0 t.rows → links_in (Some q) + coming_in t d ≤ link_max
    here same new =
        let was = (counts-from_sums s sums dir.0 r there).subdirs in
        let more = turned.dirs in
        let at = ap (λ n. dirs_in n t.rows) same in
        let locked = coming d in
        let lock = ap (λ n. coming_in s (record { 0 = n })) same in
        omega arith

module _ (shard : Shard) (dir : DirId) (name : List ℕ) (x : Node) (ts : Ts) (r : DirRec) (none : shard.locks ≡ empty) (there : get shard.recs dir.0 ≡ Some r) (sums : SumsHold shard)
    (links : LinksHold shard) where
  pub links_inserted : (at : Stamp) → get shard.rows (row_key dir name) ≡ None → room_in shard dir x ≡ HasRoom
      → SumsHold (update (set_row shard dir name x at) dir (x ∷ []) [] ts (Some r)) → LinksHold (update (set_row shard dir name x at) dir (x ∷ []) [] ts (Some r))
  links_inserted at free room now =
      let old = links dir r there in
      let coming = coming_none shard dir none in
      let fits = has_link shard dir x r none there room (omega arith) in
      links_updated shard (set_row shard dir name x at) dir (x ∷ []) [] ts r refl refl there
      (turn-set shard.rows dir.0 name (record { node = x; stamp = at }) None free) sums now (omega arith) links

  pub links_cut : (owner : Actor) (at : Stamp) (row : Row) → get shard.rows (row_key dir name) ≡ Some row → row.node ≡ x
      → SumsHold (update (cut_row shard dir name) dir [] (x ∷ []) ts (Some r)) → LinksHold (leave_debt (update (cut_row shard dir name) dir [] (x ∷ []) ts (Some r)) owner at x)
  links_cut owner at row found is now =
      let old = links dir r there in
      let coming = coming_none shard dir none in
      links_updated shard (cut_row shard dir name) dir [] (x ∷ []) ts r refl refl there
      (turned-alike shard.rows (remove shard.rows (dir.0 ∷ name)) dir.0 [] row.node x (ap is_dir is) (turn-cut shard.rows dir.0 name (Some row) found)) sums now (omega arith) links

-- a record with no more links
pub links_set : (s : Shard) (dir : DirId) (new : DirRec) → links_in (Some new) + coming_in s dir ≤ link_max → LinksHold s → LinksHold (set_rec s dir new)
links_set s dir new fits h d q e = elim (from_insert nat_cmp_total nat_cmp-IsAntisymmetric s.recs dir.0 d.0 new q e) [
  | inl p ↦ (let same = ap (λ n. coming_in s (record { 0 = n })) p.0 in let links = ap (λ z. links_in (Some z)) p.1 in omega arith)
  | inr p ↦ h d q p.1
]

merged_links : (place : PlaceNo) (d : ℕ) (r : DirRec) → links_in (Some (merged_at place d r)) ≡ links_in (Some r)
merged_links place d r = by_test (lies_here place (dir_of_number d)) refl
  where
    by_test : (b : Bool) → lies_here place (dir_of_number d) ≡ b → links_in (Some (merged_at place d r)) ≡ links_in (Some r)
    by_test true here = rw here (ap (λ a. 2 + a.subdirs) (attr-merged r))
    by_test false here = rw here refl

pub links_merged : (s : Shard) (place : PlaceNo) → LinksHold s → LinksHold (record s { recs = map_values (merged_at place) s.recs })
links_merged s place h d q e =
    let old = from_map_values nat_cmp_total nat_cmp-IsAntisymmetric (merged_at place) s.recs d.0 q e in
    let was = h d old.0 old.1 in
    let same = merged_links place d.0 old.0 in
    let links = ap (λ z. links_in (Some z)) old.2 in
    omega arith
