-- Each step keeps the sums of base and pending changes: they are how many rows a directory has, and how many of these name
-- a directory.
use Rattle.std.proofs.Common.{◌≡◌, ◌≢◌, ℕ, suc, ℤ, pos, ◌+◌, ◌<◌, ◌≤◌, ◌^◌, ◌+ℤ◌, ◌-ℤ◌, List, [], ◌∷◌, ◌++◌, length, Bool, true, false, refl, sym, ap, ◌∙◌, subst, arith, inl, inr}
use Rattle.std.proofs.lemmas.Int.{ints}
use Rattle.std.specs.Prelude.{◌==◌, ◌&&◌, if◌then◌else◌, Option, Some, None}
use Rattle.std.proofs.lemmas.Bool.Decides.{nat_tests}
use Rattle.std.specs.Cmp.{nat_cmp_total}
use Rattle.std.specs.FinMap.{get, insert, remove, entries, nat_cmp-IsAntisymmetric, len-entries}
use Rattle.next_ids.specs.declared.ids.Actor.TheVariants.{Renamer}
use Rattle.next_ids.specs.declared.ids.DirId.{DirId}
use Rattle.next_ids.specs.declared.ids.FileId.{FileId}
use Rattle.next_ids.specs.declared.ids.Node.{Node}
use Rattle.next_ids.specs.declared.ids.Node.TheVariants.{File}
use Rattle.next_ids.specs.declared.ids.Stamp.{Stamp}
use Rattle.next_ids.specs.declared.time.Ts.{Ts}
use Rattle.next_ids.specs.Attributes.{children_after, subdirs_after, IsCount}
use Rattle.next_ids.specs.Maps.{Names, Numbers, row_key, lies_in, how_many, map_values}
use Rattle.next_ids.specs.Namespace.{is_dir}
use Rattle.next_steps.specs.declared.contents.DirRec.{DirRec}
use Rattle.next_steps.specs.declared.contents.Row.{Row}
use Rattle.next_steps.specs.declared.ask.Ask.{Ask}
use Rattle.next_rules.specs.Contents.{Shard, made_at}
use Rattle.next_rules.specs.Changes.{set_row, cut_row, nodes_in, set_rec, update, delta_of, end_lock}
use Rattle.next_rules.specs.Facts.{Summed, SumsHold}
use Rattle.next_rules.specs.Locks.{source_at}
use Rattle.next_rules.specs.Moving.{taken, committed_as, given_up}
use Rattle.next_rules.specs.Owning.{merged_at}
use Rattle.next_rules.specs.Places.{serve_shard}
use Rattle.next_rules.specs.Primitives.{swapped}
use Rattle.next_rules.specs.Strays.{lies_here, dir_of_number}
use Rattle.next_rules.proofs.Empties.{no_children, no_subdirs}
use Rattle.next_rules.proofs.Sums.{children-grown, subdirs-grown, children-merged, subdirs-merged, with_delta}
use Rattle.next_laws_shard.specs.Bounds.{IsKnown, IsWithin, CanMerge}
use Rattle.next_laws_shard.proofs.MapChanges.{from_insert, from_remove, from_map_values}
use Rattle.next_laws_shard.proofs.Parts.{rows-left, recs-left, rows-unlocked, recs-unlocked}
use Rattle.next_laws_shard.proofs.Turned.{Turned, in_dir, dirs_in, turn-cut, turn-set, turn-twice, turned-alike, kept_after_cut}
use Rattle.next_laws_shard.proofs.Leaving.{Leaves, Same, NewRec, SameAttr, NoRec, AllMerged, NoDebt, NewLock, NoLock, NewRow, NoRow, RowMoved, Committed, SourceCut, leaves}

-- the sums are of the rows and the records alone
sums-same : (s t : Shard) → t.rows ≡ s.rows → t.recs ≡ s.recs → SumsHold s → SumsHold t
sums-same s t rows recs h d r there =
    let was = h d r (ap (λ (m : Numbers DirRec). get m d) (sym recs) ∙ there) in
    record { children = was.children ∙ ap (λ (m : Names Row). pos (in_dir d m)) (sym rows); subdirs = was.subdirs ∙ ap (λ (m : Names Row). pos (dirs_in d m)) (sym rows) }

grown : (z : ℤ) (was now come gone : ℕ) → z ≡ pos was → now + gone ≡ was + come → z +ℤ (pos come -ℤ pos gone) ≡ pos now
grown z was now come gone e turned = omega (arith, ints)

-- ---- rows come and go, and the record of their directory has a change more
sums-updated : (s t : Shard) (dir : DirId) (come gone : List Node) (ts : Ts) (o : Option DirRec) → get s.recs dir.0 ≡ o → t.recs ≡ s.recs → Turned s.rows t.rows dir.0 come gone → SumsHold s
    → SumsHold (update t dir come gone ts o)
sums-updated s t dir come gone ts None none recs turned h d r there = record {
  children = was.children ∙ sym (ap pos (turned.other_all d differ));
  subdirs = was.subdirs ∙ sym (ap pos (turned.other_dirs d differ));
}
  where
    old : get s.recs d ≡ Some r
    old = ap (λ (m : Numbers DirRec). get m d) (sym recs) ∙ there

    was : Summed s d r
    was = h d r old

    differ : d ≢ dir.0
    differ e = let same : get s.recs dir.0 ≡ Some r = ap (get s.recs) (sym e) ∙ old in cc
sums-updated s t dir come gone ts (Some r) here recs turned h d x there = elim (from_insert nat_cmp_total nat_cmp-IsAntisymmetric t.recs dir.0 d (with_delta r (delta_of come gone ts)) x there) [
  | inl p ↦ subst (Summed (update t dir come gone ts (Some r)) d) p.1 (subst (λ n. Summed (update t dir come gone ts (Some r)) n (with_delta r (delta_of come gone ts))) (sym p.0) changed)
  | inr p ↦ other p.0 p.1
]
  where
    changed : Summed (update t dir come gone ts (Some r)) dir.0 (with_delta r (delta_of come gone ts))
    changed =
        let was = h dir.0 r here in
        record {
          children = children-grown r (delta_of come gone ts) ∙ grown (children_after r.base r.pending) (in_dir dir.0 s.rows) (in_dir dir.0 t.rows) (length come) (length gone) was.children turned.all;
          subdirs = subdirs-grown r (delta_of come gone ts) ∙ grown (subdirs_after r.base r.pending) (dirs_in dir.0 s.rows) (dirs_in dir.0 t.rows) (how_many is_dir come) (how_many is_dir gone) was.subdirs turned.dirs;
        }

    other : d ≢ dir.0 → get t.recs d ≡ Some x → Summed (update t dir come gone ts (Some r)) d x
    other differ old =
        let was = h d x (ap (λ (m : Numbers DirRec). get m d) (sym recs) ∙ old) in
        record { children = was.children ∙ sym (ap pos (turned.other_all d differ)); subdirs = was.subdirs ∙ sym (ap pos (turned.other_dirs d differ)) }

-- ---- a commit
commit_sums : (s t : Shard) (one : Bool) (dir : DirId) (name : List ℕ) (to_dir : DirId) (node : Node) (old : List Node) (ts : Ts) → (dir.0 == to_dir.0) ≡ one → t.recs ≡ s.recs
    → Turned s.rows t.rows to_dir.0 (node ∷ []) old → SumsHold s → SumsHold (committed_as one t dir name to_dir node old ts)
commit_sums s t false dir name to_dir node old ts apart recs turned h =
    sums-updated s t to_dir (node ∷ []) old ts (get t.recs to_dir.0) (ap (λ (m : Numbers DirRec). get m to_dir.0) (sym recs)) recs turned h
commit_sums s t true dir name to_dir node old ts one recs turned h =
    let source = source_at t dir name in
    let same : dir.0 ≡ to_dir.0 = grind (arith, nat_tests) in
    let cut : Turned t.rows (remove t.rows (dir.0 ∷ name)) to_dir.0 [] (nodes_in (get t.rows (dir.0 ∷ name))) = subst (λ n. Turned t.rows (remove t.rows (dir.0 ∷ name)) n [] (nodes_in (get t.rows (dir.0 ∷ name)))) same (turn-cut t.rows dir.0 name (get t.rows (dir.0 ∷ name)) refl) in
    let both = turn-twice s.rows t.rows (remove t.rows (dir.0 ∷ name)) to_dir.0 (node ∷ []) old [] (nodes_in (get t.rows (dir.0 ∷ name))) turned cut in
    sums-updated s (given_up t dir name) to_dir (node ∷ []) (old ++ nodes_in (get t.rows (dir.0 ∷ name))) ts (get t.recs to_dir.0) (ap (λ (m : Numbers DirRec). get m to_dir.0) (sym recs))
    (recs-unlocked (cut_row t dir name) dir name source ∙ recs)
    (subst (λ (m : Names Row). Turned s.rows m to_dir.0 (node ∷ []) (old ++ nodes_in (get t.rows (dir.0 ∷ name)))) (sym (rows-unlocked (cut_row t dir name) dir name source)) both) h

-- ---- a file's row moves to another name
moved_turn : (rows : Names Row) (d : ℕ) (name to_name : List ℕ) (row new : Row) (file : FileId) (gone : List Node) → get rows (d ∷ name) ≡ Some row → row.node ≡ File file → new.node ≡ File file → name ≢ to_name
    → nodes_in (get rows (d ∷ to_name)) ≡ gone → Turned rows (insert (remove rows (d ∷ name)) (d ∷ to_name) new) d (File file ∷ []) (File file ∷ gone)
moved_turn rows d name to_name row new file gone there is is_new differ free =
    let kept : get (remove rows (d ∷ name)) (d ∷ to_name) ≡ get rows (d ∷ to_name) = kept_after_cut rows (d ∷ name) (d ∷ to_name) (λ e. differ (cc)) in
    let cut = subst (λ n. Turned rows (remove rows (d ∷ name)) d [] (n ∷ [])) is (turn-cut rows d name (Some row) there) in
    let set = turn-set (remove rows (d ∷ name)) d to_name new (get (remove rows (d ∷ name)) (d ∷ to_name)) refl in
    let set_new = subst (λ n. Turned (remove rows (d ∷ name)) (insert (remove rows (d ∷ name)) (d ∷ to_name) new) d (n ∷ []) (nodes_in (get (remove rows (d ∷ name)) (d ∷ to_name)))) is_new set in
    let set_gone = subst (λ ns. Turned (remove rows (d ∷ name)) (insert (remove rows (d ∷ name)) (d ∷ to_name) new) d (File file ∷ []) ns) (ap nodes_in kept ∙ free) set_new in
    turn-twice rows (remove rows (d ∷ name)) (insert (remove rows (d ∷ name)) (d ∷ to_name) new) d [] (File file ∷ []) (File file ∷ []) gone cut set_gone

-- ---- a record whose attributes are those of a record that was there, or a new one of a directory without rows
rec_sums : (s : Shard) (dir : DirId) (new : DirRec) → Summed s dir.0 new → SumsHold s → SumsHold (set_rec s dir new)
rec_sums s dir new here h d x there = elim (from_insert nat_cmp_total nat_cmp-IsAntisymmetric s.recs dir.0 d new x there) [
  | inl p ↦ (let here' = subst (λ (r : DirRec). Summed s dir.0 r) p.1 here in record { children = here'.children ∙ sym (ap (λ n. pos (in_dir n s.rows)) p.0); subdirs = here'.subdirs ∙ sym (ap (λ n. pos (dirs_in n s.rows)) p.0) })
  | inr p ↦ (let was = h d x p.1 in record { children = was.children; subdirs = was.subdirs })
]

pub new_sums : (s : Shard) (d : ℕ) (r : DirRec) → ((name : List ℕ) → get s.rows (d ∷ name) ≡ None) → r.base.children ≡ 0 → r.base.subdirs ≡ 0 → r.pending ≡ [] → Summed s d r
new_sums s d r none children subdirs pending = record {
  children = ap (children_after r.base) pending ∙ zero_sum r.base.children (in_dir d s.rows) children (no_children s d none);
  subdirs = ap (subdirs_after r.base) pending ∙ zero_sum r.base.subdirs (dirs_in d s.rows) subdirs (no_subdirs s d none);
}
  where
    zero_sum : (a b : ℕ) → a ≡ 0 → b ≡ 0 → pos a +ℤ pos 0 ≡ pos b
    zero_sum a b x y = omega (arith, ints)

alike_sums : (s : Shard) (d : ℕ) (r new : DirRec) → new.base ≡ r.base → new.pending ≡ r.pending → Summed s d r → Summed s d new
alike_sums s d r new base pending h = record {
  children = (λ i. children_after (base i) (pending i)) ∙ h.children;
  subdirs = (λ i. subdirs_after (base i) (pending i)) ∙ h.subdirs;
}

-- ---- a merge
merged_sums : (s : Shard) (at : Stamp) (d : ℕ) (r : DirRec) (b : Bool) → lies_here at.place (dir_of_number d) ≡ b → Summed s d r → Summed s d (merged_at at.place d r)
merged_sums s at d r true here h = rw here (record { children = children-merged r (in_dir d s.rows) h.children; subdirs = subdirs-merged r (dirs_in d s.rows) h.subdirs })
merged_sums s at d r false here h = rw here h

all_merged : (s : Shard) (at : Stamp) → SumsHold s → SumsHold (record s { recs = map_values (merged_at at.place) s.recs })
all_merged s at h d x there =
    let old = from_map_values nat_cmp_total nat_cmp-IsAntisymmetric (merged_at at.place) s.recs d x there in
    let sums = merged_sums s at d old.0 (lies_here at.place (dir_of_number d)) refl (h d old.0 old.1) in
    let now = subst (λ (r : DirRec). Summed s d r) old.2 sums in
    record { children = now.children; subdirs = now.subdirs }

module _ (s : Shard) (at : Stamp) (none : (name : List ℕ) → get s.rows (made_at at ∷ name) ≡ None) where
  pub sums-kept : (t : Shard) → Leaves s at t → SumsHold s → SumsHold t
  sums-kept _ Same h = h
  sums-kept _ (NewRec r children subdirs pending) h = rec_sums s (record { 0 = made_at at }) r (new_sums s (made_at at) r none children subdirs pending) h
  sums-kept _ (SameAttr dir r new there base pending) h = rec_sums s dir new (alike_sums s dir.0 r new base pending (h dir.0 r there)) h
  sums-kept _ (NoRec dir) h = λ d r there. let was = h d r (from_remove nat_cmp_total nat_cmp-IsAntisymmetric s.recs dir.0 d r there) in record { children = was.children; subdirs = was.subdirs }
  sums-kept _ AllMerged h = all_merged s at h
  sums-kept _ (NoDebt node) h = sums-same s _ refl refl h
  sums-kept _ (NewLock dir name lock r there) h = sums-same s _ refl refl h
  sums-kept _ (NoLock dir name) h = sums-same s _ refl refl h
  sums-kept _ (NewRow dir name node ts r there free) h =
      sums-updated s (set_row s dir name node at) dir (node ∷ []) [] ts (Some r) there refl (turn-set s.rows dir.0 name (record { node = node; stamp = at }) None free) h
  sums-kept _ (NoRow dir name node ts owner row there kind) h = sums-same (update (cut_row s dir name) dir [] (node ∷ []) ts (get s.recs dir.0)) _ refl refl
      (sums-updated s (cut_row s dir name) dir [] (node ∷ []) ts (get s.recs dir.0) refl refl (turned-alike s.rows (remove s.rows (dir.0 ∷ name)) dir.0 [] row.node node kind (turn-cut s.rows dir.0 name (Some row) there)) h)
  sums-kept _ (RowMoved dir name to_name ts file gone owner row there is differ free) h =
      sums-same (swapped s at dir name to_name ts gone file) _ (rows-left gone (swapped s at dir name to_name ts gone file) owner at) (recs-left gone (swapped s at dir name to_name ts gone file) owner at)
      (sums-updated s (set_row (cut_row s dir name) dir to_name (File file) at) dir (File file ∷ []) (File file ∷ gone) ts (get s.recs dir.0) refl refl
      (moved_turn s.rows dir.0 name to_name row (record { node = File file; stamp = at }) file gone there is refl differ free) h)
  sums-kept _ (Committed job dir name to_dir to_name node ts lock there) h =
      let old = nodes_in (get s.rows (row_key to_dir to_name)) in
      commit_sums s (taken s at job to_dir to_name node old) (dir.0 == to_dir.0) dir name to_dir node old ts refl (recs-left old (set_row s to_dir to_name node at) Renamer at)
      (subst (λ (m : Names Row). Turned s.rows m to_dir.0 (node ∷ []) (nodes_in (get s.rows (row_key to_dir to_name)))) (sym (rows-left old (set_row s to_dir to_name node at) Renamer at))
      (turn-set s.rows to_dir.0 to_name (record { node = node; stamp = at }) (get s.rows (to_dir.0 ∷ to_name)) refl)) h
  sums-kept _ (SourceCut dir name ts) h =
      sums-updated s (end_lock (cut_row s dir name) dir name) dir [] (nodes_in (get s.rows (row_key dir name))) ts (get s.recs dir.0) refl refl (turn-cut s.rows dir.0 name (get s.rows (dir.0 ∷ name)) refl) h

-- no row lies in what a later step makes
none_made : (last : ℕ) (s : Shard) (at : Stamp) → last < at.number → IsKnown last s → (name : List ℕ) → get s.rows (made_at at ∷ name) ≡ None
none_made last s at later h name = by_row (get s.rows (made_at at ∷ name)) refl
  where
    by_row : (o : Option Row) → get s.rows (made_at at ∷ name) ≡ o → o ≡ None
    by_row None e = refl
    by_row (Some row) e = let low = h.rows (made_at at) name row e in absurd (omega arith)

pub serve-sums : (last : ℕ) (s : Shard) (at : Stamp) (moment : ℕ) (a : Ask) → last < at.number → IsKnown last s → SumsHold s → SumsHold (serve_shard s at moment a).contents
serve-sums last s at moment a later known h = sums-kept s at (none_made last s at later known) (serve_shard s at moment a).contents (leaves s at moment a) h

-- ---- so the pending changes of a short log can be worked in
many-few : {X : Type 0} (p : X → Bool) (xs : List X) → how_many p xs ≤ length xs
many-few p [] = omega arith
many-few p (x ∷ xs) = by_test (p x) (many-few p xs)
  where
    by_test : (b : Bool) → how_many p xs ≤ length xs → (if b then suc (how_many p xs) else how_many p xs) ≤ suc (length xs)
    by_test true le = omega arith
    by_test false le = omega arith

count : (z : ℤ) (n steps : ℕ) → z ≡ pos n → n ≤ steps → steps < 2 ^ 31 → IsCount z
count z n steps e le few = (omega (arith, ints), omega (arith, ints))

pub can_merge : (steps : ℕ) (s : Shard) → steps < 2 ^ 31 → IsWithin steps s → SumsHold s → CanMerge s
can_merge steps s few within h d r there =
    let sums = h d r there in
    let pending = within.pending d r there in
    let rows = within.rows in
    let all = len-entries s.rows in (
      omega arith,
      count (children_after r.base r.pending) (in_dir d s.rows) steps sums.children (let le = many-few (λ e. lies_in d e.0) (entries s.rows) in omega arith) few,
      count (subdirs_after r.base r.pending) (dirs_in d s.rows) steps sums.subdirs (let le = many-few (λ e. lies_in d e.0 && is_dir e.1.node) (entries s.rows) in omega arith) few,
    )
