-- Each step adds one at most to what a shard has of each kind.
use Rattle.std.proofs.Common.{◌≡◌, ℕ, ◌+◌, ◌≤◌, List, [], ◌∷◌, ◌++◌, length, Bool, true, false, refl, sym, ap, ◌∙◌, subst, arith, inl, inr, length-append}
use Rattle.std.specs.Prelude.{◌==◌, Option, Some, None}
use Rattle.std.specs.Cmp.{nat_cmp_total}
use Rattle.std.specs.Cmp.Lexicographic.{nat_list_cmp_total}
use Rattle.std.specs.FinMap.{get, insert, remove, len, nat_cmp-IsAntisymmetric}
use Rattle.next_ids.specs.declared.attributes.Delta.{Delta}
use Rattle.next_ids.specs.declared.ids.Actor.{Actor}
use Rattle.next_ids.specs.declared.ids.Actor.TheVariants.{Renamer}
use Rattle.next_ids.specs.declared.ids.DirId.{DirId}
use Rattle.next_ids.specs.declared.ids.JobNo.{JobNo}
use Rattle.next_ids.specs.declared.ids.Node.{Node}
use Rattle.next_ids.specs.declared.ids.Node.TheVariants.{File}
use Rattle.next_ids.specs.declared.ids.Side.TheVariants.{Committed as CommittedSide}
use Rattle.next_ids.specs.declared.ids.Stamp.{Stamp}
use Rattle.next_ids.specs.declared.time.Ts.{Ts}
use Rattle.next_ids.specs.Maps.{Names, Numbers, row_key, map_values}
use Rattle.next_steps.specs.declared.contents.DirRec.{DirRec}
use Rattle.next_steps.specs.declared.contents.Row.{Row}
use Rattle.next_steps.specs.declared.contents.Debt.{Debt}
use Rattle.next_steps.specs.declared.contents.RowLock.{RowLock}
use Rattle.next_rules.specs.Contents.{Shard, made_at, debt_key}
use Rattle.next_rules.specs.Changes.{set_row, cut_row, nodes_in, update, delta_of, end_lock, leave_debt, leave_debts}
use Rattle.next_rules.specs.Locks.{source_at}
use Rattle.next_rules.specs.Moving.{taken, committed_as, given_up, end_source}
use Rattle.next_rules.specs.Owning.{merged_at}
use Rattle.next_rules.specs.Primitives.{swapped}
use Rattle.next_rules.specs.Strays.{lies_here, dir_of_number}
use Rattle.next_rules.proofs.Names.{bytes_apart}
use Rattle.next_laws_shard.specs.Bounds.{IsWithin}
use Rattle.next_laws_shard.proofs.MapChanges.{from_insert, from_remove, from_map_values, len-set, len-cut, len-values}
use Rattle.next_laws_shard.proofs.Parts.{rows-left, recs-left, locks-left, rows-unlocked, recs-unlocked, debts-unlocked}
use Rattle.next_laws_shard.proofs.Leaving.{Leaves, Same, NewRec, SameAttr, NoRec, AllMerged, NoDebt, NewLock, NoLock, NewRow, NoRow, RowMoved, Committed, SourceCut}

-- ---- maps of names
abbrev names_set : {X : Type 0} → (m : Names X) (k : List ℕ) (v : X) → len (insert m k v) ≤ len m + 1
names_set = len-set nat_list_cmp_total bytes_apart

abbrev names_cut : {X : Type 0} → (m : Names X) (k : List ℕ) → len (remove m k) ≤ len m
names_cut = len-cut nat_list_cmp_total bytes_apart

-- ---- records: how many there are, and the pending changes of each
pub record RecsWithin (recs steps : ℕ) (m : Numbers DirRec) : Type 0 where
  pub count : len m ≤ recs
  pub pending : (d : ℕ) (r : DirRec) → get m d ≡ Some r → length r.pending ≤ steps

recs_set : (n steps : ℕ) (m : Numbers DirRec) (d : ℕ) (r : DirRec) → length r.pending ≤ steps → RecsWithin n steps m → RecsWithin (n + 1) steps (insert m d r)
recs_set n steps m d r few h = record {
  count = let le = len-set nat_cmp_total nat_cmp-IsAntisymmetric m d r in let was = h.count in omega arith;
  pending = λ q x e. elim (from_insert nat_cmp_total nat_cmp-IsAntisymmetric m d q r x e) [
    | inl p ↦ subst (λ (y : DirRec). length y.pending ≤ steps) p.1 few
    | inr old ↦ h.pending q x old.1
  ];
}

recs_more : (n m steps more : ℕ) (recs : Numbers DirRec) → n ≤ m → steps ≤ more → RecsWithin n steps recs → RecsWithin m more recs
recs_more n m steps more recs le few h = record { count = let was = h.count in omega arith; pending = λ d r e. let was = h.pending d r e in omega arith }

-- one change more of a record that is there
recs_updated : (n steps : ℕ) (s : Shard) (dir : DirId) (come gone : List Node) (ts : Ts) (o : Option DirRec) → get s.recs dir.0 ≡ o → RecsWithin n steps s.recs
    → RecsWithin (n + 1) (steps + 1) (update s dir come gone ts o).recs
recs_updated n steps s dir come gone ts None there h = recs_more n (n + 1) steps (steps + 1) s.recs (omega arith) (omega arith) h
recs_updated n steps s dir come gone ts (Some r) there h =
    let was = h.pending dir.0 r there in
    let longer = length-append r.pending (delta_of come gone ts ∷ []) in
    recs_set n (steps + 1) s.recs dir.0 (record r { pending = r.pending ++ delta_of come gone ts ∷ [] }) (omega arith) (recs_more n n steps (steps + 1) s.recs (omega arith) (omega arith) h)

-- ---- the rows, locks and debts after a change of a record's attributes are those before
rows-updated : (s : Shard) (dir : DirId) (come gone : List Node) (ts : Ts) (o : Option DirRec) → (update s dir come gone ts o).rows ≡ s.rows
rows-updated s dir come gone ts None = refl
rows-updated s dir come gone ts (Some r) = refl

locks-updated : (s : Shard) (dir : DirId) (come gone : List Node) (ts : Ts) (o : Option DirRec) → (update s dir come gone ts o).locks ≡ s.locks
locks-updated s dir come gone ts None = refl
locks-updated s dir come gone ts (Some r) = refl

debts-updated : (s : Shard) (dir : DirId) (come gone : List Node) (ts : Ts) (o : Option DirRec) → (update s dir come gone ts o).debts ≡ s.debts
debts-updated s dir come gone ts None = refl
debts-updated s dir come gone ts (Some r) = refl

-- ---- debts
debts_left : (nodes : List Node) (s : Shard) (owner : Actor) (at : Stamp) → len (leave_debts s owner at nodes).debts ≤ len s.debts + length nodes
debts_left [] s owner at = omega arith
debts_left (node ∷ nodes) s owner at =
    let one = names_set s.debts (debt_key at.place node) (record { owner = owner; stamp = at }) in
    let rest = debts_left nodes (leave_debt s owner at node) owner at in
    omega arith

one_node : (o : Option Row) → length (nodes_in o) ≤ 1
one_node None = omega arith
one_node (Some row) = omega arith

-- ---- the parts of a shard as numbers
abbrev within : (n : ℕ) (t : Shard) → len t.rows ≤ n → RecsWithin (n + 1) n t.recs → len t.locks ≤ n → len t.debts ≤ n → IsWithin n t
within n t rows recs locks debts = record { rows = rows; recs = recs.count; locks = locks; debts = debts; pending = recs.pending }

recs_of : (n : ℕ) (s : Shard) → IsWithin n s → RecsWithin (n + 1) n s.recs
recs_of n s h = record { count = h.recs; pending = h.pending }

more_within : (n : ℕ) (s : Shard) → IsWithin n s → IsWithin (n + 1) s
more_within n s h = within (n + 1) s (let a = h.rows in omega arith) (recs_more (n + 1) (n + 1 + 1) n (n + 1) s.recs (omega arith) (omega arith) (recs_of n s h)) (let a = h.locks in omega arith) (let a = h.debts in omega arith)

merged_few : (at : Stamp) (d : ℕ) (r : DirRec) (b : Bool) → lies_here at.place (dir_of_number d) ≡ b → length (merged_at at.place d r).pending ≤ length r.pending
merged_few at d r true here = rw here (omega arith)
merged_few at d r false here = rw here (omega arith)

module _ (n : ℕ) (s : Shard) (at : Stamp) (h : IsWithin n s) where
  merged_within : RecsWithin (n + 1) n (map_values (merged_at at.place) s.recs)
  merged_within = record {
    count = let le = len-values nat_cmp_total nat_cmp-IsAntisymmetric (merged_at at.place) s.recs in let was = h.recs in omega arith;
    pending = λ d r e.
        let old = from_map_values nat_cmp_total nat_cmp-IsAntisymmetric (merged_at at.place) s.recs d r e in
        let few = merged_few at d old.0 (lies_here at.place (dir_of_number d)) refl in
        let was = h.pending d old.0 old.1 in
        subst (λ (x : DirRec). length x.pending ≤ n) old.2 (omega arith);
  }

  cut_within : (dir : DirId) → RecsWithin (n + 1) n (remove s.recs dir.0)
  cut_within dir = record {
    count = let le = len-cut nat_cmp_total nat_cmp-IsAntisymmetric s.recs dir.0 in let was = h.recs in omega arith;
    pending = λ d r e. h.pending d r (from_remove nat_cmp_total nat_cmp-IsAntisymmetric s.recs dir.0 d r e);
  }

  updated_within : (t : Shard) (dir : DirId) (come gone : List Node) (ts : Ts) (o : Option DirRec) → t.recs ≡ s.recs → get s.recs dir.0 ≡ o → RecsWithin (n + 1 + 1) (n + 1) (update t dir come gone ts o).recs
  updated_within t dir come gone ts o same there =
      recs_updated (n + 1) n t dir come gone ts o (ap (λ (m : Numbers DirRec). get m dir.0) same ∙ there) (subst (RecsWithin (n + 1) n) (sym same) (recs_of n s h))

  -- a shard whose other parts have grown by one at most, after a change of a record's attributes
  updated_shard : (t : Shard) (dir : DirId) (come gone : List Node) (ts : Ts) (o : Option DirRec) → len t.rows ≤ n + 1 → t.recs ≡ s.recs → get s.recs dir.0 ≡ o → len t.locks ≤ n + 1 → len t.debts ≤ n + 1
      → IsWithin (n + 1) (update t dir come gone ts o)
  updated_shard t dir come gone ts o rows recs there locks debts = within (n + 1) (update t dir come gone ts o)
      (subst (λ (m : Names Row). len m ≤ n + 1) (sym (rows-updated t dir come gone ts o)) rows)
      (updated_within t dir come gone ts o recs there)
      (subst (λ (m : Names RowLock). len m ≤ n + 1) (sym (locks-updated t dir come gone ts o)) locks)
      (subst (λ (m : Names Debt). len m ≤ n + 1) (sym (debts-updated t dir come gone ts o)) debts)

  given_up_locks : (t : Shard) (dir : DirId) (name : List ℕ) (o : Option JobNo) → len (end_source t dir name o).locks ≤ len t.locks
  given_up_locks t dir name None = omega arith
  given_up_locks t dir name (Some job) = names_cut t.locks (row_key dir name)

  -- what a commit leaves of a shard in which the new row is set
  commit_shard : (one : Bool) (t : Shard) (dir : DirId) (name : List ℕ) (to_dir : DirId) (node : Node) (old : List Node) (ts : Ts) → len t.rows ≤ n + 1 → t.recs ≡ s.recs → len t.locks ≤ n + 1 → len t.debts ≤ n + 1
      → IsWithin (n + 1) (committed_as one t dir name to_dir node old ts)
  commit_shard false t dir name to_dir node old ts rows recs locks debts =
      updated_shard t to_dir (node ∷ []) old ts (get t.recs to_dir.0) rows recs (ap (λ (m : Numbers DirRec). get m to_dir.0) (sym recs)) locks debts
  commit_shard true t dir name to_dir node old ts rows recs locks debts =
      let source = source_at t dir name in
      let row = names_cut t.rows (row_key dir name) in
      let lock = given_up_locks (cut_row t dir name) dir name source in
      updated_shard (given_up t dir name) to_dir (node ∷ []) (old ++ nodes_in (get t.rows (row_key dir name))) ts (get t.recs to_dir.0)
      (subst (λ (m : Names Row). len m ≤ n + 1) (sym (rows-unlocked (cut_row t dir name) dir name source)) (omega arith))
      (recs-unlocked (cut_row t dir name) dir name source ∙ recs) (ap (λ (m : Numbers DirRec). get m to_dir.0) (sym recs)) (omega arith)
      (subst (λ (m : Names Debt). len m ≤ n + 1) (sym (debts-unlocked (cut_row t dir name) dir name source)) debts)

  -- and the shard in which it is set
  taken_shard : (one : Bool) (job : JobNo) (dir : DirId) (name : List ℕ) (to_dir : DirId) (to_name : List ℕ) (node : Node) (old : List Node) (ts : Ts) → length old ≤ 1
      → IsWithin (n + 1) (committed_as one (taken s at job to_dir to_name node old) dir name to_dir node old ts)
  taken_shard one job dir name to_dir to_name node old ts few =
      let set = set_row s to_dir to_name node at in
      let left = leave_debts (set_row s to_dir to_name node at) Renamer at old in
      let row = names_set s.rows (row_key to_dir to_name) (record { node = node; stamp = at }) in
      let lock = names_set left.locks (row_key to_dir to_name) (record { job = job; side = CommittedSide; reserves = false }) in
      let same = ap (λ (m : Names RowLock). len m) (locks-left old set Renamer at) in
      let debt = debts_left old set Renamer at in
      let rows = h.rows in
      let locks = h.locks in
      let debts = h.debts in
      commit_shard one (taken s at job to_dir to_name node old) dir name to_dir node old ts
      (subst (λ (m : Names Row). len m ≤ n + 1) (sym (rows-left old set Renamer at)) (omega arith)) (recs-left old set Renamer at) (omega arith) (omega arith)

debts_within : (n : ℕ) (t : Shard) (nodes : List Node) (owner : Actor) (at : Stamp) → IsWithin (n + 1) t → len t.debts + length nodes ≤ n + 1 → IsWithin (n + 1) (leave_debts t owner at nodes)
debts_within n t nodes owner at h few = within (n + 1) (leave_debts t owner at nodes)
    (subst (λ (m : Names Row). len m ≤ n + 1) (sym (rows-left nodes t owner at)) h.rows)
    (subst (RecsWithin (n + 1 + 1) (n + 1)) (sym (recs-left nodes t owner at)) (recs_of (n + 1) t h))
    (subst (λ (m : Names RowLock). len m ≤ n + 1) (sym (locks-left nodes t owner at)) h.locks)
    (let le = debts_left nodes t owner at in omega arith)

pub within-kept : (n : ℕ) (s : Shard) (at : Stamp) (t : Shard) → Leaves s at t → IsWithin n s → IsWithin (n + 1) t
within-kept n s at _ Same h = more_within n s h
within-kept n s at _ (NewRec r children subdirs pending) h =
    let few = ap (length {A = Delta}) pending in
    let m = more_within n s h in
    within (n + 1) _ m.rows (recs_set (n + 1) (n + 1) s.recs (made_at at) r (omega arith) (recs_more (n + 1) (n + 1) n (n + 1) s.recs (omega arith) (omega arith) (recs_of n s h))) m.locks m.debts
within-kept n s at _ (SameAttr dir r new there base pending) h =
    let few = ap (length {A = Delta}) pending in
    let was = h.pending dir.0 r there in
    let m = more_within n s h in
    within (n + 1) _ m.rows (recs_set (n + 1) (n + 1) s.recs dir.0 new (omega arith) (recs_more (n + 1) (n + 1) n (n + 1) s.recs (omega arith) (omega arith) (recs_of n s h))) m.locks m.debts
within-kept n s at _ (NoRec dir) h =
    let m = more_within n s h in
    within (n + 1) _ m.rows (recs_more (n + 1) (n + 1 + 1) n (n + 1) _ (omega arith) (omega arith) (cut_within n s at h dir)) m.locks m.debts
within-kept n s at _ AllMerged h =
    let m = more_within n s h in
    within (n + 1) _ m.rows (recs_more (n + 1) (n + 1 + 1) n (n + 1) _ (omega arith) (omega arith) (merged_within n s at h)) m.locks m.debts
within-kept n s at _ (NoDebt node) h =
    let m = more_within n s h in
    let le = names_cut s.debts (debt_key at.place node) in
    let was = h.debts in
    within (n + 1) _ m.rows (recs_of (n + 1) s m) m.locks (omega arith)
within-kept n s at _ (NewLock dir name lock r there) h =
    let m = more_within n s h in
    let le = names_set s.locks (row_key dir name) lock in
    let was = h.locks in
    within (n + 1) _ m.rows (recs_of (n + 1) s m) (omega arith) m.debts
within-kept n s at _ (NoLock dir name) h =
    let m = more_within n s h in
    let le = names_cut s.locks (row_key dir name) in
    let was = h.locks in
    within (n + 1) _ m.rows (recs_of (n + 1) s m) (omega arith) m.debts
within-kept n s at _ (NewRow dir name node ts r there free) h =
    let m = more_within n s h in
    let le = names_set s.rows (row_key dir name) (record { node = node; stamp = at }) in
    let was = h.rows in
    within (n + 1) _ (omega arith) (updated_within n s at h (set_row s dir name node at) dir (node ∷ []) [] ts (Some r) refl there) m.locks m.debts
within-kept n s at _ (NoRow dir name node ts owner old there kind) h =
    let le = names_cut s.rows (row_key dir name) in
    let was = h.rows in
    let m = more_within n s h in
    debts_within n (update (cut_row s dir name) dir [] (node ∷ []) ts (get s.recs dir.0)) (node ∷ []) owner at
    (updated_shard n s at h (cut_row s dir name) dir [] (node ∷ []) ts (get s.recs dir.0) (omega arith) refl refl m.locks m.debts)
    (let d = h.debts in let same = ap (λ (m : Names Debt). len m) (debts-updated (cut_row s dir name) dir [] (node ∷ []) ts (get s.recs dir.0)) in omega arith)
within-kept n s at _ (RowMoved dir name to_name ts file gone owner old there is differ free) h =
    let cut = names_cut s.rows (row_key dir name) in
    let set = names_set (remove s.rows (row_key dir name)) (row_key dir to_name) (record { node = File file; stamp = at }) in
    let was = h.rows in
    let m = more_within n s h in
    let one = one_node (get s.rows (row_key dir to_name)) in
    let all = ap (length {A = Node}) free in
    debts_within n (swapped s at dir name to_name ts gone file) gone owner at
    (updated_shard n s at h (set_row (cut_row s dir name) dir to_name (File file) at) dir (File file ∷ []) (File file ∷ gone) ts (get s.recs dir.0) (omega arith) refl refl m.locks m.debts)
    (let d = h.debts in let same = ap (λ (m : Names Debt). len m) (debts-updated (set_row (cut_row s dir name) dir to_name (File file) at) dir (File file ∷ []) (File file ∷ gone) ts (get s.recs dir.0)) in omega arith)
within-kept n s at _ (Committed job dir name to_dir to_name node ts lock there) h = taken_shard n s at h (dir.0 == to_dir.0) job dir name to_dir to_name node (nodes_in (get s.rows (row_key to_dir to_name))) ts (one_node (get s.rows (row_key to_dir to_name)))
within-kept n s at _ (SourceCut dir name ts) h =
    let row = names_cut s.rows (row_key dir name) in
    let lock = names_cut s.locks (row_key dir name) in
    let rows = h.rows in
    let locks = h.locks in
    let m = more_within n s h in
    updated_shard n s at h (end_lock (cut_row s dir name) dir name) dir [] (nodes_in (get s.rows (row_key dir name))) ts (get s.recs dir.0) (omega arith) refl refl (omega arith) m.debts
