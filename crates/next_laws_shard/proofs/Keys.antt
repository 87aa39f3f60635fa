-- A fact about the keys of a shard that each step keeps, where it holds of what the step makes.
use Rattle.std.proofs.Common.{◌≡◌, ℕ, ◌+◌, ◌*◌, ◌%◌, ◌<◌, ◌≤◌, List, [], ◌∷◌, ◌++◌, Bool, true, false, refl, sym, ap, subst, arith, inl, inr}
use Rattle.std.specs.Prelude.{◌==◌, Option, Some, None}
use Rattle.std.specs.Cmp.{nat_cmp_total}
use Rattle.std.specs.Cmp.Lexicographic.{nat_list_cmp_total}
use Rattle.std.specs.FinMap.{get, insert, remove, nat_cmp-IsAntisymmetric}
use Rattle.next_ids.specs.declared.ids.Actor.{Actor}
use Rattle.next_ids.specs.declared.ids.DirId.{DirId}
use Rattle.next_ids.specs.declared.ids.JobNo.{JobNo}
use Rattle.next_ids.specs.declared.ids.Node.{Node}
use Rattle.next_ids.specs.declared.ids.Node.TheVariants.{File}
use Rattle.next_ids.specs.declared.ids.Stamp.{Stamp}
use Rattle.next_ids.specs.declared.time.Ts.{Ts}
use Rattle.next_ids.specs.Maps.{Names, Numbers, row_key}
use Rattle.next_steps.specs.declared.contents.Debt.{Debt}
use Rattle.next_steps.specs.declared.contents.DirRec.{DirRec}
use Rattle.next_steps.specs.declared.contents.Row.{Row}
use Rattle.next_steps.specs.declared.contents.RowLock.{RowLock}
use Rattle.next_steps.specs.declared.ask.Ask.{Ask}
use Rattle.next_rules.specs.Contents.{Shard, made_at, debt_key}
use Rattle.next_rules.specs.Changes.{set_row, cut_row, nodes_in, set_rec, update, set_lock, end_lock, leave_debt, leave_debts}
use Rattle.next_rules.specs.Homes.{IsOwnShard, home_of_row, home_of_debt}
use Rattle.next_rules.specs.Locks.{source_at}
use Rattle.next_rules.specs.Moving.{taken, committed_as, given_up, end_source}
use Rattle.next_rules.specs.Owning.{merged_at}
use Rattle.next_rules.specs.Places.{serve_shard}
use Rattle.next_rules.proofs.Names.{bytes_apart}
use Rattle.next_laws_shard.specs.Bounds.{IsKnown}
use Rattle.next_laws_shard.proofs.MapChanges.{from_insert, from_remove, from_map_values}
use Rattle.next_laws_shard.proofs.Parts.{recs-unlocked}
use Rattle.next_laws_shard.proofs.Leaving.{Leaves, Same, NewRec, SameAttr, NoRec, AllMerged, NoDebt, NewLock, NoLock, NewRow, NoRow, RowMoved, Committed, SourceCut, leaves}

-- ---- one map: a key that is set or cut
names_set : {X : Type 0} (Q : List ℕ → Type 0) (m : Names X) (k : List ℕ) (v : X) → Q k → ((q : List ℕ) (x : X) → get m q ≡ Some x → Q q) → (q : List ℕ) (x : X) → get (insert m k v) q ≡ Some x → Q q
names_set Q m k v here h q x e = elim (from_insert nat_list_cmp_total bytes_apart m k q v x e) [ inl p ↦ subst Q (sym p.0) here | inr old ↦ h q x old.1 ]

names_cut : {X : Type 0} (Q : List ℕ → Type 0) (m : Names X) (k : List ℕ) → ((q : List ℕ) (x : X) → get m q ≡ Some x → Q q) → (q : List ℕ) (x : X) → get (remove m k) q ≡ Some x → Q q
names_cut Q m k h q x e = h q x (from_remove nat_list_cmp_total bytes_apart m k q x e)

module _ (P : ℕ → Type 0) (Q D : List ℕ → Type 0) where
  -- the numbers of the records, the keys of rows and locks, and those of debts
  pub record KeysHold (s : Shard) : Type 0 where
    pub rows : (k : List ℕ) (row : Row) → get s.rows k ≡ Some row → Q k
    pub recs : (d : ℕ) (r : DirRec) → get s.recs d ≡ Some r → P d
    pub locks : (k : List ℕ) (lock : RowLock) → get s.locks k ≡ Some lock → Q k
    pub debts : (k : List ℕ) (debt : Debt) → get s.debts k ≡ Some debt → D k

  -- ---- one change
  row_set : (s : Shard) (dir : DirId) (name : List ℕ) (node : Node) (at : Stamp) → Q (dir.0 ∷ name) → KeysHold s → KeysHold (set_row s dir name node at)
  row_set s dir name node at here h = record { rows = names_set Q s.rows (dir.0 ∷ name) _ here h.rows; recs = h.recs; locks = h.locks; debts = h.debts }

  row_cut : (s : Shard) (dir : DirId) (name : List ℕ) → KeysHold s → KeysHold (cut_row s dir name)
  row_cut s dir name h = record { rows = names_cut Q s.rows (dir.0 ∷ name) h.rows; recs = h.recs; locks = h.locks; debts = h.debts }

  rec_set : (s : Shard) (dir : DirId) (r : DirRec) → P dir.0 → KeysHold s → KeysHold (set_rec s dir r)
  rec_set s dir r here h = record {
    rows = h.rows;
    recs = λ d x e. elim (from_insert nat_cmp_total nat_cmp-IsAntisymmetric s.recs dir.0 d r x e) [ inl p ↦ subst P (sym p.0) here | inr old ↦ h.recs d x old.1 ];
    locks = h.locks;
    debts = h.debts;
  }

  updated : (s : Shard) (dir : DirId) (come gone : List Node) (ts : Ts) (o : Option DirRec) → get s.recs dir.0 ≡ o → KeysHold s → KeysHold (update s dir come gone ts o)
  updated s dir come gone ts None there h = h
  updated s dir come gone ts (Some r) there h = rec_set s dir _ (h.recs dir.0 r there) h

  lock_set : (s : Shard) (dir : DirId) (name : List ℕ) (lock : RowLock) → Q (dir.0 ∷ name) → KeysHold s → KeysHold (set_lock s dir name lock)
  lock_set s dir name lock here h = record { rows = h.rows; recs = h.recs; locks = names_set Q s.locks (dir.0 ∷ name) lock here h.locks; debts = h.debts }

  lock_cut : (s : Shard) (dir : DirId) (name : List ℕ) → KeysHold s → KeysHold (end_lock s dir name)
  lock_cut s dir name h = record { rows = h.rows; recs = h.recs; locks = names_cut Q s.locks (dir.0 ∷ name) h.locks; debts = h.debts }

  source_ended : (s : Shard) (dir : DirId) (name : List ℕ) (o : Option JobNo) → KeysHold s → KeysHold (end_source s dir name o)
  source_ended s dir name None h = h
  source_ended s dir name (Some job) h = lock_cut s dir name h

  debts_left : (at : Stamp) → ((node : Node) → D (debt_key at.place node)) → (nodes : List Node) (s : Shard) (owner : Actor) → KeysHold s → KeysHold (leave_debts s owner at nodes)
  debts_left at debt [] s owner h = h
  debts_left at debt (node ∷ nodes) s owner h = debts_left at debt nodes (leave_debt s owner at node) owner
      (record { rows = h.rows; recs = h.recs; locks = h.locks; debts = names_set D s.debts (debt_key at.place node) _ (debt node) h.debts })

  -- ---- all changes
  module _ (row : (d : ℕ) (name : List ℕ) → P d → Q (d ∷ name)) (dir_of : (d : ℕ) (name : List ℕ) → Q (d ∷ name) → P d) (at : Stamp) (made : P (made_at at))
      (debt : (node : Node) → D (debt_key at.place node)) where
    committed : (s : Shard) (one : Bool) (job : JobNo) (dir : DirId) (name : List ℕ) (to_dir : DirId) (to_name : List ℕ) (node : Node) (old : List Node) (ts : Ts) → Q (to_dir.0 ∷ to_name) → KeysHold s
        → KeysHold (committed_as one (taken s at job to_dir to_name node old) dir name to_dir node old ts)
    committed s one job dir name to_dir to_name node old ts here h = by_case one
      where
        after : Shard
        after = taken s at job to_dir to_name node old

        taking : KeysHold (taken s at job to_dir to_name node old)
        taking = lock_set _ to_dir to_name _ here (debts_left at debt old (set_row s to_dir to_name node at) _ (row_set s to_dir to_name node at here h))

        by_case : (b : Bool) → KeysHold (committed_as b (taken s at job to_dir to_name node old) dir name to_dir node old ts)
        by_case true = updated (given_up (taken s at job to_dir to_name node old) dir name) to_dir (node ∷ []) (old ++ nodes_in (get (taken s at job to_dir to_name node old).rows (row_key dir name))) ts _
            (ap (λ (m : Numbers DirRec). get m to_dir.0) (recs-unlocked (cut_row (taken s at job to_dir to_name node old) dir name) dir name (source_at (taken s at job to_dir to_name node old) dir name)))
            (source_ended _ dir name _ (row_cut _ dir name taking))
        by_case false = updated (taken s at job to_dir to_name node old) to_dir (node ∷ []) old ts _ refl taking

    pub keys-kept : (s t : Shard) → Leaves s at t → KeysHold s → KeysHold t
    keys-kept s _ Same h = h
    keys-kept s _ (NewRec r children subdirs pending) h = rec_set s (record { 0 = made_at at }) r made h
    keys-kept s _ (SameAttr dir r new there base pending) h = rec_set s dir new (h.recs dir.0 r there) h
    keys-kept s _ (NoRec dir) h = record { rows = h.rows; recs = λ d x e. h.recs d x (from_remove nat_cmp_total nat_cmp-IsAntisymmetric s.recs dir.0 d x e); locks = h.locks; debts = h.debts }
    keys-kept s _ AllMerged h = record {
      rows = h.rows;
      recs = λ d x e. let old = from_map_values nat_cmp_total nat_cmp-IsAntisymmetric (merged_at at.place) s.recs d x e in h.recs d old.0 old.1;
      locks = h.locks;
      debts = h.debts;
    }
    keys-kept s _ (NoDebt node) h = record { rows = h.rows; recs = h.recs; locks = h.locks; debts = names_cut D s.debts (debt_key at.place node) h.debts }
    keys-kept s _ (NewLock dir name lock r there) h = lock_set s dir name lock (row dir.0 name (h.recs dir.0 r there)) h
    keys-kept s _ (NoLock dir name) h = lock_cut s dir name h
    keys-kept s _ (NewRow dir name node ts r there free) h =
        updated (set_row s dir name node at) dir (node ∷ []) [] ts (Some r) there (row_set s dir name node at (row dir.0 name (h.recs dir.0 r there)) h)
    keys-kept s _ (NoRow dir name node ts owner old there kind) h =
        debts_left at debt (node ∷ []) _ owner (updated (cut_row s dir name) dir [] (node ∷ []) ts _ refl (row_cut s dir name h))
    keys-kept s _ (RowMoved dir name to_name ts file gone owner old there is differ free) h =
        debts_left at debt gone _ owner
        (updated (set_row (cut_row s dir name) dir to_name (File file) at) dir (File file ∷ []) (File file ∷ gone) ts _ refl
        (row_set (cut_row s dir name) dir to_name (File file) at (row dir.0 to_name (dir_of dir.0 name (h.rows (dir.0 ∷ name) old there))) (row_cut s dir name h)))
    keys-kept s _ (Committed job dir name to_dir to_name node ts lock there) h = committed s (dir.0 == to_dir.0) job dir name to_dir to_name node (nodes_in (get s.rows (row_key to_dir to_name))) ts (h.locks (to_dir.0 ∷ to_name) lock there) h
    keys-kept s _ (SourceCut dir name ts) h = updated (end_lock (cut_row s dir name) dir name) dir [] (nodes_in (get s.rows (row_key dir name))) ts _ refl (lock_cut (cut_row s dir name) dir name (row_cut s dir name h))

-- ---- a shard has its own directories and debts alone
pub own-kept : (index : ℕ) (s : Shard) (at : Stamp) (moment : ℕ) (a : Ask) → at.place.0 ≡ index → index < 64 → IsOwnShard index s → IsOwnShard index (serve_shard s at moment a).contents
own-kept index s at moment a here small own =
    let kept = keys-kept (λ d. d % 64 ≡ index) (λ k. home_of_row k ≡ index) (λ k. home_of_debt k ≡ index) (λ d name p. p) (λ d name p. p) at (omega arith) debt s (serve_shard s at moment a).contents (leaves s at moment a)
    (record { rows = own.rows; recs = own.recs; locks = own.locks; debts = own.debts }) in
    record { rows = kept.rows; recs = kept.recs; locks = kept.locks; debts = kept.debts }
  where
    debt : (node : Node) → home_of_debt (debt_key at.place node) ≡ index
    debt node = here

-- ---- the numbers of its directories are below those that a later step makes
pub later-known : (n m : ℕ) (s : Shard) → n ≤ m → IsKnown n s → IsKnown m s
later-known n m s le h = record {
  rows = λ d name row e. let low = h.rows d name row e in omega arith;
  recs = λ d r e. let low = h.recs d r e in omega arith;
  locks = λ d name lock e. let low = h.locks d name lock e in omega arith;
}

abbrev below : ℕ → List ℕ → Type 0
below bound [] = Unit {0}
below bound (d ∷ name) = d < bound

pub known-kept : (last : ℕ) (s : Shard) (at : Stamp) (moment : ℕ) (a : Ask) → last < at.number → IsKnown last s → IsKnown at.number (serve_shard s at moment a).contents
known-kept last s at moment a later known =
    let h = later-known last at.number s (omega arith) known in
    let kept = keys-kept (λ d. d < 64 * (at.number + 1)) (below (64 * (at.number + 1))) (λ k. Unit {0}) (λ d name p. p) (λ d name p. p) at (omega arith) (λ node. tt) s (serve_shard s at moment a).contents (leaves s at moment a)
    (record { rows = rows h; recs = h.recs; locks = locks h; debts = λ k debt e. tt }) in
    record { rows = λ d name. kept.rows (d ∷ name); recs = kept.recs; locks = λ d name. kept.locks (d ∷ name) }
  where
    rows : IsKnown at.number s → (k : List ℕ) (row : Row) → get s.rows k ≡ Some row → below (64 * (at.number + 1)) k
    rows h [] row e = tt
    rows h (d ∷ name) row e = h.rows d name row e

    locks : IsKnown at.number s → (k : List ℕ) (lock : RowLock) → get s.locks k ≡ Some lock → below (64 * (at.number + 1)) k
    locks h [] lock e = tt
    locks h (d ∷ name) lock e = h.locks d name lock e
