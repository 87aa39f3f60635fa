-- What is there in a shard stays there where a part of the shard is set or cut.
use Rattle.std.proofs.Common.{ℕ, List, [], ◌∷◌, ◌++◌, Bool, true, false}
use Rattle.std.specs.Prelude.{Option, Some, None, if◌then◌else◌}
use Rattle.std.specs.Cmp.{nat_cmp_total}
use Rattle.std.specs.Cmp.Lexicographic.{nat_list_cmp_total}
use Rattle.std.specs.FinMap.{get, nat_cmp-IsAntisymmetric}
use Rattle.next_ids.specs.declared.ids.Actor.{Actor}
use Rattle.next_ids.specs.declared.ids.Actor.TheVariants.{Renamer}
use Rattle.next_ids.specs.declared.ids.DirId.{DirId}
use Rattle.next_ids.specs.declared.ids.JobNo.{JobNo}
use Rattle.next_ids.specs.declared.ids.Node.{Node}
use Rattle.next_ids.specs.declared.ids.Node.TheVariants.{Dir, File}
use Rattle.next_ids.specs.declared.ids.PlaceNo.{PlaceNo}
use Rattle.next_ids.specs.declared.ids.Stamp.{Stamp}
use Rattle.next_ids.specs.declared.counts.Counts.{Counts}
use Rattle.next_ids.specs.declared.time.Ts.{Ts}
use Rattle.next_ids.specs.Maps.{row_key}
use Rattle.next_steps.specs.declared.contents.DirRec.{DirRec}
use Rattle.next_steps.specs.declared.contents.Row.{Row}
use Rattle.next_steps.specs.declared.contents.RowLock.{RowLock}
use Rattle.next_rules.specs.Contents.{Shard, debt_key, node_key, node_of_key}
use Rattle.next_rules.specs.Changes.{set_row, cut_row, node_in, nodes_in, set_rec, cut_rec, update, merged, set_lock, end_lock, leave_debt, leave_debts, end_debt}
use Rattle.next_rules.specs.Locks.{source_at}
use Rattle.next_rules.specs.Moving.{taken, committed_as, given_up, end_source}
use Rattle.next_rules.specs.Owning.{merge, merged_at}
use Rattle.next_rules.specs.Strays.{lies_here, dir_of_number}
use Rattle.next_rules.proofs.Names.{bytes_apart}
use Rattle.next_laws_order.proofs.Lists.{Every}
use Rattle.next_laws_reach.proofs.Maps.{IfThere, each-found, each-insert, each-remove, each-values}
use Rattle.next_laws_reach.proofs.There.{NodeThere, RowThere, RecThere, DebtThere, ShardThere}

module _ (counts : Counts) where
  pub row_found : (s : Shard) (key : List ℕ) → ShardThere counts s → IfThere (RowThere counts key) (get s.rows key)
  row_found s key h = each-found (RowThere counts) s.rows key h.rows

  pub rec_found : (s : Shard) (d : ℕ) → ShardThere counts s → IfThere (RecThere counts d) (get s.recs d)
  rec_found s d h = each-found (RecThere counts) s.recs d h.recs

  pub nodes_found : (key : List ℕ) (o : Option Row) → IfThere (RowThere counts key) o → Every (NodeThere counts) (nodes_in o)
  nodes_found key None h = tt
  nodes_found key (Some row) h = (h, tt)

  pub node_found : (key : List ℕ) (o : Option Row) → IfThere (RowThere counts key) o → IfThere (NodeThere counts) (node_in o)
  node_found key None h = tt
  node_found key (Some row) h = h

  -- ---- one change
  pub row-set : (s : Shard) (dir : DirId) (name : List ℕ) (node : Node) (at : Stamp) → NodeThere counts node → ShardThere counts s → ShardThere counts (set_row s dir name node at)
  row-set s dir name node at here h = record {
    rows = each-insert (RowThere counts) nat_list_cmp_total bytes_apart s.rows (row_key dir name) (record { node = node; stamp = at }) here h.rows;
    recs = h.recs;
    debts = h.debts;
  }

  pub row-cut : (s : Shard) (dir : DirId) (name : List ℕ) → ShardThere counts s → ShardThere counts (cut_row s dir name)
  row-cut s dir name h = record { rows = each-remove (RowThere counts) nat_list_cmp_total bytes_apart s.rows (row_key dir name) h.rows; recs = h.recs; debts = h.debts }

  pub rec-set : (s : Shard) (dir : DirId) (r : DirRec) → RecThere counts dir.0 r → ShardThere counts s → ShardThere counts (set_rec s dir r)
  rec-set s dir r here h = record { rows = h.rows; recs = each-insert (RecThere counts) nat_cmp_total nat_cmp-IsAntisymmetric s.recs dir.0 r here h.recs; debts = h.debts }

  pub rec-cut : (s : Shard) (dir : DirId) → ShardThere counts s → ShardThere counts (cut_rec s dir)
  rec-cut s dir h = record { rows = h.rows; recs = each-remove (RecThere counts) nat_cmp_total nat_cmp-IsAntisymmetric s.recs dir.0 h.recs; debts = h.debts }

  pub updated : (s : Shard) (dir : DirId) (come gone : List Node) (ts : Ts) (o : Option DirRec) → IfThere (RecThere counts dir.0) o → ShardThere counts s → ShardThere counts (update s dir come gone ts o)
  updated s dir come gone ts None there h = h
  updated s dir come gone ts (Some r) there h = rec-set s dir _ there h

  pub all-merged : (s : Shard) (place : PlaceNo) → ShardThere counts s → ShardThere counts (merge s place).contents
  all-merged s place h = record {
    rows = h.rows;
    recs = each-values (RecThere counts) nat_cmp_total nat_cmp-IsAntisymmetric (merged_at place) s.recs (λ d r there. by_test d r there (lies_here place (dir_of_number d))) h.recs;
    debts = h.debts;
  }
    where
      by_test : (d : ℕ) (r : DirRec) → RecThere counts d r → (b : Bool) → RecThere counts d (if b then merged r else r)
      by_test d r there true = there
      by_test d r there false = there

  pub lock-set : (s : Shard) (dir : DirId) (name : List ℕ) (lock : RowLock) → ShardThere counts s → ShardThere counts (set_lock s dir name lock)
  lock-set s dir name lock h = record { rows = h.rows; recs = h.recs; debts = h.debts }

  pub lock-cut : (s : Shard) (dir : DirId) (name : List ℕ) → ShardThere counts s → ShardThere counts (end_lock s dir name)
  lock-cut s dir name h = record { rows = h.rows; recs = h.recs; debts = h.debts }

  -- ---- debts
  key_there : (node : Node) → NodeThere counts node → NodeThere counts (node_of_key (node_key node))
  key_there (Dir dir) h = h
  key_there (File file) h = h

  pub debt-left : (s : Shard) (owner : Actor) (at : Stamp) (node : Node) → NodeThere counts node → ShardThere counts s → ShardThere counts (leave_debt s owner at node)
  debt-left s owner at node here h = record {
    rows = h.rows;
    recs = h.recs;
    debts = each-insert (DebtThere counts) nat_list_cmp_total bytes_apart s.debts (debt_key at.place node) (record { owner = owner; stamp = at }) (key_there node here) h.debts;
  }

  pub debts-left : (nodes : List Node) (s : Shard) (owner : Actor) (at : Stamp) → Every (NodeThere counts) nodes → ShardThere counts s → ShardThere counts (leave_debts s owner at nodes)
  debts-left [] s owner at here h = h
  debts-left (node ∷ nodes) s owner at here h = debts-left nodes (leave_debt s owner at node) owner at here.1 (debt-left s owner at node here.0 h)

  pub debt-ended : (s : Shard) (place : PlaceNo) (node : Node) → ShardThere counts s → ShardThere counts (end_debt s place node)
  debt-ended s place node h = record { rows = h.rows; recs = h.recs; debts = each-remove (DebtThere counts) nat_list_cmp_total bytes_apart s.debts (debt_key place node) h.debts }

  -- ---- the commit of a rename
  pub name-taken : (s : Shard) (at : Stamp) (job : JobNo) (to_dir : DirId) (to_name : List ℕ) (node : Node) (old : List Node) → NodeThere counts node → Every (NodeThere counts) old → ShardThere counts s
      → ShardThere counts (taken s at job to_dir to_name node old)
  name-taken s at job to_dir to_name node old here left h =
      lock-set (leave_debts (set_row s to_dir to_name node at) Renamer at old) to_dir to_name _ (debts-left old (set_row s to_dir to_name node at) Renamer at left (row-set s to_dir to_name node at here h))

  source-ended : (s : Shard) (dir : DirId) (name : List ℕ) (o : Option JobNo) → ShardThere counts s → ShardThere counts (end_source s dir name o)
  source-ended s dir name None h = h
  source-ended s dir name (Some job) h = lock-cut s dir name h

  name-given_up : (s : Shard) (dir : DirId) (name : List ℕ) → ShardThere counts s → ShardThere counts (given_up s dir name)
  name-given_up s dir name h = source-ended (cut_row s dir name) dir name (source_at (cut_row s dir name) dir name) (row-cut s dir name h)

  pub committed-there : (one_dir : Bool) (s : Shard) (dir : DirId) (name : List ℕ) (to_dir : DirId) (node : Node) (old : List Node) (ts : Ts) → ShardThere counts s
      → ShardThere counts (committed_as one_dir s dir name to_dir node old ts)
  committed-there true s dir name to_dir node old ts h =
      updated (given_up s dir name) to_dir (node ∷ []) (old ++ nodes_in (get s.rows (row_key dir name))) ts (get s.recs to_dir.0) (rec_found s to_dir.0 h) (name-given_up s dir name h)
  committed-there false s dir name to_dir node old ts h = updated s to_dir (node ∷ []) old ts (get s.recs to_dir.0) (rec_found s to_dir.0 h) h
