-- A shard and all shards together, through each kind of change.
use Rattle.std.proofs.Common.{◌≡◌, ℕ, List, [], ◌∷◌, refl, sym, subst}
use Rattle.std.specs.Prelude.{Option, Some, None}
use Rattle.std.specs.Cmp.{nat_cmp_total}
use Rattle.std.specs.Cmp.Lexicographic.{nat_list_cmp_total}
use Rattle.std.specs.FinMap.{nat_cmp-IsAntisymmetric}
use Rattle.next_ids.specs.declared.ids.DirId.{DirId}
use Rattle.next_ids.specs.declared.ids.JobNo.{JobNo}
use Rattle.next_ids.specs.declared.ids.PlaceNo.{PlaceNo}
use Rattle.next_ids.specs.declared.ids.Stamp.{Stamp}
use Rattle.next_ids.specs.declared.ids.Actor.{Actor}
use Rattle.next_ids.specs.declared.ids.Node.{Node}
use Rattle.next_ids.specs.declared.time.Ts.{Ts}
use Rattle.next_steps.specs.declared.contents.DirRec.{DirRec}
use Rattle.next_steps.specs.declared.contents.RowLock.{RowLock}
use Rattle.next_steps.specs.declared.answer.Answer.{Answer}
use Rattle.next_rules.specs.Contents.{Shard, Served, unmoved, changed}
use Rattle.next_rules.specs.Changes.{set_row, cut_row, set_rec, cut_rec, update, set_lock, end_lock, leave_debt, leave_debts, end_debt}
use Rattle.next_rules.specs.Homes.{home_of_row, home_of_number, home_of_debt}
use Rattle.next_rules.specs.Moving.{end_source}
use Rattle.next_rules.proofs.Names.{bytes_apart}
use Rattle.next_laws_several.proofs.Parts.{Moves, set_one, cut_one}

-- the shard s with the index, and all together in w, which were v
pub record Alike (index : ℕ) (v s w : Shard) : Type 0 where
  pub rows : Moves home_of_row index v.rows s.rows w.rows
  pub recs : Moves home_of_number index v.recs s.recs w.recs
  pub locks : Moves home_of_row index v.locks s.locks w.locks
  pub debts : Moves home_of_debt index v.debts s.debts w.debts

module _ {index : ℕ} {v s w : Shard} (a : Alike index v s w) where
  pub set_row-alike : (dir : DirId) (name : List ℕ) (node : Node) (at : Stamp) → home_of_number dir.0 ≡ index → Alike index v (set_row s dir name node at) (set_row w dir name node at)
  set_row-alike dir name node at home = record { rows = set_one nat_list_cmp_total bytes_apart home_of_row index _ _ _ _ _ home a.rows; recs = a.recs; locks = a.locks; debts = a.debts }

  pub cut_row-alike : (dir : DirId) (name : List ℕ) → home_of_number dir.0 ≡ index → Alike index v (cut_row s dir name) (cut_row w dir name)
  cut_row-alike dir name home = record { rows = cut_one nat_list_cmp_total bytes_apart home_of_row index _ _ _ _ home a.rows; recs = a.recs; locks = a.locks; debts = a.debts }

  pub set_rec-alike : (dir : DirId) (r : DirRec) → home_of_number dir.0 ≡ index → Alike index v (set_rec s dir r) (set_rec w dir r)
  set_rec-alike dir r home = record { rows = a.rows; recs = set_one nat_cmp_total nat_cmp-IsAntisymmetric home_of_number index _ _ _ _ _ home a.recs; locks = a.locks; debts = a.debts }

  pub cut_rec-alike : (dir : DirId) → home_of_number dir.0 ≡ index → Alike index v (cut_rec s dir) (cut_rec w dir)
  cut_rec-alike dir home = record { rows = a.rows; recs = cut_one nat_cmp_total nat_cmp-IsAntisymmetric home_of_number index _ _ _ _ home a.recs; locks = a.locks; debts = a.debts }

  pub update-alike : (dir : DirId) (come gone : List Node) (ts : Ts) (r : Option DirRec) → home_of_number dir.0 ≡ index → Alike index v (update s dir come gone ts r) (update w dir come gone ts r)
  update-alike dir come gone ts None home = a
  update-alike dir come gone ts (Some r) home = set_rec-alike dir _ home

  pub set_lock-alike : (dir : DirId) (name : List ℕ) (lock : RowLock) → home_of_number dir.0 ≡ index → Alike index v (set_lock s dir name lock) (set_lock w dir name lock)
  set_lock-alike dir name lock home = record { rows = a.rows; recs = a.recs; locks = set_one nat_list_cmp_total bytes_apart home_of_row index _ _ _ _ _ home a.locks; debts = a.debts }

  pub end_lock-alike : (dir : DirId) (name : List ℕ) → home_of_number dir.0 ≡ index → Alike index v (end_lock s dir name) (end_lock w dir name)
  end_lock-alike dir name home = record { rows = a.rows; recs = a.recs; locks = cut_one nat_list_cmp_total bytes_apart home_of_row index _ _ _ _ home a.locks; debts = a.debts }

  pub end_source-alike : (dir : DirId) (name : List ℕ) (job : Option JobNo) → home_of_number dir.0 ≡ index → Alike index v (end_source s dir name job) (end_source w dir name job)
  end_source-alike dir name None home = a
  end_source-alike dir name (Some job) home = end_lock-alike dir name home

  pub leave_debt-alike : (owner : Actor) (at : Stamp) (node : Node) → at.place.0 ≡ index → Alike index v (leave_debt s owner at node) (leave_debt w owner at node)
  leave_debt-alike owner at node here = record { rows = a.rows; recs = a.recs; locks = a.locks; debts = set_one nat_list_cmp_total bytes_apart home_of_debt index _ _ _ _ _ here a.debts }

  pub end_debt-alike : (place : PlaceNo) (node : Node) → place.0 ≡ index → Alike index v (end_debt s place node) (end_debt w place node)
  end_debt-alike place node here = record { rows = a.rows; recs = a.recs; locks = a.locks; debts = cut_one nat_list_cmp_total bytes_apart home_of_debt index _ _ _ _ here a.debts }

pub leave_debts-alike : {index : ℕ} {v : Shard} (owner : Actor) (at : Stamp) (nodes : List Node) → at.place.0 ≡ index → (s w : Shard) → Alike index v s w → Alike index v (leave_debts s owner at nodes) (leave_debts w owner at nodes)
leave_debts-alike owner at [] here s w a = a
leave_debts-alike owner at (node ∷ nodes) here s w a = leave_debts-alike owner at nodes here (leave_debt s owner at node) (leave_debt w owner at node) (leave_debt-alike a owner at node here)

-- ---- what the shard gives, and what all together give
pub record Serves (index : ℕ) (v : Shard) (one all : Served Shard) : Type 0 where
  pub answer : all.answer ≡ one.answer
  pub moved : all.moved ≡ one.moved
  pub contents : Alike index v one.contents all.contents

module _ {index : ℕ} {v s w : Shard} where
  pub looks : Alike index v s w → (x : Answer) → Serves index v (unmoved s x) (unmoved w x)
  looks a x = record { answer = refl; moved = refl; contents = a }

  pub makes : Alike index v s w → (x : Answer) → Serves index v (changed x s) (changed x w)
  makes a x = record { answer = refl; moved = refl; contents = a }

pub via : {index : ℕ} {v : Shard} {one all given : Served Shard} → given ≡ all → Serves index v one all → Serves index v one given
via {index} {v} {one} e h = subst (Serves index v one) (sym e) h
