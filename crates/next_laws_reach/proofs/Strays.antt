-- What a place tells the collector is there.
use Rattle.std.proofs.Common.{ℕ, List, [], ◌∷◌, ◌++◌, Bool, true, false}
use Rattle.std.specs.Prelude.{Option, Some, None, ◌==◌, ◌&&◌, if◌then◌else◌}
use Rattle.std.specs.Cmp.{nat_cmp_total}
use Rattle.std.specs.Cmp.Lexicographic.{nat_list_cmp_total}
use Rattle.std.specs.FinMap.{entries, nat_cmp-IsAntisymmetric}
use Rattle.next_ids.specs.declared.ids.Actor.{Actor}
use Rattle.next_ids.specs.declared.ids.Actor.TheVariants.{Client as ClientActor, Renamer, Collector}
use Rattle.next_ids.specs.declared.ids.Client.{Client}
use Rattle.next_ids.specs.declared.ids.DirId.{DirId}
use Rattle.next_ids.specs.declared.ids.Node.{Node}
use Rattle.next_ids.specs.declared.ids.PlaceNo.{PlaceNo}
use Rattle.next_ids.specs.declared.note.MarkNote.{MarkNote}
use Rattle.next_ids.specs.declared.counts.Counts.{Counts}
use Rattle.next_ids.specs.Maps.{within}
use Rattle.next_steps.specs.declared.contents.DirRec.{DirRec}
use Rattle.next_steps.specs.declared.contents.FileRec.{FileRec}
use Rattle.next_steps.specs.declared.contents.Debt.{Debt}
use Rattle.next_steps.specs.declared.strays.Stray.{Stray}
use Rattle.next_steps.specs.declared.strays.Stray.TheVariants.{Owed, Marked, Debt as DebtStray}
use Rattle.next_steps.specs.ClientSets.{holds}
use Rattle.next_rules.specs.Contents.{Shard, Store, node_of_key}
use Rattle.next_rules.specs.Strays.{lies_here, dir_of_number, file_of_number, listed_if, home_in, owed_item, owed_dirs, marked_item, marked_dirs, debt_item, debts_left, shard_strays, store_strays}
use Rattle.next_rules.proofs.Names.{bytes_apart}
use Rattle.next_laws_order.proofs.Lists.{Every, Every-append}
use Rattle.next_laws_reach.proofs.Maps.{IfThere, Every-flat_map, each-entries}
use Rattle.next_laws_reach.proofs.There.{IsShard, DirThere, NodeThere, NoteThere, BackThere, RecThere, FileRecThere, DebtThere, StrayThere, ShardThere, StoreThere, AnswerThere}

listed : (P : Stray → Type 0) (b : Bool) (stray : Stray) → P stray → Every P (listed_if b stray)
listed P true stray h = (h, tt)
listed P false stray h = tt

module _ (counts : Counts) (root_there : IsShard counts 0) (place : ℕ) (at : PlaceNo) (clients : List Client) where
  home_there : (back : Option (DirId × List ℕ)) → IfThere (BackThere counts) back → DirThere counts (home_in back)
  home_there None h = root_there
  home_there (Some back) h = h

  owed_there : (node : Node) (owner : Option Client) (home : DirId) → NodeThere counts node → DirThere counts home → Every (StrayThere counts place) (owed_item at clients node owner home)
  owed_there node None home h i = tt
  owed_there node (Some owner) home h i = listed (StrayThere counts place) (lies_here at node && holds clients owner) (Owed node owner home) (h, i)

  marked_there : (node : Node) (mark : Option MarkNote) → IfThere (NoteThere counts) mark → Every (StrayThere counts place) (marked_item at clients node mark)
  marked_there node None h = tt
  marked_there node (Some note) h = listed (StrayThere counts place) (lies_here at node && holds clients note.owner) (Marked note) h

  debt_there : (node : Node) (owner : Actor) → IsShard counts place → NodeThere counts node → Every (StrayThere counts place) (debt_item clients node owner)
  debt_there node (ClientActor owner) here h = listed (StrayThere counts place) (holds clients owner) (DebtStray node owner) (here, h)
  debt_there node Renamer here h = tt
  debt_there node Collector here h = tt

  -- the debts of one shard
  debts_within : (n : ℕ) (es : List (List ℕ × Debt)) → Every (λ (e : List ℕ × Debt). DebtThere counts e.0 e.1) es → Every (λ (e : List ℕ × Debt). NodeThere counts (node_of_key e.0)) (within n es)
  debts_within n [] h = tt
  debts_within n (([], debt) ∷ es) h = debts_within n es h.1
  debts_within n ((k ∷ key, debt) ∷ es) h = by_test (k == n) (debts_within n es h.1)
    where
      by_test : (b : Bool) → Every (λ (e : List ℕ × Debt). NodeThere counts (node_of_key e.0)) (within n es) → Every (λ (e : List ℕ × Debt). NodeThere counts (node_of_key e.0)) (if b then (key, debt) ∷ within n es else within n es)
      by_test true rest = (h.0, rest)
      by_test false rest = rest

  pub shard-strays_there : (s : Shard) → IsShard counts place → ShardThere counts s → AnswerThere counts place (shard_strays s at clients)
  shard-strays_there s here h =
      Every-append (StrayThere counts place) (owed_dirs s at clients) (marked_dirs s at clients ++ debts_left s at clients)
      (Every-flat_map (StrayThere counts place) (λ (e : ℕ × DirRec). RecThere counts e.0 e.1) (λ e. owed_item at clients (dir_of_number e.0) e.1.owner (home_in e.1.back)) (entries s.recs)
      (λ e there. owed_there (dir_of_number e.0) e.1.owner (home_in e.1.back) there.0 (home_there e.1.back there.1)) recs)
      (Every-append (StrayThere counts place) (marked_dirs s at clients) (debts_left s at clients)
      (Every-flat_map (StrayThere counts place) (λ (e : ℕ × DirRec). RecThere counts e.0 e.1) (λ e. marked_item at clients (dir_of_number e.0) e.1.mark) (entries s.recs)
      (λ e there. marked_there (dir_of_number e.0) e.1.mark there.2) recs)
      (Every-flat_map (StrayThere counts place) (λ (e : List ℕ × Debt). NodeThere counts (node_of_key e.0)) (λ e. debt_item clients (node_of_key e.0) e.1.owner) (within at.0 (entries s.debts))
      (λ e there. debt_there (node_of_key e.0) e.1.owner here there) (debts_within at.0 (entries s.debts) (each-entries (DebtThere counts) nat_list_cmp_total bytes_apart s.debts h.debts))))
    where
      recs : Every (λ (e : ℕ × DirRec). RecThere counts e.0 e.1) (entries s.recs)
      recs = each-entries (RecThere counts) nat_cmp_total nat_cmp-IsAntisymmetric s.recs h.recs

  pub store-strays_there : (s : Store) → StoreThere counts s → AnswerThere counts place (store_strays s at clients)
  store-strays_there s h = Every-flat_map (StrayThere counts place) (λ (e : ℕ × FileRec). FileRecThere counts e.0 e.1) (λ e. owed_item at clients (file_of_number e.0) e.1.owner e.1.home) (entries s)
      (λ e there. owed_there (file_of_number e.0) e.1.owner e.1.home there.0 there.1) (each-entries (FileRecThere counts) nat_cmp_total nat_cmp-IsAntisymmetric s h)
