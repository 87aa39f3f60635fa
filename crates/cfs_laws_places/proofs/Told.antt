-- What the look-ups of the places tell of the tree that they hold, of a directory that is in it.
use Rattle.std.proofs.Common.{◌≡◌, ℕ, List, ◌∷◌, true, cond, refl, ◌∙◌, ap}
use Rattle.std.specs.Prelude.{Option, Some, None}
use Rattle.std.specs.Option.{option_map}
use Rattle.std.specs.FinMap.{get}
use Rattle.cfs_ids.specs.declared.ids.DirId.{DirId}
use Rattle.cfs_ids.specs.declared.ids.Node.{Node}
use Rattle.cfs_ids.specs.declared.ids.Node.TheVariants.{Dir, File}
use Rattle.cfs_ids.specs.declared.call.Call.TheVariants.{Lookup, List as ListCall}
use Rattle.cfs_ids.specs.Maps.{row_key}
use Rattle.cfs_ids.specs.Namespace.{answer, lookup_in, looked_up, list_of, create_in, free_for}
use Rattle.cfs_steps.specs.declared.contents.Row.{Row}
use Rattle.cfs_steps.specs.declared.contents.DirRec.{DirRec}
use Rattle.cfs_steps.specs.Phases.{maker}
use Rattle.cfs_rules.specs.Places.{Shard, Store, names_of}
use Rattle.cfs_rules.specs.Trees.{is_shown, tree, directory_of}
use Rattle.cfs_rules.specs.Known.{reply_of_row, reply_of_list, reply_of_create}
use Rattle.cfs_rules.proofs.Names.{get-names_of}
use Rattle.cfs_rules.proofs.TreeLookups.{get-tree_dirs}

module _ (shard : Shard) (store : Store) where
  -- a directory, and a name in it
  dir_there : (dir : DirId) → is_shown shard dir.0 ≡ true → (o : Option DirRec) → get shard.recs dir.0 ≡ o → get (tree shard store).dirs dir.0 ≡ option_map (directory_of shard dir.0) o
  dir_there dir shown o is = get-tree_dirs shard store dir.0 ∙ ap (λ b. option_map (directory_of shard dir.0) (cond b (get shard.recs dir.0) None)) shown ∙ ap (option_map (directory_of shard dir.0)) is

  name_there : (dir : DirId) (name : List ℕ) (q : Option Row) → get shard.rows (row_key dir name) ≡ q → get (names_of shard dir.0) name ≡ option_map (λ row. row.node) q
  name_there dir name q is = get-names_of shard dir.0 name ∙ ap (option_map (λ (row : Row). row.node)) is

  -- a row lies in a directory that has a record
  abbrev pub IsHoused : Type 0
  IsHoused = (d : ℕ) (name : List ℕ) (row : Row) → get shard.rows (d ∷ name) ≡ Some row → (r : DirRec) × (get shard.recs d ≡ Some r)

  lookup_by : IsHoused → (dir : DirId) → is_shown shard dir.0 ≡ true → (name : List ℕ) (o : Option DirRec) → get shard.recs dir.0 ≡ o → (q : Option Row) → get shard.rows (row_key dir name) ≡ q
      → answer (tree shard store) (Lookup dir name) ≡ reply_of_row q
  lookup_by housed dir shown name None e None f = ap (λ o. lookup_in o name) (dir_there dir shown None e)
  lookup_by housed dir shown name None e (Some row) f = let r = housed dir.0 name row f in let there = r.1 in cc
  lookup_by housed dir shown name (Some r) e None f = ap (λ o. lookup_in o name) (dir_there dir shown (Some r) e) ∙ ap looked_up (name_there dir name None f)
  lookup_by housed dir shown name (Some r) e (Some row) f = ap (λ o. lookup_in o name) (dir_there dir shown (Some r) e) ∙ ap looked_up (name_there dir name (Some row) f)

  list_by : (dir : DirId) → is_shown shard dir.0 ≡ true → (o : Option DirRec) → get shard.recs dir.0 ≡ o → answer (tree shard store) (ListCall dir) ≡ reply_of_list shard dir.0 o
  list_by dir shown None e = ap list_of (dir_there dir shown None e)
  list_by dir shown (Some r) e = ap list_of (dir_there dir shown (Some r) e)

  make_by : (dir : DirId) → is_shown shard dir.0 ≡ true → (name : List ℕ) (o : Option DirRec) → get shard.recs dir.0 ≡ o → (q : Option Row) → get shard.rows (row_key dir name) ≡ q
      → create_in (get (tree shard store).dirs dir.0) name ≡ reply_of_create o q
  make_by dir shown name None e q f = ap (λ o. create_in o name) (dir_there dir shown None e)
  make_by dir shown name (Some r) e None f = ap (λ o. create_in o name) (dir_there dir shown (Some r) e) ∙ ap free_for (name_there dir name None f)
  make_by dir shown name (Some r) e (Some row) f = ap (λ o. create_in o name) (dir_there dir shown (Some r) e) ∙ ap free_for (name_there dir name (Some row) f)

  pub lookup_told : IsHoused → (dir : DirId) (name : List ℕ) → is_shown shard dir.0 ≡ true → answer (tree shard store) (Lookup dir name) ≡ reply_of_row (get shard.rows (row_key dir name))
  lookup_told housed dir name shown = lookup_by housed dir shown name _ refl _ refl

  pub list_told : (dir : DirId) → is_shown shard dir.0 ≡ true → answer (tree shard store) (ListCall dir) ≡ reply_of_list shard dir.0 (get shard.recs dir.0)
  list_told dir shown = list_by dir shown _ refl

  pub make_told : (dir : DirId) (name : List ℕ) (node : Node) → is_shown shard dir.0 ≡ true → answer (tree shard store) (maker dir name node) ≡ reply_of_create (get shard.recs dir.0) (get shard.rows (row_key dir name))
  make_told dir name (File file) shown = make_by dir shown name _ refl _ refl
  make_told dir name (Dir child) shown = make_by dir shown name _ refl _ refl
