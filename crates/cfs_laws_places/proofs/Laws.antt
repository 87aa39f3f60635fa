-- What holds after any list of turns.
use Rattle.std.proofs.Common.{◌≡◌, ◌≢◌, ℕ, ◌<◌, List, [], ◌∷◌, Bool, true, false, cond, refl, sym, ◌∙◌, ap, subst, arith, inl, inr}
use Rattle.std.specs.Prelude.{◌==◌, Option, Some, None}
use Rattle.std.proofs.lemmas.Bool.Decides.{nat_tests}
use Rattle.std.specs.Option.{option_map}
use Rattle.std.specs.Ordering.{nat_cmp}
use Rattle.std.specs.Cmp.{nat_cmp_total}
use Rattle.std.specs.Cmp.Lexicographic.{slice_cmp}
use Rattle.std.specs.FinMap.{get, empty, entries, get-empty, same_map, nat_cmp-IsAntisymmetric}
use Rattle.cfs_ids.specs.declared.ids.Client.{Client}
use Rattle.cfs_ids.specs.declared.ids.Node.{Node}
use Rattle.cfs_ids.specs.declared.ids.Node.TheVariants.{Dir, File}
use Rattle.cfs_ids.specs.Maps.{Names}
use Rattle.cfs_ids.specs.Namespace.{Directory, FileFacts, empty_root, IsWhole}
use Rattle.cfs_steps.specs.declared.contents.Row.{Row}
use Rattle.cfs_steps.specs.declared.contents.DirRec.{DirRec}
use Rattle.cfs_steps.specs.declared.contents.FileRec.{FileRec}
use Rattle.cfs_steps.specs.Phases.{Phase, Asking, Inserting, Settling, TakingBack, Finished}
use Rattle.cfs_rules.specs.Places.{Shard, Store, opening_shard, root_rec}
use Rattle.cfs_rules.specs.Worlds.{World, Setup, IsSetup, opening, turn, played}
use Rattle.cfs_rules.specs.Trees.{is_shown, tree, directory_of, facts_of, is_counted}
use Rattle.cfs_rules.specs.Facts.{CountsHold, Counted, HasRecord, AttributesHold, MovesAllowed, Unlocked, after_moved, space}
use Rattle.cfs_rules.specs.Known.{Known, Sees}
use Rattle.cfs_laws_places.specs.Turns.{GrowsByOne, KeepsUnmoved, KeepsStill}
use Rattle.cfs_laws_places.proofs.Invariant.{owner_at, Has, number_of, CurrentHolds, Holds, Past, from_insert, get-insert_same, get-insert_other}
use Rattle.cfs_laws_places.proofs.Nodes.{named_of_row}
use Rattle.cfs_laws_places.proofs.Plans.{root_shown, starts_hold}
use Rattle.cfs_ids.proofs.Entries.{entries-empty}
use Rattle.cfs_rules.proofs.Locks.{opening-unlocked, played-unlocked}
use Rattle.cfs_rules.proofs.TreeLookups.{get-tree_dirs, get-tree_files}
use Rattle.cfs_laws_places.proofs.Trees.{no_names}
use Rattle.cfs_laws_places.proofs.Told.{lookup_told, list_told, make_told}
use Rattle.cfs_laws_places.proofs.Turns.{next_of, run_keeps, run_past, shown_has}
use Rattle.cfs_laws_places.proofs.Whole.{space-whole}

-- ---- the opening
no_rows : entries (empty {X = Row} {R = slice_cmp nat_cmp}) ≡ []
no_rows = entries-empty {X = Row} (slice_cmp nat_cmp)

opening_counts : (d : ℕ) (r : DirRec) → get opening_shard.recs d ≡ Some r → Counted opening_shard d r
opening_counts d r e = let s = from_insert empty 0 d root_rec r e in
    elim s [
      | inl p ↦ record { children = rw (p.1, no_rows) refl; subdirs = rw (p.1, no_rows) refl }
      | inr p ↦ (let none = get-empty {X = DirRec} nat_cmp d in cc)
    ]

-- the root alone has a record
opening_known : (node : Node) (owner : Option Client) → owner_at opening_shard empty node ≡ Some owner → number_of node < 64
opening_known (File f) owner e = let none = get-empty {X = FileRec} nat_cmp f.0 in absurd (no_owner (get (empty {X = FileRec} {R = nat_cmp}) f.0) none e)
  where
    no_owner : (o : Option FileRec) → o ≡ None → option_map (λ (r : FileRec). r.owner) o ≡ Some owner → ⊥
    no_owner None is e = cc
    no_owner (Some r) is e = cc
opening_known (Dir d) owner e = by_test (d.0 == 0) refl
  where
    no_owner : (o : Option DirRec) → o ≡ None → option_map (λ (r : DirRec). r.owner) o ≡ Some owner → ⊥
    no_owner None is e = cc
    no_owner (Some r) is e = cc

    by_test : (b : Bool) → (d.0 == 0) ≡ b → d.0 < 64
    by_test true t = let root : d.0 ≡ 0 = grind (arith, nat_tests) in omega arith
    by_test false t = let differ : d.0 ≢ 0 = grind (arith, nat_tests) in
        absurd (no_owner (get opening_shard.recs d.0) (get-insert_other (empty {X = DirRec} {R = nat_cmp}) 0 d.0 root_rec differ ∙ get-empty {X = DirRec} nat_cmp d.0) e)

pub opening_holds : (setup : Setup) → IsSetup setup → Holds (opening setup)
opening_holds setup good = record {
  places = record {
    counts = opening_counts;
    named = λ node e. let no : false ≡ true = rw no_rows at e in cc;
    housed = λ d n row e. let none = get-empty {X = Row} (slice_cmp nat_cmp) (d ∷ n) in cc;
    root = ap (option_map (λ (r : DirRec). r.owner)) (get-insert_same (empty {X = DirRec} {R = nat_cmp}) 0 root_rec);
    known = λ node owner e. let low = opening_known node owner e in omega arith;
  };
  clients = λ i. starts_hold opening_shard empty i (0 ∷ []) (root_shown opening_shard) (setup.plans i) (good.plans i);
}

opening_tree : tree opening_shard empty ≡ empty_root
opening_tree = λ i. record { dirs = dirs i; files = files i }
  where
    no_dir : (b : Bool) (o : Option DirRec) (q : ℕ) → o ≡ None → option_map (directory_of opening_shard q) (cond b o None) ≡ None
    no_dir true o q e = rw e refl
    no_dir false o q e = refl

    by_test : (q : ℕ) (b : Bool) → (q == 0) ≡ b → option_map (directory_of opening_shard q) (cond (is_shown opening_shard q) (get opening_shard.recs q) None) ≡ get empty_root.dirs q
    by_test q true t = let same : q ≡ 0 = grind (arith, nat_tests) in
        rw (same, get-insert_same (empty {X = DirRec} {R = nat_cmp}) 0 root_rec, get-insert_same (empty {X = Directory} {R = nat_cmp}) 0 (record { names = empty; time = 0 }))
        (ap (λ (ns : Names Node). Some (record { names = ns; time = 0 })) (no_names opening_shard 0 (λ name. get-empty {X = Row} (slice_cmp nat_cmp) (0 ∷ name))))
    by_test q false t = let differ : q ≢ 0 = grind (arith, nat_tests) in
        no_dir (is_shown opening_shard q) (get opening_shard.recs q) q (get-insert_other (empty {X = DirRec} {R = nat_cmp}) 0 q root_rec differ ∙ get-empty {X = DirRec} nat_cmp q)
        ∙ sym (get-insert_other (empty {X = Directory} {R = nat_cmp}) 0 q (record { names = empty; time = 0 }) differ ∙ get-empty {X = Directory} nat_cmp q)

    dirs : (tree opening_shard empty).dirs ≡ empty_root.dirs
    dirs = same_map nat_cmp_total nat_cmp-IsAntisymmetric _ _ (λ q. get-tree_dirs opening_shard empty q ∙ by_test q (q == 0) refl)

    of_none : (b : Bool) (o : Option FileRec) → o ≡ None → option_map facts_of (cond b o None) ≡ None
    of_none true o e = rw e refl
    of_none false o e = refl

    files : (tree opening_shard empty).files ≡ empty
    files = same_map nat_cmp_total nat_cmp-IsAntisymmetric _ _ (λ f. get-tree_files opening_shard empty f ∙ of_none (is_counted opening_shard empty f) _ (get-empty {X = FileRec} nat_cmp f) ∙ sym (get-empty {X = FileFacts} nat_cmp f))

-- ---- any run
-- a client's call is on a directory of the tree
sees_of : (shard : Shard) (store : Store) (c : ℕ) (o : Option Phase) → CurrentHolds shard store c o → Sees shard o
sees_of shard store c None h = tt
sees_of shard store c (Some (Asking call)) h = h
sees_of shard store c (Some (Inserting dir name node ts first)) h = h.sees
sees_of shard store c (Some (Settling dir name node ts first at)) h = tt
sees_of shard store c (Some (TakingBack dir name node errno first at)) h = tt
sees_of shard store c (Some (Finished done)) h = tt

known_by : (w : World) → Unlocked w.shard → Holds w → Past w → Known w
known_by w free h past = record {
  same = past.same;
  allowed = past.allowed;
  free = free;
  sees = λ c. sees_of w.shard w.store c (w.clients c).current (h.clients c).current;
  lookup = lookup_told w.shard w.store (λ d name row e. shown_has w.shard w.store w.lasts h.places d (h.places.housed d name row e));
  listed = list_told w.shard w.store;
  make = make_told w.shard w.store;
}

has_record : (shard : Shard) (store : Store) (node : Node) → Has shard store node → HasRecord shard store node
has_record shard store (File f) has = by_rec (get store f.0) refl has.1
  where
    by_rec : (o : Option FileRec) → get store f.0 ≡ o → option_map (λ (r : FileRec). r.owner) o ≡ Some has.0 → (r : FileRec) × (get store f.0 ≡ Some r)
    by_rec None is e = cc
    by_rec (Some r) is e = (r, is)
has_record shard store (Dir d) has = by_rec (get shard.recs d.0) refl has.1
  where
    by_rec : (o : Option DirRec) → get shard.recs d.0 ≡ o → option_map (λ (r : DirRec). r.owner) o ≡ Some has.0 → (r : DirRec) × (get shard.recs d.0 ≡ Some r)
    by_rec None is e = cc
    by_rec (Some r) is e = (r, is)

attributes_by : (w : World) → Holds w → AttributesHold w.shard w.store
attributes_by w h k row e = has_record w.shard w.store row.node (h.places.named row.node (named_of_row w.shard k row e))

unmoved_by : (w w' : World) → Past w → Past w' → KeepsUnmoved w w'
unmoved_by w w' past past' e run none = past'.same ∙ ap space run ∙ ap (after_moved (space w.run)) none ∙ sym past.same

still_by : (w w' : World) → Past w → Past w' → KeepsStill w w'
still_by w w' past past' run = past'.same ∙ ap space run ∙ sym past.same

module _ (setup : Setup) (good : IsSetup setup) (turns : List ℕ) where
  holds_now : Holds (played setup turns)
  holds_now = run_keeps setup.counts good.counts turns (opening setup) opening-unlocked (opening_holds setup good)

  past_now : Past (played setup turns)
  past_now = run_past setup.counts good.counts turns (opening setup) opening-unlocked (opening_holds setup good) (record { same = opening_tree; allowed = tt })

  pub known_of : Known (played setup turns)
  known_of = known_by (played setup turns) (played-unlocked setup turns) holds_now past_now

  pub tree_of : tree (played setup turns).shard (played setup turns).store ≡ space (played setup turns).run
  tree_of = past_now.same

  pub moves_of : MovesAllowed (played setup turns).run
  moves_of = past_now.allowed

  pub whole_of : IsWhole (tree (played setup turns).shard (played setup turns).store)
  whole_of = subst IsWhole (sym tree_of) (space-whole (played setup turns).run moves_of)

  pub counts_of : CountsHold (played setup turns).shard
  counts_of = holds_now.places.counts

  pub attributes_of : AttributesHold (played setup turns).shard (played setup turns).store
  attributes_of = attributes_by (played setup turns) holds_now

  -- ---- one more turn
  module _ (c : ℕ) where
    after_turn : Past (turn setup.counts (played setup turns) c)
    after_turn = (next_of setup.counts good.counts (played setup turns) c (played-unlocked setup turns) holds_now).past past_now

    pub one_step_of : GrowsByOne (played setup turns) (turn setup.counts (played setup turns) c)
    one_step_of = (next_of setup.counts good.counts (played setup turns) c (played-unlocked setup turns) holds_now).grows

    pub unmoved_of : KeepsUnmoved (played setup turns) (turn setup.counts (played setup turns) c)
    unmoved_of = unmoved_by (played setup turns) (turn setup.counts (played setup turns) c) past_now after_turn

    pub still_of : KeepsStill (played setup turns) (turn setup.counts (played setup turns) c)
    still_of = still_by (played setup turns) (turn setup.counts (played setup turns) c) past_now after_turn
