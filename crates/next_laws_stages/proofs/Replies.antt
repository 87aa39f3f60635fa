-- What the answers of the places tell of the tree that they hold: the reply that each call has in it.
use Rattle.std.proofs.Common.{◌≡◌, ℕ, suc, ◌+◌, ◌≤◌, List, [], ◌∷◌, Bool, true, false, cond, refl, sym, ◌∙◌, ap, subst, arith}
use Rattle.std.specs.Prelude.{Option, Some, None, ◌||◌, ◌==◌, nat_le, ◌-◌, if◌then◌else◌}
use Rattle.std.proofs.lemmas.Bool.Decides.{nat_tests}
use Rattle.std.specs.Option.{option_map}
use Rattle.std.specs.List.{list_any}
use Rattle.std.specs.FinMap.{get, entries}
use Rattle.next_ids.specs.declared.call.Call.TheVariants.{Lookup, List as ListCall, StatRoot, Stat, Unlink, Rmdir, Truncate}
use Rattle.next_ids.specs.declared.call.Reply.{Reply}
use Rattle.next_ids.specs.declared.call.Reply.TheVariants.{Moved, Rows, DirStat, FileStat, Refused}
use Rattle.next_ids.specs.declared.errno.Errno.TheVariants.{Enoent, Eexist, Enotempty, Emlink}
use Rattle.next_ids.specs.declared.ids.DirId.{DirId}
use Rattle.next_ids.specs.declared.ids.FileId.{FileId}
use Rattle.next_ids.specs.declared.ids.JobNo.{JobNo}
use Rattle.next_ids.specs.declared.ids.Node.{Node}
use Rattle.next_ids.specs.declared.ids.Node.TheVariants.{Dir, File}
use Rattle.next_ids.specs.Maps.{row_key, how_many, lies_in}
use Rattle.next_ids.specs.Namespace.{Namespace, Directory, answer, node_at, looked_up, lookup_in, list_of, dir_stat, file_stat, stat_of, free_for, room_for, create_in, mkdir_in, unlinked, removed, cut_to, is_full, is_empty, link_max}
use Rattle.next_steps.specs.declared.contents.Row.{Row}
use Rattle.next_steps.specs.declared.contents.DirRec.{DirRec}
use Rattle.next_steps.specs.declared.contents.FileRec.{FileRec}
use Rattle.next_steps.specs.Readers.{dir_stat as attr_stat}
use Rattle.next_steps.specs.Writers.{maker}
use Rattle.next_rules.specs.Contents.{Shard, Store, attr_of}
use Rattle.next_rules.specs.Changes.{node_in}
use Rattle.next_rules.specs.Reading.{names_of, lies_at}
use Rattle.next_rules.specs.Removing.{has_rows}
use Rattle.next_rules.specs.Room.{HasRoom, IsFull, depends_on, room_of, room_in, links_in, leaving_in, coming_in, deciding_job}
use Rattle.next_rules.specs.Trees.{facts_of, tree}
use Rattle.next_rules.proofs.Names.{get-names_of}
use Rattle.next_rules.proofs.Sums.{counts-from_sums}
use Rattle.next_laws_stages.specs.Stages.{Stage, Named, is_known, is_in, is_kept, key_of}
use Rattle.next_laws_stages.specs.Held.{DirIs, PlacesHold, dir_at, still}
use Rattle.next_laws_stages.proofs.Known.{named_known, file_named}
use Rattle.next_laws_stages.proofs.Listings.{names-count, names-dirs}
use Rattle.next_laws_stages.proofs.Shown.{dir_there, dir_gone, rec_of_in, node_told, get_files}

lookup_node : (o : Option Directory) (name : List ℕ) → lookup_in o name ≡ looked_up (node_at o name)
lookup_node None name = refl
lookup_node (Some d) name = refl

-- a name that is taken
taken_file : (o : Option Directory) (name : List ℕ) (node : Node) → node_at o name ≡ Some node → create_in o name ≡ Refused Eexist
taken_file None name node e = absurd (cc)
taken_file (Some d) name node e = ap free_for e

no_room : (full : Bool) (node : Node) → room_for full (Some node) ≡ Refused Eexist
no_room true node = refl
no_room false node = refl

taken_dir : (o : Option Directory) (name : List ℕ) (node : Node) → node_at o name ≡ Some node → mkdir_in o name ≡ Refused Eexist
taken_dir None name node e = absurd (cc)
taken_dir (Some d) name node e = ap (room_for (is_full d)) e ∙ no_room (is_full d) node

-- where some pass, they are more than none
some_pass : {X : Type 0} (p : X → Bool) (xs : List X) → list_any p xs ≡ true → (how_many p xs == 0) ≡ false
some_pass p [] e = cc
some_pass p (x ∷ xs) e = by_test (p x) e (some_pass p xs)
  where
    by_test : (b : Bool) → (b || list_any p xs) ≡ true → (list_any p xs ≡ true → (how_many p xs == 0) ≡ false) → ((if b then suc (how_many p xs) else how_many p xs) == 0) ≡ false
    by_test true e rest = grind (arith, nat_tests)
    by_test false e rest = rest e

-- full whatever the jobs do: it has as many links as one may have
full_links : (links leaving coming : ℕ) (job : Option JobNo) → room_of links leaving coming job ≡ IsFull → link_max ≤ links - leaving
full_links links leaving coming job h = by_test (nat_le link_max (links - leaving)) refl (nat_le link_max (links + coming)) h
  where
    by_job : (o : Option JobNo) → depends_on o ≡ IsFull → link_max ≤ links - leaving
    by_job None e = absurd (cc)
    by_job (Some j) e = absurd (cc)

    by_test : (b : Bool) → nat_le link_max (links - leaving) ≡ b → (c : Bool) → (if b then IsFull else (if c then depends_on job else HasRoom)) ≡ IsFull → link_max ≤ links - leaving
    by_test true e c h = grind (arith, nat_tests)
    by_test false e true h = by_job job h
    by_test false e false h = absurd (cc)

module _ (stage : Node → Stage) (shard : Shard) (store : Store) (lasts : ℕ → ℕ) (h : PlacesHold stage shard store lasts) where
  abbrev now : Namespace
  now = tree (still shard store)

  -- ---- a directory that is known
  dir_is : (dir : DirId) (o : Option DirRec) → get shard.recs dir.0 ≡ o → DirIs dir.0 o (stage (Dir dir))
  dir_is dir o there = subst (λ q. DirIs dir.0 q (stage (Dir dir))) there (h.nodes (Dir dir))

  -- ---- what a name has
  node_here : (dir : DirId) (name : List ℕ) (q : Option Row) → get shard.rows (row_key dir name) ≡ q → node_at (get now.dirs dir.0) name ≡ node_in q
  node_here dir name q e = node_told stage shard store lasts h dir.0 name ∙ ap node_in e

  -- a node at its name
  pub named_at : (dir : DirId) (name : List ℕ) (x : Node) → stage x ≡ Named dir name → node_at (get now.dirs dir.0) name ≡ Some x
  named_at dir name x was = node_told stage shard store lasts h dir.0 name ∙ h.named x (row_key dir name) (ap key_of was)

  -- a record without a mark that says that it is named so has its row there
  pub named_there : (child : DirId) (r : DirRec) (dir : DirId) (name : List ℕ) → is_known (stage (Dir child)) ≡ true → get shard.recs child.0 ≡ Some r → r.mark ≡ None → lies_at (Some (dir, name)) (Some r) ≡ true
      → stage (Dir child) ≡ Named dir name
  named_there child r dir name known there none here = named_known child.0 (stage (Dir child)) r dir name known (dir_is child (Some r) there) none here

  -- ---- a look-up
  pub lookup_told : (dir : DirId) (name : List ℕ) (q : Option Row) → get shard.rows (row_key dir name) ≡ q → answer now (Lookup dir name) ≡ looked_up (node_in q)
  lookup_told dir name q e = lookup_node (get now.dirs dir.0) name ∙ ap looked_up (node_here dir name q e)

  -- ---- a list
  pub list_told : (dir : DirId) (r : DirRec) → is_in (stage (Dir dir)) ≡ true → get shard.recs dir.0 ≡ Some r → answer now (ListCall dir) ≡ Rows (entries (names_of shard dir.0))
  list_told dir r e there = ap list_of (dir_there stage shard store lasts h dir.0 r e there)

  pub list_gone : (dir : DirId) → is_in (stage (Dir dir)) ≡ false → answer now (ListCall dir) ≡ Refused Enoent
  list_gone dir e = ap list_of (dir_gone stage shard store lasts h dir.0 e)

  -- ---- a stat
  -- the attributes of a record are the directory's
  pub attr_told : (d : ℕ) (r : DirRec) → is_in (stage (dir_at d)) ≡ true → get shard.recs d ≡ Some r → dir_stat (get now.dirs d) ≡ attr_stat (attr_of r)
  attr_told d r e there =
      let counted = counts-from_sums shard h.sums d r there in
      ap dir_stat (dir_there stage shard store lasts h d r e there)
      ∙ (λ i. DirStat ((names-count shard d ∙ sym counted.children) i) (2 + (names-dirs shard d ∙ sym counted.subdirs) i) (attr_of r).time)

  pub root_told : (r : DirRec) → get shard.recs 0 ≡ Some r → answer now StatRoot ≡ attr_stat (attr_of r)
  root_told r there = attr_told 0 r (ap is_in h.root) there

  pub stat_told : (dir : DirId) (name : List ℕ) (q : Option Row) → get shard.rows (row_key dir name) ≡ q → answer now (Stat dir name) ≡ stat_of now (node_in q)
  stat_told dir name q e = ap (stat_of now) (node_here dir name q e)

  pub stat_dir : (child : DirId) (r : DirRec) (dir : DirId) (name : List ℕ) → is_known (stage (Dir child)) ≡ true → get shard.recs child.0 ≡ Some r → r.mark ≡ None → lies_at (Some (dir, name)) (Some r) ≡ true
      → answer now (Stat dir name) ≡ attr_stat (attr_of r)
  stat_dir child r dir name known there none here =
      let is = named_there child r dir name known there none here in
      ap (stat_of now) (named_at dir name (Dir child) is) ∙ attr_told child.0 r (ap is_in is) there

  pub file_shown : (f : FileId) (r : FileRec) → is_kept (stage (File f)) ≡ true → get store f.0 ≡ Some r → get now.files f.0 ≡ Some (facts_of r)
  file_shown f r kept there = get_files stage shard store lasts h f.0 ∙ ap (λ b. option_map facts_of (cond b (get store f.0) None)) kept ∙ ap (option_map facts_of) there

  -- a file that a row names
  pub stat_file : (dir : DirId) (name : List ℕ) (f : FileId) (row : Row) (r : FileRec) → get shard.rows (row_key dir name) ≡ Some row → row.node ≡ File f → get store f.0 ≡ Some r
      → answer now (Stat dir name) ≡ FileStat r.size r.time
  stat_file dir name f row r e is there =
      let named = file_named dir name (get store f.0) (stage (File f)) (h.nodes (File f)) (ap (λ x. key_of (stage x)) (sym is) ∙ h.rows (row_key dir name) row e) in
      stat_told dir name (Some row) e ∙ ap (λ x. stat_of now (Some x)) is ∙ ap file_stat (file_shown f r (ap is_kept named) there)

  -- ---- a create or a mkdir
  pub make_gone : (dir : DirId) (name : List ℕ) (node : Node) → is_in (stage (Dir dir)) ≡ false → answer now (maker dir name node) ≡ Refused Enoent
  make_gone dir name (File f) e = ap (λ o. create_in o name) (dir_gone stage shard store lasts h dir.0 e)
  make_gone dir name (Dir d) e = ap (λ o. mkdir_in o name) (dir_gone stage shard store lasts h dir.0 e)

  pub make_there : (dir : DirId) (name : List ℕ) (node : Node) (row : Row) → get shard.rows (row_key dir name) ≡ Some row → answer now (maker dir name node) ≡ Refused Eexist
  make_there dir name (File f) row e = taken_file _ name row.node (node_here dir name (Some row) e)
  make_there dir name (Dir d) row e = taken_dir _ name row.node (node_here dir name (Some row) e)

  -- at a free name, by whether the directory is full
  abbrev pub free_reply : Node → (full : Bool) → Reply
  free_reply (File f) full = Moved
  free_reply (Dir d) full = room_for full None

  pub make_free : (dir : DirId) (name : List ℕ) (node : Node) (r : DirRec) → is_in (stage (Dir dir)) ≡ true → get shard.recs dir.0 ≡ Some r → get shard.rows (row_key dir name) ≡ None
      → answer now (maker dir name node) ≡ free_reply node (nat_le link_max (2 + (attr_of r).subdirs))
  make_free dir name node r is there e = by_node node
    where
      found : get (names_of shard dir.0) name ≡ None
      found = get-names_of shard dir.0 name ∙ ap (option_map (λ (row : Row). row.node)) e

      by_node : (x : Node) → answer now (maker dir name x) ≡ free_reply x (nat_le link_max (2 + (attr_of r).subdirs))
      by_node (File f) = ap (λ o. create_in o name) (dir_there stage shard store lasts h dir.0 r is there) ∙ ap free_for found
      by_node (Dir d) =
          ap (λ o. mkdir_in o name) (dir_there stage shard store lasts h dir.0 r is there)
          ∙ ap (λ n. room_for (nat_le link_max (2 + n)) (get (names_of shard dir.0) name)) (names-dirs shard dir.0 ∙ sym (counts-from_sums shard h.sums dir.0 r there).subdirs)
          ∙ ap (room_for (nat_le link_max (2 + (attr_of r).subdirs))) found

  pub full_told : (dir : DirId) (name : List ℕ) (node : Node) (r : DirRec) → is_in (stage (Dir dir)) ≡ true → get shard.recs dir.0 ≡ Some r → get shard.rows (row_key dir name) ≡ None → room_in shard dir node ≡ IsFull
      → answer now (maker dir name node) ≡ Refused Emlink
  full_told dir name (File f) r is there e full = absurd (cc)
  full_told dir name (Dir d) r is there e full = make_free dir name (Dir d) r is there e ∙ ap (λ b. room_for b None) filled
    where
      filled : nat_le link_max (2 + (attr_of r).subdirs) ≡ true
      filled =
          let most = full_links (links_in (get shard.recs dir.0)) (leaving_in shard dir) (coming_in shard dir) (deciding_job shard dir) full in
          let links : links_in (get shard.recs dir.0) ≡ 2 + (attr_of r).subdirs = ap links_in there in
          let enough : link_max ≤ 2 + (attr_of r).subdirs = omega arith in
          grind (arith, nat_tests)

  -- ---- an unlink or a rmdir
  pub unlink_told : (dir : DirId) (name : List ℕ) (q : Option Row) → get shard.rows (row_key dir name) ≡ q → answer now (Unlink dir name) ≡ unlinked (node_in q)
  unlink_told dir name q e = ap unlinked (node_here dir name q e)

  pub rmdir_told : (dir : DirId) (name : List ℕ) (q : Option Row) → get shard.rows (row_key dir name) ≡ q → answer now (Rmdir dir name) ≡ removed now (node_in q)
  rmdir_told dir name q e = ap (removed now) (node_here dir name q e)

  pub filled_told : (d : DirId) → is_in (stage (Dir d)) ≡ true → has_rows shard d ≡ true → is_empty (get now.dirs d.0) ≡ false
  filled_told d is some =
      let r = rec_of_in stage shard store lasts h d.0 is in
      ap is_empty (dir_there stage shard store lasts h d.0 r.0 is r.1) ∙ ap (λ n. n == 0) (names-count shard d.0) ∙ some_pass (λ e. lies_in d.0 e.0) (entries shard.rows) some

  pub rmdir_filled : (child : DirId) (r : DirRec) (dir : DirId) (name : List ℕ) → is_known (stage (Dir child)) ≡ true → get shard.recs child.0 ≡ Some r → r.mark ≡ None → lies_at (Some (dir, name)) (Some r) ≡ true
      → has_rows shard child ≡ true → answer now (Rmdir dir name) ≡ Refused Enotempty
  rmdir_filled child r dir name known there none here some =
      let is = named_there child r dir name known there none here in
      ap (removed now) (named_at dir name (Dir child) is) ∙ ap (λ b. if b then Moved else Refused Enotempty) (filled_told child (ap is_in is) some)

  -- ---- a truncate
  pub truncate_gone : (f : FileId) (size : ℕ) → get store f.0 ≡ None → answer now (Truncate f size) ≡ Refused Enoent
  truncate_gone f size none = ap cut_to (get_files stage shard store lasts h f.0 ∙ ap (λ o. option_map facts_of (cond (is_kept (stage (File f))) o None)) none ∙ nothing (is_kept (stage (File f))))
    where
      nothing : (b : Bool) → option_map facts_of (cond b None None) ≡ None
      nothing true = refl
      nothing false = refl
