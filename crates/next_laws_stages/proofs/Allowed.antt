-- The moves of the steps are allowed by the tree that the places hold.
use Rattle.std.proofs.Common.{◌≡◌, ℕ, ◌+◌, List, [], ◌∷◌, Bool, true, false, cond, refl, sym, ◌∙◌, ap, arith}
use Rattle.std.specs.Prelude.{Option, Some, None, nat_le, ◌==◌, length, if◌then◌else◌}
use Rattle.std.proofs.lemmas.Bool.Decides.{nat_tests}
use Rattle.std.specs.Option.{option_map}
use Rattle.std.specs.Ordering.{nat_cmp}
use Rattle.std.specs.Cmp.Lexicographic.{slice_cmp}
use Rattle.std.specs.FinMap.{get, empty, entries, get-entries}
use Rattle.next_ids.specs.declared.call.Call.TheVariants.{Unlink, Rmdir, Truncate}
use Rattle.next_ids.specs.declared.call.Reply.TheVariants.{Moved, Refused}
use Rattle.next_ids.specs.declared.errno.Errno.TheVariants.{Enotempty}
use Rattle.next_ids.specs.declared.ids.DirId.{DirId}
use Rattle.next_ids.specs.declared.ids.FileId.{FileId}
use Rattle.next_ids.specs.declared.ids.Node.{Node}
use Rattle.next_ids.specs.declared.ids.Node.TheVariants.{Dir, File}
use Rattle.next_ids.specs.declared.ids.PlaceNo.{PlaceNo}
use Rattle.next_ids.specs.declared.note.MarkNote.{MarkNote}
use Rattle.next_ids.specs.declared.time.Ts.{Ts}
use Rattle.next_ids.specs.Maps.{row_key}
use Rattle.next_ids.specs.Namespace.{Namespace, answer, node_at, names_file, is_listed, is_empty, unlinked, removed, cut_to, room_for, link_max, IsDefined, IsWhole, IsNamedOnce}
use Rattle.next_ids.proofs.Entries.{entries-empty}
use Rattle.next_steps.specs.declared.contents.Row.{Row}
use Rattle.next_steps.specs.declared.contents.DirRec.{DirRec}
use Rattle.next_steps.specs.declared.contents.FileRec.{FileRec}
use Rattle.next_steps.specs.declared.entry.Entry.{Entry}
use Rattle.next_steps.specs.declared.moves.Moved.{Moved as MovedFact}
use Rattle.next_steps.specs.declared.moves.Moved.TheVariants.{Move, Forget}
use Rattle.next_steps.specs.Writers.{maker}
use Rattle.next_rules.specs.Contents.{Shard, Store, attr_of}
use Rattle.next_rules.specs.Changes.{node_in}
use Rattle.next_rules.specs.Moves.{after_moved, space, IsAllowed, MovesAllowed}
use Rattle.next_rules.specs.Room.{HasRoom, room_in}
use Rattle.next_rules.specs.Trees.{facts_of, tree}
use Rattle.next_laws_namespace.proofs.Found.{found-name, found-number}
use Rattle.next_laws_namespace.proofs.Rearranged.{IsKept}
use Rattle.next_laws_namespace.proofs.Whole.{empty_root-whole, empty_root-once, kept-after, kept-forgotten}
use Rattle.next_laws_stages.specs.Stages.{Stage, Fresh, Named, Marked, is_in, is_open, is_kept, key_of}
use Rattle.next_laws_stages.specs.Held.{PlacesHold, still}
use Rattle.next_laws_stages.proofs.Counts.{coming_none, has_link}
use Rattle.next_laws_stages.proofs.Effects.{none_some}
use Rattle.next_laws_stages.proofs.Known.{no_rows_in, open_in}
use Rattle.next_laws_stages.proofs.Moves.{no_names}
use Rattle.next_laws_stages.proofs.Replies.{make_free, named_at, file_shown}
use Rattle.next_laws_stages.proofs.Shown.{file_at, dir_there, dir_gone, rec_of_in, node_told, get_files}

module _ (stage : Node → Stage) (shard : Shard) (store : Store) (lasts : ℕ → ℕ) (h : PlacesHold stage shard store lasts) where
  abbrev now : Namespace
  now = tree (still shard store)

  -- ---- a node that was put is named
  make_moves : (dir : DirId) (name : List ℕ) (node : Node) (r : DirRec) → is_open (stage (Dir dir)) ≡ true → get shard.recs dir.0 ≡ Some r → get shard.rows (row_key dir name) ≡ None → shard.locks ≡ empty
      → room_in shard dir node ≡ HasRoom → answer now (maker dir name node) ≡ Moved
  make_moves dir name (File file) r opens there free calm room = make_free stage shard store lasts h dir name (File file) r (open_in (stage (Dir dir)) opens) there free
  make_moves dir name (Dir child) r opens there free calm room =
      let coming = coming_none shard dir calm in
      let few = h.links dir r there in
      let fits = has_link shard dir (Dir child) r calm there room (omega arith) in
      let left : nat_le link_max (2 + (attr_of r).subdirs) ≡ false = grind (arith, nat_tests) in
      make_free stage shard store lasts h dir name (Dir child) r (open_in (stage (Dir dir)) opens) there free ∙ ap (λ b. room_for b None) left

  pub insert_may : (client : ℕ) (ts : Ts) (dir : DirId) (name : List ℕ) (node : Node) (r : DirRec) → stage node ≡ Fresh client ts dir name → is_open (stage (Dir dir)) ≡ true → get shard.recs dir.0 ≡ Some r
      → get shard.rows (row_key dir name) ≡ None → shard.locks ≡ empty → room_in shard dir node ≡ HasRoom → IsDefined now (maker dir name node) (Some node)
  insert_may client ts dir name (File file) r fresh opens there free calm room =
      (make_moves dir name (File file) r opens there free calm room, get_files stage shard store lasts h file.0 ∙ ap (λ s. option_map facts_of (cond (is_kept s) (get store file.0) None)) fresh)
  insert_may client ts dir name (Dir child) r fresh opens there free calm room =
      (make_moves dir name (Dir child) r opens there free calm room, dir_gone stage shard store lasts h child.0 (ap is_in fresh))

  -- ---- the row of a file is cut
  pub delete_may : (file : FileId) (dir : DirId) (name : List ℕ) → stage (File file) ≡ Named dir name → IsDefined now (Unlink dir name) None
  delete_may file dir name named = ap unlinked (named_at stage shard store lasts h dir name (File file) named)

  -- ---- that of a directory that is marked
  marked_empty : (child : DirId) → is_in (stage (Dir child)) ≡ true → is_open (stage (Dir child)) ≡ false → is_empty (get now.dirs child.0) ≡ true
  marked_empty child is closed =
      let r = rec_of_in stage shard store lasts h child.0 is in
      ap is_empty (dir_there stage shard store lasts h child.0 r.0 is r.1)
      ∙ ap (λ ns. length (entries ns) == 0) (no_names shard child.0 (no_rows_in stage shard store lasts h child.0 closed))
      ∙ ap (λ (es : List (List ℕ × Node)). length es == 0) (entries-empty {X = Node} (slice_cmp nat_cmp))

  pub remove_may : (note : MarkNote) → stage (Dir note.child) ≡ Marked note → IsDefined now (Rmdir note.dir note.name) None
  remove_may note marked =
      ap (removed now) (node_told stage shard store lasts h note.dir.0 note.name ∙ h.named (Dir note.child) (row_key note.dir note.name) (ap key_of marked))
      ∙ ap (λ b. if b then Moved else Refused Enotempty) (marked_empty note.child (ap is_in marked) (ap is_open marked))

  -- ---- a size is set
  pub resize_may : (file : FileId) (size : ℕ) (r : FileRec) → is_kept (stage (File file)) ≡ true → get store file.0 ≡ Some r → IsDefined now (Truncate file size) None
  resize_may file size r kept there = ap cut_to (file_shown stage shard store lasts h file r kept there)

  -- ---- a file without a name is forgotten
  is_file : (f : ℕ) (node : Node) → names_file f node ≡ true → node ≡ file_at f
  is_file f (File g) e = let same : g.0 ≡ f = grind (arith, nat_tests) in ap file_at same
  is_file f (Dir d) e = absurd (cc)

  by_row : (f : ℕ) (k : List ℕ) (o : Option Row) → key_of (stage (file_at f)) ≡ None → get shard.rows k ≡ o → node_in o ≡ Some (file_at f) → ⊥
  by_row f k None none e n = cc
  by_row f k (Some row) none e n =
      let same : row.node ≡ file_at f = cc in
      none_some (key_of (stage row.node)) k (ap (λ x. key_of (stage x)) same ∙ none) (h.rows k row e)

  pub unlisted : (f : ℕ) → key_of (stage (file_at f)) ≡ None → is_listed now f ≡ false
  unlisted f none = by_test (is_listed now f) refl
    where
      by_test : (b : Bool) → is_listed now f ≡ b → b ≡ false
      by_test false e = refl
      by_test true e = absurd (
          let d = found-number _ now.dirs e in
          let dir : get now.dirs d.key ≡ Some d.value = get-entries now.dirs d.key ∙ d.there in
          let n = found-name (λ e. names_file f e.1) d.value.names d.passes in
          let it : get d.value.names n.key ≡ Some n.value = get-entries d.value.names n.key ∙ n.there in
          by_row f (d.key ∷ n.key) _ none refl (sym (node_told stage shard store lasts h d.key n.key) ∙ ap (λ o. node_at o n.key) dir ∙ it ∙ ap Some (is_file f n.value n.passes)))

  pub forget_may : (file : FileId) → key_of (stage (File file)) ≡ None → IsAllowed now (Some (Forget file))
  forget_may file none = unlisted file.0 none

-- ---- what a move leaves is whole, and no node has two names in it
kept-moved : (n : Namespace) (moved : Option MovedFact) → IsAllowed n moved → IsWhole n → IsKept n (after_moved n moved)
kept-moved n None may whole = (whole, λ once. once)
kept-moved n (Some (Move m)) may whole = kept-after n m.call m.made m.ts may whole
kept-moved n (Some (Forget file)) may whole = kept-forgotten n file.0 may whole

pub whole-space : (run : List (PlaceNo × Entry)) → MovesAllowed run → IsWhole (space run)
whole-space [] may = empty_root-whole
whole-space (e ∷ older) may = (kept-moved (space older) e.1.moved may.0 (whole-space older may.1)).0

pub once-space : (run : List (PlaceNo × Entry)) → MovesAllowed run → IsNamedOnce (space run)
once-space [] may = empty_root-once
once-space (e ∷ older) may = (kept-moved (space older) e.1.moved may.0 (whole-space older may.1)).1 (once-space older may.1)
