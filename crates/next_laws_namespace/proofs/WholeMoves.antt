-- Each call that moves keeps a namespace whole, and gives no node a second name.
use Rattle.std.proofs.Common.{◌≡◌, ◌≢◌, ◌⊎◌, inl, inr, ℕ, List, Bool, true, false, cond, refl, sym, ◌∙◌, ap, subst, arith}
use Rattle.std.specs.Prelude.{◌==◌, Option, Some, None}
use Rattle.std.proofs.lemmas.Bool.Decides.{nat_tests}
use Rattle.std.specs.Ordering.{nat_cmp}
use Rattle.std.specs.Cmp.Lexicographic.{slice_cmp}
use Rattle.std.specs.FinMap.{get, insert, remove, empty, get-empty, len-entries, empty_of_len}
use Rattle.next_ids.specs.declared.ids.DirId.{DirId}
use Rattle.next_ids.specs.declared.ids.FileId.{FileId}
use Rattle.next_ids.specs.declared.ids.Node.{Node}
use Rattle.next_ids.specs.declared.ids.Node.TheVariants.{Dir, File}
use Rattle.next_ids.specs.declared.call.Reply.TheVariants.{Moved, Refused}
use Rattle.next_ids.specs.declared.errno.Errno.TheVariants.{Enotempty}
use Rattle.next_ids.specs.declared.time.Ts.{Ts}
use Rattle.next_ids.specs.Maps.{Numbers}
use Rattle.next_ids.specs.Namespace.{Directory, FileFacts, Namespace, node_at, is_empty, create_in, unlinked, removed, mkdir_in, room_for, is_full, cut_file, name_set, name_cut, without_dir, created, made_dir, unlinked_in, removed_in, truncated, IsThere, IsWhole}
use Rattle.next_ids.proofs.MapLemmas.{get-insert_here}
use Rattle.next_laws_namespace.proofs.Chains.{below-reached, reached-below}
use Rattle.next_laws_namespace.proofs.Slots.{IsSlot, slots, IsDirThere, listing-there, get-insert_apart, get-remove_apart, get-remove_at, set-here, set-other, set-elsewhere, cut-here, cut-other, removed-empty, there-insert, there-before}
use Rattle.next_laws_namespace.proofs.Rearranged.{Rearranges, Allows, IsReplaced, IsKept, kept-rearranged}

-- ---- what sets, cuts and moves rearrange
pub set-rearranges : (dirs : Numbers Directory) (dir : DirId) (name : List ℕ) (node : Node) (ts : Ts) → Rearranges dirs (name_set dirs dir name node ts) dir.0 name dir.0 name (Some node)
set-rearranges dirs dir name node ts = record {
  here = set-here dirs dir name node ts;
  gone = λ apart. absurd (apart (refl, refl));
  rest = λ d other apart again. set-other dirs dir name node ts d other apart;
}

cut-rearranges : (dirs : Numbers Directory) (dir : DirId) (name : List ℕ) (ts : Ts) → Rearranges dirs (name_cut dirs dir name ts) dir.0 name dir.0 name None
cut-rearranges dirs dir name ts = record {
  here = cut-here dirs dir name ts;
  gone = λ apart. absurd (apart (refl, refl));
  rest = λ d other apart again. cut-other dirs dir name ts d other apart;
}

pub move-rearranges : (dirs : Numbers Directory) (dir : DirId) (name : List ℕ) (to_dir : DirId) (to_name : List ℕ) (node : Node) (ts : Ts) → Rearranges dirs (name_set (name_cut dirs dir name ts) to_dir to_name node ts) dir.0 name to_dir.0 to_name (Some node)
move-rearranges dirs dir name to_dir to_name node ts = record {
  here = set-here (name_cut dirs dir name ts) to_dir to_name node ts;
  gone = λ apart. set-other (name_cut dirs dir name ts) to_dir to_name node ts dir.0 name apart ∙ cut-here dirs dir name ts;
  rest = λ d other apart other_slot. set-other (name_cut dirs dir name ts) to_dir to_name node ts d other apart ∙ cut-other dirs dir name ts d other other_slot;
}

-- so does one after which the directory goes that had the name, which was empty
module _ (dirs dirs' : Numbers Directory) (from : ℕ) (name : List ℕ) (to : ℕ) (to_name : List ℕ) (node : Option Node) (re : Rearranges dirs dirs' from name to to_name node) where
  still-empty : (dir : DirId) → node_at (get dirs to) to_name ≡ Some (Dir dir) → ((other : List ℕ) → node_at (get dirs dir.0) other ≡ None) → (other : List ℕ) → node_at (get dirs' dir.0) other ≡ None
  still-empty dir is none other = by_slot (slots dir.0 other to to_name) (slots dir.0 other from name)
    where
      by_slot : IsSlot dir.0 other to to_name ⊎ ¬ (IsSlot dir.0 other to to_name) → IsSlot dir.0 other from name ⊎ ¬ (IsSlot dir.0 other from name) → node_at (get dirs' dir.0) other ≡ None
      by_slot (inl s) either = absurd (let clash : node_at (get dirs to) to_name ≡ None = subst (λ d. node_at (get dirs d) to_name ≡ None) s.0 (none to_name) in cc)
      by_slot (inr apart) (inl s) =
          let gone = re.gone (λ (t : IsSlot from name to to_name). apart (s.0 ∙ t.0, s.1 ∙ t.1)) in
          subst (λ d. node_at (get dirs' d) other ≡ None) (sym s.0) (subst (λ x. node_at (get dirs' from) x ≡ None) (sym s.1) gone)
      by_slot (inr apart) (inr other_slot) = re.rest dir.0 other apart other_slot ∙ none other

  pub without-rearranges : (o : Option Node) → node_at (get dirs to) to_name ≡ o → ((dir : DirId) → node_at (get dirs to) to_name ≡ Some (Dir dir) → (other : List ℕ) → node_at (get dirs dir.0) other ≡ None) → Rearranges dirs (without_dir dirs' o) from name to to_name node
  without-rearranges None is none = re
  without-rearranges (Some (File f)) is none = re
  without-rearranges (Some (Dir dir)) is none = record {
    here = same to to_name ∙ re.here;
    gone = λ apart. same from name ∙ re.gone apart;
    rest = λ d other apart other_slot. same d other ∙ re.rest d other apart other_slot;
  }
    where
      same : (d : ℕ) (other : List ℕ) → node_at (get (remove dirs' dir.0) d) other ≡ node_at (get dirs' d) other
      same = removed-empty dirs' dir.0 (still-empty dir is (none dir is))

-- ---- which directories are there then
other-number : (dir : DirId) (d : ℕ) → ◌≡◌ {A = Option Node} (Some (Dir dir)) (Some (Dir (record { 0 = d }))) → dir.0 ≡ d
other-number dir d is = let same : dir ≡ record { 0 = d } = cc in ap (λ (x : DirId). x.0) same

pub known-without : (dirs : Numbers Directory) (o : Option Node) (d : ℕ) → IsDirThere (without_dir dirs o) d → IsDirThere dirs d × ¬ (o ≡ Some (Dir (record { 0 = d })))
known-without dirs None d h = (h, λ e. cc)
known-without dirs (Some (File f)) d h = (h, λ e. cc)
known-without dirs (Some (Dir dir)) d h = by_test (d == dir.0) refl
  where
    by_test : (b : Bool) → (d == dir.0) ≡ b → IsDirThere dirs d × ¬ (◌≡◌ {A = Option Node} (Some (Dir dir)) (Some (Dir (record { 0 = d }))))
    by_test true at =
        let same : d ≡ dir.0 = grind (arith, nat_tests) in
        absurd (let none : get (remove dirs dir.0) d ≡ None = ap (get (remove dirs dir.0)) same ∙ get-remove_at dirs dir.0 in let some = h.1 in cc)
    by_test false at =
        let apart : d ≢ dir.0 = grind (arith, nat_tests) in
        ((h.0, sym (get-remove_apart dirs dir.0 d apart) ∙ h.1), λ e. apart (sym (other-number dir d e)))

pub stay-without : (dirs : Numbers Directory) (o : Option Node) (d : ℕ) → IsDirThere dirs d → ¬ (o ≡ Some (Dir (record { 0 = d }))) → IsDirThere (without_dir dirs o) d
stay-without dirs None d h kept = h
stay-without dirs (Some (File f)) d h kept = h
stay-without dirs (Some (Dir dir)) d h kept =
    let apart : d ≢ dir.0 = λ same. kept (ap (λ k. Some (Dir (record { 0 = k }))) (sym same)) in
    (h.0, get-remove_apart dirs dir.0 d apart ∙ h.1)

-- ---- an empty directory has no name
pub no-names : (o : Option Directory) → is_empty o ≡ true → (name : List ℕ) → node_at o name ≡ None
no-names None h name = refl
no-names (Some d) h name =
    let none = empty_of_len d.names (len-entries d.names ∙ grind (arith, nat_tests)) in
    ap (λ m. get m name) none ∙ get-empty (slice_cmp nat_cmp) name

-- ---- create
pub free-there : (o : Option Directory) (name : List ℕ) → create_in o name ≡ Moved → ((it : Directory) × (o ≡ Some it)) × (node_at o name ≡ None)
free-there None name h = cc
free-there (Some d) name h = ((d, refl), by_node (get d.names name) refl h)
  where
    by_node : (o : Option Node) → get d.names name ≡ o → create_in (Some d) name ≡ Moved → get d.names name ≡ None
    by_node None is h = is
    by_node (Some node) is h = let clash = rw is at h in cc

-- a mkdir that moves has room, at a free name
room-there : (full : Bool) (o : Option Node) → room_for full o ≡ Moved → o ≡ None
room-there full (Some node) h = cc
room-there true None h = cc
room-there false None h = refl

pub free-for-dir : (o : Option Directory) (name : List ℕ) → mkdir_in o name ≡ Moved → ((it : Directory) × (o ≡ Some it)) × (node_at o name ≡ None)
free-for-dir None name h = cc
free-for-dir (Some d) name h = ((d, refl), room-there (is_full d) (get d.names name) h)

file-there-insert : (files : Numbers FileFacts) (f : ℕ) (facts : FileFacts) (g : ℕ) → (it : FileFacts) × (get files g ≡ Some it) → (it : FileFacts) × (get (insert files f facts) g ≡ Some it)
file-there-insert files f facts g h = by_test (g == f) refl
  where
    by_test : (b : Bool) → (g == f) ≡ b → (it : FileFacts) × (get (insert files f facts) g ≡ Some it)
    by_test true at = let same : g ≡ f = grind (arith, nat_tests) in (facts, ap (get (insert files f facts)) same ∙ get-insert_here files f facts)
    by_test false at = let apart : g ≢ f = grind (arith, nat_tests) in (h.0, get-insert_apart files f g facts apart ∙ h.1)

pub kept-created : (n : Namespace) (dir : DirId) (name : List ℕ) (file : FileId) (ts : Ts) → IsDirThere n.dirs dir.0 → node_at (get n.dirs dir.0) name ≡ None → get n.files file.0 ≡ None → IsWhole n → IsKept n (created n dir name file ts)
kept-created n dir name file ts it none new whole = kept-rearranged n (created n dir name file ts) dir.0 name dir.0 name (Some (File file)) (set-rearranges n.dirs dir name (File file) ts) may whole
  where
    new_file : (node : Node) → ◌≡◌ {A = Option Node} (Some (File file)) (Some node) → IsThere (created n dir name file ts) node
    new_file (File f) is = let same : file ≡ f = cc in subst (λ (x : FileId). IsThere (created n dir name file ts) (File x)) same (record { size = 0; time = ts }, get-insert_here n.files file.0 (record { size = 0; time = ts }))
    new_file (Dir d) is = cc

    -- each node that a list names is there, and the new file isn't
    nowhere : (node : Node) → ◌≡◌ {A = Option Node} (Some (File file)) (Some node) → IsThere n node → ⊥
    nowhere (File f) is h = let same : file ≡ f = cc in let there = h.1 in let absent : get n.files f.0 ≡ None = subst (λ (x : FileId). get n.files x.0 ≡ None) same new in cc
    nowhere (Dir d) is h = cc

    may : Allows n (created n dir name file ts) dir.0 name dir.0 name (Some (File file))
    may = record {
      to_there = it;
      known = λ d h. inl (there-before n.dirs dir.0 _ d it h, λ replaced. cc);
      stay = λ d h kept. there-insert n.dirs dir.0 _ d h;
      files = λ f h. file-there-insert n.files file.0 _ f.0 h;
      node_there = new_file;
      not_root = λ d is. cc;
      alone = λ d is e other found. absurd (nowhere (Dir d) is (whole.there e other (Dir d) found));
      alone_too = λ once node is e other found. absurd (nowhere node is (whole.there e other node found));
      empty = λ d is other. cc;
      moves = λ d apart is. absurd (apart (refl, refl));
    }

-- ---- mkdir
pub kept-made_dir : (n : Namespace) (dir : DirId) (name : List ℕ) (child : DirId) (ts : Ts) → IsDirThere n.dirs dir.0 → node_at (get n.dirs dir.0) name ≡ None → get n.dirs child.0 ≡ None → IsWhole n → IsKept n (made_dir n dir name child ts)
kept-made_dir n dir name child ts it none new whole = kept-rearranged n (made_dir n dir name child ts) dir.0 name dir.0 name (Some (Dir child)) re may whole
  where
    apart : child.0 ≢ dir.0
    apart = λ same. let there = it.1 in let absent : get n.dirs dir.0 ≡ None = ap (get n.dirs) (sym same) ∙ new in cc

    same : (d : ℕ) (other : List ℕ) → node_at (get (made_dir n dir name child ts).dirs d) other ≡ node_at (get (name_set n.dirs dir name (Dir child) ts) d) other
    same d other = set-elsewhere (name_set n.dirs dir name (Dir child) ts) child.0 (record { names = empty; time = ts }) d other (λ at.
        get-empty (slice_cmp nat_cmp) other ∙ sym (ap (λ o. node_at o other) (get-insert_apart n.dirs dir.0 child.0 _ apart ∙ new)))

    set : Rearranges n.dirs (name_set n.dirs dir name (Dir child) ts) dir.0 name dir.0 name (Some (Dir child))
    set = set-rearranges n.dirs dir name (Dir child) ts

    re : Rearranges n.dirs (made_dir n dir name child ts).dirs dir.0 name dir.0 name (Some (Dir child))
    re = record {
      here = same dir.0 name ∙ set.here;
      gone = λ slot. absurd (slot (refl, refl));
      rest = λ d other slot again. same d other ∙ set.rest d other slot again;
    }

    known_then : (d : ℕ) → IsDirThere (made_dir n dir name child ts).dirs d → (IsDirThere n.dirs d × ¬ (IsReplaced n.dirs dir.0 name d)) ⊎ ◌≡◌ {A = Option Node} (Some (Dir child)) (Some (Dir (record { 0 = d })))
    known_then d h = by_test (d == child.0) refl
      where
        by_test : (b : Bool) → (d == child.0) ≡ b → (IsDirThere n.dirs d × ¬ (IsReplaced n.dirs dir.0 name d)) ⊎ ◌≡◌ {A = Option Node} (Some (Dir child)) (Some (Dir (record { 0 = d })))
        by_test true at = let here : d ≡ child.0 = grind (arith, nat_tests) in inr (ap (λ k. Some (Dir (record { 0 = k }))) (sym here))
        by_test false at =
            let other : d ≢ child.0 = grind (arith, nat_tests) in
            inl (there-before n.dirs dir.0 _ d it (h.0, sym (get-insert_apart (name_set n.dirs dir name (Dir child) ts) child.0 d _ other) ∙ h.1), λ replaced. cc)

    new_dir : (node : Node) → ◌≡◌ {A = Option Node} (Some (Dir child)) (Some node) → IsThere (made_dir n dir name child ts) node
    new_dir (Dir d) is =
        let here : child ≡ d = cc in
        subst (λ (x : DirId). IsThere (made_dir n dir name child ts) (Dir x)) here (record { names = empty; time = ts }, get-insert_here (name_set n.dirs dir name (Dir child) ts) child.0 (record { names = empty; time = ts }))
    new_dir (File f) is = cc

    is_child : (d : DirId) → ◌≡◌ {A = Option Node} (Some (Dir child)) (Some (Dir d)) → get n.dirs d.0 ≡ None
    is_child d is = let here : child ≡ d = cc in subst (λ (x : DirId). get n.dirs x.0 ≡ None) here new

    nowhere : (node : Node) → ◌≡◌ {A = Option Node} (Some (Dir child)) (Some node) → IsThere n node → ⊥
    nowhere (Dir d) is h = let absent = is_child d is in let there = h.1 in cc
    nowhere (File f) is h = cc

    may : Allows n (made_dir n dir name child ts) dir.0 name dir.0 name (Some (Dir child))
    may = record {
      to_there = it;
      known = known_then;
      stay = λ d h kept. there-insert (name_set n.dirs dir name (Dir child) ts) child.0 _ d (there-insert n.dirs dir.0 _ d h);
      files = λ f h. h;
      node_there = new_dir;
      not_root = λ d is zero_is. let absent = is_child d is in let there = whole.root.1 in let root : get n.dirs 0 ≡ None = ap (get n.dirs) (sym zero_is) ∙ absent in cc;
      alone = λ d is e other found. absurd (nowhere (Dir d) is (whole.there e other (Dir d) found));
      alone_too = λ once node is e other found. absurd (nowhere node is (whole.there e other node found));
      empty = λ d is other. cc;
      moves = λ d slot is. absurd (slot (refl, refl));
    }

-- ---- unlink
pub a-file : (o : Option Node) → unlinked o ≡ Moved → (f : FileId) × (o ≡ Some (File f))
a-file None h = cc
a-file (Some (Dir dir)) h = cc
a-file (Some (File file)) h = (file, refl)

pub kept-unlinked : (n : Namespace) (dir : DirId) (name : List ℕ) (ts : Ts) (file : FileId) → node_at (get n.dirs dir.0) name ≡ Some (File file) → IsWhole n → IsKept n (unlinked_in n dir name ts)
kept-unlinked n dir name ts file is whole = kept-rearranged n (unlinked_in n dir name ts) dir.0 name dir.0 name None (cut-rearranges n.dirs dir name ts) may whole
  where
    may : Allows n (unlinked_in n dir name ts) dir.0 name dir.0 name None
    may = let it = listing-there (get n.dirs dir.0) name (File file) is in record {
      to_there = it;
      known = λ d h. inl (there-before n.dirs dir.0 _ d it h, λ replaced. cc);
      stay = λ d h kept. there-insert n.dirs dir.0 _ d h;
      files = λ f h. h;
      node_there = λ node none. cc;
      not_root = λ d none. cc;
      alone = λ d none e other found. cc;
      alone_too = λ once node none e other found. cc;
      empty = λ d replaced other. cc;
      moves = λ d slot replaced. absurd (slot (refl, refl));
    }

-- ---- rmdir
pub an-empty : (n : Namespace) (o : Option Node) → removed n o ≡ Moved → (child : DirId) × (o ≡ Some (Dir child)) × (is_empty (get n.dirs child.0) ≡ true)
an-empty n None h = cc
an-empty n (Some (File file)) h = cc
an-empty n (Some (Dir child)) h = (child, refl, by_test (is_empty (get n.dirs child.0)) h)
  where
    by_test : (b : Bool) → cond b Moved (Refused Enotempty) ≡ Moved → b ≡ true
    by_test true h = refl
    by_test false h = cc

pub kept-removed : (n : Namespace) (dir : DirId) (name : List ℕ) (ts : Ts) (child : DirId) → node_at (get n.dirs dir.0) name ≡ Some (Dir child) → is_empty (get n.dirs child.0) ≡ true → IsWhole n → IsKept n (removed_in n dir name ts)
kept-removed n dir name ts child is none whole =
    kept-rearranged n (removed_in n dir name ts) dir.0 name dir.0 name None (without-rearranges n.dirs (name_cut n.dirs dir name ts) dir.0 name dir.0 name None (cut-rearranges n.dirs dir name ts) _ refl gone) may whole
  where
    gone : (d : DirId) → node_at (get n.dirs dir.0) name ≡ Some (Dir d) → (other : List ℕ) → node_at (get n.dirs d.0) other ≡ None
    gone d found other = let same : child ≡ d = cc in subst (λ (x : DirId). node_at (get n.dirs x.0) other ≡ None) same (no-names (get n.dirs child.0) none other)

    may : Allows n (removed_in n dir name ts) dir.0 name dir.0 name None
    may = let it = listing-there (get n.dirs dir.0) name (Dir child) is in record {
      to_there = it;
      known = λ d h. let k = known-without (name_cut n.dirs dir name ts) (node_at (get n.dirs dir.0) name) d h in inl (there-before n.dirs dir.0 _ d it k.0, k.1);
      stay = λ d h kept. stay-without (name_cut n.dirs dir name ts) (node_at (get n.dirs dir.0) name) d (there-insert n.dirs dir.0 _ d h) kept;
      files = λ f h. h;
      node_there = λ node no. cc;
      not_root = λ d no. cc;
      alone = λ d no e other found. cc;
      alone_too = λ once node no e other found. cc;
      empty = gone;
      moves = λ d slot found. absurd (slot (refl, refl));
    }

-- ---- truncate
pub kept-truncated : (n : Namespace) (file : FileId) (size : ℕ) (ts : Ts) → IsWhole n → IsKept n (truncated n file size ts)
kept-truncated n file size ts whole = (record { root = whole.root; there = there'; unnamed = whole.unnamed; once = whole.once; below = λ d it is. below-reached (truncated n file size ts) 0 d (reached-below n 0 d (whole.below d it is)) }, λ once. once)
  where
    stays : (node : Node) → IsThere n node → IsThere (truncated n file size ts) node
    stays (Dir dir) h = h
    stays (File f) h = file-there-insert n.files file.0 (cut_file (get n.files file.0) size ts) f.0 h

    there' : (d : ℕ) (name : List ℕ) (node : Node) → node_at (get n.dirs d) name ≡ Some node → IsThere (truncated n file size ts) node
    there' d name node is = stays node (whole.there d name node is)
