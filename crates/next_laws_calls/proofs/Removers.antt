-- The steps of a rmdir.
use Rattle.std.proofs.Common.{◌≡◌, ℕ, ◌%◌, ◌<◌, List, Bool, true, false, refl, sym, ◌∙◌, ap, subst, inl, inr}
use Rattle.std.specs.Prelude.{if◌then◌else◌, Option, Some, None}
use Rattle.std.specs.FinMap.{get}
use Rattle.next_ids.specs.declared.ids.Actor.TheVariants.{Client as ClientActor}
use Rattle.next_ids.specs.declared.ids.Client.{Client}
use Rattle.next_ids.specs.declared.ids.DirId.{DirId}
use Rattle.next_ids.specs.declared.ids.JobNo.{JobNo}
use Rattle.next_ids.specs.declared.ids.Stamp.{Stamp}
use Rattle.next_ids.specs.declared.ids.Node.{Node}
use Rattle.next_ids.specs.declared.ids.Node.TheVariants.{Dir, File}
use Rattle.next_ids.specs.declared.note.MarkNote.{MarkNote}
use Rattle.next_ids.specs.declared.time.Ts.{Ts}
use Rattle.next_ids.specs.declared.errno.Errno.TheVariants.{Enoent, Enotdir, Enotempty}
use Rattle.next_ids.specs.declared.call.Call.TheVariants.{Rmdir}
use Rattle.next_ids.specs.declared.call.Reply.TheVariants as reply
use Rattle.next_ids.specs.Maps.{row_key}
use Rattle.next_ids.specs.Namespace.{removed as removed_reply}
use Rattle.next_steps.specs.declared.answer.Answer.{Answer}
use Rattle.next_steps.specs.declared.answer.Answer.TheVariants as answer
use Rattle.next_steps.specs.declared.ask.Ask.TheVariants as ask
use Rattle.next_steps.specs.declared.contents.Debt.{Debt}
use Rattle.next_steps.specs.declared.contents.DirRec.{DirRec}
use Rattle.next_steps.specs.declared.contents.Row.{Row}
use Rattle.next_steps.specs.Asks.{shard_of}
use Rattle.next_steps.specs.Calls.{heard}
use Rattle.next_steps.specs.Ends.{moved}
use Rattle.next_steps.specs.Phases.{Phase, Removes, RowReading, Marking, MarkHelping, Removing, RecDropping, RecClearing}
use Rattle.next_steps.specs.Removers.{note_of, heard_name}
use Rattle.next_rules.specs.Actors.{client_of}
use Rattle.next_rules.specs.Changes.{node_in}
use Rattle.next_rules.specs.Contents.{Shard, unmoved, debt_key}
use Rattle.next_rules.specs.Owning.{dropped_rec, cleared}
use Rattle.next_rules.specs.Primitives.{move_by}
use Rattle.next_rules.specs.Reading.{mark_in, lies_at, read_row}
use Rattle.next_rules.specs.Removing.{has_rows, marked, removed, names_it}
use Rattle.next_rules.specs.Trees.{tree}
use Rattle.next_rules.specs.Worlds.{World, stamped, in_shard}
use Rattle.next_laws_told.specs.Claims.{Open, Made, Leads}
use Rattle.next_laws_told.specs.Ledgers.{Starts}
use Rattle.next_laws_stages.specs.Stages.{Stage, Named, Marked, Owed, Cleared, Drops, Clears, is_known, is_in, key_of, debt_of}
use Rattle.next_laws_stages.specs.Needs.{Removing as RemovingNeed, Meets}
use Rattle.next_laws_stages.specs.Held.{NodeIs, DirIs, dir_at, still}
use Rattle.next_laws_stages.proofs.Effects.{none_some}
use Rattle.next_laws_stages.proofs.Known.{named_known, no_debt_at, row_known}
use Rattle.next_laws_calls.specs.Claimed.{claim_of, marked_claim}
use Rattle.next_laws_calls.specs.Worlds.{IsRemoving, Holds, Past}
use Rattle.next_laws_calls.proofs.Changing.{mark_it, remove_it, drop_dir, clear_it, quiet}
use Rattle.next_laws_calls.proofs.Frame.{Goes}
use Rattle.next_laws_calls.proofs.Helping.{not_named}
use Rattle.next_laws_calls.proofs.Readers.{dir_is, noted_at}
use Rattle.next_laws_calls.proofs.Steps.{entry_of, grown_by, no_mark, looked, answered, changed}
use Rattle.next_laws_stages.proofs.Replies.{rmdir_told, named_at, filled_told}

abbrev note_in : MarkNote → Stage → MarkNote
note_in other (Marked n) = n
note_in other s = other

abbrev stamp_in : Option (ℕ × Debt) → Stamp
stamp_in None = record { number = 0; place = record { 0 = 0 } }
stamp_in (Some d) = d.1.stamp

module _ (w : World) (h : Holds w) (past : Past w) (c number moment : ℕ) where
  abbrev shard : Shard
  shard = w.service.shard

  abbrev IsAt : Phase → Type 0
  IsAt phase = (w.actors.clients c).current ≡ Some phase

  -- ---- the row is read
  module _ (phase : Phase) (is : IsAt phase) (first : Stamp) (idle : (note : MarkNote) → IsRemoving c note (Some phase) → ⊥) (dir : DirId) (name : List ℕ) (ts : Option Ts) (later : w.lasts (shard_of dir).0 < number)
      (known : is_known (h.stage (Dir dir)) ≡ true) (starts : Starts (stamped number (ask.Read dir name)) (claim_of shard (Some phase)) (Open (Rmdir dir name) first))
      (hears : (a : Answer) → heard phase (shard_of dir) (entry_of c number moment (ask.Read dir name) (unmoved w.service a)) ≡ heard_name dir name ts first (stamped number (ask.Read dir name)) a) where
    name_found : (row : Row) → get shard.rows (row_key dir name) ≡ Some row → (x : Node) → row.node ≡ x → Goes w h c number moment (ask.Read dir name) (unmoved w.service (answer.Found x row.stamp)) phase
    name_found row e (Dir child) node =
        looked w h past c number moment phase is (ask.Read dir name) later idle (answer.Found (Dir child) row.stamp) (Removes (Marking dir name child ts first)) (hears (answer.Found (Dir child) row.stamp)) (Open (Rmdir dir name) first) starts
        (tt, (known, (ap (λ x. is_known (h.stage x)) (sym node) ∙ row_known h.stage shard w.service.store w.lasts h.places (row_key dir name) row e, tt)), tt) (refl, tt)
    name_found row e (File file) node =
        answered w h past c number moment phase is (ask.Read dir name) later idle (answer.Found (File file) row.stamp) (Rmdir dir name) first (reply.Refused Enotdir) (hears (answer.Found (File file) row.stamp)) starts tt
        (rmdir_told h.stage shard w.service.store w.lasts h.places dir name (Some row) e ∙ ap (λ x. removed_reply (tree (still shard w.service.store)) (Some x)) node) (λ e. cc)

    pub name_goes : (l : Option JobNo) (q : Option Row) → get shard.rows (row_key dir name) ≡ q → Goes w h c number moment (ask.Read dir name) (unmoved w.service (read_row l q)) phase
    name_goes (Some job) q e = answered w h past c number moment phase is (ask.Read dir name) later idle (answer.Locked job) (Rmdir dir name) first (reply.Busy job) (hears (answer.Locked job)) starts tt tt (λ e. cc)
    name_goes None None e = answered w h past c number moment phase is (ask.Read dir name) later idle answer.Absent (Rmdir dir name) first (reply.Refused Enoent) (hears answer.Absent) starts tt
        (rmdir_told h.stage shard w.service.store w.lasts h.places dir name None e) (λ e. cc)
    name_goes None (Some row) e = name_found row e row.node refl

  -- ---- the directory is marked
  module _ (dir : DirId) (name : List ℕ) (child : DirId) (ts : Option Ts) (t : Ts) (first : Stamp) (is : IsAt (Removes (Marking dir name child ts first))) (later : w.lasts (shard_of child).0 < number)
      (known : is_known (h.stage (Dir dir)) ≡ true) (knows : is_known (h.stage (Dir child)) ≡ true) where
    gone : Goes w h c number moment (ask.Mark (client_of c) child dir name t) (unmoved w.service answer.Gone) (Removes (Marking dir name child ts first))
    gone = looked w h past c number moment (Removes (Marking dir name child ts first)) is (ask.Mark (client_of c) child dir name t) later (λ n e. e) answer.Gone (Removes (RowReading dir name (Some t) first)) refl
        (Open (Rmdir dir name) first) (inl refl) (tt, (known, tt), tt) (refl, tt)

    busy : (job : JobNo) → Goes w h c number moment (ask.Mark (client_of c) child dir name t) (unmoved w.service (answer.Locked job)) (Removes (Marking dir name child ts first))
    busy job = answered w h past c number moment (Removes (Marking dir name child ts first)) is (ask.Mark (client_of c) child dir name t) later (λ n e. e) (answer.Locked job) (Rmdir dir name) first (reply.Busy job) refl (inl refl) tt tt (λ e. cc)

    not_empty : h.stage (Dir child) ≡ Named dir name → has_rows shard child ≡ true → Goes w h c number moment (ask.Mark (client_of c) child dir name t) (unmoved w.service answer.NotEmpty) (Removes (Marking dir name child ts first))
    not_empty was rows = answered w h past c number moment (Removes (Marking dir name child ts first)) is (ask.Mark (client_of c) child dir name t) later (λ n e. e) answer.NotEmpty (Rmdir dir name) first (reply.Refused Enotempty) refl (inl refl) tt
        (ap (removed_reply (tree (still shard w.service.store))) (named_at h.stage shard w.service.store w.lasts h.places dir name (Dir child) was)
        ∙ ap (λ b. if b then reply.Moved else reply.Refused Enotempty) (filled_told h.stage shard w.service.store w.lasts h.places child (ap is_in was) rows)) (λ e. cc)

    sets : (r : DirRec) → get shard.recs child.0 ≡ Some r → h.stage (Dir child) ≡ Named dir name → has_rows shard child ≡ false
        → Goes w h c number moment (ask.Mark (client_of c) child dir name t) (in_shard w.service (marked shard (note_of (client_of c) dir name child t) (Some r) None true None None false)) (Removes (Marking dir name child ts first))
    sets r e was none =
        let k = mark_it w h c (stamped number (ask.Mark (client_of c) child dir name t)) later (note_of (client_of c) dir name child t) r refl was e none in
        let free = no_debt_at h.stage shard w.service.store w.lasts h.places (dir.0 % 64) (Dir child) (ap debt_of was) in
        record {
          keeps = k.keeps;
          reached = (tt, ((refl, inl k.now), tt), tt);
          works = λ y n marks mine. elim (k.old y n marks) [
            | inl old ↦ absurd (no_mark w h past c number moment (Removes (Marking dir name child ts first)) is (ask.Mark (client_of c) child dir name t) later (λ n e. e) y n old mine)
            | inr new ↦ sym (ap (note_in n) new)
          ];
          from = Open (Rmdir dir name) first;
          starts = inl refl;
          told = subst (λ o. Leads c (stamped number (ask.Mark (client_of c) child dir name t))
              (grown_by w c number moment (ask.Mark (client_of c) child dir name t) (in_shard w.service (marked shard (note_of (client_of c) dir name child t) (Some r) None true None None false))) None
              (Open (Rmdir dir name) first) (marked_claim o (Rmdir dir name) first t)) (sym free) (refl, tt);
        }

    pub mark_goes : (o : Option DirRec) → get shard.recs child.0 ≡ o → (l : Option JobNo) (here : Bool) → lies_at (Some (dir, name)) o ≡ here → (m : Option MarkNote) → mark_in o ≡ m → (inner : Option JobNo)
        → (rows : Bool) → has_rows shard child ≡ rows
        → Goes w h c number moment (ask.Mark (client_of c) child dir name t) (in_shard w.service (marked shard (note_of (client_of c) dir name child t) o l here m inner rows)) (Removes (Marking dir name child ts first))
    mark_goes None e l here lies m mark inner rows has = gone
    mark_goes (Some r) e (Some job) here lies m mark inner rows has = busy job
    mark_goes (Some r) e None false lies m mark inner rows has = gone
    mark_goes (Some r) e None true lies (Some other) mark inner rows has =
        looked w h past c number moment (Removes (Marking dir name child ts first)) is (ask.Mark (client_of c) child dir name t) later (λ n e. e) (answer.Leaving other) (Removes (MarkHelping dir name other t first)) refl
        (Open (Rmdir dir name) first) (inl refl) (tt, (known, (noted_at w h past c number moment child r other e mark knows, tt)), tt) (refl, tt)
    mark_goes (Some r) e None true lies None mark (Some job) rows has = busy job
    mark_goes (Some r) e None true lies None mark None true has =
        not_empty (named_known child.0 (h.stage (Dir child)) r dir name knows (dir_is w h past c number moment child (Some r) e) mark lies) has
    mark_goes (Some r) e None true lies None mark None false has =
        sets r e (named_known child.0 (h.stage (Dir child)) r dir name knows (dir_is w h past c number moment child (Some r) e) mark lies) has

  -- ---- the owner of a mark cuts the name, or finds it cut
  module _ (dir : DirId) (name : List ℕ) (child : DirId) (ts : Ts) (first : Stamp) (is : IsAt (Removes (Removing dir name child ts first))) (later : w.lasts (shard_of dir).0 < number)
      (need : Meets c (Dir child) (RemovingNeed (note_of (client_of c) dir name child ts)) (h.stage (Dir child))) where
    -- it has no other mark
    own_mark : (y : Node) (n : MarkNote) → h.stage y ≡ Marked n → n.owner ≡ client_of c → y ≡ Dir child
    own_mark y n e own = by_node y (subst (NodeIs shard w.service.store y) e (h.places.nodes y))
      where
        same : n ≡ note_of (client_of c) dir name child ts
        same = subst (IsRemoving c n) is (subst (λ j. IsRemoving j n (w.actors.clients j).current) (ap (λ (x : Client). x.0) own) (h.works y n e))

        by_node : (z : Node) → NodeIs shard w.service.store z (Marked n) → z ≡ Dir child
        by_node (File f) it = absurd it
        by_node (Dir d) it = ap dir_at (sym it.0 ∙ ap (λ (q : MarkNote). q.child.0) same)

    pub remove_goes : (o : Option Debt) → get shard.debts (debt_key (shard_of dir) (Dir child)) ≡ o → (b : Bool) → names_it child (node_in (get shard.rows (row_key dir name))) ≡ b
        → Goes w h c number moment (ask.Remove (note_of (client_of c) dir name child ts)) (in_shard w.service (removed shard (stamped number (ask.Remove (note_of (client_of c) dir name child ts))) (note_of (client_of c) dir name child ts) o b))
        (Removes (Removing dir name child ts first))
    remove_goes (Some debt) e b t = elim need.1 [
      | inl was ↦ absurd (none_some (debt_of (h.stage (Dir child))) (dir.0 % 64, debt) (ap debt_of was) (h.places.debts (dir.0 % 64) (Dir child) debt e))
      | inr owed ↦ (
          let at : debt.stamp ≡ owed.0 = ap stamp_in (sym (h.places.debts (dir.0 % 64) (Dir child) debt e) ∙ ap debt_of owed.1) in
          record {
            keeps = quiet w h c (stamped number (ask.Remove (note_of (client_of c) dir name child ts))) later;
            reached = (tt, (owed.1 ∙ ap (λ z. Owed (ClientActor (client_of c)) (dir.0 % 64) z) (sym at), tt), tt);
            works = λ y n marks mine. absurd (let here : Marked n ≡ Owed (ClientActor (client_of c)) (dir.0 % 64) owed.0 = sym marks ∙ ap h.stage (own_mark y n marks mine) ∙ owed.1 in cc);
            from = claim_of shard (Some (Removes (Removing dir name child ts first)));
            starts = inl refl;
            told = subst (λ o. Leads c (stamped number (ask.Remove (note_of (client_of c) dir name child ts)))
                (grown_by w c number moment (ask.Remove (note_of (client_of c) dir name child ts)) (unmoved w.service (answer.Already debt.stamp))) None
                (marked_claim o (Rmdir dir name) first ts) (Made (Rmdir dir name) first debt.stamp ts None)) (sym e) (refl, tt);
          })
    ]
    remove_goes None e true t = elim need.1 [
      | inr owed ↦ absurd (none_some (get shard.debts (debt_key (shard_of dir) (Dir child))) _ e (h.places.owed (dir.0 % 64) (Dir child) (record { owner = ClientActor (client_of c); stamp = owed.0 }) (ap debt_of owed.1)))
      | inl was ↦ (
          let k = remove_it w h c (stamped number (ask.Remove (note_of (client_of c) dir name child ts))) later (note_of (client_of c) dir name child ts) was refl in
          record {
            keeps = k.keeps;
            reached = (tt, (k.now, tt), tt);
            works = λ y n marks mine. elim (k.old y n marks) [
              | inl old ↦ absurd (let here : Marked n ≡ Owed (ClientActor (client_of c)) (dir.0 % 64) (stamped number (ask.Remove (note_of (client_of c) dir name child ts))) = sym marks ∙ ap k.keeps.stage (own_mark y n old mine) ∙ k.now in cc)
              | inr new ↦ absurd (cc)
            ];
            from = claim_of shard (Some (Removes (Removing dir name child ts first)));
            starts = inl refl;
            told = subst (λ o. Leads c (stamped number (ask.Remove (note_of (client_of c) dir name child ts)))
                (grown_by w c number moment (ask.Remove (note_of (client_of c) dir name child ts)) (in_shard w.service (removed shard (stamped number (ask.Remove (note_of (client_of c) dir name child ts))) (note_of (client_of c) dir name child ts) None true)))
                (move_by (client_of c) (Rmdir dir name) ts)
                (marked_claim o (Rmdir dir name) first ts) (Made (Rmdir dir name) first (stamped number (ask.Remove (note_of (client_of c) dir name child ts))) ts None)) (sym e) (refl, refl, refl);
          })
    ]
    remove_goes None e false t = elim need.1 [
      | inr owed ↦ absurd (none_some (get shard.debts (debt_key (shard_of dir) (Dir child))) _ e (h.places.owed (dir.0 % 64) (Dir child) (record { owner = ClientActor (client_of c); stamp = owed.0 }) (ap debt_of owed.1)))
      | inl was ↦ absurd (not_named child _ t (h.places.named (Dir child) (row_key dir name) (ap key_of was)))
    ]

  -- ---- the record is dropped, and the debt goes
  pub drop_goes : (dir : DirId) (name : List ℕ) (child : DirId) (ts : Ts) (first at : Stamp) → IsAt (Removes (RecDropping dir name child ts first at)) → w.lasts (shard_of child).0 < number
      → h.stage (Dir child) ≡ Owed (ClientActor (client_of c)) (dir.0 % 64) at → (o : Option DirRec) → get shard.recs child.0 ≡ o
      → Goes w h c number moment (ask.DropRec child) (in_shard w.service (dropped_rec shard child o)) (Removes (RecDropping dir name child ts first at))
  drop_goes dir name child ts first at is later was None e =
      absurd (let it = subst (λ s. DirIs child.0 None s) was (dir_is w h past c number moment child None e) in let none = it.rec.there in cc)
  drop_goes dir name child ts first at is later was (Some r) e =
      let k = drop_dir w h c (stamped number (ask.DropRec child)) later (dir.0 % 64) at child was in
      changed w h past c number moment (Removes (RecDropping dir name child ts first at)) is (ask.DropRec child) later (λ n e. e) (in_shard w.service (dropped_rec shard child (Some r))) (Dir child) (Drops (ClientActor (client_of c)) (dir.0 % 64) at) k (λ n e. cc)
      (Removes (RecClearing dir name child ts first at)) refl (Made (Rmdir dir name) first at ts None) (inl refl) (tt, (k.now, tt), tt) (refl, tt)

  pub clear_goes : (dir : DirId) (name : List ℕ) (child : DirId) (ts : Ts) (first at : Stamp) → IsAt (Removes (RecClearing dir name child ts first at)) → w.lasts (shard_of dir).0 < number
      → h.stage (Dir child) ≡ Cleared (ClientActor (client_of c)) (dir.0 % 64) at → (o : Option Debt) → get shard.debts (debt_key (shard_of dir) (Dir child)) ≡ o
      → Goes w h c number moment (ask.Clear (shard_of dir) (Dir child)) (in_shard w.service (cleared shard (shard_of dir) (Dir child) o)) (Removes (RecClearing dir name child ts first at))
  clear_goes dir name child ts first at is later was None e =
      absurd (none_some (get shard.debts (debt_key (shard_of dir) (Dir child))) _ e (h.places.owed (dir.0 % 64) (Dir child) (record { owner = ClientActor (client_of c); stamp = at }) (ap debt_of was)))
  clear_goes dir name child ts first at is later was (Some debt) e =
      let k = clear_it w h c (stamped number (ask.Clear (shard_of dir) (Dir child))) later (dir.0 % 64) at (Dir child) was in
      changed w h past c number moment (Removes (RecClearing dir name child ts first at)) is (ask.Clear (shard_of dir) (Dir child)) later (λ n e. e) (in_shard w.service (cleared shard (shard_of dir) (Dir child) (Some debt))) (Dir child)
      (Clears (ClientActor (client_of c)) (dir.0 % 64) at) k (λ n e. cc)
      (moved (Rmdir dir name) ts None first at (stamped number (ask.Clear (shard_of dir) (Dir child)))) refl (Made (Rmdir dir name) first at ts None) (inl refl) tt (refl, refl, (refl, tt))
