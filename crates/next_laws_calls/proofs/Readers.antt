-- The steps of the calls that read: look-up, list, stat of the root, stat.
use Rattle.std.proofs.Common.{◌≡◌, ℕ, ◌<◌, List, Bool, true, false, refl, sym, ◌∙◌, ap, subst, arith, ◌⊎◌, inl, inr}
use Rattle.std.specs.Prelude.{if◌then◌else◌, ◌==◌, ◌&&◌, Option, Some, None}
use Rattle.std.proofs.lemmas.Bool.Decides.{nat_tests}
use Rattle.std.specs.FinMap.{get, entries}
use Rattle.next_ids.specs.declared.ids.At.TheVariants.{Before}
use Rattle.next_ids.specs.declared.ids.DirId.{DirId}
use Rattle.next_ids.specs.declared.ids.FileId.{FileId}
use Rattle.next_ids.specs.declared.ids.JobNo.{JobNo}
use Rattle.next_ids.specs.declared.ids.Stamp.{Stamp}
use Rattle.next_ids.specs.declared.ids.Node.{Node}
use Rattle.next_ids.specs.declared.ids.Node.TheVariants.{Dir, File}
use Rattle.next_ids.specs.declared.note.MarkNote.{MarkNote}
use Rattle.next_ids.specs.declared.time.Ts.{Ts}
use Rattle.next_ids.specs.declared.errno.Errno.TheVariants.{Enoent}
use Rattle.next_ids.specs.declared.call.Call.TheVariants as call
use Rattle.next_ids.specs.declared.call.Reply.TheVariants as reply
use Rattle.next_ids.specs.Maps.{row_key}
use Rattle.next_ids.specs.Namespace.{stat_of}
use Rattle.next_steps.specs.declared.answer.Answer.{Answer}
use Rattle.next_steps.specs.declared.answer.Answer.TheVariants as answer
use Rattle.next_steps.specs.declared.ask.Ask.TheVariants as ask
use Rattle.next_steps.specs.declared.contents.Row.{Row}
use Rattle.next_steps.specs.declared.contents.DirRec.{DirRec}
use Rattle.next_steps.specs.declared.contents.FileRec.{FileRec}
use Rattle.next_steps.specs.Asks.{shard_of, home_of}
use Rattle.next_steps.specs.Calls.{heard}
use Rattle.next_steps.specs.Ends.{replied, is_stamp}
use Rattle.next_steps.specs.Phases.{Phase, Asking, Reads, ListHelping, RootLooking, StatReading, StatLooking, StatHelping, StatGetting, StatChecking}
use Rattle.next_steps.specs.Readers.{root, heard_row, heard_root, dir_stat as stat_reply}
use Rattle.next_rules.specs.Contents.{Shard, unmoved, attr_of}
use Rattle.next_rules.specs.Reading.{mark_in, lies_at, names_of, read_row, list_rows, look_at}
use Rattle.next_rules.specs.Stores.{got}
use Rattle.next_rules.specs.Worlds.{World, stamped}
use Rattle.next_laws_told.specs.Claims.{Open, stands}
use Rattle.next_laws_told.specs.Ledgers.{Starts}
use Rattle.next_laws_stages.specs.Stages.{is_known, is_in}
use Rattle.next_laws_stages.specs.Needs.{Noted, Meets}
use Rattle.next_laws_stages.specs.Held.{DirIs}
use Rattle.next_laws_stages.proofs.Known.{open_known, noted_known, named_known, out_without, open_in, row_known}
use Rattle.next_laws_calls.specs.Claimed.{claim_of}
use Rattle.next_laws_calls.specs.Worlds.{IsStill, Seen, IsRemoving, Holds, Past}
use Rattle.next_laws_calls.proofs.Frame.{Goes}
use Rattle.next_laws_calls.proofs.Grown.{old_grown, told_grown}
use Rattle.next_laws_calls.proofs.Steps.{entry_of, looked, answered, begun, tells_now}
use Rattle.next_laws_stages.proofs.Replies.{lookup_told, list_gone, list_told, stat_told, stat_file, named_at, attr_told}

module _ (w : World) (h : Holds w) (past : Past w) (c number moment : ℕ) where
  abbrev shard : Shard
  shard = w.service.shard

  abbrev IsAt : Phase → Type 0
  IsAt phase = (w.actors.clients c).current ≡ Some phase

  -- what the shard has of a directory
  pub dir_is : (d : DirId) (o : Option DirRec) → get shard.recs d.0 ≡ o → DirIs d.0 o (h.stage (Dir d))
  dir_is d o e = subst (λ x. DirIs d.0 x (h.stage (Dir d))) e (h.places.nodes (Dir d))

  -- a mark that is met in a record
  pub noted_at : (d : DirId) (r : DirRec) (note : MarkNote) → get shard.recs d.0 ≡ Some r → r.mark ≡ Some note → is_known (h.stage (Dir d)) ≡ true → Meets c (Dir note.child) (Noted note) (h.stage (Dir note.child))
  noted_at d r note e mark known = let it = noted_known c d (h.stage (Dir d)) r note known (dir_is d (Some r) e) mark in subst (λ x. Meets c x (Noted note) (h.stage x)) (sym it.0) it

  -- ---- look-up
  pub lookup_goes : (dir : DirId) (name : List ℕ) → IsAt (Asking (call.Lookup dir name)) → w.lasts (shard_of dir).0 < number → (l : Option JobNo) (q : Option Row) → get shard.rows (row_key dir name) ≡ q
      → Goes w h c number moment (ask.Read dir name) (unmoved w.service (read_row l q)) (Asking (call.Lookup dir name))
  lookup_goes dir name is later (Some job) q e =
      answered w h past c number moment (Asking (call.Lookup dir name)) is (ask.Read dir name) later (λ n e. e) (answer.Locked job) (call.Lookup dir name) (stamped number (ask.Read dir name)) (reply.Busy job) refl
      (inr (refl, (call.Lookup dir name, refl))) tt tt (λ e. cc)
  lookup_goes dir name is later None None e =
      answered w h past c number moment (Asking (call.Lookup dir name)) is (ask.Read dir name) later (λ n e. e) answer.Absent (call.Lookup dir name) (stamped number (ask.Read dir name)) (reply.Refused Enoent) refl
      (inr (refl, (call.Lookup dir name, refl))) tt (lookup_told h.stage shard w.service.store w.lasts h.places dir name None e) (λ e. cc)
  lookup_goes dir name is later None (Some row) e =
      answered w h past c number moment (Asking (call.Lookup dir name)) is (ask.Read dir name) later (λ n e. e) (answer.Found row.node row.stamp) (call.Lookup dir name) (stamped number (ask.Read dir name)) (reply.Node row.node) refl
      (inr (refl, (call.Lookup dir name, refl))) (row_known h.stage shard w.service.store w.lasts h.places (row_key dir name) row e)
      (lookup_told h.stage shard w.service.store w.lasts h.places dir name (Some row) e) (λ e. cc)

  -- ---- list
  pub list_goes : (dir : DirId) → IsAt (Asking (call.List dir)) → w.lasts (shard_of dir).0 < number → is_known (h.stage (Dir dir)) ≡ true → (o : Option DirRec) → get shard.recs dir.0 ≡ o → (m : Option MarkNote) → mark_in o ≡ m
      → (l : Option JobNo) → Goes w h c number moment (ask.List dir) (unmoved w.service (list_rows shard dir o m l)) (Asking (call.List dir))
  list_goes dir is later known None e m mark l =
      answered w h past c number moment (Asking (call.List dir)) is (ask.List dir) later (λ n e. e) answer.NoDir (call.List dir) (stamped number (ask.List dir)) (reply.Refused Enoent) refl
      (inr (refl, (call.List dir, refl))) tt (list_gone h.stage shard w.service.store w.lasts h.places dir (out_without dir.0 (h.stage (Dir dir)) (dir_is dir None e))) (λ e. cc)
  list_goes dir is later known (Some r) e (Some note) mark l =
      looked w h past c number moment (Asking (call.List dir)) is (ask.List dir) later (λ n e. e) (answer.Leaving note) (Reads (ListHelping dir note (stamped number (ask.List dir)))) refl
      (Open (call.List dir) (stamped number (ask.List dir))) (inr (refl, (call.List dir, refl)))
      (tt, (noted_known c dir (h.stage (Dir dir)) r note known (dir_is dir (Some r) e) mark, tt), (begun w h past c number moment (Asking (call.List dir)) is (ask.List dir) later (unmoved w.service (answer.Leaving note)) (stamped number (ask.List dir)) (inl refl), tt)) (refl, tt)
  list_goes dir is later known (Some r) e None mark (Some job) =
      answered w h past c number moment (Asking (call.List dir)) is (ask.List dir) later (λ n e. e) (answer.Locked job) (call.List dir) (stamped number (ask.List dir)) (reply.Busy job) refl
      (inr (refl, (call.List dir, refl))) tt tt (λ e. cc)
  list_goes dir is later known (Some r) e None mark None =
      answered w h past c number moment (Asking (call.List dir)) is (ask.List dir) later (λ n e. e) (answer.Rows (entries (names_of shard dir.0))) (call.List dir) (stamped number (ask.List dir)) (reply.Rows (entries (names_of shard dir.0))) refl
      (inr (refl, (call.List dir, refl))) tt
      (list_told h.stage shard w.service.store w.lasts h.places dir r (open_in _ (open_known dir.0 (h.stage (Dir dir)) r known (dir_is dir (Some r) e) mark)) e) (λ e. cc)

  -- ---- a call that has begun, or begins: what it is told
  module _ (phase : Phase) (is : IsAt phase) (first : Stamp) (idle : (note : MarkNote) → IsRemoving c note (Some phase) → ⊥) where
    -- stat of the root
    module _ (later : w.lasts (shard_of root).0 < number) (old : (first ≡ stamped number (ask.Look root None)) ⊎ (stands first w.run ≡ true)) (starts : Starts (stamped number (ask.Look root None)) (claim_of shard (Some phase)) (Open call.StatRoot first))
        (hears : (a : Answer) → heard phase (shard_of root) (entry_of c number moment (ask.Look root None) (unmoved w.service a)) ≡ heard_root first (stamped number (ask.Look root None)) a) where
      again : (a : Answer) → heard_root first (stamped number (ask.Look root None)) a ≡ Reads (RootLooking first) → Goes w h c number moment (ask.Look root None) (unmoved w.service a) phase
      again a stays = looked w h past c number moment phase is (ask.Look root None) later idle a (Reads (RootLooking first)) (hears a ∙ stays) (Open call.StatRoot first) starts
          (tt, tt, (begun w h past c number moment phase is (ask.Look root None) later (unmoved w.service a) first old, tt)) (refl, tt)

      busy : (job : JobNo) → Goes w h c number moment (ask.Look root None) (unmoved w.service (answer.Locked job)) phase
      busy job = answered w h past c number moment phase is (ask.Look root None) later idle (answer.Locked job) call.StatRoot first (reply.Busy job) (hears (answer.Locked job)) starts tt tt (λ e. cc)

      pub root_goes : (o : Option DirRec) → get shard.recs 0 ≡ o → (l : Option JobNo) (here : Bool) (m : Option MarkNote) (source : Option JobNo)
          → Goes w h c number moment (ask.Look root None) (unmoved w.service (look_at o l here m source)) phase
      root_goes None e l here m source = again answer.NoDir refl
      root_goes (Some r) e (Some job) here m source = busy job
      root_goes (Some r) e None false m source = again answer.Moved refl
      root_goes (Some r) e None true (Some note) source = again (answer.Leaving note) refl
      root_goes (Some r) e None true None (Some job) = busy job
      root_goes (Some r) e None true None None = answered w h past c number moment phase is (ask.Look root None) later idle (answer.Attr (attr_of r)) call.StatRoot first (stat_reply (attr_of r)) (hears (answer.Attr (attr_of r)))
          starts tt (attr_told h.stage shard w.service.store w.lasts h.places 0 r (ap is_in h.places.root) e) (λ e. cc)

    -- stat: the row
    module _ (dir : DirId) (name : List ℕ) (later : w.lasts (shard_of dir).0 < number) (known : is_known (h.stage (Dir dir)) ≡ true) (old : (first ≡ stamped number (ask.Read dir name)) ⊎ (stands first w.run ≡ true))
        (starts : Starts (stamped number (ask.Read dir name)) (claim_of shard (Some phase)) (Open (call.Stat dir name) first)) where
      abbrev Hears : Answer → Type 0
      Hears a = heard phase (shard_of dir) (entry_of c number moment (ask.Read dir name) (unmoved w.service a)) ≡ heard_row dir name first (stamped number (ask.Read dir name)) a

      pub row_locked : (job : JobNo) → Hears (answer.Locked job) → Goes w h c number moment (ask.Read dir name) (unmoved w.service (answer.Locked job)) phase
      row_locked job hears = answered w h past c number moment phase is (ask.Read dir name) later idle (answer.Locked job) (call.Stat dir name) first (reply.Busy job) hears starts tt tt (λ e. cc)

      pub row_absent : get shard.rows (row_key dir name) ≡ None → Hears answer.Absent → Goes w h c number moment (ask.Read dir name) (unmoved w.service answer.Absent) phase
      row_absent e hears = answered w h past c number moment phase is (ask.Read dir name) later idle answer.Absent (call.Stat dir name) first (reply.Refused Enoent) hears starts tt
          (stat_told h.stage shard w.service.store w.lasts h.places dir name None e) (λ e. cc)

      pub row_found : (row : Row) → get shard.rows (row_key dir name) ≡ Some row → (x : Node) → row.node ≡ x → Hears (answer.Found x row.stamp) → Goes w h c number moment (ask.Read dir name) (unmoved w.service (answer.Found x row.stamp)) phase
      row_found row e (Dir child) node hears =
          looked w h past c number moment phase is (ask.Read dir name) later idle (answer.Found (Dir child) row.stamp) (Reads (StatLooking dir name child first)) hears (Open (call.Stat dir name) first) starts (
            tt,
            (known, (ap (λ x. is_known (h.stage x)) (sym node) ∙ row_known h.stage shard w.service.store w.lasts h.places (row_key dir name) row e, tt)),
            (begun w h past c number moment phase is (ask.Read dir name) later (unmoved w.service (answer.Found (Dir child) row.stamp)) first old, tt),
          ) (refl, tt)
      row_found row e (File file) node hears =
          looked w h past c number moment phase is (ask.Read dir name) later idle (answer.Found (File file) row.stamp) (Reads (StatGetting dir name file row.stamp first)) hears (Open (call.Stat dir name) first) starts (
            tt,
            (known, (ap (λ x. is_known (h.stage x)) (sym node) ∙ row_known h.stage shard w.service.store w.lasts h.places (row_key dir name) row e, tt)),
            (
              begun w h past c number moment phase is (ask.Read dir name) later (unmoved w.service (answer.Found (File file) row.stamp)) first old,
              old_grown w.lasts w.run (shard_of dir) (entry_of c number moment (ask.Read dir name) (unmoved w.service (answer.Found (File file) row.stamp))) h.run_old later row.stamp (h.rows_old (row_key dir name) row e),
            ),
          ) (refl, tt)

      pub row_goes : ((a : Answer) → Hears a) → (l : Option JobNo) (q : Option Row) → get shard.rows (row_key dir name) ≡ q → Goes w h c number moment (ask.Read dir name) (unmoved w.service (read_row l q)) phase
      row_goes hears (Some job) q e = row_locked job (hears (answer.Locked job))
      row_goes hears None None e = row_absent e (hears answer.Absent)
      row_goes hears None (Some row) e = row_found row e row.node refl (hears (answer.Found row.node row.stamp))

  -- ---- stat: the record of a directory
  module _ (dir : DirId) (name : List ℕ) (child : DirId) (first : Stamp) (is : IsAt (Reads (StatLooking dir name child first))) (later : w.lasts (shard_of child).0 < number)
      (known : is_known (h.stage (Dir dir)) ≡ true) (knows : is_known (h.stage (Dir child)) ≡ true) (old : stands first w.run ≡ true) where
    reads_again : (a : Answer) → heard (Reads (StatLooking dir name child first)) (shard_of child) (entry_of c number moment (ask.Look child (Some (dir, name))) (unmoved w.service a)) ≡ Reads (StatReading dir name first)
        → Goes w h c number moment (ask.Look child (Some (dir, name))) (unmoved w.service a) (Reads (StatLooking dir name child first))
    reads_again a hears = looked w h past c number moment (Reads (StatLooking dir name child first)) is (ask.Look child (Some (dir, name))) later (λ n e. e) a (Reads (StatReading dir name first)) hears
        (Open (call.Stat dir name) first) (inl refl) (tt, (known, tt), (begun w h past c number moment (Reads (StatLooking dir name child first)) is (ask.Look child (Some (dir, name))) later (unmoved w.service a) first (inr old), tt)) (refl, tt)

    look_busy : (job : JobNo) → Goes w h c number moment (ask.Look child (Some (dir, name))) (unmoved w.service (answer.Locked job)) (Reads (StatLooking dir name child first))
    look_busy job = answered w h past c number moment (Reads (StatLooking dir name child first)) is (ask.Look child (Some (dir, name))) later (λ n e. e) (answer.Locked job) (call.Stat dir name) first (reply.Busy job) refl (inl refl) tt tt (λ e. cc)

    pub look_goes : (o : Option DirRec) → get shard.recs child.0 ≡ o → (l : Option JobNo) (here : Bool) → lies_at (Some (dir, name)) o ≡ here → (m : Option MarkNote) → mark_in o ≡ m → (source : Option JobNo)
        → Goes w h c number moment (ask.Look child (Some (dir, name))) (unmoved w.service (look_at o l here m source)) (Reads (StatLooking dir name child first))
    look_goes None e l here lies m mark source = reads_again answer.NoDir refl
    look_goes (Some r) e (Some job) here lies m mark source = look_busy job
    look_goes (Some r) e None false lies m mark source = reads_again answer.Moved refl
    look_goes (Some r) e None true lies (Some note) mark source =
        looked w h past c number moment (Reads (StatLooking dir name child first)) is (ask.Look child (Some (dir, name))) later (λ n e. e) (answer.Leaving note) (Reads (StatHelping dir name note first)) refl
        (Open (call.Stat dir name) first) (inl refl)
        (tt, (known, (noted_at child r note e mark knows, tt)), (begun w h past c number moment (Reads (StatLooking dir name child first)) is (ask.Look child (Some (dir, name))) later (unmoved w.service (answer.Leaving note)) first (inr old), tt)) (refl, tt)
    look_goes (Some r) e None true lies None mark (Some job) = look_busy job
    look_goes (Some r) e None true lies None mark None =
        let named = named_known child.0 (h.stage (Dir child)) r dir name knows (dir_is child (Some r) e) mark lies in
        answered w h past c number moment (Reads (StatLooking dir name child first)) is (ask.Look child (Some (dir, name))) later (λ n e. e) (answer.Attr (attr_of r)) (call.Stat dir name) first (stat_reply (attr_of r)) refl (inl refl) tt
        (ap (stat_of _) (named_at h.stage shard w.service.store w.lasts h.places dir name (Dir child) named) ∙ attr_told h.stage shard w.service.store w.lasts h.places child.0 r (ap is_in named) e) (λ e. cc)

  -- ---- stat: the record of a file
  pub get_goes : (dir : DirId) (name : List ℕ) (file : FileId) (row first : Stamp) → IsAt (Reads (StatGetting dir name file row first)) → (later : w.lasts (home_of (File file)).0 < number) → is_known (h.stage (Dir dir)) ≡ true
      → Seen w.run w.lasts shard (Some (Reads (StatGetting dir name file row first))) → (o : Option FileRec) → get w.service.store file.0 ≡ o
      → Goes w h c number moment (ask.Get file) (unmoved w.service (got o)) (Reads (StatGetting dir name file row first))
  get_goes dir name file row first is later known seen None e =
      looked w h past c number moment (Reads (StatGetting dir name file row first)) is (ask.Get file) later (λ n e. e) answer.None (Reads (StatChecking dir name file row None (stamped number (ask.Get file)) first)) refl
      (Open (call.Stat dir name) first) (inl refl) (
        tt,
        (known, tt),
        (
          begun w h past c number moment (Reads (StatGetting dir name file row first)) is (ask.Get file) later (unmoved w.service answer.None) first (inr seen.0),
          (old_grown w.lasts w.run (home_of (File file)) (entry_of c number moment (ask.Get file) (unmoved w.service answer.None)) h.run_old later row seen.1, tt),
        ),
      ) (refl, tt)
  get_goes dir name file row first is later known seen (Some r) e =
      looked w h past c number moment (Reads (StatGetting dir name file row first)) is (ask.Get file) later (λ n e. e) (answer.File r.size r.time)
      (Reads (StatChecking dir name file row (Some (r.size, r.time)) (stamped number (ask.Get file)) first)) refl
      (Open (call.Stat dir name) first) (inl refl) (
        tt,
        (known, tt),
        (
          begun w h past c number moment (Reads (StatGetting dir name file row first)) is (ask.Get file) later (unmoved w.service (answer.File r.size r.time)) first (inr seen.0),
          (
            old_grown w.lasts w.run (home_of (File file)) (entry_of c number moment (ask.Get file) (unmoved w.service (answer.File r.size r.time))) h.run_old later row seen.1,
            λ still. tells_now w h past c number moment (Reads (StatGetting dir name file row first)) is (ask.Get file) later (unmoved w.service (answer.File r.size r.time)) (call.Stat dir name) first (reply.FileStat r.size r.time)
                (stat_file h.stage shard w.service.store w.lasts h.places dir name file (record { node = File file; stamp = row }) r still refl e) (λ e. cc),
          ),
        ),
      ) (refl, tt)

  -- ---- stat: the row once more
  module _ (dir : DirId) (name : List ℕ) (file : FileId) (row : Stamp) (got_at first : Stamp) (later : w.lasts (shard_of dir).0 < number) (known : is_known (h.stage (Dir dir)) ≡ true) where
    same_row : (again : Row) (other : FileId) → again.node ≡ File other → ((other.0 == file.0) && is_stamp again.stamp row) ≡ true → get shard.rows (row_key dir name) ≡ Some again → IsStill shard dir name file row
    same_row again other node test e = by_tests (other.0 == file.0) refl (again.stamp.number == row.number) refl (again.stamp.place.0 == row.place.0) refl test
      where
        row_of : (f : ℕ) → f ≡ file.0 → (n p : ℕ) → n ≡ row.number → p ≡ row.place.0 → ◌≡◌ {A = Option Row} (Some (record { node = File (record { 0 = f }); stamp = record { number = n; place = record { 0 = p } } })) (Some (record { node = File file; stamp = row }))
        row_of f a n p b c' = λ i. Some (record { node = File (record { 0 = a i }); stamp = record { number = b i; place = record { 0 = c' i } } })

        by_tests : (a : Bool) → (other.0 == file.0) ≡ a → (b : Bool) → (again.stamp.number == row.number) ≡ b → (d : Bool) → (again.stamp.place.0 == row.place.0) ≡ d → (a && (b && d)) ≡ true → IsStill shard dir name file row
        by_tests true x true y true z t =
            e ∙ ap (λ n. Some (record { node = n; stamp = again.stamp })) node ∙ row_of other.0 (grind (arith, nat_tests)) again.stamp.number again.stamp.place.0 (grind (arith, nat_tests)) (grind (arith, nat_tests))
        by_tests true x true y false z t = absurd (cc)
        by_tests true x false y d z t = absurd (cc)
        by_tests false x b y d z t = absurd (cc)

    pub check_goes : (found : Option (ℕ × Ts)) → IsAt (Reads (StatChecking dir name file row found got_at first)) → Seen w.run w.lasts shard (Some (Reads (StatChecking dir name file row found got_at first)))
        → (l : Option JobNo) (q : Option Row) → get shard.rows (row_key dir name) ≡ q → Goes w h c number moment (ask.Read dir name) (unmoved w.service (read_row l q)) (Reads (StatChecking dir name file row found got_at first))
    check_goes None is seen l q e = row_goes (Reads (StatChecking dir name file row None got_at first)) is first (λ n e. e) dir name later known (inr seen.0) (inl refl) (λ a. refl) l q e
    check_goes (Some found) is seen (Some job) q e = row_locked (Reads (StatChecking dir name file row (Some found) got_at first)) is first (λ n e. e) dir name later known (inr seen.0) (inl refl) job refl
    check_goes (Some found) is seen None None e = row_absent (Reads (StatChecking dir name file row (Some found) got_at first)) is first (λ n e. e) dir name later known (inr seen.0) (inl refl) e refl
    check_goes (Some found) is seen None (Some again) e = by_node again.node refl
      where
        by_node : (x : Node) → again.node ≡ x → Goes w h c number moment (ask.Read dir name) (unmoved w.service (answer.Found x again.stamp)) (Reads (StatChecking dir name file row (Some found) got_at first))
        by_node (Dir child) node = row_found (Reads (StatChecking dir name file row (Some found) got_at first)) is first (λ n e. e) dir name later known (inr seen.0) (inl refl) again e (Dir child) node refl
        by_node (File other) node = by_test ((other.0 == file.0) && is_stamp again.stamp row) refl
          where
            by_test : (b : Bool) → ((other.0 == file.0) && is_stamp again.stamp row) ≡ b
                → Goes w h c number moment (ask.Read dir name) (unmoved w.service (answer.Found (File other) again.stamp)) (Reads (StatChecking dir name file row (Some found) got_at first))
            by_test false t = row_found (Reads (StatChecking dir name file row (Some found) got_at first)) is first (λ n e. e) dir name later known (inr seen.0) (inl refl) again e (File other) node
                (ap (λ b. if b then replied (call.Stat dir name) first (Before got_at) (stamped number (ask.Read dir name)) (reply.FileStat found.0 found.1) else heard_row dir name first (stamped number (ask.Read dir name)) (answer.Found (File other) again.stamp)) t)
            by_test true t = looked w h past c number moment (Reads (StatChecking dir name file row (Some found) got_at first)) is (ask.Read dir name) later (λ n e. e) (answer.Found (File other) again.stamp)
                (replied (call.Stat dir name) first (Before got_at) (stamped number (ask.Read dir name)) (reply.FileStat found.0 found.1))
                (ap (λ b. if b then replied (call.Stat dir name) first (Before got_at) (stamped number (ask.Read dir name)) (reply.FileStat found.0 found.1) else heard_row dir name first (stamped number (ask.Read dir name)) (answer.Found (File other) again.stamp)) t)
                (Open (call.Stat dir name) first) (inl refl) tt (
                  refl,
                  (λ e. cc),
                  (
                    refl,
                    tt,
                    told_grown w.lasts w.run (shard_of dir) (entry_of c number moment (ask.Read dir name) (unmoved w.service (answer.Found (File other) again.stamp))) h.run_old later (call.Stat dir name) first (Before got_at)
                        (reply.FileStat found.0 found.1) seen.0 (seen.1.1 (same_row again other node t e)),
                  ),
                )
