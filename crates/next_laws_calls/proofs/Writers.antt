-- The steps of create, mkdir, unlink and truncate.
use Rattle.std.proofs.Common.{◌≡◌, ◌≢◌, ℕ, ◌+◌, ◌<◌, List, true, refl, ap, arith, inl, inr}
use Rattle.std.specs.Prelude.{Option, Some, None}
use Rattle.std.specs.FinMap.{get}
use Rattle.next_ids.specs.declared.ids.At.TheVariants.{Before}
use Rattle.next_ids.specs.declared.ids.Client.{Client}
use Rattle.next_ids.specs.declared.ids.DirId.{DirId}
use Rattle.next_ids.specs.declared.ids.FileId.{FileId}
use Rattle.next_ids.specs.declared.ids.JobNo.{JobNo}
use Rattle.next_ids.specs.declared.ids.Stamp.{Stamp}
use Rattle.next_ids.specs.declared.ids.Node.{Node}
use Rattle.next_ids.specs.declared.ids.Node.TheVariants.{Dir, File}
use Rattle.next_ids.specs.declared.note.MarkNote.{MarkNote}
use Rattle.next_ids.specs.declared.time.Ts.{Ts}
use Rattle.next_ids.specs.declared.errno.Errno.TheVariants.{Enoent, Eexist, Emlink}
use Rattle.next_ids.specs.declared.call.Call.TheVariants as call
use Rattle.next_ids.specs.declared.call.Reply.{Reply}
use Rattle.next_ids.specs.declared.call.Reply.TheVariants as reply
use Rattle.next_ids.specs.Maps.{row_key}
use Rattle.next_ids.specs.Times.{ts_at}
use Rattle.next_steps.specs.declared.answer.Answer.{Answer}
use Rattle.next_steps.specs.declared.answer.Answer.TheVariants as answer
use Rattle.next_steps.specs.declared.ask.Ask.TheVariants as ask
use Rattle.next_steps.specs.declared.contents.DirRec.{DirRec}
use Rattle.next_steps.specs.declared.contents.FileRec.{FileRec}
use Rattle.next_steps.specs.declared.contents.Row.{Row}
use Rattle.next_steps.specs.Asks.{shard_of, home_of}
use Rattle.next_steps.specs.Calls.{heard}
use Rattle.next_steps.specs.Counts.{shard_place, store_place}
use Rattle.next_steps.specs.Ends.{moved}
use Rattle.next_steps.specs.Phases.{Phase, Asking, Writes, Inserting, Settling, MakeHelping, TakingBack}
use Rattle.next_steps.specs.Writers.{maker}
use Rattle.next_rules.specs.Actors.{client_of}
use Rattle.next_rules.specs.Contents.{Shard, Store, unmoved, made_at}
use Rattle.next_rules.specs.Owning.{settled_dir}
use Rattle.next_rules.specs.Primitives.{put_dir, inserted}
use Rattle.next_rules.specs.Reading.{mark_in}
use Rattle.next_rules.specs.Room.{Room, HasRoom, IsFull, DependsOn, room_in}
use Rattle.next_rules.specs.Stores.{put_file, settled}
use Rattle.next_rules.specs.Trees.{tree}
use Rattle.next_rules.specs.Worlds.{World, stamped, in_shard, in_store}
use Rattle.next_laws_told.specs.Claims.{Open, Made, IsReplyIn}
use Rattle.next_laws_stages.specs.Stages.{Fresh, Puts, Inserts, is_known}
use Rattle.next_laws_stages.specs.Held.{still}
use Rattle.next_laws_stages.proofs.Known.{open_known, noted_known, out_without, open_in}
use Rattle.next_laws_calls.specs.Holding.{IsRefusal}
use Rattle.next_laws_calls.specs.Worlds.{Holds, Past}
use Rattle.next_laws_calls.proofs.Changing as changing
use Rattle.next_laws_calls.proofs.Frame.{Goes}
use Rattle.next_laws_calls.proofs.Readers.{dir_is}
use Rattle.next_laws_calls.proofs.Steps.{looked, changed, unchanged, entry_of, tells_now}
use Rattle.next_laws_stages.proofs.Replies.{make_gone, make_there, full_told}

module _ (w : World) (h : Holds w) (past : Past w) (c number moment : ℕ) where
  abbrev shard : Shard
  shard = w.service.shard

  abbrev store : Store
  store = w.service.store

  abbrev IsAt : Phase → Type 0
  IsAt phase = (w.actors.clients c).current ≡ Some phase

  -- ---- a node is put
  pub create_goes : (dir : DirId) (name : List ℕ) (index : ℕ) → IsAt (Asking (call.Create dir name)) → index < 64 → w.lasts (64 + index) < number → is_known (h.stage (Dir dir)) ≡ true
      → Goes w h c number moment (ask.Put (client_of c) (store_place index) dir) (in_store w.service (put_file store (stamped number (ask.Put (client_of c) (store_place index) dir)) moment (client_of c) dir)) (Asking (call.Create dir name))
  create_goes dir name index is low later known =
      let at = stamped number (ask.Put (client_of c) (store_place index) dir) in
      let f : FileId = record { 0 = made_at (stamped number (ask.Put (client_of c) (store_place index) dir)) } in
      let k = changing.put_file w h c (stamped number (ask.Put (client_of c) (store_place index) dir)) later dir name (ts_at moment number) f refl (omega arith) in
      changed w h past c number moment (Asking (call.Create dir name)) is (ask.Put (client_of c) (store_place index) dir) later (λ n e. e)
      (in_store w.service (put_file store (stamped number (ask.Put (client_of c) (store_place index) dir)) moment (client_of c) dir)) (File f) (Puts c (ts_at moment number) dir name) k (λ n e. cc)
      (Writes (Inserting dir name (File f) (ts_at moment number) (stamped number (ask.Put (client_of c) (store_place index) dir)))) refl
      (Open (call.Create dir name) (stamped number (ask.Put (client_of c) (store_place index) dir))) (inr (refl, (call.Create dir name, refl)))
      (tt, (k.keeps.knows (Dir dir) known, (k.now, tt)), tt) (refl, tt)

  pub mkdir_goes : (dir : DirId) (name : List ℕ) (index : ℕ) → IsAt (Asking (call.Mkdir dir name)) → index < 64 → w.lasts index < number → is_known (h.stage (Dir dir)) ≡ true
      → Goes w h c number moment (ask.PutDir (client_of c) (shard_place index) dir name) (in_shard w.service (put_dir shard (stamped number (ask.PutDir (client_of c) (shard_place index) dir name)) moment (client_of c) dir name))
      (Asking (call.Mkdir dir name))
  mkdir_goes dir name index is low later known =
      let d : DirId = record { 0 = made_at (stamped number (ask.PutDir (client_of c) (shard_place index) dir name)) } in
      let k = changing.put_dir w h c (stamped number (ask.PutDir (client_of c) (shard_place index) dir name)) later dir name (ts_at moment number) d refl (omega arith) in
      changed w h past c number moment (Asking (call.Mkdir dir name)) is (ask.PutDir (client_of c) (shard_place index) dir name) later (λ n e. e)
      (in_shard w.service (put_dir shard (stamped number (ask.PutDir (client_of c) (shard_place index) dir name)) moment (client_of c) dir name)) (Dir d) (Puts c (ts_at moment number) dir name) k (λ n e. cc)
      (Writes (Inserting dir name (Dir d) (ts_at moment number) (stamped number (ask.PutDir (client_of c) (shard_place index) dir name)))) refl
      (Open (call.Mkdir dir name) (stamped number (ask.PutDir (client_of c) (shard_place index) dir name))) (inr (refl, (call.Mkdir dir name, refl)))
      (tt, (k.keeps.knows (Dir dir) known, (k.now, tt)), tt) (refl, tt)

  -- ---- its row is set, or not
  module _ (dir : DirId) (name : List ℕ) (node : Node) (ts : Ts) (first : Stamp) (is : IsAt (Writes (Inserting dir name node ts first))) (later : w.lasts (shard_of dir).0 < number)
      (known : is_known (h.stage (Dir dir)) ≡ true) (fresh : h.stage node ≡ Fresh c ts dir name) where
    refused : (a : Answer) (r : Reply) → heard (Writes (Inserting dir name node ts first)) (shard_of dir) (entry_of c number moment (ask.Insert (client_of c) dir name node ts) (unmoved w.service a)) ≡ Writes (TakingBack dir name node r (Before (stamped number (ask.Insert (client_of c) dir name node ts))) first) → IsReplyIn (tree (still shard store)) (maker dir name node) r → r ≢ reply.Moved → IsRefusal (Before (stamped number (ask.Insert (client_of c) dir name node ts))) r
        → Goes w h c number moment (ask.Insert (client_of c) dir name node ts) (unmoved w.service a) (Writes (Inserting dir name node ts first))
    refused a r hears right kind plain =
        looked w h past c number moment (Writes (Inserting dir name node ts first)) is (ask.Insert (client_of c) dir name node ts) later (λ n e. e) a
        (Writes (TakingBack dir name node r (Before (stamped number (ask.Insert (client_of c) dir name node ts))) first)) hears (Open (maker dir name node) first) (inl refl)
        (plain, ((ts, dir, name, fresh), tt), tt)
        (refl, tt, tells_now w h past c number moment (Writes (Inserting dir name node ts first)) is (ask.Insert (client_of c) dir name node ts) later (unmoved w.service a) (maker dir name node) first r right kind)

    pub insert_goes : (o : Option DirRec) → get shard.recs dir.0 ≡ o → (m : Option MarkNote) → mark_in o ≡ m → (l : Option JobNo) (q : Option Row) → get shard.rows (row_key dir name) ≡ q → (room : Room) → room_in shard dir node ≡ room
        → Goes w h c number moment (ask.Insert (client_of c) dir name node ts) (in_shard w.service (inserted shard (stamped number (ask.Insert (client_of c) dir name node ts)) (client_of c) dir name node ts o m l q room))
        (Writes (Inserting dir name node ts first))
    insert_goes None e m mark l q f room has = refused answer.NoDir (reply.Refused Enoent) refl
        (make_gone h.stage shard store w.lasts h.places dir name node (out_without dir.0 (h.stage (Dir dir)) (dir_is w h past c number moment dir None e))) (λ e. cc) tt
    insert_goes (Some r) e (Some note) mark l q f room has =
        looked w h past c number moment (Writes (Inserting dir name node ts first)) is (ask.Insert (client_of c) dir name node ts) later (λ n e. e) (answer.Leaving note) (Writes (MakeHelping dir name node note first)) refl
        (Open (maker dir name node) first) (inl refl)
        (tt, (noted_known c dir (h.stage (Dir dir)) r note known (dir_is w h past c number moment dir (Some r) e) mark, ((ts, dir, name, fresh), tt)), tt) (refl, tt)
    insert_goes (Some r) e None mark (Some job) q f room has = refused (answer.Locked job) (reply.Busy job) refl tt (λ e. cc) tt
    insert_goes (Some r) e None mark None (Some row) f room has = refused answer.Exists (reply.Refused Eexist) refl (make_there h.stage shard store w.lasts h.places dir name node row f) (λ e. cc) tt
    insert_goes (Some r) e None mark None None f IsFull has = refused answer.Full (reply.Refused Emlink) refl
        (full_told h.stage shard store w.lasts h.places dir name node r (open_in _ (open_known dir.0 (h.stage (Dir dir)) r known (dir_is w h past c number moment dir (Some r) e) mark)) e f has) (λ e. cc) tt
    insert_goes (Some r) e None mark None None f (DependsOn job) has = refused (answer.Locked job) (reply.Busy job) refl tt (λ e. cc) tt
    insert_goes (Some r) e None mark None None f HasRoom has =
        let k = changing.insert_it w h c (stamped number (ask.Insert (client_of c) dir name node ts)) later dir name ts node fresh r e f has
        (open_known dir.0 (h.stage (Dir dir)) r known (dir_is w h past c number moment dir (Some r) e) mark) in
        changed w h past c number moment (Writes (Inserting dir name node ts first)) is (ask.Insert (client_of c) dir name node ts) later (λ n e. e)
        (in_shard w.service (inserted shard (stamped number (ask.Insert (client_of c) dir name node ts)) (client_of c) dir name node ts (Some r) None None None HasRoom)) node (Inserts c ts dir name) k (λ n e. cc)
        (Writes (Settling dir name node ts first (stamped number (ask.Insert (client_of c) dir name node ts)))) refl (Open (maker dir name node) first) (inl refl)
        (tt, (ap is_known k.now, tt), tt) (refl, refl, refl)

  -- ---- a node is settled
  pub settle_file_goes : (dir : DirId) (name : List ℕ) (f : FileId) (ts : Ts) (first at : Stamp) → IsAt (Writes (Settling dir name (File f) ts first at)) → (later : w.lasts (home_of (File f)).0 < number) → is_known (h.stage (File f)) ≡ true
      → (o : Option FileRec) → get store f.0 ≡ o → (owner : Option Client) → Goes w h c number moment (ask.Settle (File f)) (in_store w.service (settled store f o owner)) (Writes (Settling dir name (File f) ts first at))
  settle_file_goes dir name f ts first at is later known (Some r) e (Some owner) =
      unchanged w h past c number moment (Writes (Settling dir name (File f) ts first at)) is (ask.Settle (File f)) later (λ n e. e) (in_store w.service (settled store f (Some r) (Some owner)))
      (changing.settle_file w h c (stamped number (ask.Settle (File f))) later f r known e)
      (moved (maker dir name (File f)) ts (Some (File f)) first at (stamped number (ask.Settle (File f)))) refl (Made (maker dir name (File f)) first at ts (Some (File f))) (inl refl) tt (refl, refl, (refl, tt))
  settle_file_goes dir name f ts first at is later known (Some r) e None =
      looked w h past c number moment (Writes (Settling dir name (File f) ts first at)) is (ask.Settle (File f)) later (λ n e. e) answer.None
      (moved (maker dir name (File f)) ts (Some (File f)) first at (stamped number (ask.Settle (File f)))) refl (Made (maker dir name (File f)) first at ts (Some (File f))) (inl refl) tt (refl, refl, (refl, tt))
  settle_file_goes dir name f ts first at is later known None e owner =
      looked w h past c number moment (Writes (Settling dir name (File f) ts first at)) is (ask.Settle (File f)) later (λ n e. e) answer.None
      (moved (maker dir name (File f)) ts (Some (File f)) first at (stamped number (ask.Settle (File f)))) refl (Made (maker dir name (File f)) first at ts (Some (File f))) (inl refl) tt (refl, refl, (refl, tt))

  pub settle_dir_goes : (dir : DirId) (name : List ℕ) (d : DirId) (ts : Ts) (first at : Stamp) → IsAt (Writes (Settling dir name (Dir d) ts first at)) → (later : w.lasts (home_of (Dir d)).0 < number) → is_known (h.stage (Dir d)) ≡ true
      → (o : Option DirRec) → get shard.recs d.0 ≡ o → (owner : Option Client) → Goes w h c number moment (ask.Settle (Dir d)) (in_shard w.service (settled_dir shard d o owner)) (Writes (Settling dir name (Dir d) ts first at))
  settle_dir_goes dir name d ts first at is later known (Some r) e (Some owner) =
      unchanged w h past c number moment (Writes (Settling dir name (Dir d) ts first at)) is (ask.Settle (Dir d)) later (λ n e. e) (in_shard w.service (settled_dir shard d (Some r) (Some owner)))
      (changing.settle_dir w h c (stamped number (ask.Settle (Dir d))) later d r known e)
      (moved (maker dir name (Dir d)) ts (Some (Dir d)) first at (stamped number (ask.Settle (Dir d)))) refl (Made (maker dir name (Dir d)) first at ts (Some (Dir d))) (inl refl) tt (refl, refl, (refl, tt))
  settle_dir_goes dir name d ts first at is later known (Some r) e None =
      looked w h past c number moment (Writes (Settling dir name (Dir d) ts first at)) is (ask.Settle (Dir d)) later (λ n e. e) answer.None
      (moved (maker dir name (Dir d)) ts (Some (Dir d)) first at (stamped number (ask.Settle (Dir d)))) refl (Made (maker dir name (Dir d)) first at ts (Some (Dir d))) (inl refl) tt (refl, refl, (refl, tt))
  settle_dir_goes dir name d ts first at is later known None e owner =
      looked w h past c number moment (Writes (Settling dir name (Dir d) ts first at)) is (ask.Settle (Dir d)) later (λ n e. e) answer.None
      (moved (maker dir name (Dir d)) ts (Some (Dir d)) first at (stamped number (ask.Settle (Dir d)))) refl (Made (maker dir name (Dir d)) first at ts (Some (Dir d))) (inl refl) tt (refl, refl, (refl, tt))
