-- The steps that take a node back, unlink a file, or set its size.
use Rattle.std.proofs.Common.{◌≡◌, ◌≢◌, ℕ, ◌%◌, ◌<◌, List, true, refl, sym, ◌∙◌, ap, subst, arith, inl, inr}
use Rattle.std.specs.Prelude.{if◌then◌else◌, ◌==◌, Option, Some, None}
use Rattle.std.proofs.lemmas.Bool.Decides.{nat_tests}
use Rattle.std.specs.FinMap.{get}
use Rattle.next_ids.specs.declared.ids.Actor.TheVariants.{Client as ClientActor}
use Rattle.next_ids.specs.declared.ids.At.{At}
use Rattle.next_ids.specs.declared.ids.At.TheVariants.{Step, Before, After}
use Rattle.next_ids.specs.declared.ids.DirId.{DirId}
use Rattle.next_ids.specs.declared.ids.FileId.{FileId}
use Rattle.next_ids.specs.declared.ids.JobNo.{JobNo}
use Rattle.next_ids.specs.declared.ids.PlaceNo.{PlaceNo}
use Rattle.next_ids.specs.declared.ids.Stamp.{Stamp}
use Rattle.next_ids.specs.declared.ids.Node.{Node}
use Rattle.next_ids.specs.declared.ids.Node.TheVariants.{Dir, File}
use Rattle.next_ids.specs.declared.time.Ts.{Ts}
use Rattle.next_ids.specs.declared.errno.Errno.TheVariants.{Enoent, Eperm}
use Rattle.next_ids.specs.declared.call.Call.{Call}
use Rattle.next_ids.specs.declared.call.Call.TheVariants as call
use Rattle.next_ids.specs.declared.call.Reply.{Reply}
use Rattle.next_ids.specs.declared.call.Reply.TheVariants as reply
use Rattle.next_ids.specs.Maps.{row_key}
use Rattle.next_ids.specs.Namespace.{unlinked}
use Rattle.next_steps.specs.declared.answer.Answer.TheVariants as answer
use Rattle.next_steps.specs.declared.ask.Ask.TheVariants as ask
use Rattle.next_steps.specs.declared.contents.Debt.{Debt}
use Rattle.next_steps.specs.declared.contents.FileRec.{FileRec}
use Rattle.next_steps.specs.declared.entry.Entry.{Entry}
use Rattle.next_steps.specs.Asks.{shard_of, home_of}
use Rattle.next_steps.specs.Ends.{moved, replied}
use Rattle.next_steps.specs.Phases.{Phase, Asking, Writes, TakingBack, Dropping, Clearing}
use Rattle.next_steps.specs.Writers.{maker}
use Rattle.next_rules.specs.Actors.{client_of}
use Rattle.next_rules.specs.Changes.{cut_rec, node_in}
use Rattle.next_rules.specs.Contents.{Shard, Store, unmoved, changed as changed_to, debt_key}
use Rattle.next_rules.specs.Owning.{taken_back_dir, owner_in, cleared}
use Rattle.next_rules.specs.Primitives.{deleted, new_dir}
use Rattle.next_rules.specs.Stores.{new_file, resized, file_owner, taken_back, cut_file, dropped}
use Rattle.next_rules.specs.Worlds.{World, stamped, in_shard, in_store}
use Rattle.next_laws_told.specs.Claims.{Open, Said, Made}
use Rattle.next_laws_stages.specs.Stages.{Stage, Owed, Cleared, TakesBack, Deletes, Drops, Clears, is_known, key_of, debt_of}
use Rattle.next_laws_stages.specs.Needs.{HasPut, Meets}
use Rattle.next_laws_stages.specs.Held.{FileIs, DirIs}
use Rattle.next_laws_stages.proofs.Effects.{none_some, row_there}
use Rattle.next_laws_stages.proofs.Known.{file_named}
use Rattle.next_laws_calls.specs.Holding.{IsRefusal}
use Rattle.next_laws_calls.specs.Worlds.{Holds, Past}
use Rattle.next_laws_calls.proofs.Changing as changing
use Rattle.next_laws_calls.proofs.Frame.{Goes, OwnTold, TellsKnown}
use Rattle.next_laws_calls.proofs.Steps.{grown_by, answered, changed, unchanged}
use Rattle.next_laws_stages.proofs.Replies.{unlink_told, truncate_gone}

-- a refusal tells no node, and the call ends with it as it stood
refusal_tells : (stage : Node → Stage) (at : At) (r : Reply) → IsRefusal at r → TellsKnown stage r
refusal_tells stage (Step s) r h = absurd h
refusal_tells stage (Before s) (reply.Refused errno) h = tt
refusal_tells stage (Before s) (reply.Busy job) h = tt
refusal_tells stage (Before s) r h = absurd h
refusal_tells stage (After s) (reply.Refused errno) h = tt
refusal_tells stage (After s) (reply.Busy job) h = tt
refusal_tells stage (After s) r h = absurd h

refusal_stays : (at : At) (r : Reply) → IsRefusal at r → r ≢ reply.Moved
refusal_stays at r h e = by_at at (subst (IsRefusal at) e h)
  where
    by_at : (at : At) → IsRefusal at reply.Moved → ⊥
    by_at (Step s) h = h
    by_at (Before s) h = h
    by_at (After s) h = h

refusal_ends : (c : ℕ) (s : Stamp) (run : List (PlaceNo × Entry)) (shard : Shard) (x : Call) (first : Stamp) (at : At) (r : Reply) → IsRefusal at r → OwnTold c s run None (Said x first at r) shard (replied x first at s r)
refusal_ends c s run shard x first (Step t) r h = absurd h
refusal_ends c s run shard x first (Before t) r h = (refl, refusal_stays (Before t) r h, (refl, tt))
refusal_ends c s run shard x first (After t) r h = (refl, refusal_stays (After t) r h, (refl, tt))

itself : (c : ℕ) → (c == c) ≡ true
itself c = grind (arith, nat_tests)

module _ (w : World) (h : Holds w) (past : Past w) (c number moment : ℕ) where
  abbrev shard : Shard
  shard = w.service.shard

  abbrev store : Store
  store = w.service.store

  abbrev IsAt : Phase → Type 0
  IsAt phase = (w.actors.clients c).current ≡ Some phase

  -- ---- a node is taken back
  pub take_file_goes : (dir : DirId) (name : List ℕ) (f : FileId) (r : Reply) (at : At) (first : Stamp) → IsAt (Writes (TakingBack dir name (File f) r at first)) → w.lasts (home_of (File f)).0 < number → IsRefusal at r
      → Meets c (File f) HasPut (h.stage (File f))
      → Goes w h c number moment (ask.TakeBack (client_of c) (File f)) (in_store w.service (taken_back store (client_of c) f None (file_owner (get store f.0)))) (Writes (TakingBack dir name (File f) r at first))
  take_file_goes dir name f r at first is later plain put =
      let there : get store f.0 ≡ Some (new_file (client_of c) put.1 put.0) = subst (FileIs (get store f.0)) put.3 (h.places.nodes (File f)) in
      let k = changing.take_file w h c (stamped number (ask.TakeBack (client_of c) (File f))) later put.1 put.2 put.0 f put.3 in
      subst (λ o. Goes w h c number moment (ask.TakeBack (client_of c) (File f)) (in_store w.service (taken_back store (client_of c) f None (file_owner o))) (Writes (TakingBack dir name (File f) r at first))) (sym there)
      (subst (λ b. Goes w h c number moment (ask.TakeBack (client_of c) (File f)) (in_store w.service (if b then cut_file store f None else unmoved store answer.None)) (Writes (TakingBack dir name (File f) r at first))) (sym (itself c))
      (changed w h past c number moment (Writes (TakingBack dir name (File f) r at first)) is (ask.TakeBack (client_of c) (File f)) later (λ n e. e) (in_store w.service (cut_file store f None)) (File f) (TakesBack c put.0 put.1 put.2) k (λ n e. cc)
      (replied (maker dir name (File f)) first at (stamped number (ask.TakeBack (client_of c) (File f))) r) refl (Said (maker dir name (File f)) first at r) (inl refl) (refusal_tells k.keeps.stage at r plain)
      (refusal_ends c (stamped number (ask.TakeBack (client_of c) (File f))) (grown_by w c number moment (ask.TakeBack (client_of c) (File f)) (in_store w.service (cut_file store f None))) shard (maker dir name (File f)) first at r plain)))

  pub take_dir_goes : (dir : DirId) (name : List ℕ) (d : DirId) (r : Reply) (at : At) (first : Stamp) → IsAt (Writes (TakingBack dir name (Dir d) r at first)) → w.lasts (home_of (Dir d)).0 < number → IsRefusal at r
      → Meets c (Dir d) HasPut (h.stage (Dir d))
      → Goes w h c number moment (ask.TakeBack (client_of c) (Dir d)) (in_shard w.service (taken_back_dir shard (client_of c) d (owner_in (get shard.recs d.0)))) (Writes (TakingBack dir name (Dir d) r at first))
  take_dir_goes dir name d r at first is later plain put =
      let there : get shard.recs d.0 ≡ Some (new_dir (client_of c) put.1 put.2 put.0) = subst (DirIs d.0 (get shard.recs d.0)) put.3 (h.places.nodes (Dir d)) in
      let k = changing.take_dir w h c (stamped number (ask.TakeBack (client_of c) (Dir d))) later put.1 put.2 put.0 d put.3 in
      subst (λ o. Goes w h c number moment (ask.TakeBack (client_of c) (Dir d)) (in_shard w.service (taken_back_dir shard (client_of c) d (owner_in o))) (Writes (TakingBack dir name (Dir d) r at first))) (sym there)
      (subst (λ b. Goes w h c number moment (ask.TakeBack (client_of c) (Dir d)) (in_shard w.service (if b then changed_to (answer.Done None) (cut_rec shard d) else unmoved shard answer.None)) (Writes (TakingBack dir name (Dir d) r at first)))
      (sym (itself c))
      (changed w h past c number moment (Writes (TakingBack dir name (Dir d) r at first)) is (ask.TakeBack (client_of c) (Dir d)) later (λ n e. e) (in_shard w.service (changed_to (answer.Done None) (cut_rec shard d))) (Dir d) (TakesBack c put.0 put.1 put.2) k (λ n e. cc)
      (replied (maker dir name (Dir d)) first at (stamped number (ask.TakeBack (client_of c) (Dir d))) r) refl (Said (maker dir name (Dir d)) first at r) (inl refl) (refusal_tells k.keeps.stage at r plain)
      (refusal_ends c (stamped number (ask.TakeBack (client_of c) (Dir d))) (grown_by w c number moment (ask.TakeBack (client_of c) (Dir d)) (in_shard w.service (changed_to (answer.Done None) (cut_rec shard d)))) (cut_rec shard d) (maker dir name (Dir d)) first at r plain)))

  -- ---- a file is unlinked
  pub delete_goes : (dir : DirId) (name : List ℕ) (ts : Ts) → IsAt (Asking (call.Unlink dir name)) → w.lasts (shard_of dir).0 < number → (l : Option JobNo) (o : Option Node) → node_in (get shard.rows (row_key dir name)) ≡ o
      → Goes w h c number moment (ask.Delete (client_of c) dir name ts) (in_shard w.service (deleted shard (stamped number (ask.Delete (client_of c) dir name ts)) (client_of c) dir name ts l o)) (Asking (call.Unlink dir name))
  delete_goes dir name ts is later (Some job) o e =
      answered w h past c number moment (Asking (call.Unlink dir name)) is (ask.Delete (client_of c) dir name ts) later (λ n e. e) (answer.Locked job) (call.Unlink dir name) (stamped number (ask.Delete (client_of c) dir name ts)) (reply.Busy job) refl
      (inr (refl, (call.Unlink dir name, refl))) tt tt (λ e. cc)
  delete_goes dir name ts is later None None e =
      answered w h past c number moment (Asking (call.Unlink dir name)) is (ask.Delete (client_of c) dir name ts) later (λ n e. e) answer.Absent (call.Unlink dir name) (stamped number (ask.Delete (client_of c) dir name ts)) (reply.Refused Enoent) refl
      (inr (refl, (call.Unlink dir name, refl))) tt (unlink_told h.stage shard store w.lasts h.places dir name (get shard.rows (row_key dir name)) refl ∙ ap unlinked e) (λ e. cc)
  delete_goes dir name ts is later None (Some (Dir child)) e =
      answered w h past c number moment (Asking (call.Unlink dir name)) is (ask.Delete (client_of c) dir name ts) later (λ n e. e) answer.IsDir (call.Unlink dir name) (stamped number (ask.Delete (client_of c) dir name ts)) (reply.Refused Eperm) refl
      (inr (refl, (call.Unlink dir name, refl))) tt (unlink_told h.stage shard store w.lasts h.places dir name (get shard.rows (row_key dir name)) refl ∙ ap unlinked e) (λ e. cc)
  delete_goes dir name ts is later None (Some (File f)) e =
      let row = row_there (get shard.rows (row_key dir name)) (File f) e in
      let named = file_named dir name (get store f.0) (h.stage (File f)) (h.places.nodes (File f)) (ap (λ x. key_of (h.stage x)) (sym row.2) ∙ h.places.rows (row_key dir name) row.0 row.1) in
      let k = changing.delete_it w h c (stamped number (ask.Delete (client_of c) dir name ts)) later dir name f ts named refl in
      changed w h past c number moment (Asking (call.Unlink dir name)) is (ask.Delete (client_of c) dir name ts) later (λ n e. e)
      (in_shard w.service (deleted shard (stamped number (ask.Delete (client_of c) dir name ts)) (client_of c) dir name ts None (Some (File f)))) (File f)
      (Deletes (ClientActor (client_of c)) dir name (stamped number (ask.Delete (client_of c) dir name ts))) k (λ n e. cc)
      (Writes (Dropping (call.Unlink dir name) f ts (stamped number (ask.Delete (client_of c) dir name ts)) (stamped number (ask.Delete (client_of c) dir name ts)))) refl
      (Open (call.Unlink dir name) (stamped number (ask.Delete (client_of c) dir name ts))) (inr (refl, (call.Unlink dir name, refl))) (tt, (k.now, tt), tt) (refl, refl, refl)

  pub drop_file_goes : (dir : DirId) (name : List ℕ) (f : FileId) (ts : Ts) (first at : Stamp) → IsAt (Writes (Dropping (call.Unlink dir name) f ts first at)) → w.lasts (home_of (File f)).0 < number
      → h.stage (File f) ≡ Owed (ClientActor (client_of c)) (dir.0 % 64) at → (o : Option FileRec) → get store f.0 ≡ o
      → Goes w h c number moment (ask.Drop f) (in_store w.service (dropped store f o)) (Writes (Dropping (call.Unlink dir name) f ts first at))
  drop_file_goes dir name f ts first at is later was None e =
      absurd (let it = subst (FileIs (get store f.0)) was (h.places.nodes (File f)) in none_some (get store f.0) it.0 e it.1)
  drop_file_goes dir name f ts first at is later was (Some r) e =
      let k = changing.drop_file w h c (stamped number (ask.Drop f)) later (dir.0 % 64) at f was in
      changed w h past c number moment (Writes (Dropping (call.Unlink dir name) f ts first at)) is (ask.Drop f) later (λ n e. e) (in_store w.service (dropped store f (Some r))) (File f) (Drops (ClientActor (client_of c)) (dir.0 % 64) at) k (λ n e. cc)
      (Writes (Clearing (call.Unlink dir name) f ts first at)) refl (Made (call.Unlink dir name) first at ts None) (inl refl) (tt, (k.now, tt), tt) (refl, tt)

  pub clear_file_goes : (dir : DirId) (name : List ℕ) (f : FileId) (ts : Ts) (first at : Stamp) → IsAt (Writes (Clearing (call.Unlink dir name) f ts first at)) → w.lasts (shard_of dir).0 < number
      → h.stage (File f) ≡ Cleared (ClientActor (client_of c)) (dir.0 % 64) at → (o : Option Debt) → get shard.debts (debt_key (shard_of dir) (File f)) ≡ o
      → Goes w h c number moment (ask.Clear (shard_of dir) (File f)) (in_shard w.service (cleared shard (shard_of dir) (File f) o)) (Writes (Clearing (call.Unlink dir name) f ts first at))
  clear_file_goes dir name f ts first at is later was None e =
      absurd (none_some (get shard.debts (debt_key (shard_of dir) (File f))) _ e (h.places.owed (dir.0 % 64) (File f) (record { owner = ClientActor (client_of c); stamp = at }) (ap debt_of was)))
  clear_file_goes dir name f ts first at is later was (Some debt) e =
      let k = changing.clear_it w h c (stamped number (ask.Clear (shard_of dir) (File f))) later (dir.0 % 64) at (File f) was in
      changed w h past c number moment (Writes (Clearing (call.Unlink dir name) f ts first at)) is (ask.Clear (shard_of dir) (File f)) later (λ n e. e) (in_shard w.service (cleared shard (shard_of dir) (File f) (Some debt))) (File f)
      (Clears (ClientActor (client_of c)) (dir.0 % 64) at) k (λ n e. cc)
      (moved (call.Unlink dir name) ts None first at (stamped number (ask.Clear (shard_of dir) (File f)))) refl (Made (call.Unlink dir name) first at ts None) (inl refl) tt (refl, refl, (refl, tt))

  -- ---- a size is set
  pub resize_goes : (f : FileId) (size : ℕ) (ts : Ts) → IsAt (Asking (call.Truncate f size)) → (later : w.lasts (home_of (File f)).0 < number) → is_known (h.stage (File f)) ≡ true → (o : Option FileRec) → get store f.0 ≡ o
      → Goes w h c number moment (ask.SetSize (client_of c) f size ts) (in_store w.service (resized store (client_of c) f size ts o)) (Asking (call.Truncate f size))
  resize_goes f size ts is later known None e =
      answered w h past c number moment (Asking (call.Truncate f size)) is (ask.SetSize (client_of c) f size ts) later (λ n e. e) answer.None (call.Truncate f size) (stamped number (ask.SetSize (client_of c) f size ts)) (reply.Refused Enoent) refl
      (inr (refl, (call.Truncate f size, refl))) tt (truncate_gone h.stage shard store w.lasts h.places f size e) (λ e. cc)
  resize_goes f size ts is later known (Some r) e =
      unchanged w h past c number moment (Asking (call.Truncate f size)) is (ask.SetSize (client_of c) f size ts) later (λ n e. e) (in_store w.service (resized store (client_of c) f size ts (Some r)))
      (changing.resize_it w h c (stamped number (ask.SetSize (client_of c) f size ts)) later f r size ts known e)
      (moved (call.Truncate f size) ts None (stamped number (ask.SetSize (client_of c) f size ts)) (stamped number (ask.SetSize (client_of c) f size ts)) (stamped number (ask.SetSize (client_of c) f size ts))) refl
      (Open (call.Truncate f size) (stamped number (ask.SetSize (client_of c) f size ts))) (inr (refl, (call.Truncate f size, refl))) tt (refl, refl, (refl, refl, refl))
