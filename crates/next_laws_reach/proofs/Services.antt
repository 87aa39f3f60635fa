-- A service that has what is there and is asked for what is there, still has that, and answers with that.
use Rattle.std.proofs.Common.{◌≡◌, ℕ, suc, zero, ◌+◌, ◌*◌, ◌%◌, ◌<◌, ◌≤◌, ◌-◌, [], ◌∷◌, Bool, true, false, refl, arith}
use Rattle.std.specs.Prelude.{Option, Some, None, if◌then◌else◌, ◌==◌, nat_lt}
use Rattle.std.specs.Cmp.{nat_cmp_total}
use Rattle.std.specs.FinMap.{get, insert, remove, nat_cmp-IsAntisymmetric}
use Rattle.std.proofs.lemmas.Bool.Decides.{nat_tests}
use Rattle.next_ids.specs.declared.ids.Client.{Client}
use Rattle.next_ids.specs.declared.ids.FileId.{FileId}
use Rattle.next_ids.specs.declared.ids.At.{At}
use Rattle.next_ids.specs.declared.ids.Node.TheVariants.{File}
use Rattle.next_ids.specs.declared.counts.Counts.{Counts}
use Rattle.next_ids.specs.declared.time.Ts.{Ts}
use Rattle.next_ids.specs.declared.call.Reply.{Reply}
use Rattle.next_ids.specs.Times.{ts_at, later}
use Rattle.next_steps.specs.declared.contents.FileRec.{FileRec}
use Rattle.next_steps.specs.declared.contents.Job.{Job}
use Rattle.next_steps.specs.declared.moves.Moved.{Moved}
use Rattle.next_steps.specs.declared.moves.Moved.TheVariants.{Forget}
use Rattle.next_steps.specs.declared.ask.Ask.{Ask}
use Rattle.next_steps.specs.declared.ask.Ask.TheVariants as ask
use Rattle.next_steps.specs.declared.answer.Answer.TheVariants as answer
use Rattle.next_steps.specs.Asks.{place_of}
use Rattle.next_rules.specs.Contents.{Store, Desk, Roster, Served, unmoved, made_at}
use Rattle.next_rules.specs.Stores.{new_file, got, resized, file_owner, settled, cut_file, taken_back, dropped, serve_store}
use Rattle.next_rules.specs.Desks.{nth_job, job_numbered, with_nth, with_numbered, taken_first, waiting_from, job_taken, took, job_answered, answer_in, collected, serve_desk, serve_roster}
use Rattle.next_rules.specs.Worlds.{Service, in_desk, serve_in, serve, stamped}
use Rattle.next_rules.specs.Setups.{AreCounts}
use Rattle.next_laws_order.proofs.Lists.{Every, Every-append}
use Rattle.next_laws_reach.proofs.Maps.{IfThere, each-found, each-insert, each-remove}
use Rattle.next_laws_reach.proofs.There.{IsStore, IsStorePlace, FileRecThere, StoreThere, RepliedThere, JobThere, ServiceThere, AskThere, AnswerThere, ServedThere}
use Rattle.next_laws_reach.proofs.Shards.{root_there, shard-serves}
use Rattle.next_laws_reach.proofs.Strays.{store-strays_there}

module _ (counts : Counts) (good : AreCounts counts) where
  -- ---- the store
  file-set : (s : Store) (f : ℕ) (r : FileRec) → FileRecThere counts f r → StoreThere counts s → StoreThere counts (insert s f r)
  file-set s f r here h = each-insert (FileRecThere counts) nat_cmp_total nat_cmp-IsAntisymmetric s f r here h

  file-cut : (s : Store) (f : ℕ) → StoreThere counts s → StoreThere counts (remove s f)
  file-cut s f h = each-remove (FileRecThere counts) nat_cmp_total nat_cmp-IsAntisymmetric s f h

  file_found : (s : Store) (f : ℕ) → StoreThere counts s → IfThere (FileRecThere counts f) (get s f)
  file_found s f h = each-found (FileRecThere counts) s f h

  new_file_index : (number n : ℕ) → IsStorePlace counts n → IsStore counts ((64 * number + n % 64) % 64)
  new_file_index number n h =
      let few = good.stores.1 in
      let above : 64 ≤ n = grind (arith, nat_tests, h.0) in
      let low : n < 64 + counts.stores = grind (arith, nat_tests, h.1) in
      let same : (64 * number + n % 64) % 64 ≡ n - 64 = omega arith in
      let small : n - 64 < counts.stores = omega arith in
      rw same (grind (arith, nat_tests))

  module _ (place : ℕ) (s : Store) (h : StoreThere counts s) where
    abbrev Stored : Served Store → Type 0
    Stored r = ServedThere counts (StoreThere counts) place r

    got-there : (o : Option FileRec) → AnswerThere counts place (got o)
    got-there None = tt
    got-there (Some r) = tt

    resize-there : (c : Client) (file : FileId) (size : ℕ) (ts : Ts) (o : Option FileRec) → IfThere (FileRecThere counts file.0) o → Stored (resized s c file size ts o)
    resize-there c file size ts None r = record { contents = h; answer = tt }
    resize-there c file size ts (Some rec) r = record { contents = file-set s file.0 (record rec { size = size; time = later rec.time ts }) r h; answer = tt }

    settle-there : (file : FileId) (o : Option FileRec) (owner : Option Client) → IfThere (FileRecThere counts file.0) o → Stored (settled s file o owner)
    settle-there file None owner r = record { contents = h; answer = tt }
    settle-there file (Some rec) None r = record { contents = h; answer = tt }
    settle-there file (Some rec) (Some client) r = record { contents = file-set s file.0 (record rec { owner = None }) r h; answer = tt }

    take_back-there : (c : Client) (file : FileId) (moved : Option Moved) (owner : Option Client) → Stored (taken_back s c file moved owner)
    take_back-there c file moved None = record { contents = h; answer = tt }
    take_back-there c file moved (Some owner) = by_test (owner.0 == c.0)
      where
        by_test : (b : Bool) → Stored (if b then cut_file s file moved else unmoved s answer.None)
        by_test true = record { contents = file-cut s file.0 h; answer = tt }
        by_test false = record { contents = h; answer = tt }

    drop-there : (file : FileId) (o : Option FileRec) → Stored (dropped s file o)
    drop-there file None = record { contents = h; answer = tt }
    drop-there file (Some r) = record { contents = file-cut s file.0 h; answer = tt }

  store-serves : (s : Store) (number moment : ℕ) (a : Ask) → AskThere counts a → StoreThere counts s → ServedThere counts (StoreThere counts) (place_of a).0 (serve_store s (stamped number a) moment a)
  store-serves s number moment (ask.Put client place home) there h =
      let here = new_file_index number place.0 there.0 in
      let at = stamped number (ask.Put client place home) in
      record { contents = file-set s (made_at at) (new_file client home (ts_at moment number)) (here, there.1) h; answer = here }
  store-serves s number moment (ask.Get file) there h = record { contents = h; answer = got-there _ s h (get s file.0) }
  store-serves s number moment (ask.SetSize client file size ts) there h = resize-there _ s h client file size ts (get s file.0) (file_found s file.0 h)
  store-serves s number moment (ask.Settle (File file)) there h = settle-there _ s h file (get s file.0) (file_owner (get s file.0)) (file_found s file.0 h)
  store-serves s number moment (ask.TakeBack client (File file)) there h = take_back-there _ s h client file None (file_owner (get s file.0))
  store-serves s number moment (ask.DropOwed client (File file)) there h = take_back-there _ s h client file (Some (Forget file)) (file_owner (get s file.0))
  store-serves s number moment (ask.Drop file) there h = drop-there _ s h file (get s file.0)
  store-serves s number moment (ask.Strays place clients) there h = record { contents = h; answer = store-strays_there counts (root_there counts good) place.0 place clients s h }
  store-serves s number moment a there h = record { contents = h; answer = tt }

  -- ---- the desk
  nth-there : (n : ℕ) (jobs : Desk) → Every (JobThere counts) jobs → IfThere (JobThere counts) (nth_job n jobs)
  nth-there n [] h = tt
  nth-there zero (j ∷ js) h = h.0
  nth-there (suc n) (j ∷ js) h = nth-there n js h.1

  numbered-there : (n : ℕ) (jobs : Desk) → Every (JobThere counts) jobs → IfThere (JobThere counts) (job_numbered n jobs)
  numbered-there zero jobs h = tt
  numbered-there (suc n) jobs h = nth-there n jobs h

  with_nth-there : (change : Job → Job) → ((j : Job) → JobThere counts j → JobThere counts (change j)) → (n : ℕ) (jobs : Desk) → Every (JobThere counts) jobs → Every (JobThere counts) (with_nth change n jobs)
  with_nth-there change to n [] h = tt
  with_nth-there change to zero (j ∷ js) h = (to j h.0, h.1)
  with_nth-there change to (suc n) (j ∷ js) h = (h.0, with_nth-there change to n js h.1)

  with_numbered-there : (change : Job → Job) → ((j : Job) → JobThere counts j → JobThere counts (change j)) → (n : ℕ) (jobs : Desk) → Every (JobThere counts) jobs → Every (JobThere counts) (with_numbered change n jobs)
  with_numbered-there change to zero jobs h = h
  with_numbered-there change to (suc n) jobs h = with_nth-there change to n jobs h

  waiting-there : (n : ℕ) (jobs : Desk) → Every (JobThere counts) jobs → IfThere (λ (found : ℕ × Job). JobThere counts found.1) (waiting_from n jobs)
  waiting-there n [] h = tt
  waiting-there n (j ∷ js) h = by_taken j.taken (waiting-there (suc n) js h.1)
    where
      by_taken : (b : Bool) → IfThere (λ (found : ℕ × Job). JobThere counts found.1) (waiting_from (suc n) js) → IfThere (λ (found : ℕ × Job). JobThere counts found.1) (taken_first b n (waiting_from (suc n) js) j)
      by_taken true rest = rest
      by_taken false rest = h.0

  module _ (place : ℕ) (jobs : Desk) (h : Every (JobThere counts) jobs) where
    abbrev OnDesk : Option (Served Desk) → Type 0
    OnDesk o = IfThere (ServedThere counts (Every (JobThere counts)) place) o

    take-there : (o : Option (ℕ × Job)) → IfThere (λ (found : ℕ × Job). JobThere counts found.1) o → OnDesk (took jobs o)
    take-there None f = tt
    take-there (Some found) f = record { contents = with_numbered-there job_taken (λ j there. there) found.0 jobs h; answer = (f.0, f.1) }

    collect-there : (o : Option Job) → IfThere (JobThere counts) o → OnDesk (collected jobs (answer_in o))
    collect-there None f = tt
    collect-there (Some j) f = by_answer j.answer f.2
      where
        by_answer : (o : Option (Reply × At)) → IfThere (RepliedThere counts) o → OnDesk (collected jobs o)
        by_answer None r = tt
        by_answer (Some found) r = record { contents = h; answer = r }

  desk-serves : (jobs : Desk) (place : ℕ) (a : Ask) → AskThere counts a → Every (JobThere counts) jobs → IfThere (ServedThere counts (Every (JobThere counts)) place) (serve_desk jobs a)
  desk-serves jobs place (ask.Submit client dir name to_dir to_name ts) there h = record { contents = Every-append (JobThere counts) jobs (_ ∷ []) h ((there.0, there.1, tt), tt); answer = tt }
  desk-serves jobs place ask.TakeJob there h = take-there place jobs h (waiting_from 1 jobs) (waiting-there 1 jobs h)
  desk-serves jobs place (ask.Reply job reply at) there h = record { contents = with_numbered-there (job_answered reply at) (λ j j_there. (j_there.0, j_there.1, there)) job.0 jobs h; answer = tt }
  desk-serves jobs place (ask.Collect job) there h = collect-there place jobs h (job_numbered job.0 jobs) (numbered-there job.0 jobs h)
  desk-serves jobs place a there h = record { contents = h; answer = tt }

  -- ---- the roster
  roster-serves : (r : Roster) (place : ℕ) (a : Ask) → AnswerThere counts place (serve_roster r a).answer
  roster-serves r place (ask.Stop client) = tt
  roster-serves r place (ask.End client) = tt
  roster-serves r place ask.Stopped = tt
  roster-serves r place a = tt

  -- ---- the service
  pub service-serves : (v : Service) (number moment : ℕ) (a : Ask) → AskThere counts a → ServiceThere counts v
      → IfThere (ServedThere counts (ServiceThere counts) (place_of a).0) (serve v (stamped number a) moment a)
  service-serves v number moment a there h = by_place (nat_lt (place_of a).0 64) (nat_lt (place_of a).0 128) (nat_lt (place_of a).0 129) refl
    where
      by_place : (shard store desk : Bool) → nat_lt (place_of a).0 64 ≡ shard → IfThere (ServedThere counts (ServiceThere counts) (place_of a).0) (serve_in shard store desk v (stamped number a) moment a)
      by_place true store desk low =
          let served = shard-serves counts good v.shard number moment a low there h.shard in
          record { contents = record { shard = served.contents; store = h.store; desk = h.desk }; answer = served.answer }
      by_place false true desk low =
          let served = store-serves v.store number moment a there h.store in
          record { contents = record { shard = h.shard; store = served.contents; desk = h.desk }; answer = served.answer }
      by_place false false true low = by_step (serve_desk v.desk a) (desk-serves v.desk (place_of a).0 a there h.desk)
        where
          by_step : (o : Option (Served Desk)) → IfThere (ServedThere counts (Every (JobThere counts)) (place_of a).0) o → IfThere (ServedThere counts (ServiceThere counts) (place_of a).0) (in_desk v o)
          by_step None served = tt
          by_step (Some s) served = record { contents = record { shard = h.shard; store = h.store; desk = served.contents }; answer = served.answer }
      by_place false false false low = record { contents = record { shard = h.shard; store = h.store; desk = h.desk }; answer = roster-serves v.roster (place_of a).0 a }
