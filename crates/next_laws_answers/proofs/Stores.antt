-- The answers of a store, the desk and the roster are those that their tables list.
use Rattle.std.proofs.Common.{◌≡◌, ℕ, ◌%◌, ◌<◌, ◌≤◌, true, false, refl, sym, ◌∙◌, ap, arith}
use Rattle.std.specs.Prelude.{◌==◌, Option, Some, None, if◌then◌else◌}
use Rattle.std.proofs.lemmas.Bool.Decides.{nat_tests}
use Rattle.std.specs.FinMap.{get}
use Rattle.next_ids.specs.declared.ids.DirId.{DirId}
use Rattle.next_ids.specs.declared.ids.FileId.{FileId}
use Rattle.next_ids.specs.declared.ids.Client.{Client}
use Rattle.next_ids.specs.declared.ids.JobNo.{JobNo}
use Rattle.next_ids.specs.declared.ids.Stamp.{Stamp}
use Rattle.next_ids.specs.declared.ids.At.{At}
use Rattle.next_ids.specs.declared.ids.Node.TheVariants.{Dir, File}
use Rattle.next_ids.specs.declared.call.Reply.{Reply}
use Rattle.next_ids.specs.declared.time.Ts.{Ts}
use Rattle.next_steps.specs.declared.contents.FileRec.{FileRec}
use Rattle.next_steps.specs.declared.contents.Job.{Job}
use Rattle.next_steps.specs.declared.moves.Moved.{Moved}
use Rattle.next_steps.specs.declared.moves.Moved.TheVariants.{Forget}
use Rattle.next_steps.specs.declared.ask.Ask.{Ask}
use Rattle.next_steps.specs.declared.ask.Ask.TheVariants as ask
use Rattle.next_steps.specs.declared.answer.Answer.TheVariants as answer
use Rattle.next_steps.specs.Answers.{lists, changes}
use Rattle.next_steps.specs.Asks.{place_of, suits}
use Rattle.next_rules.specs.Contents.{Store, Desk, Roster, Served, unmoved, changed}
use Rattle.next_rules.specs.Stores.{serve_store, got, resized, settled, file_owner, taken_back, cut_file, dropped}
use Rattle.next_rules.specs.Desks.{serve_desk, serve_roster, took, waiting_from, collected, answer_in, job_numbered, submitted, told_job, with_numbered, job_taken, job_answered}

-- ---- a store
module _ (s : Store) (at : Stamp) (moment : ℕ) where
  get-listed : (file : FileId) (r : Option FileRec) → lists (ask.Get file) (got r) ≡ true
  get-listed file None = refl
  get-listed file (Some r) = refl

  size-listed : (client : Client) (file : FileId) (size : ℕ) (ts : Ts) (r : Option FileRec) → lists (ask.SetSize client file size ts) (resized s client file size ts r).answer ≡ true
  size-listed client file size ts None = refl
  size-listed client file size ts (Some r) = refl

  settle-listed : (file : FileId) (r : Option FileRec) (owner : Option Client) → changes (settled s file r owner).answer ≡ true
  settle-listed file None owner = refl
  settle-listed file (Some r) None = refl
  settle-listed file (Some r) (Some client) = refl

  take_back-listed : (client : Client) (file : FileId) (moved : Option Moved) (owner : Option Client) → changes (taken_back s client file moved owner).answer ≡ true
  take_back-listed client file moved None = refl
  take_back-listed client file moved (Some owner) = elim (owner.0 == client.0) as (λ b. changes (if b then cut_file s file moved else unmoved s answer.None).answer ≡ true) [ true ↦ refl | false ↦ refl ]

  drop-listed : (file : FileId) (r : Option FileRec) → changes (dropped s file r).answer ≡ true
  drop-listed file None = refl
  drop-listed file (Some r) = refl

  -- a directory lies in a shard
  in_shard : {A : Type 0} (d : DirId) → 64 ≤ d.0 % 64 → A
  in_shard d high = absurd (omega (arith, high))

  pub store-listed : (a : Ask) → 64 ≤ (place_of a).0 → (place_of a).0 < 128 → suits a ≡ true → lists a (serve_store s at moment a).answer ≡ true
  store-listed (ask.Read dir name) high low suit = in_shard dir high
  store-listed (ask.List dir) high low suit = in_shard dir high
  store-listed (ask.Look dir back) high low suit = in_shard dir high
  store-listed (ask.PutDir client place dir name) high low suit = absurd (let below : place.0 < 64 = grind (arith, nat_tests) in omega (arith, high, below))
  store-listed (ask.Insert client dir name node ts) high low suit = in_shard dir high
  store-listed (ask.Delete client dir name ts) high low suit = in_shard dir high
  store-listed (ask.Swap client dir name to_name ts) high low suit = in_shard dir high
  store-listed (ask.Mark client child dir name ts) high low suit = in_shard child high
  store-listed (ask.Remove note) high low suit = in_shard note.dir high
  store-listed (ask.Settle (Dir dir)) high low suit = refl
  store-listed (ask.Settle (File file)) high low suit = settle-listed file (get s file.0) (file_owner (get s file.0))
  store-listed (ask.TakeBack client (Dir dir)) high low suit = refl
  store-listed (ask.TakeBack client (File file)) high low suit = take_back-listed client file None (file_owner (get s file.0))
  store-listed (ask.DropOwed client (Dir dir)) high low suit = refl
  store-listed (ask.DropOwed client (File file)) high low suit = take_back-listed client file (Some (Forget file)) (file_owner (get s file.0))
  store-listed (ask.DropRec dir) high low suit = refl
  store-listed (ask.Clear place node) high low suit = refl
  store-listed (ask.Merge place) high low suit = absurd (let below : place.0 < 64 = grind (arith, nat_tests) in omega (arith, high, below))
  store-listed (ask.LockRec job child dir name kind) high low suit = in_shard child high
  store-listed (ask.LockRow job dir name side want reserves) high low suit = in_shard dir high
  store-listed (ask.Commit job client dir name to_dir to_name node ts) high low suit = refl
  store-listed (ask.CutSource job dir name ts) high low suit = refl
  store-listed (ask.Rebase job child dir name) high low suit = refl
  store-listed (ask.UnlockRow job dir name) high low suit = refl
  store-listed (ask.UnlockRec job child) high low suit = refl
  store-listed (ask.Up dir) high low suit = in_shard dir high
  store-listed (ask.Strays place clients) high low suit = refl
  store-listed (ask.Names dir node) high low suit = in_shard dir high
  store-listed (ask.Put client place home) high low suit = refl
  store-listed (ask.Get file) high low suit = get-listed file (get s file.0)
  store-listed (ask.SetSize client file size ts) high low suit = size-listed client file size ts (get s file.0)
  store-listed (ask.Drop file) high low suit = drop-listed file (get s file.0)
  store-listed (ask.Submit client dir name to_dir to_name ts) high low suit = absurd (omega (arith, low))
  store-listed ask.TakeJob high low suit = absurd (omega (arith, low))
  store-listed (ask.Reply job reply point) high low suit = absurd (omega (arith, low))
  store-listed (ask.Collect job) high low suit = absurd (omega (arith, low))
  store-listed (ask.Stop client) high low suit = absurd (omega (arith, low))
  store-listed (ask.End client) high low suit = absurd (omega (arith, low))
  store-listed ask.Stopped high low suit = absurd (omega (arith, low))

-- ---- an ask of the desk
answers_with : (a : Ask) (given s : Served Desk) → lists a given.answer ≡ true → Some given ≡ Some s → lists a s.answer ≡ true
answers_with a given s listed is = let same : given ≡ s = cc in ap (λ (x : Served Desk). lists a x.answer) (sym same) ∙ listed

module _ (jobs : Desk) (s : Served Desk) where
  take-listed : (found : Option (ℕ × Job)) → took jobs found ≡ Some s → lists ask.TakeJob s.answer ≡ true
  take-listed None is = cc
  take-listed (Some found) is = answers_with ask.TakeJob (changed (told_job found.0 found.1) (with_numbered job_taken found.0 jobs)) s refl is

  collect-listed : (job : JobNo) (found : Option (Reply × At)) → collected jobs found ≡ Some s → lists (ask.Collect job) s.answer ≡ true
  collect-listed job None is = cc
  collect-listed job (Some found) is = answers_with (ask.Collect job) (unmoved jobs (answer.Answered found.0 found.1)) s refl is

  pub desk-listed : (a : Ask) → (place_of a).0 ≡ 128 → suits a ≡ true → serve_desk jobs a ≡ Some s → lists a s.answer ≡ true
  desk-listed (ask.Read dir name) here suit is = absurd (omega (arith, here))
  desk-listed (ask.List dir) here suit is = absurd (omega (arith, here))
  desk-listed (ask.Look dir back) here suit is = absurd (omega (arith, here))
  desk-listed (ask.PutDir client place dir name) here suit is = absurd (let below : place.0 < 64 = grind (arith, nat_tests) in omega (arith, here, below))
  desk-listed (ask.Insert client dir name node ts) here suit is = absurd (omega (arith, here))
  desk-listed (ask.Delete client dir name ts) here suit is = absurd (omega (arith, here))
  desk-listed (ask.Swap client dir name to_name ts) here suit is = absurd (omega (arith, here))
  desk-listed (ask.Mark client child dir name ts) here suit is = absurd (omega (arith, here))
  desk-listed (ask.Remove note) here suit is = absurd (omega (arith, here))
  desk-listed (ask.Settle node) here suit is = answers_with (ask.Settle node) (unmoved jobs answer.None) s refl is
  desk-listed (ask.TakeBack client node) here suit is = answers_with (ask.TakeBack client node) (unmoved jobs answer.None) s refl is
  desk-listed (ask.DropOwed client node) here suit is = answers_with (ask.DropOwed client node) (unmoved jobs answer.None) s refl is
  desk-listed (ask.DropRec dir) here suit is = answers_with (ask.DropRec dir) (unmoved jobs answer.None) s refl is
  desk-listed (ask.Clear place node) here suit is = answers_with (ask.Clear place node) (unmoved jobs answer.None) s refl is
  desk-listed (ask.Merge place) here suit is = absurd (let below : place.0 < 64 = grind (arith, nat_tests) in omega (arith, here, below))
  desk-listed (ask.LockRec job child dir name kind) here suit is = absurd (omega (arith, here))
  desk-listed (ask.LockRow job dir name side want reserves) here suit is = absurd (omega (arith, here))
  desk-listed (ask.Commit job client dir name to_dir to_name node ts) here suit is = answers_with (ask.Commit job client dir name to_dir to_name node ts) (unmoved jobs answer.None) s refl is
  desk-listed (ask.CutSource job dir name ts) here suit is = answers_with (ask.CutSource job dir name ts) (unmoved jobs answer.None) s refl is
  desk-listed (ask.Rebase job child dir name) here suit is = answers_with (ask.Rebase job child dir name) (unmoved jobs answer.None) s refl is
  desk-listed (ask.UnlockRow job dir name) here suit is = answers_with (ask.UnlockRow job dir name) (unmoved jobs answer.None) s refl is
  desk-listed (ask.UnlockRec job child) here suit is = answers_with (ask.UnlockRec job child) (unmoved jobs answer.None) s refl is
  desk-listed (ask.Up dir) here suit is = absurd (omega (arith, here))
  desk-listed (ask.Strays place clients) here suit is = absurd (let below : place.0 < 128 = grind (arith, nat_tests) in omega (arith, here, below))
  desk-listed (ask.Names dir node) here suit is = absurd (omega (arith, here))
  desk-listed (ask.Put client place home) here suit is = absurd (let below : place.0 < 128 = grind (arith, nat_tests) in omega (arith, here, below))
  desk-listed (ask.Get file) here suit is = answers_with (ask.Get file) (unmoved jobs answer.None) s refl is
  desk-listed (ask.SetSize client file size ts) here suit is = answers_with (ask.SetSize client file size ts) (unmoved jobs answer.None) s refl is
  desk-listed (ask.Drop file) here suit is = answers_with (ask.Drop file) (unmoved jobs answer.None) s refl is
  desk-listed (ask.Submit client dir name to_dir to_name ts) here suit is = answers_with (ask.Submit client dir name to_dir to_name ts) (submitted jobs client dir name to_dir to_name ts) s refl is
  desk-listed ask.TakeJob here suit is = take-listed (waiting_from 1 jobs) is
  desk-listed (ask.Reply job reply point) here suit is = answers_with (ask.Reply job reply point) (changed (answer.Done None) (with_numbered (job_answered reply point) job.0 jobs)) s refl is
  desk-listed (ask.Collect job) here suit is = collect-listed job (answer_in (job_numbered job.0 jobs)) is
  desk-listed (ask.Stop client) here suit is = absurd (omega (arith, here))
  desk-listed (ask.End client) here suit is = absurd (omega (arith, here))
  desk-listed ask.Stopped here suit is = absurd (omega (arith, here))

-- ---- an ask of the roster
module _ (r : Roster) where
  pub roster-listed : (a : Ask) → (place_of a).0 ≡ 129 → suits a ≡ true → lists a (serve_roster r a).answer ≡ true
  roster-listed (ask.Read dir name) here suit = absurd (omega (arith, here))
  roster-listed (ask.List dir) here suit = absurd (omega (arith, here))
  roster-listed (ask.Look dir back) here suit = absurd (omega (arith, here))
  roster-listed (ask.PutDir client place dir name) here suit = absurd (let below : place.0 < 64 = grind (arith, nat_tests) in omega (arith, here, below))
  roster-listed (ask.Insert client dir name node ts) here suit = absurd (omega (arith, here))
  roster-listed (ask.Delete client dir name ts) here suit = absurd (omega (arith, here))
  roster-listed (ask.Swap client dir name to_name ts) here suit = absurd (omega (arith, here))
  roster-listed (ask.Mark client child dir name ts) here suit = absurd (omega (arith, here))
  roster-listed (ask.Remove note) here suit = absurd (omega (arith, here))
  roster-listed (ask.Settle node) here suit = refl
  roster-listed (ask.TakeBack client node) here suit = refl
  roster-listed (ask.DropOwed client node) here suit = refl
  roster-listed (ask.DropRec dir) here suit = refl
  roster-listed (ask.Clear place node) here suit = refl
  roster-listed (ask.Merge place) here suit = absurd (let below : place.0 < 64 = grind (arith, nat_tests) in omega (arith, here, below))
  roster-listed (ask.LockRec job child dir name kind) here suit = absurd (omega (arith, here))
  roster-listed (ask.LockRow job dir name side want reserves) here suit = absurd (omega (arith, here))
  roster-listed (ask.Commit job client dir name to_dir to_name node ts) here suit = refl
  roster-listed (ask.CutSource job dir name ts) here suit = refl
  roster-listed (ask.Rebase job child dir name) here suit = refl
  roster-listed (ask.UnlockRow job dir name) here suit = refl
  roster-listed (ask.UnlockRec job child) here suit = refl
  roster-listed (ask.Up dir) here suit = absurd (omega (arith, here))
  roster-listed (ask.Strays place clients) here suit = absurd (let below : place.0 < 128 = grind (arith, nat_tests) in omega (arith, here, below))
  roster-listed (ask.Names dir node) here suit = absurd (omega (arith, here))
  roster-listed (ask.Put client place home) here suit = absurd (let below : place.0 < 128 = grind (arith, nat_tests) in omega (arith, here, below))
  roster-listed (ask.Get file) here suit = refl
  roster-listed (ask.SetSize client file size ts) here suit = refl
  roster-listed (ask.Drop file) here suit = refl
  roster-listed (ask.Submit client dir name to_dir to_name ts) here suit = absurd (omega (arith, here))
  roster-listed ask.TakeJob here suit = absurd (omega (arith, here))
  roster-listed (ask.Reply job reply point) here suit = absurd (omega (arith, here))
  roster-listed (ask.Collect job) here suit = absurd (omega (arith, here))
  roster-listed (ask.Stop client) here suit = refl
  roster-listed (ask.End client) here suit = refl
  roster-listed ask.Stopped here suit = refl
