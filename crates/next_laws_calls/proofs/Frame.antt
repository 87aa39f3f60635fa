-- One client's step: what it keeps of the places and of the other clients, what it makes of the client itself, and what
-- it tells. The lemmas of the calls give `Goes` for a phase; `goes_next` makes of it all that holds of the next world.
use Rattle.std.proofs.Common.{◌≡◌, ◌≢◌, ℕ, ◌<◌, List, [], ◌∷◌, map, Bool, true, false, refl, sym, ◌∙◌, ap, subst, arith, ◌⊎◌, inl, inr}
use Rattle.std.specs.Prelude.{if◌then◌else◌, ◌==◌, ◌||◌, ◌&&◌, Option, Some, None}
use Rattle.std.proofs.lemmas.Bool.Decides.{nat_tests}
use Rattle.std.specs.List.{list_all}
use Rattle.std.specs.FinMap.{get}
use Rattle.next_ids.specs.declared.counts.Counts.{Counts}
use Rattle.next_ids.specs.declared.ids.Actor.TheVariants.{Client as ClientActor}
use Rattle.next_ids.specs.declared.ids.Client.{Client}
use Rattle.next_ids.specs.declared.ids.Stamp.{Stamp}
use Rattle.next_ids.specs.declared.ids.PlaceNo.{PlaceNo}
use Rattle.next_ids.specs.declared.ids.Node.{Node}
use Rattle.next_ids.specs.declared.note.MarkNote.{MarkNote}
use Rattle.next_ids.specs.declared.call.Reply.{Reply}
use Rattle.next_ids.specs.declared.call.Reply.TheVariants.{Node as NodeReply}
use Rattle.next_ids.specs.Namespace.{is_node}
use Rattle.next_steps.specs.declared.ask.Ask.{Ask}
use Rattle.next_steps.specs.declared.contents.Row.{Row}
use Rattle.next_steps.specs.declared.entry.Entry.{Entry}
use Rattle.next_steps.specs.declared.moves.Moved.{Moved}
use Rattle.next_steps.specs.Asks.{place_of}
use Rattle.next_steps.specs.Calls.{heard}
use Rattle.next_steps.specs.Ends.{stamp_of}
use Rattle.next_steps.specs.Phases.{Phase, Asking, Reads, Writes, Removes, Finished}
use Rattle.next_rules.specs.Contents.{Shard, Served, entry_by}
use Rattle.next_rules.specs.Actors.{Plan, Ends as EndsPlan, Calls, Progress, Goes as GoesOn, client_of, first_of, rest_of, doing_of, doing, with_phase, hears_doing, hears, set_client}
use Rattle.next_rules.specs.Moves.{IsAllowed, after_moved}
use Rattle.next_rules.specs.Setups.{nodes_of, knows, with_told, KeepsTo}
use Rattle.next_rules.specs.Trees.{tree}
use Rattle.next_rules.specs.Worlds.{Service, World, stamped, set_last, with_entry}
use Rattle.next_laws_told.specs.Claims.{Claim, Idle, claim_at, Leads}
use Rattle.next_laws_told.specs.Ledgers.{IsFormed, Starts, ClientTold, StepTold}
use Rattle.next_laws_stages.specs.Stages.{Stage, Marked, is_known}
use Rattle.next_laws_stages.specs.Needs.{Need, Known, MeetsAll}
use Rattle.next_laws_stages.specs.Held.{PlacesHold, IsFree, still}
use Rattle.next_laws_stages.proofs.Stages.{names_true}
use Rattle.next_laws_calls.specs.Plain.{KeepsPlain}
use Rattle.next_laws_calls.specs.Claimed.{claim_of, ledger}
use Rattle.next_laws_calls.specs.Holding.{needs, IsPlainIn}
use Rattle.next_laws_calls.specs.Worlds.{IsOld, Seen, Follows, ClientHolds, IsRemoving, Holds, Past}
use Rattle.next_laws_calls.proofs.Grown.{old_grown, now_old, low_grown, seen_grown}

-- ---- the places and the other clients
-- what a step of c with this stamp keeps, after which the service is so and which moved so
pub record Keeps (w : World) (h : Holds w) (c : ℕ) (at : Stamp) (v : Service) (moved : Option Moved) : Type 0 where
  pub stage : Node → Stage
  pub places : PlacesHold stage v.shard v.store (set_last w.lasts at.place.0 at.number)
  pub free : IsFree v.shard
  -- each row is an old one or the step's
  pub rows : (k : List ℕ) (row : Row) → get v.shard.rows k ≡ Some row → (get w.service.shard.rows k ≡ Some row) ⊎ (row.stamp ≡ at)
  pub knows : (y : Node) → is_known (h.stage y) ≡ true → is_known (stage y) ≡ true
  pub needs : (i : ℕ) → i ≢ c → (ns : List (Node × Need)) → MeetsAll i h.stage ns → MeetsAll i stage ns
  -- each mark is an old one or the client's own
  pub marks : (y : Node) (note : MarkNote) → stage y ≡ Marked note → (h.stage y ≡ Marked note) ⊎ (note.owner ≡ client_of c)
  -- the move makes the new tree of the old, which allows it
  pub to : tree (still v.shard v.store) ≡ after_moved (tree (still w.service.shard w.service.store)) moved
  pub may : IsAllowed (tree (still w.service.shard w.service.store)) moved
  -- and it is another's only where that one's call says so
  pub helps : (i : ℕ) → i ≢ c → (run : List (PlaceNo × Entry)) → Leads i at run moved (ledger w i) (claim_of v.shard (w.actors.clients i).current)

-- ---- the client itself
abbrev pub TellsKnown : (Node → Stage) → Reply → Type 0
TellsKnown stage (NodeReply node) = is_known (stage node) ≡ true
TellsKnown stage reply = Unit {0}

-- what a step shows of the phase that it leads to
abbrev pub Reached : List (PlaceNo × Entry) → (ℕ → ℕ) → Shard → (Node → Stage) → ℕ → Phase → Type 0
Reached run lasts shard stage c (Finished done) = TellsKnown stage done.reply
Reached run lasts shard stage c (Asking call) = ⊥
Reached run lasts shard stage c q = IsPlainIn (Some q) × MeetsAll c stage (needs c (Some q)) × Seen run lasts shard (Some q)

abbrev pub WorksIn : ℕ → MarkNote → Phase → Type 0
WorksIn c note (Finished done) = ⊥
WorksIn c note q = IsRemoving c note (Some q)

-- what it tells of the client's call
abbrev pub OwnTold : ℕ → Stamp → List (PlaceNo × Entry) → Option Moved → (from : Claim) → Shard → Phase → Type 0
OwnTold c s run moved from shard (Finished d) = (d.last ≡ s) × IsFormed d.reply d.at × Leads c s run moved from (claim_at d d.at)
OwnTold c s run moved from shard q = Leads c s run moved from (claim_of shard (Some q))

-- ---- a step of c's call in a phase: of the ask, with this number and moment, served so
pub record Goes (w : World) (h : Holds w) (c number moment : ℕ) (ask : Ask) (s : Served Service) (phase : Phase) : Type 0 where
  pub keeps : Keeps w h c (stamped number ask) s.contents s.moved
  pub reached : Reached ((place_of ask, entry_by (ClientActor (client_of c)) number moment ask s) ∷ w.run) (set_last w.lasts (place_of ask).0 number) s.contents.shard keeps.stage c
      (heard phase (place_of ask) (entry_by (ClientActor (client_of c)) number moment ask s))
  pub works : (y : Node) (note : MarkNote) → keeps.stage y ≡ Marked note → note.owner ≡ client_of c → WorksIn c note (heard phase (place_of ask) (entry_by (ClientActor (client_of c)) number moment ask s))
  pub from : Claim
  pub starts : Starts (stamped number ask) (claim_of w.service.shard (Some phase)) from
  pub told : OwnTold c (stamped number ask) ((place_of ask, entry_by (ClientActor (client_of c)) number moment ask s) ∷ w.run) s.moved from s.contents.shard
      (heard phase (place_of ask) (entry_by (ClientActor (client_of c)) number moment ask s))

-- ---- and any step of c, which leaves the client so
pub record Stepped (w : World) (h : Holds w) (c : ℕ) (place : PlaceNo) (entry : Entry) (v : Service) (p : Progress) : Type 0 where
  pub keeps : Keeps w h c (stamp_of place entry) v entry.moved
  pub client : ClientHolds ((place, entry) ∷ w.run) (set_last w.lasts place.0 entry.number) v.shard keeps.stage c p
  pub works : (y : Node) (note : MarkNote) → keeps.stage y ≡ Marked note → note.owner ≡ client_of c → IsRemoving c note p.current
  pub told : ClientTold c (stamp_of place entry) ((place, entry) ∷ w.run) entry.moved (ledger w c) (claim_of v.shard p.current) (w.actors.clients c).done p.done

pub record Next (w w' : World) : Type 0 where
  pub holds : Holds w'
  pub past : Past w'
  pub told : StepTold ledger w w'

-- ---- a client at the start of a plan
told_known : (stage : Node → Stage) (nodes : List Node) (reply : Reply) → ((x : Node) → knows nodes x ≡ true → is_known (stage x) ≡ true) → TellsKnown stage reply
    → (x : Node) → knows (with_told reply nodes) x ≡ true → is_known (stage x) ≡ true
told_known stage nodes (NodeReply node) known tells x k = by_test (is_node x node) refl k
  where
    by_test : (b : Bool) → is_node x node ≡ b → (b || knows nodes x) ≡ true → is_known (stage x) ≡ true
    by_test true e k = ap (λ z. is_known (stage z)) (names_true x node e) ∙ tells
    by_test false e k = known x k
told_known stage nodes reply known tells x k = known x k

known_all : (c : ℕ) (stage : Node → Stage) (nodes : List Node) → ((x : Node) → knows nodes x ≡ true → is_known (stage x) ≡ true) → (xs : List Node) → list_all (knows nodes) xs ≡ true
    → MeetsAll c stage (map (λ node. (node, Known)) xs)
known_all c stage nodes known [] all = tt
known_all c stage nodes known (x ∷ xs) all = by_test (knows nodes x) refl all (known_all c stage nodes known xs)
  where
    by_test : (b : Bool) → knows nodes x ≡ b → (b && list_all (knows nodes) xs) ≡ true → (list_all (knows nodes) xs ≡ true → MeetsAll c stage (map (λ node. (node, Known)) xs))
        → MeetsAll c stage (map (λ node. (node, Known)) (x ∷ xs))
    by_test true e all rest = (known x e, rest all)
    by_test false e all rest = absurd (cc)

pub follows_keep : (stage stage' : Node → Stage) → ((y : Node) → is_known (stage y) ≡ true → is_known (stage' y) ≡ true) → (rest : Reply → Plan) → Follows stage rest → Follows stage' rest
follows_keep stage stage' more rest h = record { nodes = h.nodes; known = λ x k. more x (h.known x k); keeps = h.keeps; plain = h.plain }

module _ (run : List (PlaceNo × Entry)) (lasts : ℕ → ℕ) (shard : Shard) (stage : Node → Stage) (c : ℕ) where
  pub start_holds : (nodes : List Node) → ((x : Node) → knows nodes x ≡ true → is_known (stage x) ≡ true) → (plan : Plan) → KeepsTo nodes plan → KeepsPlain plan → (p : Progress)
      → p.current ≡ first_of plan → p.rest ≡ rest_of plan → ClientHolds run lasts shard stage c p
  start_holds nodes known EndsPlan keeps plain p current rest = record {
    plain = subst IsPlainIn (sym current) tt;
    needs = subst (λ o. MeetsAll c stage (needs c o)) (sym current) tt;
    seen = subst (Seen run lasts shard) (sym current) tt;
    follows = subst (Follows stage) (sym rest) (record { nodes = nodes; known = known; keeps = λ reply. tt; plain = λ reply. tt });
  }
  start_holds nodes known (Calls call next) keeps plain p current rest = record {
    plain = subst IsPlainIn (sym current) plain.0;
    needs = subst (λ o. MeetsAll c stage (needs c o)) (sym current) (known_all c stage nodes known (nodes_of call) keeps.0);
    seen = subst (Seen run lasts shard) (sym current) tt;
    follows = subst (Follows stage) (sym rest) (record { nodes = nodes; known = known; keeps = keeps.1; plain = plain.1 });
  }

  -- ---- a client goes on
  pub client_after : (p : Progress) (entry : Entry) → Follows stage p.rest → (q : Phase) → Reached run lasts shard stage c q → ClientHolds run lasts shard stage c (with_phase p entry q)
  client_after p entry follows (Finished done) reached =
      start_holds (with_told done.reply follows.nodes) (told_known stage follows.nodes done.reply follows.known reached) (p.rest done.reply) (follows.keeps done.reply) (follows.plain done.reply)
      (with_phase p entry (Finished done)) refl refl
  client_after p entry follows (Asking call) reached = absurd reached
  client_after p entry follows (Reads q) reached = record { plain = reached.0; needs = reached.1; seen = reached.2; follows = follows }
  client_after p entry follows (Writes q) reached = record { plain = reached.0; needs = reached.1; seen = reached.2; follows = follows }
  client_after p entry follows (Removes q) reached = record { plain = reached.0; needs = reached.1; seen = reached.2; follows = follows }

works_after : (p : Progress) (entry : Entry) (c : ℕ) (note : MarkNote) (q : Phase) → WorksIn c note q → IsRemoving c note (with_phase p entry q).current
works_after p entry c note (Finished done) works = absurd works
works_after p entry c note (Asking call) works = works
works_after p entry c note (Reads q) works = works
works_after p entry c note (Writes q) works = works
works_after p entry c note (Removes q) works = works

pub idle_first : (shard : Shard) (plan : Plan) → claim_of shard (first_of plan) ≡ Idle
idle_first shard EndsPlan = refl
idle_first shard (Calls call next) = refl

told_after : (p : Progress) (entry : Entry) (c : ℕ) (s : Stamp) (run : List (PlaceNo × Entry)) (moved : Option Moved) (before from : Claim) (shard : Shard) → Starts s before from
    → (q : Phase) → OwnTold c s run moved from shard q → ClientTold c s run moved before (claim_of shard (with_phase p entry q).current) p.done (with_phase p entry q).done
told_after p entry c s run moved before from shard starts (Finished d) told = record {
  from = from;
  starts = starts;
  goes = inr (record { call = d; more = refl; last = told.0; formed = told.1; leads = told.2; idle = idle_first shard (p.rest d.reply) });
}
told_after p entry c s run moved before from shard starts (Asking call) told = record { from = from; starts = starts; goes = inl (refl, told) }
told_after p entry c s run moved before from shard starts (Reads q) told = record { from = from; starts = starts; goes = inl (refl, told) }
told_after p entry c s run moved before from shard starts (Writes q) told = record { from = from; starts = starts; goes = inl (refl, told) }
told_after p entry c s run moved before from shard starts (Removes q) told = record { from = from; starts = starts; goes = inl (refl, told) }

-- ---- the next world
module _ (w : World) (h : Holds w) (past : Past w) (c : ℕ) (place : PlaceNo) (entry : Entry) (later : w.lasts place.0 < entry.number) (v : Service) (p : Progress)
    (step : Stepped w h c place entry v p) where
  abbrev stepped_world : World
  stepped_world = record {
    service = v;
    lasts = set_last w.lasts place.0 entry.number;
    actors = record w.actors { clients = set_client w.actors.clients c p };
    run = (place, entry) ∷ w.run;
  }

  -- a fact of each client after the step, by whether it is the one that made it
  each_client : (P : ℕ → Progress → Type 0) → P c p → ((i : ℕ) → i ≢ c → P i (w.actors.clients i)) → (i : ℕ) → P i (set_client w.actors.clients c p i)
  each_client P own others i = by_test (i == c) refl
    where
      by_test : (b : Bool) → (i == c) ≡ b → P i (if b then p else w.actors.clients i)
      by_test true e = let same : i ≡ c = grind (arith, nat_tests) in subst (λ j. P j p) (sym same) own
      by_test false e = let differ : i ≢ c = grind (arith, nat_tests) in others i differ

  next_works : (y : Node) (note : MarkNote) → step.keeps.stage y ≡ Marked note → IsRemoving note.owner.0 note (set_client w.actors.clients c p note.owner.0).current
  next_works y note e = by_test (note.owner.0 == c) refl
    where
      by_test : (b : Bool) → (note.owner.0 == c) ≡ b → IsRemoving note.owner.0 note (if b then p else w.actors.clients note.owner.0).current
      by_test true t = let same : note.owner.0 ≡ c = grind (arith, nat_tests) in subst (λ j. IsRemoving j note p.current) (sym same) (step.works y note e (ap client_of same))
      by_test false t = let differ : note.owner.0 ≢ c = grind (arith, nat_tests) in elim (step.keeps.marks y note e) [
        | inl was ↦ h.works y note was
        | inr mine ↦ absurd (differ (ap (λ (x : Client). x.0) mine))
      ]

  next_rows : (k : List ℕ) (row : Row) → get v.shard.rows k ≡ Some row → IsOld (set_last w.lasts place.0 entry.number) row.stamp
  next_rows k row e = elim (step.keeps.rows k row e) [
    | inl was ↦ old_grown w.lasts w.run place entry h.run_old later row.stamp (h.rows_old k row was)
    | inr new ↦ subst (IsOld (set_last w.lasts place.0 entry.number)) (sym new) (now_old w.lasts w.run place entry h.run_old later)
  ]

  pub stepped_next : Next w stepped_world
  stepped_next = record {
    holds = record {
      stage = step.keeps.stage;
      places = step.keeps.places;
      free = step.keeps.free;
      rows_old = next_rows;
      run_old = low_grown w.lasts w.run place entry h.run_old later;
      clients = each_client (ClientHolds ((place, entry) ∷ w.run) (set_last w.lasts place.0 entry.number) v.shard step.keeps.stage) step.client (λ i differ. let old = h.clients i in record {
        plain = old.plain;
        needs = step.keeps.needs i differ (needs i (w.actors.clients i).current) old.needs;
        seen = seen_grown w.lasts w.run place entry h.run_old later w.service.shard v.shard step.keeps.rows (w.actors.clients i).current old.seen;
        follows = follows_keep h.stage step.keeps.stage step.keeps.knows (w.actors.clients i).rest old.follows;
      });
      works = next_works;
    };
    past = record {
      same = step.keeps.to ∙ ap (λ n. after_moved n entry.moved) past.same;
      allowed = (subst (λ n. IsAllowed n entry.moved) past.same step.keeps.may, past.allowed);
    };
    told = record {
      place = place;
      entry = entry;
      later = later;
      run = refl;
      lasts = refl;
      clients = each_client (λ i q. ClientTold i (stamp_of place entry) ((place, entry) ∷ w.run) entry.moved (ledger w i) (claim_of v.shard q.current) (w.actors.clients i).done q.done) step.told
          (λ i differ. record { from = ledger w i; starts = inl refl; goes = inl (refl, step.keeps.helps i differ ((place, entry) ∷ w.run)) });
    };
  }

-- ---- a step of a call
goes_phase : (ended due : Bool) (current : Option Phase) (phase : Phase) → doing_of ended due current ≡ GoesOn phase → current ≡ Some phase
goes_phase true due current phase e = absurd (cc)
goes_phase false true current phase e = absurd (cc)
goes_phase false false None phase e = absurd (cc)
goes_phase false false (Some q) phase e = cc

pub goes_current : (p : Progress) (phase : Phase) → doing p ≡ GoesOn phase → p.current ≡ Some phase
goes_current p phase e = goes_phase p.ended _ p.current phase e

module _ (counts : Counts) (w : World) (h : Holds w) (past : Past w) (c number moment : ℕ) (ask : Ask) (s : Served Service) (phase : Phase) where
  abbrev entry : Entry
  entry = entry_by (ClientActor (client_of c)) number moment ask s

  abbrev run : List (PlaceNo × Entry)
  run = (place_of ask, entry) ∷ w.run

  abbrev lasts : ℕ → ℕ
  lasts = set_last w.lasts (place_of ask).0 number

  goes_stepped : (w.actors.clients c).current ≡ Some phase → Goes w h c number moment ask s phase
      → Stepped w h c (place_of ask) entry s.contents (with_phase (w.actors.clients c) entry (heard phase (place_of ask) entry))
  goes_stepped is g = record {
    keeps = g.keeps;
    client = client_after run lasts s.contents.shard g.keeps.stage c (w.actors.clients c) entry (follows_keep h.stage g.keeps.stage g.keeps.knows (w.actors.clients c).rest (h.clients c).follows) (heard phase (place_of ask) entry) g.reached;
    works = λ y note e own. works_after (w.actors.clients c) entry c note (heard phase (place_of ask) entry) (g.works y note e own);
    told = told_after (w.actors.clients c) entry c (stamped number ask) run s.moved (ledger w c) g.from s.contents.shard
        (subst (λ o. Starts (stamped number ask) (claim_of w.service.shard o) g.from) (sym is) g.starts) (heard phase (place_of ask) entry) g.told;
  }

  pub goes_next : w.lasts (place_of ask).0 < number → doing (w.actors.clients c) ≡ GoesOn phase → Goes w h c number moment ask s phase
      → Next w (with_entry counts w (ClientActor (client_of c)) (place_of ask) entry s.contents)
  goes_next later goes g = stepped_next w h past c (place_of ask) entry later s.contents (hears (w.actors.clients c) (place_of ask) entry)
      (subst (Stepped w h c (place_of ask) entry s.contents) (sym (ap (hears_doing (w.actors.clients c) (place_of ask) entry) goes)) (goes_stepped (goes_current (w.actors.clients c) phase goes) g))
