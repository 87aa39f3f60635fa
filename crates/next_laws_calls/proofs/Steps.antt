-- Steps of a call by what they make of the places: nothing, the stage of one node, or a record alone.
use Rattle.std.proofs.Common.{◌≡◌, ◌≢◌, ℕ, ◌<◌, List, ◌∷◌, true, refl, sym, ◌∙◌, ap, subst, ◌⊎◌, inl, inr}
use Rattle.std.specs.Prelude.{Some, None}
use Rattle.next_ids.specs.declared.ids.Actor.TheVariants.{Client as ClientActor}
use Rattle.next_ids.specs.declared.ids.Client.{Client}
use Rattle.next_ids.specs.declared.ids.At.TheVariants.{Before, After}
use Rattle.next_ids.specs.declared.ids.Stamp.{Stamp}
use Rattle.next_ids.specs.declared.ids.PlaceNo.{PlaceNo}
use Rattle.next_ids.specs.declared.ids.Node.{Node}
use Rattle.next_ids.specs.declared.note.MarkNote.{MarkNote}
use Rattle.next_ids.specs.declared.call.Call.{Call}
use Rattle.next_ids.specs.declared.call.Reply.{Reply}
use Rattle.next_ids.specs.declared.call.Reply.TheVariants.{Moved as MovedReply}
use Rattle.next_ids.specs.Namespace.{Namespace}
use Rattle.next_steps.specs.declared.answer.Answer.{Answer}
use Rattle.next_steps.specs.declared.ask.Ask.{Ask}
use Rattle.next_steps.specs.declared.entry.Entry.{Entry}
use Rattle.next_steps.specs.Asks.{place_of}
use Rattle.next_steps.specs.Calls.{heard}
use Rattle.next_steps.specs.Ends.{told}
use Rattle.next_steps.specs.Phases.{Phase}
use Rattle.next_rules.specs.Contents.{Served, unmoved, entry_by}
use Rattle.next_rules.specs.Actors.{client_of}
use Rattle.next_rules.specs.Moves.{after_moved}
use Rattle.next_rules.specs.Trees.{tree}
use Rattle.next_rules.specs.Worlds.{Service, World, stamped, set_last}
use Rattle.next_laws_told.specs.Claims.{Claim, Open, IsReplyIn, IsTold, stands}
use Rattle.next_laws_told.specs.Ledgers.{Starts}
use Rattle.next_laws_stages.specs.Stages.{Marked, Change, to}
use Rattle.next_laws_stages.specs.Held.{still}
use Rattle.next_laws_calls.specs.Claimed.{claim_of}
use Rattle.next_laws_calls.specs.Worlds.{IsRemoving, Holds, Past}
use Rattle.next_laws_calls.proofs.Changing.{Changed, Unchanged, quiet}
use Rattle.next_laws_calls.proofs.Frame.{Keeps, Goes, Reached, OwnTold, TellsKnown}
use Rattle.next_laws_calls.proofs.Grown.{first_stands, now_stands, told_now, told_after}

-- the entry of c's step
abbrev pub entry_of : {C : Type 0} → (c number moment : ℕ) → Ask → Served C → Entry
entry_of c number moment ask s = entry_by (ClientActor (client_of c)) number moment ask s

abbrev pub grown_by : {C : Type 0} → World → (c number moment : ℕ) → Ask → Served C → List (PlaceNo × Entry)
grown_by w c number moment ask s = (place_of ask, entry_of c number moment ask s) ∷ w.run

module _ (w : World) (h : Holds w) (past : Past w) (c number moment : ℕ) (phase : Phase) (is : (w.actors.clients c).current ≡ Some phase) (ask : Ask)
    (later : w.lasts (place_of ask).0 < number) where
  abbrev pub at : Stamp
  at = stamped number ask

  abbrev pub lasts' : ℕ → ℕ
  lasts' = set_last w.lasts (place_of ask).0 number

  abbrev pub tree_now : Namespace
  tree_now = tree (still w.service.shard w.service.store)

  -- a call that is not about to remove a mark has none
  pub no_mark : ((note : MarkNote) → IsRemoving c note (Some phase) → ⊥) → (y : Node) (note : MarkNote) → h.stage y ≡ Marked note → note.owner ≡ client_of c → ⊥
  no_mark idle y note e own = idle note (subst (IsRemoving c note) is (subst (λ j. IsRemoving j note (w.actors.clients j).current) (ap (λ (x : Client). x.0) own) (h.works y note e)))

  -- ---- the call's first step stands in the run
  pub begun : (s : Served Service) (first : Stamp) → (first ≡ at) ⊎ (stands first w.run ≡ true) → stands first (grown_by w c number moment ask s) ≡ true
  begun s first h' = elim h' [
    | inl new ↦ ap (λ f. stands f (grown_by w c number moment ask s)) new ∙ now_stands w.lasts w.run (place_of ask) (entry_of c number moment ask s) h.run_old later
    | inr old ↦ first_stands w.lasts w.run (place_of ask) (entry_of c number moment ask s) h.run_old later first old
  ]

  -- ---- replies
  pub tells_now : (s : Served Service) (call : Call) (first : Stamp) (reply : Reply) → IsReplyIn tree_now call reply → reply ≢ MovedReply → IsTold (grown_by w c number moment ask s) call first (Before at) reply
  tells_now s call first reply right kind =
      told_now w.lasts w.run (place_of ask) (entry_of c number moment ask s) h.run_old later call first reply (subst (λ n. IsReplyIn n call reply) past.same right) kind

  pub tells_after : (s : Served Service) (k : Keeps w h c at s.contents s.moved) (call : Call) (first : Stamp) (reply : Reply) → IsReplyIn (tree (still s.contents.shard s.contents.store)) call reply → reply ≢ MovedReply
      → IsTold (grown_by w c number moment ask s) call first (After at) reply
  tells_after s k call first reply right kind =
      told_after w.lasts w.run (place_of ask) (entry_of c number moment ask s) h.run_old later call first reply (subst (λ n. IsReplyIn n call reply) (k.to ∙ ap (λ n. after_moved n s.moved) past.same) right) kind

  -- ---- a step by what it keeps, where no mark of the client stands
  pub goes_by : (s : Served Service) (k : Keeps w h c at s.contents s.moved) → ((y : Node) (note : MarkNote) → k.stage y ≡ Marked note → note.owner ≡ client_of c → ⊥)
      → (next : Phase) → heard phase (place_of ask) (entry_of c number moment ask s) ≡ next → (from : Claim) → Starts at (claim_of w.service.shard (Some phase)) from
      → Reached (grown_by w c number moment ask s) lasts' s.contents.shard k.stage c next → OwnTold c at (grown_by w c number moment ask s) s.moved from s.contents.shard next → Goes w h c number moment ask s phase
  goes_by s k bar next hears from starts reached own = record {
    keeps = k;
    reached = subst (Reached (grown_by w c number moment ask s) lasts' s.contents.shard k.stage c) (sym hears) reached;
    works = λ y note e mine. absurd (bar y note e mine);
    from = from;
    starts = starts;
    told = subst (OwnTold c at (grown_by w c number moment ask s) s.moved from s.contents.shard) (sym hears) own;
  }

  module _ (idle : (note : MarkNote) → IsRemoving c note (Some phase) → ⊥) where
    -- nothing changes
    pub looked : (a : Answer) (next : Phase) → heard phase (place_of ask) (entry_of c number moment ask (unmoved w.service a)) ≡ next → (from : Claim) → Starts at (claim_of w.service.shard (Some phase)) from
        → Reached (grown_by w c number moment ask (unmoved w.service a)) lasts' w.service.shard h.stage c next → OwnTold c at (grown_by w c number moment ask (unmoved w.service a)) None from w.service.shard next
        → Goes w h c number moment ask (unmoved w.service a) phase
    looked a next hears from starts reached own = goes_by (unmoved w.service a) (quiet w h c at later) (no_mark idle) next hears from starts reached own

    -- and the call ends with a reply that is right now
    pub answered : (a : Answer) (call : Call) (first : Stamp) (reply : Reply) → heard phase (place_of ask) (entry_of c number moment ask (unmoved w.service a)) ≡ told call first at reply
        → Starts at (claim_of w.service.shard (Some phase)) (Open call first) → TellsKnown h.stage reply → IsReplyIn tree_now call reply → reply ≢ MovedReply → Goes w h c number moment ask (unmoved w.service a) phase
    answered a call first reply hears starts known right kind =
        looked a (told call first at reply) hears (Open call first) starts known (refl, kind, (refl, tt, tells_now (unmoved w.service a) call first reply right kind))

    -- one node's stage changes, and it is no mark
    pub changed : (s : Served Service) (x : Node) (change : Change) (k : Changed w h c at s.contents s.moved x change) → ((note : MarkNote) → to change ≡ Marked note → ⊥)
        → (next : Phase) → heard phase (place_of ask) (entry_of c number moment ask s) ≡ next → (from : Claim) → Starts at (claim_of w.service.shard (Some phase)) from
        → Reached (grown_by w c number moment ask s) lasts' s.contents.shard k.keeps.stage c next → OwnTold c at (grown_by w c number moment ask s) s.moved from s.contents.shard next → Goes w h c number moment ask s phase
    changed s x change k plain next hears from starts reached own =
        goes_by s k.keeps (λ y note e mine. elim (k.old y note e) [ inl was ↦ no_mark idle y note was mine | inr new ↦ plain note new ]) next hears from starts reached own

    -- no node's stage changes
    pub unchanged : (s : Served Service) (k : Unchanged w h c at s.contents s.moved)
        → (next : Phase) → heard phase (place_of ask) (entry_of c number moment ask s) ≡ next → (from : Claim) → Starts at (claim_of w.service.shard (Some phase)) from
        → Reached (grown_by w c number moment ask s) lasts' s.contents.shard k.keeps.stage c next → OwnTold c at (grown_by w c number moment ask s) s.moved from s.contents.shard next → Goes w h c number moment ask s phase
    unchanged s k next hears from starts reached own =
        goes_by s k.keeps (λ y note e mine. no_mark idle y note (ap (λ (f : Node → _). f y) (sym k.same) ∙ e) mine) next hears from starts reached own
