-- The step that cuts the name of a marked directory for the owner of the mark, and the calls that make it.
use Rattle.std.proofs.Common.{◌≡◌, ℕ, ◌%◌, ◌<◌, List, [], ◌∷◌, Bool, true, false, refl, sym, ◌∙◌, ap, arith, ◌⊎◌, inl, inr}
use Rattle.std.specs.Prelude.{◌==◌, Option, Some, None}
use Rattle.std.proofs.lemmas.Bool.Decides.{nat_tests}
use Rattle.std.specs.FinMap.{get}
use Rattle.next_ids.specs.declared.ids.At.TheVariants.{After}
use Rattle.next_ids.specs.declared.ids.DirId.{DirId}
use Rattle.next_ids.specs.declared.ids.Stamp.{Stamp}
use Rattle.next_ids.specs.declared.ids.Node.{Node}
use Rattle.next_ids.specs.declared.ids.Node.TheVariants.{Dir}
use Rattle.next_ids.specs.declared.note.MarkNote.{MarkNote}
use Rattle.next_ids.specs.declared.time.Ts.{Ts}
use Rattle.next_ids.specs.declared.errno.Errno.TheVariants.{Enoent}
use Rattle.next_ids.specs.declared.call.Call.TheVariants as call
use Rattle.next_ids.specs.declared.call.Reply.TheVariants as reply
use Rattle.next_ids.specs.Maps.{row_key}
use Rattle.next_steps.specs.declared.answer.Answer.{Answer}
use Rattle.next_steps.specs.declared.answer.Answer.TheVariants as answer
use Rattle.next_steps.specs.declared.ask.Ask.TheVariants as ask
use Rattle.next_steps.specs.declared.contents.Debt.{Debt}
use Rattle.next_steps.specs.declared.contents.Row.{Row}
use Rattle.next_steps.specs.Asks.{shard_of}
use Rattle.next_steps.specs.Ends.{replied}
use Rattle.next_steps.specs.Phases.{Phase, Reads, Writes, Removes, ListHelping, StatHelping, StatReading, MakeHelping, TakingBack, MarkHelping, RowReading}
use Rattle.next_steps.specs.Writers.{maker}
use Rattle.next_rules.specs.Actors.{client_of}
use Rattle.next_rules.specs.Changes.{node_in}
use Rattle.next_rules.specs.Contents.{Shard, Served, unmoved, debt_key}
use Rattle.next_rules.specs.Removing.{removed, names_it}
use Rattle.next_rules.specs.Worlds.{Service, World, stamped, in_shard}
use Rattle.next_laws_told.specs.Claims.{Open, IsOthers, stands}
use Rattle.next_laws_stages.specs.Stages.{Stage, Marked, Owed, Cleared, is_known, is_left, key_of, debt_of}
use Rattle.next_laws_stages.specs.Needs.{Need, HasPut, Noted, Meets, MeetsAll}
use Rattle.next_laws_stages.proofs.Effects.{none_some, true_false}
use Rattle.next_laws_stages.proofs.Known.{left_out, left_keyless}
use Rattle.next_laws_stages.proofs.Stages.{names_true, names_same}
use Rattle.next_laws_calls.specs.Worlds.{Holds, Past}
use Rattle.next_laws_calls.proofs.Changing.{quiet, remove_it}
use Rattle.next_laws_calls.proofs.Frame.{Keeps, Goes}
use Rattle.next_laws_calls.proofs.Steps.{goes_by, no_mark, begun, tells_after}
use Rattle.next_laws_stages.proofs.Replies.{list_gone, make_gone}

-- what a Remove keeps and leaves, by whomever it is made
pub record Helped (w : World) (h : Holds w) (c number : ℕ) (note : MarkNote) (s : Served Service) : Type 0 where
  pub keeps : Keeps w h c (stamped number (ask.Remove note)) s.contents s.moved
  pub left : is_left (keeps.stage (Dir note.child)) ≡ true
  pub own : (ns : List (Node × Need)) → MeetsAll c h.stage ns → MeetsAll c keeps.stage ns
  pub old : (y : Node) (n : MarkNote) → keeps.stage y ≡ Marked n → h.stage y ≡ Marked n
  pub others : ((y : Node) (n : MarkNote) → h.stage y ≡ Marked n → n.owner ≡ client_of c → ⊥) → IsOthers c s.moved

owed_left : (s : Stage) (p : ℕ) (debt : Debt) → debt_of s ≡ Some (p, debt) → is_left s ≡ true
owed_left (Owed a q t) p debt e = refl
owed_left (Cleared a q t) p debt e = refl
owed_left s p debt e = absurd (cc)

pub named_row : (child : DirId) (q : Option Row) → names_it child (node_in q) ≡ true → (row : Row) × (q ≡ Some row) × (row.node ≡ Dir child)
named_row child None t = absurd (cc)
named_row child (Some row) t = (row, refl, sym (names_true (Dir child) row.node t))

pub not_named : (child : DirId) (o : Option Node) → names_it child o ≡ false → o ≡ Some (Dir child) → ⊥
not_named child o t e = true_false (names_it child o) (ap (names_it child) e ∙ names_same (Dir child)) t

module _ (w : World) (h : Holds w) (c number : ℕ) (note : MarkNote) (later : w.lasts (shard_of note.dir).0 < number) where
  abbrev shard : Shard
  shard = w.service.shard

  abbrev at : Stamp
  at = stamped number (ask.Remove note)

  nothing : (a : Answer) → is_left (h.stage (Dir note.child)) ≡ true → Helped w h c number note (unmoved w.service a)
  nothing a left = record { keeps = quiet w h c at later; left = left; own = λ ns m. m; old = λ y n e. e; others = λ bar. tt }

  cut_it : h.stage (Dir note.child) ≡ Marked note → Helped w h c number note (in_shard w.service (removed shard at note None true))
  cut_it was =
      let r = remove_it w h c at later note was refl in
      record {
        keeps = r.keeps;
        left = ap is_left r.now;
        own = r.own refl;
        old = λ y n e. elim (r.old y n e) [ inl o ↦ o | inr new ↦ absurd (cc) ];
        others = λ bar. by_owner bar (note.owner.0 == c) refl;
      }
    where
      by_owner : ((y : Node) (n : MarkNote) → h.stage y ≡ Marked n → n.owner ≡ client_of c → ⊥) → (b : Bool) → (note.owner.0 == c) ≡ b → b ≡ false
      by_owner bar true t = absurd (let own : note.owner.0 ≡ c = grind (arith, nat_tests) in bar (Dir note.child) note was (ap client_of own))
      by_owner bar false t = refl

  pub helped : ((h.stage (Dir note.child) ≡ Marked note) ⊎ (is_left (h.stage (Dir note.child)) ≡ true)) → (o : Option Debt) → get shard.debts (debt_key (shard_of note.dir) (Dir note.child)) ≡ o
      → (b : Bool) → names_it note.child (node_in (get shard.rows (row_key note.dir note.name))) ≡ b → Helped w h c number note (in_shard w.service (removed shard at note o b))
  helped noted (Some debt) e b t = nothing (answer.Already debt.stamp) (owed_left (h.stage (Dir note.child)) (note.dir.0 % 64) debt (h.places.debts (note.dir.0 % 64) (Dir note.child) debt e))
  helped noted None e true t = elim noted [
    | inl was ↦ cut_it was
    | inr left ↦ (let row = named_row note.child (get shard.rows (row_key note.dir note.name)) t in
        absurd (none_some (key_of (h.stage (Dir note.child))) (row_key note.dir note.name) (left_keyless (h.stage (Dir note.child)) left)
        (ap (λ x. key_of (h.stage x)) (sym row.2) ∙ h.places.rows (row_key note.dir note.name) row.0 row.1)))
  ]
  helped noted None e false t = elim noted [
    | inl was ↦ absurd (not_named note.child _ t (h.places.named (Dir note.child) (row_key note.dir note.name) (ap key_of was)))
    | inr left ↦ nothing answer.Absent left
  ]

-- ---- the calls that meet a mark
module _ (w : World) (h : Holds w) (past : Past w) (c number moment : ℕ) (note : MarkNote) (later : w.lasts (shard_of note.dir).0 < number) (o : Option Debt)
    (e : get w.service.shard.debts (debt_key (shard_of note.dir) (Dir note.child)) ≡ o) (b : Bool) (t : names_it note.child (node_in (get w.service.shard.rows (row_key note.dir note.name))) ≡ b) where
  abbrev s : Served Service
  s = in_shard w.service (removed w.service.shard (stamped number (ask.Remove note)) note o b)

  abbrev IsAt : Phase → Type 0
  IsAt phase = (w.actors.clients c).current ≡ Some phase

  -- a mark that was met in a directory
  met : (d : DirId) → Meets c (Dir d) (Noted note) (h.stage (Dir d)) → (h.stage (Dir note.child) ≡ Marked note) ⊎ (is_left (h.stage (Dir note.child)) ≡ true)
  met d m = elim m.1 [ inl was ↦ inl (ap h.stage m.0 ∙ was) | inr left ↦ inr (ap (λ x. is_left (h.stage x)) m.0 ∙ left) ]

  pub list_helps : (dir : DirId) (first : Stamp) → IsAt (Reads (ListHelping dir note first)) → Meets c (Dir dir) (Noted note) (h.stage (Dir dir)) → Goes w h c number moment (ask.Remove note) s (Reads (ListHelping dir note first))
  list_helps dir first is m =
      let r = helped w h c number note later (met dir m) o e b t in
      let bar = no_mark w h past c number moment (Reads (ListHelping dir note first)) is (ask.Remove note) later (λ n e. e) in
      goes_by w h past c number moment (Reads (ListHelping dir note first)) is (ask.Remove note) later s r.keeps (λ y n e mine. bar y n (r.old y n e) mine)
      (replied (call.List dir) first (After (stamped number (ask.Remove note))) (stamped number (ask.Remove note)) (reply.Refused Enoent)) refl (Open (call.List dir) first) (inl refl) tt (
        refl,
        (λ e. cc),
        (
          refl,
          r.others bar,
          tells_after w h past c number moment (Reads (ListHelping dir note first)) is (ask.Remove note) later s r.keeps (call.List dir) first (reply.Refused Enoent)
              (list_gone r.keeps.stage s.contents.shard s.contents.store _ r.keeps.places dir (left_out _ (ap (λ x. is_left (r.keeps.stage x)) (sym m.0) ∙ r.left))) (λ e. cc),
        ),
      )

  pub make_helps : (dir : DirId) (name : List ℕ) (node : Node) (first : Stamp) → IsAt (Writes (MakeHelping dir name node note first)) → Meets c (Dir dir) (Noted note) (h.stage (Dir dir)) → Meets c node HasPut (h.stage node)
      → Goes w h c number moment (ask.Remove note) s (Writes (MakeHelping dir name node note first))
  make_helps dir name node first is m put =
      let r = helped w h c number note later (met dir m) o e b t in
      let bar = no_mark w h past c number moment (Writes (MakeHelping dir name node note first)) is (ask.Remove note) later (λ n e. e) in
      goes_by w h past c number moment (Writes (MakeHelping dir name node note first)) is (ask.Remove note) later s r.keeps (λ y n e mine. bar y n (r.old y n e) mine)
      (Writes (TakingBack dir name node (reply.Refused Enoent) (After (stamped number (ask.Remove note))) first)) refl (Open (maker dir name node) first) (inl refl)
      (tt, r.own ((node, HasPut) ∷ []) (put, tt), tt) (
        refl,
        r.others bar,
        tells_after w h past c number moment (Writes (MakeHelping dir name node note first)) is (ask.Remove note) later s r.keeps (maker dir name node) first (reply.Refused Enoent)
            (make_gone r.keeps.stage s.contents.shard s.contents.store _ r.keeps.places dir name node (left_out _ (ap (λ x. is_left (r.keeps.stage x)) (sym m.0) ∙ r.left))) (λ e. cc),
      )

  pub stat_helps : (dir : DirId) (name : List ℕ) (first : Stamp) → IsAt (Reads (StatHelping dir name note first)) → is_known (h.stage (Dir dir)) ≡ true → Meets c (Dir note.child) (Noted note) (h.stage (Dir note.child))
      → stands first w.run ≡ true → Goes w h c number moment (ask.Remove note) s (Reads (StatHelping dir name note first))
  stat_helps dir name first is known m old =
      let r = helped w h c number note later m.1 o e b t in
      let bar = no_mark w h past c number moment (Reads (StatHelping dir name note first)) is (ask.Remove note) later (λ n e. e) in
      goes_by w h past c number moment (Reads (StatHelping dir name note first)) is (ask.Remove note) later s r.keeps (λ y n e mine. bar y n (r.old y n e) mine)
      (Reads (StatReading dir name first)) refl (Open (call.Stat dir name) first) (inl refl)
      (tt, (r.keeps.knows (Dir dir) known, tt), (begun w h past c number moment (Reads (StatHelping dir name note first)) is (ask.Remove note) later s first (inr old), tt)) (refl, r.others bar)

  pub mark_helps : (dir : DirId) (name : List ℕ) (ts : Ts) (first : Stamp) → IsAt (Removes (MarkHelping dir name note ts first)) → is_known (h.stage (Dir dir)) ≡ true → Meets c (Dir note.child) (Noted note) (h.stage (Dir note.child))
      → Goes w h c number moment (ask.Remove note) s (Removes (MarkHelping dir name note ts first))
  mark_helps dir name ts first is known m =
      let r = helped w h c number note later m.1 o e b t in
      let bar = no_mark w h past c number moment (Removes (MarkHelping dir name note ts first)) is (ask.Remove note) later (λ n e. e) in
      goes_by w h past c number moment (Removes (MarkHelping dir name note ts first)) is (ask.Remove note) later s r.keeps (λ y n e mine. bar y n (r.old y n e) mine)
      (Removes (RowReading dir name (Some ts) first)) refl (Open (call.Rmdir dir name) first) (inl refl) (tt, (r.keeps.knows (Dir dir) known, tt), tt) (refl, r.others bar)
