-- What the entry of a step tells of its ask.
use Rattle.std.proofs.Common.{◌≡◌, ℕ, ◌<◌, true, refl, sym, ap, ◌∙◌, subst, arith}
use Rattle.std.specs.Prelude.{Option, Some, None}
use Rattle.std.proofs.lemmas.Option.{same_Some}
use Rattle.next_ids.specs.declared.ids.Actor.{Actor}
use Rattle.next_steps.specs.declared.ask.Ask.{Ask}
use Rattle.next_steps.specs.declared.entry.Entry.{Entry}
use Rattle.next_steps.specs.Answers.{lists}
use Rattle.next_steps.specs.Asks.{place_of}
use Rattle.next_rules.specs.Contents.{Served, number_after}
use Rattle.next_rules.specs.Actors.{Doing, Nothing, Stops, Leaves, Goes, doing, asked}
use Rattle.next_rules.specs.Worlds.{Service, serve, stamped}
use Rattle.next_actor.specs.States.{is_listed}
use Rattle.next_actor.specs.Standings.{Standing, OfClient, OfRenamer, OfCollector, next_of, HasAsked, has_listed}
use Rattle.next_places.specs.Held.{Held, Step, served, stepped}

pub record Told (last when : ℕ) (ask : Ask) (entry : Entry) : Type 0 where
  pub asks : entry.ask ≡ ask
  pub at : entry.moment ≡ when
  pub newer : last < entry.number

told : (h : Held) (actor : Actor) (ask : Ask) (last place_last moment : ℕ) (step : Step) (o : Option (Served Service)) → stepped h actor ask (number_after last place_last) moment o ≡ Some step → Told last moment ask step.entry
told h actor ask last place_last moment step None e = cc
told h actor ask last place_last moment step (Some s) e =
    let is = same_Some _ step e in
    subst (λ (t : Step). Told last moment ask t.entry) is (record { asks = refl; at = refl; newer = omega arith })

pub entry-told : (h : Held) (actor : Actor) (last moment : ℕ) (ask : Ask) (step : Step) → served h actor last moment ask ≡ Some step → Told last moment ask step.entry
entry-told h actor last moment ask step e =
    told h actor ask last (h.lasts (place_of ask).0) moment step (serve h.service (stamped (number_after last (h.lasts (place_of ask).0)) ask) moment ask) e

pub has-asked : (s : Standing) (last moment : ℕ) (ask : Ask) (entry : Entry) → Told last moment ask entry → Some ask ≡ next_of s moment → HasAsked s entry
has-asked (OfClient counts c p) last moment ask entry t next = ap (λ (a : Ask). Some a) t.asks ∙ next ∙ ap (λ (m : ℕ). asked counts c m p (doing p)) (sym t.at)
has-asked (OfRenamer phase own) last moment ask entry t next = tt
has-asked (OfCollector counts phase own) last moment ask entry t next = tt

listed : (entry : Entry) (what : Doing) → lists entry.ask entry.answer ≡ true → is_listed entry what ≡ true
listed entry Nothing e = refl
listed entry Stops e = refl
listed entry Leaves e = refl
listed entry (Goes phase) e = e

pub has-listed : (s : Standing) (last moment : ℕ) (ask : Ask) (entry : Entry) → Told last moment ask entry → lists ask entry.answer ≡ true → has_listed s entry ≡ true
has-listed (OfClient counts c p) last moment ask entry t e = listed entry (doing p) (ap (λ (a : Ask). lists a entry.answer) t.asks ∙ e)
has-listed (OfRenamer phase own) last moment ask entry t e = refl
has-listed (OfCollector counts phase own) last moment ask entry t e = refl
