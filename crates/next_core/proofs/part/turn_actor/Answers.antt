use Rattle.std.proofs.Common.{◌<◌, ℕ, ap, ◌∙◌, subst}
use Rattle.next_actor.specs.ActorStates.{standing_of}
use Rattle.next_actor.specs.Standings.{actor_of}
use Rattle.next_places.specs.Views.{held, counts_of}
use Rattle.next_core.specs.Casts.{works_with}
use Rattle.next_core.proofs.Alike.{actor-after, works-after}
use Rattle.next_core.proofs.Entries.{entry-told, has-asked, has-listed}
use Rattle.next_core.proofs.part.turn_actor.Goals as goal

pub hear-requires-clause-asked : goal.hear-requires-clause-asked
hear-requires-clause-asked c =
    let told = entry-told (held c.args.places.now) c.actor.result c.last.result c.args.moment c.in_ok-ask.ask (record { entry = c.in-Ok.entry; held = held c.serve.new.self }) c.in-Ok.ensures.step in
    has-asked (standing_of c.settle.new.self) c.last.result c.args.moment c.in_ok-ask.ask c.in-Ok.entry told c.in_ok-ask.ensures.ask

pub hear-requires-clause-listed : goal.hear-requires-clause-listed
hear-requires-clause-listed c =
    let told = entry-told (held c.args.places.now) c.actor.result c.last.result c.args.moment c.in_ok-ask.ask (record { entry = c.in-Ok.entry; held = held c.serve.new.self }) c.in-Ok.ensures.step in
    has-listed (standing_of c.settle.new.self) c.last.result c.args.moment c.in_ok-ask.ask c.in-Ok.entry told c.in-Ok.ensures.listed

pub hear-requires-clause-newer : goal.hear-requires-clause-newer
hear-requires-clause-newer c =
    let told = entry-told (held c.args.places.now) c.actor.result c.last.result c.args.moment c.in_ok-ask.ask (record { entry = c.in-Ok.entry; held = held c.serve.new.self }) c.in-Ok.ensures.step in
    subst (λ (n : ℕ). n < c.in-Ok.entry.number) c.last.ensures told.newer

pub returns-in-Ok-clause-actor : goal.returns-in-Ok-clause-actor
returns-in-Ok-clause-actor c =
    ap actor_of c.hear.ensures ∙ actor-after (standing_of c.settle.new.self) c.place-place.result c.in-Ok.entry ∙ ap actor_of c.settle.ensures.standing

pub returns-in-Ok-clause-alike : goal.returns-in-Ok-clause-alike
returns-in-Ok-clause-alike c =
    ap (works_with (counts_of c.args.places.now)) c.hear.ensures
    ∙ works-after (counts_of c.args.places.now) (standing_of c.settle.new.self) c.place-place.result c.in-Ok.entry
    (ap (works_with (counts_of c.args.places.now)) c.settle.ensures.standing ∙ c.requires.alike)
