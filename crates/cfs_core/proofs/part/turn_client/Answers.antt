use Rattle.std.proofs.Common.{rules, ◌≡◌, ◌++◌, ◌∷◌, [], refl, sym, ap, ◌∙◌, subst}
use Rattle.std.proofs.lemmas.List.Folds.{list_all-append}
use Rattle.cfs_ids.specs.declared.ids.PlaceNo.{PlaceNo}
use Rattle.cfs_steps.specs.declared.entry.Entry.{Entry}
use Rattle.cfs_ids.specs.declared.ids.Actor.TheVariants.{Client as ClientActor}
use Rattle.cfs_rules.specs.Worlds.{Counts, next_ask, hears}
use Rattle.cfs_view.specs.Held.{serve, has_place}
use Rattle.cfs_view.specs.Views.{held, counts_of}
use Rattle.cfs_actor.specs.Clients.{client_of, progress_of}
use Rattle.cfs_core.specs.Reach.{ProgressThere, places_there}
use Rattle.cfs_core.proofs.Alike.{work-counts}
use Rattle.cfs_core.proofs.Listed.{listed}
use Rattle.cfs_core.proofs.Reaching.{asks_there, hears_there}
use Rattle.cfs_core.proofs.Truths.{both}
use Rattle.cfs_core.proofs.part.turn_client.Goals as goal

pub hear-requires-clause-listed : goal.hear-requires-clause-listed
hear-requires-clause-listed c =
    let counts = c.settle.ensures.counts ∙ work-counts (counts_of c.args.places.now) c.args.state.now c.requires.alike in
    let next = c.in_ok-ask.ensures.ask ∙ ap (λ (k : Counts). next_ask k (client_of c.settle.new.self) (progress_of c.settle.new.self)) counts in
    let there = subst (ProgressThere (counts_of c.args.places.now)) (sym c.settle.ensures.progress) c.requires.there in
    rw c.in-Ok.ensures.entry
    (listed (counts_of c.args.places.now) c.requires.sized (held c.args.places.now) c.requires.free (ClientActor c.client.result) (client_of c.settle.new.self) c.last.result (progress_of c.settle.new.self) c.in_ok-ask.ask next c.ask.ensures.going there.current)

pub returns-in-Ok-clause-there : goal.returns-in-Ok-clause-there
returns-in-Ok-clause-there c =
    let counts = counts_of c.args.places.now in
    let h = held c.args.places.now in
    let progress = progress_of c.settle.new.self in
    let known = c.settle.ensures.counts ∙ work-counts counts c.args.state.now c.requires.alike in
    let next = c.in_ok-ask.ensures.ask ∙ ap (λ (k : Counts). next_ask k (client_of c.settle.new.self) progress) known in
    let there = subst (ProgressThere counts) (sym c.settle.ensures.progress) c.requires.there in
    let heard = c.hear.ensures.progress
    ∙ ap (λ (e : Entry). hears progress c.place-place.result e) c.in-Ok.ensures.entry
    ∙ ap (λ (place : PlaceNo). hears progress place (serve h (ClientActor c.client.result) c.last.result c.in_ok-ask.ask).entry) c.place-place.ensures
    in
    subst (ProgressThere counts) (sym heard) (hears_there counts c.requires.sized h c.requires.free c.requires.named (ClientActor c.client.result) (client_of c.settle.new.self) c.last.result progress c.in_ok-ask.ask next there)

pub returns-in-Ok-clause-asked : goal.returns-in-Ok-clause-asked
returns-in-Ok-clause-asked c = λ there.
    let counts = counts_of c.args.places.now in
    let progress = progress_of c.settle.new.self in
    let known = c.settle.ensures.counts ∙ work-counts counts c.args.state.now c.requires.alike in
    let next = c.in_ok-ask.ensures.ask ∙ ap (λ (k : Counts). next_ask k (client_of c.settle.new.self) progress) known in
    let now = subst (ProgressThere counts) (sym c.settle.ensures.progress) c.requires.there in
    let place = asks_there counts c.requires.sized (client_of c.settle.new.self) progress c.in_ok-ask.ask next now in
    let here = ap (λ (p : PlaceNo). has_place counts p.0) c.place-place.ensures ∙ place in
    let more : c.push.new.self.items ≡ c.args.order.now.items ++ c.place-place.result ∷ [] = search rules in
    ap (places_there counts) more ∙ list_all-append (λ (p : PlaceNo). has_place counts p.0) c.args.order.now.items (c.place-place.result ∷ []) ∙ both _ _ there (both _ _ here refl)
