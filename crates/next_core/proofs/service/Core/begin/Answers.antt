use Rattle.std.proofs.Common.{◌≡◌, [], reverse, sym, ap, ◌∙◌, subst, List}
use Rattle.std.specs.List.{list_all}
use Rattle.next_ids.specs.declared.ids.PlaceNo.{PlaceNo}
use Rattle.next_ids.specs.declared.counts.Counts.{Counts}
use Rattle.next_actor.specs.Standings.{Standing}
use Rattle.next_places.specs.Held.{Held, opening_held}
use Rattle.next_places.specs.Views.{held, counts_of}
use Rattle.next_core.specs.Casts.{standings, actors_in, clients_in, works_with}
use Rattle.next_core.specs.Counted.{IsCounted}
use Rattle.next_core.specs.Opening.{counts_in, opening_cast}
use Rattle.next_core.specs.Reached.{IsReached, places_there}
use Rattle.next_core.specs.Weave.{world_from}
use Rattle.next_core.proofs.Opened.{opening-alike, opening-clients, opening-world, opening-reached, opening-counted}
use Rattle.next_core.proofs.service.Core.begin.Goals as goal

pub invariant_of-result : goal.invariant_of-result
invariant_of-result c =
    let script = c.args.script.now in
    let counts = counts_in script in
    let tries = c.args.tries in
    let cast = opening_cast tries counts script.stops script.commands in
    let places = c.in_ok-new.field-0 in
    let same = c.in_ok-new.ensures.counts in
    let opens = c.in_ok-new.ensures.held in
    let all : standings c.in_ok-states_of.field-0.items ≡ cast = c.in_ok-states_of.ensures ∙ ap (opening_cast tries counts script.stops) c.as_slice-lists.ensures.same in
    let none = c.new-2.ensures.items in
    let world : world_from (reverse c.new-2.result.items) (held places) (actors_in (standings c.in_ok-states_of.field-0.items)) ≡ world_from [] opening_held (actors_in cast) =
    ap (λ (o : List PlaceNo). world_from (reverse o) (held places) (actors_in (standings c.in_ok-states_of.field-0.items))) none
    ∙ ap (λ (h : Held). world_from [] h (actors_in (standings c.in_ok-states_of.field-0.items))) opens
    ∙ ap (λ (ss : List Standing). world_from [] opening_held (actors_in ss)) all
    in
    record {
      sound = record {
        service = c.in_ok-new.ensures.service;
        alike = ap (λ (k : Counts). list_all (works_with k) (standings c.in_ok-states_of.field-0.items)) same
            ∙ ap (list_all (works_with counts)) all ∙ opening-alike tries counts script.stops script.commands;
        counted = subst (λ (o : List PlaceNo). IsCounted (reverse o) (held places) (actors_in (standings c.in_ok-states_of.field-0.items))) (sym none)
            (subst (λ (h : Held). IsCounted [] h (actors_in (standings c.in_ok-states_of.field-0.items))) (sym opens)
            (subst (λ (ss : List Standing). IsCounted [] opening_held (actors_in ss)) (sym all) (opening-counted tries script)));
        asked = ap (places_there (counts_of places)) none;
        reached = ∣ subst (λ (k : Counts). IsReached k (world_from (reverse c.new-2.result.items) (held places) (actors_in (standings c.in_ok-states_of.field-0.items)))) (sym same)
            (subst (IsReached counts) (sym world) (opening-reached tries script c.requires.counts)) ∣₁;
      };
    }

pub returns-clause-world : goal.returns-clause-world
returns-clause-world c =
    let script = c.args.script.now in
    let all = c.in_ok-states_of.ensures ∙ ap (opening_cast c.args.tries (counts_in script) script.stops) c.as_slice-lists.ensures.same in
    ap (λ (o : List PlaceNo). world_from (reverse o) (held c.in_ok-new.field-0) (actors_in (standings c.in_ok-states_of.field-0.items))) c.new-2.ensures.items
    ∙ ap (λ (h : Held). world_from [] h (actors_in (standings c.in_ok-states_of.field-0.items))) c.in_ok-new.ensures.held
    ∙ ap (λ (ss : List Standing). world_from [] opening_held (actors_in ss)) all
    ∙ opening-world c.args.tries script

pub returns-clause-members : goal.returns-clause-members
returns-clause-members c =
    let script = c.args.script.now in
    let all = c.in_ok-states_of.ensures ∙ ap (opening_cast c.args.tries (counts_in script) script.stops) c.as_slice-lists.ensures.same in
    ap clients_in all ∙ opening-clients c.args.tries (counts_in script) script.stops script.commands
