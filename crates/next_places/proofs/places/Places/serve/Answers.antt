use Rattle.std.proofs.Common.{◌≡◌, ◌∙◌, sym, ap, get_or, arith}
use Rattle.next_ids.specs.declared.ids.PlaceNo.{PlaceNo}
use Rattle.next_steps.specs.Asks.{place_of}
use Rattle.next_places.specs.declared.place.Place.TheVariants as kind
use Rattle.next_places.specs.PlaceLists.{index_in}
use Rattle.next_places.specs.Views.{places_of}
use Rattle.next_places.proofs.Changing.{number_here, full_here}
use Rattle.next_places.proofs.Serving.{stands_there, shard_counts, shard_step, shard_some, shard_lists, shard_kept, shard_service, store_counts, store_step, store_some, store_lists, store_service, desk_counts, desk_step, desk_none, desk_lists, desk_service, roster_counts, roster_step, roster_some, roster_lists, roster_service}
use Rattle.next_places.proofs.places.Places.serve.Goals as goal

pub index_mut-requires : goal.index_mut-requires
index_mut-requires c =
    let lt = stands_there (places_of c.args.self.now) c.requires.service.all (place_of c.args.ask.now).0 c.requires.there in
    let spot : c.index_of-index.result ≡ index_in (places_of c.args.self.now) (place_of c.args.ask.now).0 = c.index_of-index.ensures ∙ ap (λ (place : PlaceNo). index_in (places_of c.args.self.now) place.0) c.place.ensures in
    omega (arith, lt, spot)

pub serve-requires : goal.serve-requires
serve-requires c =
    let ps = places_of c.args.self.now in
    let spot : c.index_of-index.result ≡ index_in ps (place_of c.args.ask.now).0 = c.index_of-index.ensures ∙ ap (λ (place : PlaceNo). index_in ps place.0) c.place.ensures in
    let lt = stands_there ps c.requires.service.all (place_of c.args.ask.now).0 c.requires.there in
    let is : kind.Shard c.in-Shard.shard ≡ get_or ps (index_in ps (place_of c.args.ask.now).0) (kind.Shard c.in-Shard.shard) = rw spot at (rw c.in-Shard.is at c.index_mut.ensures.value) in
    record { here = sym (number_here ps (place_of c.args.ask.now).0 (kind.Shard c.in-Shard.shard) lt is) }

pub returns-in-Shard-clause-step : goal.returns-in-Shard-clause-step
returns-in-Shard-clause-step c =
    let ps = places_of c.args.self.now in
    let spot : c.index_of-index.result ≡ index_in ps (place_of c.args.ask.now).0 = c.index_of-index.ensures ∙ ap (λ (place : PlaceNo). index_in ps place.0) c.place.ensures in
    let lt = stands_there ps c.requires.service.all (place_of c.args.ask.now).0 c.requires.there in
    let is : kind.Shard c.in-Shard.shard ≡ get_or ps (index_in ps (place_of c.args.ask.now).0) (kind.Shard c.in-Shard.shard) = rw spot at (rw c.in-Shard.is at c.index_mut.ensures.value) in
    rw spot (shard_step ps c.requires.service.all c.args.ask.now lt c.in-Shard.shard c.serve.new.self is c.serve.ensures.index c.args.actor c.args.last c.args.moment c.serve.result c.serve.ensures.entry c.serve.ensures.contents c.serve.ensures.log c.serve.ensures.last)

pub returns-in-Shard-clause-listed : goal.returns-in-Shard-clause-listed
returns-in-Shard-clause-listed c =
    let ps = places_of c.args.self.now in
    let spot : c.index_of-index.result ≡ index_in ps (place_of c.args.ask.now).0 = c.index_of-index.ensures ∙ ap (λ (place : PlaceNo). index_in ps place.0) c.place.ensures in
    let lt = stands_there ps c.requires.service.all (place_of c.args.ask.now).0 c.requires.there in
    let is : kind.Shard c.in-Shard.shard ≡ get_or ps (index_in ps (place_of c.args.ask.now).0) (kind.Shard c.in-Shard.shard) = rw spot at (rw c.in-Shard.is at c.index_mut.ensures.value) in
    shard_lists ps c.requires.service.all c.args.ask.now lt c.in-Shard.shard c.serve.new.self is c.serve.ensures.index c.args.actor c.args.last c.args.moment c.requires.suits c.serve.result c.serve.ensures.entry

pub returns-in-Shard-clause-full : goal.returns-in-Shard-clause-full
returns-in-Shard-clause-full c =
    let ps = places_of c.args.self.now in
    let spot : c.index_of-index.result ≡ index_in ps (place_of c.args.ask.now).0 = c.index_of-index.ensures ∙ ap (λ (place : PlaceNo). index_in ps place.0) c.place.ensures in
    let lt = stands_there ps c.requires.service.all (place_of c.args.ask.now).0 c.requires.there in
    let is : kind.Shard c.in-Shard.shard ≡ get_or ps (index_in ps (place_of c.args.ask.now).0) (kind.Shard c.in-Shard.shard) = rw spot at (rw c.in-Shard.is at c.index_mut.ensures.value) in
    let same = full_here ps (place_of c.args.ask.now).0 (kind.Shard c.in-Shard.shard) (kind.Shard c.in-Shard.shard) lt is c.args.last in
    ((λ e. same ∙ c.serve.ensures.full.0 e), (λ e. c.serve.ensures.full.1 (sym same ∙ e)))

pub returns-in-Shard-clause-not_yet : goal.returns-in-Shard-clause-not_yet
returns-in-Shard-clause-not_yet c =
    let ps = places_of c.args.self.now in
    let spot : c.index_of-index.result ≡ index_in ps (place_of c.args.ask.now).0 = c.index_of-index.ensures ∙ ap (λ (place : PlaceNo). index_in ps place.0) c.place.ensures in
    let lt = stands_there ps c.requires.service.all (place_of c.args.ask.now).0 c.requires.there in
    let is : kind.Shard c.in-Shard.shard ≡ get_or ps (index_in ps (place_of c.args.ask.now).0) (kind.Shard c.in-Shard.shard) = rw spot at (rw c.in-Shard.is at c.index_mut.ensures.value) in
    ((λ e. absurd (c.serve.ensures.ready e)), (λ h. absurd (shard_some ps c.requires.service.all c.args.ask.now lt c.in-Shard.shard c.serve.new.self is c.serve.ensures.index c.args.actor c.args.last c.args.moment h.1)))

pub returns-in-Shard-clause-err : goal.returns-in-Shard-clause-err
returns-in-Shard-clause-err c =
    let ps = places_of c.args.self.now in
    let spot : c.index_of-index.result ≡ index_in ps (place_of c.args.ask.now).0 = c.index_of-index.ensures ∙ ap (λ (place : PlaceNo). index_in ps place.0) c.place.ensures in
    let lt = stands_there ps c.requires.service.all (place_of c.args.ask.now).0 c.requires.there in
    let is : kind.Shard c.in-Shard.shard ≡ get_or ps (index_in ps (place_of c.args.ask.now).0) (kind.Shard c.in-Shard.shard) = rw spot at (rw c.in-Shard.is at c.index_mut.ensures.value) in
    rw spot (shard_kept ps c.requires.service.all c.args.ask.now lt c.in-Shard.shard c.serve.new.self is c.serve.ensures.index c.serve.result c.serve.ensures.err)

pub returns-in-Shard-clause-counts : goal.returns-in-Shard-clause-counts
returns-in-Shard-clause-counts c =
    let ps = places_of c.args.self.now in
    let spot : c.index_of-index.result ≡ index_in ps (place_of c.args.ask.now).0 = c.index_of-index.ensures ∙ ap (λ (place : PlaceNo). index_in ps place.0) c.place.ensures in
    let lt = stands_there ps c.requires.service.all (place_of c.args.ask.now).0 c.requires.there in
    let is : kind.Shard c.in-Shard.shard ≡ get_or ps (index_in ps (place_of c.args.ask.now).0) (kind.Shard c.in-Shard.shard) = rw spot at (rw c.in-Shard.is at c.index_mut.ensures.value) in
    rw spot (shard_counts ps c.requires.service.all c.args.ask.now lt c.in-Shard.shard c.serve.new.self is c.serve.ensures.index)

pub returns-in-Shard-clause-service : goal.returns-in-Shard-clause-service
returns-in-Shard-clause-service c =
    let ps = places_of c.args.self.now in
    let spot : c.index_of-index.result ≡ index_in ps (place_of c.args.ask.now).0 = c.index_of-index.ensures ∙ ap (λ (place : PlaceNo). index_in ps place.0) c.place.ensures in
    let lt = stands_there ps c.requires.service.all (place_of c.args.ask.now).0 c.requires.there in
    let is : kind.Shard c.in-Shard.shard ≡ get_or ps (index_in ps (place_of c.args.ask.now).0) (kind.Shard c.in-Shard.shard) = rw spot at (rw c.in-Shard.is at c.index_mut.ensures.value) in
    rw spot (record { all = shard_service ps c.requires.service.all c.args.ask.now lt c.in-Shard.shard c.serve.new.self is c.serve.ensures.index c.args.actor c.args.last c.args.moment c.serve.result c.serve.ensures.contents c.serve.ensures.err; counted = c.requires.service.counted ∙ sym (ap (λ counts. counts.shards) (shard_counts ps c.requires.service.all c.args.ask.now lt c.in-Shard.shard c.serve.new.self is c.serve.ensures.index)) })

pub serve-requires-in-Store : goal.serve-requires-in-Store
serve-requires-in-Store c =
    let ps = places_of c.args.self.now in
    let spot : c.index_of-index.result ≡ index_in ps (place_of c.args.ask.now).0 = c.index_of-index.ensures ∙ ap (λ (place : PlaceNo). index_in ps place.0) c.place.ensures in
    let lt = stands_there ps c.requires.service.all (place_of c.args.ask.now).0 c.requires.there in
    let is : kind.Store c.in-Store.store ≡ get_or ps (index_in ps (place_of c.args.ask.now).0) (kind.Store c.in-Store.store) = rw spot at (rw c.in-Store.is at c.index_mut.ensures.value) in
    record { here = sym (number_here ps (place_of c.args.ask.now).0 (kind.Store c.in-Store.store) lt is) }

pub returns-in-Store-clause-step : goal.returns-in-Store-clause-step
returns-in-Store-clause-step c =
    let ps = places_of c.args.self.now in
    let spot : c.index_of-index.result ≡ index_in ps (place_of c.args.ask.now).0 = c.index_of-index.ensures ∙ ap (λ (place : PlaceNo). index_in ps place.0) c.place.ensures in
    let lt = stands_there ps c.requires.service.all (place_of c.args.ask.now).0 c.requires.there in
    let is : kind.Store c.in-Store.store ≡ get_or ps (index_in ps (place_of c.args.ask.now).0) (kind.Store c.in-Store.store) = rw spot at (rw c.in-Store.is at c.index_mut.ensures.value) in
    rw spot (store_step ps c.requires.service.all c.args.ask.now lt c.in-Store.store c.serve-in-Store.new.self is c.serve-in-Store.ensures.index c.args.actor c.args.last c.args.moment c.serve-in-Store.result c.serve-in-Store.ensures.entry c.serve-in-Store.ensures.contents c.serve-in-Store.ensures.log c.serve-in-Store.ensures.last)

pub returns-in-Store-clause-listed : goal.returns-in-Store-clause-listed
returns-in-Store-clause-listed c =
    let ps = places_of c.args.self.now in
    let spot : c.index_of-index.result ≡ index_in ps (place_of c.args.ask.now).0 = c.index_of-index.ensures ∙ ap (λ (place : PlaceNo). index_in ps place.0) c.place.ensures in
    let lt = stands_there ps c.requires.service.all (place_of c.args.ask.now).0 c.requires.there in
    let is : kind.Store c.in-Store.store ≡ get_or ps (index_in ps (place_of c.args.ask.now).0) (kind.Store c.in-Store.store) = rw spot at (rw c.in-Store.is at c.index_mut.ensures.value) in
    store_lists ps c.requires.service.all c.args.ask.now lt c.in-Store.store c.serve-in-Store.new.self is c.serve-in-Store.ensures.index c.args.actor c.args.last c.args.moment c.requires.suits c.serve-in-Store.result c.serve-in-Store.ensures.entry

pub returns-in-Store-clause-full : goal.returns-in-Store-clause-full
returns-in-Store-clause-full c =
    let ps = places_of c.args.self.now in
    let spot : c.index_of-index.result ≡ index_in ps (place_of c.args.ask.now).0 = c.index_of-index.ensures ∙ ap (λ (place : PlaceNo). index_in ps place.0) c.place.ensures in
    let lt = stands_there ps c.requires.service.all (place_of c.args.ask.now).0 c.requires.there in
    let is : kind.Store c.in-Store.store ≡ get_or ps (index_in ps (place_of c.args.ask.now).0) (kind.Store c.in-Store.store) = rw spot at (rw c.in-Store.is at c.index_mut.ensures.value) in
    let same = full_here ps (place_of c.args.ask.now).0 (kind.Store c.in-Store.store) (kind.Store c.in-Store.store) lt is c.args.last in
    ((λ e. same ∙ c.serve-in-Store.ensures.full.0 e), (λ e. c.serve-in-Store.ensures.full.1 (sym same ∙ e)))

pub returns-in-Store-clause-not_yet : goal.returns-in-Store-clause-not_yet
returns-in-Store-clause-not_yet c =
    let ps = places_of c.args.self.now in
    let spot : c.index_of-index.result ≡ index_in ps (place_of c.args.ask.now).0 = c.index_of-index.ensures ∙ ap (λ (place : PlaceNo). index_in ps place.0) c.place.ensures in
    let lt = stands_there ps c.requires.service.all (place_of c.args.ask.now).0 c.requires.there in
    let is : kind.Store c.in-Store.store ≡ get_or ps (index_in ps (place_of c.args.ask.now).0) (kind.Store c.in-Store.store) = rw spot at (rw c.in-Store.is at c.index_mut.ensures.value) in
    ((λ e. absurd (c.serve-in-Store.ensures.ready e)), (λ h. absurd (store_some ps c.requires.service.all c.args.ask.now lt c.in-Store.store c.serve-in-Store.new.self is c.serve-in-Store.ensures.index c.args.actor c.args.last c.args.moment h.1)))

pub returns-in-Store-clause-counts : goal.returns-in-Store-clause-counts
returns-in-Store-clause-counts c =
    let ps = places_of c.args.self.now in
    let spot : c.index_of-index.result ≡ index_in ps (place_of c.args.ask.now).0 = c.index_of-index.ensures ∙ ap (λ (place : PlaceNo). index_in ps place.0) c.place.ensures in
    let lt = stands_there ps c.requires.service.all (place_of c.args.ask.now).0 c.requires.there in
    let is : kind.Store c.in-Store.store ≡ get_or ps (index_in ps (place_of c.args.ask.now).0) (kind.Store c.in-Store.store) = rw spot at (rw c.in-Store.is at c.index_mut.ensures.value) in
    rw spot (store_counts ps c.requires.service.all c.args.ask.now lt c.in-Store.store c.serve-in-Store.new.self is c.serve-in-Store.ensures.index)

pub returns-in-Store-clause-service : goal.returns-in-Store-clause-service
returns-in-Store-clause-service c =
    let ps = places_of c.args.self.now in
    let spot : c.index_of-index.result ≡ index_in ps (place_of c.args.ask.now).0 = c.index_of-index.ensures ∙ ap (λ (place : PlaceNo). index_in ps place.0) c.place.ensures in
    let lt = stands_there ps c.requires.service.all (place_of c.args.ask.now).0 c.requires.there in
    let is : kind.Store c.in-Store.store ≡ get_or ps (index_in ps (place_of c.args.ask.now).0) (kind.Store c.in-Store.store) = rw spot at (rw c.in-Store.is at c.index_mut.ensures.value) in
    rw spot (record { all = store_service ps c.requires.service.all c.args.ask.now lt c.in-Store.store c.serve-in-Store.new.self is c.serve-in-Store.ensures.index c.args.actor c.args.last c.args.moment c.serve-in-Store.result c.serve-in-Store.ensures.contents c.serve-in-Store.ensures.err; counted = c.requires.service.counted ∙ sym (ap (λ counts. counts.shards) (store_counts ps c.requires.service.all c.args.ask.now lt c.in-Store.store c.serve-in-Store.new.self is c.serve-in-Store.ensures.index)) })

pub returns-in-Desk-clause-step : goal.returns-in-Desk-clause-step
returns-in-Desk-clause-step c =
    let ps = places_of c.args.self.now in
    let spot : c.index_of-index.result ≡ index_in ps (place_of c.args.ask.now).0 = c.index_of-index.ensures ∙ ap (λ (place : PlaceNo). index_in ps place.0) c.place.ensures in
    let lt = stands_there ps c.requires.service.all (place_of c.args.ask.now).0 c.requires.there in
    let is : kind.Desk c.in-Desk.desk ≡ get_or ps (index_in ps (place_of c.args.ask.now).0) (kind.Desk c.in-Desk.desk) = rw spot at (rw c.in-Desk.is at c.index_mut.ensures.value) in
    rw spot (desk_step ps c.requires.service.all c.args.ask.now lt c.in-Desk.desk c.serve-in-Desk.new.self is c.args.actor c.args.last c.args.moment c.serve-in-Desk.result c.serve-in-Desk.ensures.entry c.serve-in-Desk.ensures.contents c.serve-in-Desk.ensures.log c.serve-in-Desk.ensures.last)

pub returns-in-Desk-clause-listed : goal.returns-in-Desk-clause-listed
returns-in-Desk-clause-listed c =
    let ps = places_of c.args.self.now in
    let spot : c.index_of-index.result ≡ index_in ps (place_of c.args.ask.now).0 = c.index_of-index.ensures ∙ ap (λ (place : PlaceNo). index_in ps place.0) c.place.ensures in
    let lt = stands_there ps c.requires.service.all (place_of c.args.ask.now).0 c.requires.there in
    let is : kind.Desk c.in-Desk.desk ≡ get_or ps (index_in ps (place_of c.args.ask.now).0) (kind.Desk c.in-Desk.desk) = rw spot at (rw c.in-Desk.is at c.index_mut.ensures.value) in
    desk_lists ps c.requires.service.all c.args.ask.now lt c.in-Desk.desk c.serve-in-Desk.new.self is c.args.actor c.args.last c.args.moment c.requires.suits c.serve-in-Desk.result c.serve-in-Desk.ensures.entry

pub returns-in-Desk-clause-full : goal.returns-in-Desk-clause-full
returns-in-Desk-clause-full c =
    let ps = places_of c.args.self.now in
    let spot : c.index_of-index.result ≡ index_in ps (place_of c.args.ask.now).0 = c.index_of-index.ensures ∙ ap (λ (place : PlaceNo). index_in ps place.0) c.place.ensures in
    let lt = stands_there ps c.requires.service.all (place_of c.args.ask.now).0 c.requires.there in
    let is : kind.Desk c.in-Desk.desk ≡ get_or ps (index_in ps (place_of c.args.ask.now).0) (kind.Desk c.in-Desk.desk) = rw spot at (rw c.in-Desk.is at c.index_mut.ensures.value) in
    let same = full_here ps (place_of c.args.ask.now).0 (kind.Desk c.in-Desk.desk) (kind.Desk c.in-Desk.desk) lt is c.args.last in
    ((λ e. same ∙ c.serve-in-Desk.ensures.full.0 e), (λ e. c.serve-in-Desk.ensures.full.1 (sym same ∙ e)))

pub returns-in-Desk-clause-not_yet : goal.returns-in-Desk-clause-not_yet
returns-in-Desk-clause-not_yet c =
    let ps = places_of c.args.self.now in
    let spot : c.index_of-index.result ≡ index_in ps (place_of c.args.ask.now).0 = c.index_of-index.ensures ∙ ap (λ (place : PlaceNo). index_in ps place.0) c.place.ensures in
    let lt = stands_there ps c.requires.service.all (place_of c.args.ask.now).0 c.requires.there in
    let is : kind.Desk c.in-Desk.desk ≡ get_or ps (index_in ps (place_of c.args.ask.now).0) (kind.Desk c.in-Desk.desk) = rw spot at (rw c.in-Desk.is at c.index_mut.ensures.value) in
    let same = full_here ps (place_of c.args.ask.now).0 (kind.Desk c.in-Desk.desk) (kind.Desk c.in-Desk.desk) lt is c.args.last in
    let none = desk_none ps c.requires.service.all c.args.ask.now lt c.in-Desk.desk c.serve-in-Desk.new.self is c.args.actor c.args.last c.args.moment in
    ((λ e. let h = c.serve-in-Desk.ensures.not_yet.0 e in (same ∙ h.0, none.0 h.1)), (λ h. c.serve-in-Desk.ensures.not_yet.1 (sym same ∙ h.0, none.1 h.1)))

pub returns-in-Desk-clause-counts : goal.returns-in-Desk-clause-counts
returns-in-Desk-clause-counts c =
    let ps = places_of c.args.self.now in
    let spot : c.index_of-index.result ≡ index_in ps (place_of c.args.ask.now).0 = c.index_of-index.ensures ∙ ap (λ (place : PlaceNo). index_in ps place.0) c.place.ensures in
    let lt = stands_there ps c.requires.service.all (place_of c.args.ask.now).0 c.requires.there in
    let is : kind.Desk c.in-Desk.desk ≡ get_or ps (index_in ps (place_of c.args.ask.now).0) (kind.Desk c.in-Desk.desk) = rw spot at (rw c.in-Desk.is at c.index_mut.ensures.value) in
    rw spot (desk_counts ps c.requires.service.all c.args.ask.now lt c.in-Desk.desk c.serve-in-Desk.new.self is)

pub returns-in-Desk-clause-service : goal.returns-in-Desk-clause-service
returns-in-Desk-clause-service c =
    let ps = places_of c.args.self.now in
    let spot : c.index_of-index.result ≡ index_in ps (place_of c.args.ask.now).0 = c.index_of-index.ensures ∙ ap (λ (place : PlaceNo). index_in ps place.0) c.place.ensures in
    let lt = stands_there ps c.requires.service.all (place_of c.args.ask.now).0 c.requires.there in
    let is : kind.Desk c.in-Desk.desk ≡ get_or ps (index_in ps (place_of c.args.ask.now).0) (kind.Desk c.in-Desk.desk) = rw spot at (rw c.in-Desk.is at c.index_mut.ensures.value) in
    rw spot (record { all = desk_service ps c.requires.service.all c.args.ask.now lt c.in-Desk.desk c.serve-in-Desk.new.self is; counted = c.requires.service.counted ∙ sym (ap (λ counts. counts.shards) (desk_counts ps c.requires.service.all c.args.ask.now lt c.in-Desk.desk c.serve-in-Desk.new.self is)) })

pub returns-in-Roster-clause-step : goal.returns-in-Roster-clause-step
returns-in-Roster-clause-step c =
    let ps = places_of c.args.self.now in
    let spot : c.index_of-index.result ≡ index_in ps (place_of c.args.ask.now).0 = c.index_of-index.ensures ∙ ap (λ (place : PlaceNo). index_in ps place.0) c.place.ensures in
    let lt = stands_there ps c.requires.service.all (place_of c.args.ask.now).0 c.requires.there in
    let is : kind.Roster c.in-Roster.roster ≡ get_or ps (index_in ps (place_of c.args.ask.now).0) (kind.Roster c.in-Roster.roster) = rw spot at (rw c.in-Roster.is at c.index_mut.ensures.value) in
    rw spot (roster_step ps c.requires.service.all c.args.ask.now lt c.in-Roster.roster c.serve-in-Roster.new.self is c.args.actor c.args.last c.args.moment c.serve-in-Roster.result c.serve-in-Roster.ensures.entry c.serve-in-Roster.ensures.contents c.serve-in-Roster.ensures.log c.serve-in-Roster.ensures.last)

pub returns-in-Roster-clause-listed : goal.returns-in-Roster-clause-listed
returns-in-Roster-clause-listed c =
    let ps = places_of c.args.self.now in
    let spot : c.index_of-index.result ≡ index_in ps (place_of c.args.ask.now).0 = c.index_of-index.ensures ∙ ap (λ (place : PlaceNo). index_in ps place.0) c.place.ensures in
    let lt = stands_there ps c.requires.service.all (place_of c.args.ask.now).0 c.requires.there in
    let is : kind.Roster c.in-Roster.roster ≡ get_or ps (index_in ps (place_of c.args.ask.now).0) (kind.Roster c.in-Roster.roster) = rw spot at (rw c.in-Roster.is at c.index_mut.ensures.value) in
    roster_lists ps c.requires.service.all c.args.ask.now lt c.in-Roster.roster c.serve-in-Roster.new.self is c.args.actor c.args.last c.args.moment c.requires.suits c.serve-in-Roster.result c.serve-in-Roster.ensures.entry

pub returns-in-Roster-clause-full : goal.returns-in-Roster-clause-full
returns-in-Roster-clause-full c =
    let ps = places_of c.args.self.now in
    let spot : c.index_of-index.result ≡ index_in ps (place_of c.args.ask.now).0 = c.index_of-index.ensures ∙ ap (λ (place : PlaceNo). index_in ps place.0) c.place.ensures in
    let lt = stands_there ps c.requires.service.all (place_of c.args.ask.now).0 c.requires.there in
    let is : kind.Roster c.in-Roster.roster ≡ get_or ps (index_in ps (place_of c.args.ask.now).0) (kind.Roster c.in-Roster.roster) = rw spot at (rw c.in-Roster.is at c.index_mut.ensures.value) in
    let same = full_here ps (place_of c.args.ask.now).0 (kind.Roster c.in-Roster.roster) (kind.Roster c.in-Roster.roster) lt is c.args.last in
    ((λ e. same ∙ c.serve-in-Roster.ensures.full.0 e), (λ e. c.serve-in-Roster.ensures.full.1 (sym same ∙ e)))

pub returns-in-Roster-clause-not_yet : goal.returns-in-Roster-clause-not_yet
returns-in-Roster-clause-not_yet c =
    let ps = places_of c.args.self.now in
    let spot : c.index_of-index.result ≡ index_in ps (place_of c.args.ask.now).0 = c.index_of-index.ensures ∙ ap (λ (place : PlaceNo). index_in ps place.0) c.place.ensures in
    let lt = stands_there ps c.requires.service.all (place_of c.args.ask.now).0 c.requires.there in
    let is : kind.Roster c.in-Roster.roster ≡ get_or ps (index_in ps (place_of c.args.ask.now).0) (kind.Roster c.in-Roster.roster) = rw spot at (rw c.in-Roster.is at c.index_mut.ensures.value) in
    ((λ e. absurd (c.serve-in-Roster.ensures.ready e)), (λ h. absurd (roster_some ps c.requires.service.all c.args.ask.now lt c.in-Roster.roster c.serve-in-Roster.new.self is c.args.actor c.args.last c.args.moment h.1)))

pub returns-in-Roster-clause-counts : goal.returns-in-Roster-clause-counts
returns-in-Roster-clause-counts c =
    let ps = places_of c.args.self.now in
    let spot : c.index_of-index.result ≡ index_in ps (place_of c.args.ask.now).0 = c.index_of-index.ensures ∙ ap (λ (place : PlaceNo). index_in ps place.0) c.place.ensures in
    let lt = stands_there ps c.requires.service.all (place_of c.args.ask.now).0 c.requires.there in
    let is : kind.Roster c.in-Roster.roster ≡ get_or ps (index_in ps (place_of c.args.ask.now).0) (kind.Roster c.in-Roster.roster) = rw spot at (rw c.in-Roster.is at c.index_mut.ensures.value) in
    rw spot (roster_counts ps c.requires.service.all c.args.ask.now lt c.in-Roster.roster c.serve-in-Roster.new.self is)

pub returns-in-Roster-clause-service : goal.returns-in-Roster-clause-service
returns-in-Roster-clause-service c =
    let ps = places_of c.args.self.now in
    let spot : c.index_of-index.result ≡ index_in ps (place_of c.args.ask.now).0 = c.index_of-index.ensures ∙ ap (λ (place : PlaceNo). index_in ps place.0) c.place.ensures in
    let lt = stands_there ps c.requires.service.all (place_of c.args.ask.now).0 c.requires.there in
    let is : kind.Roster c.in-Roster.roster ≡ get_or ps (index_in ps (place_of c.args.ask.now).0) (kind.Roster c.in-Roster.roster) = rw spot at (rw c.in-Roster.is at c.index_mut.ensures.value) in
    rw spot (record { all = roster_service ps c.requires.service.all c.args.ask.now lt c.in-Roster.roster c.serve-in-Roster.new.self is; counted = c.requires.service.counted ∙ sym (ap (λ counts. counts.shards) (roster_counts ps c.requires.service.all c.args.ask.now lt c.in-Roster.roster c.serve-in-Roster.new.self is)) })
