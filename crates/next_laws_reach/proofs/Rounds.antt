-- By an answer of what is there, the collector's round goes on with what is there.
use Rattle.std.proofs.Common.{◌≡◌, ℕ, suc, ◌+◌, ◌<◌, ◌≤◌, List, [], ◌∷◌, Bool, true, false, refl, arith, inl, inr}
use Rattle.std.specs.Prelude.{if◌then◌else◌, nat_lt}
use Rattle.std.proofs.lemmas.Bool.Decides.{nat_tests}
use Rattle.next_ids.specs.declared.ids.Client.{Client}
use Rattle.next_ids.specs.declared.ids.DirId.{DirId}
use Rattle.next_ids.specs.declared.ids.Node.{Node}
use Rattle.next_ids.specs.declared.counts.Counts.{Counts}
use Rattle.next_steps.specs.declared.answer.Answer.{Answer}
use Rattle.next_steps.specs.declared.answer.Answer.TheVariants as answer
use Rattle.next_steps.specs.declared.strays.Stray.{Stray}
use Rattle.next_steps.specs.declared.strays.Stray.TheVariants.{Owed, Marked, Debt}
use Rattle.next_steps.specs.Rounds.{Visit, RoundPhase, Starting, Listing, Naming, OwnerSettling, OwedDropping, MarkRemoving, MarkDropping, MarkClearing, DebtDropping, DebtClearing, Merging, after_shard, store_done, items_done, next_item, heard_stopped, heard_strays, heard_names, heard_round_as, ask_round}
use Rattle.next_steps.specs.Asks.{place_of}
use Rattle.next_rules.specs.Setups.{AreCounts}
use Rattle.next_laws_order.proofs.Lists.{Every}
use Rattle.next_laws_reach.proofs.There.{IsStorePlace, IsVisited, DirThere, NodeThere, StrayThere, AnswerThere, RoundThere}
use Rattle.next_laws_reach.proofs.Shards.{root_there}

module _ (counts : Counts) (good : AreCounts counts) where
  -- ---- from place to place
  first_store : IsStorePlace counts 64
  first_store = let some = good.stores.0 in let low : 64 < 64 + counts.stores = omega arith in (refl, grind (arith, nat_tests))

  shard-next : (p : ℕ) → IsVisited counts (after_shard counts p)
  shard-next p = by_test (nat_lt (suc p) counts.shards) refl
    where
      by_test : (b : Bool) → nat_lt (suc p) counts.shards ≡ b → IsVisited counts (if b then suc p else 64)
      by_test true t = inl t
      by_test false t = inr first_store

  store-next : (v : Visit) → IsStorePlace counts v.place → RoundThere counts (store_done counts v)
  store-next v h = by_test (nat_lt (suc v.place) (64 + counts.stores)) refl
    where
      by_test : (b : Bool) → nat_lt (suc v.place) (64 + counts.stores) ≡ b → RoundThere counts (if b then Listing (record { clients = v.clients; place = suc v.place }) else Starting)
      by_test true t = let low : 64 ≤ v.place = grind (arith, nat_tests, h.0) in inr (let more : 64 ≤ suc v.place = omega arith in grind (arith, nat_tests), t)
      by_test false t = tt

  items-done : (v : Visit) → IsVisited counts v.place → RoundThere counts (items_done counts v)
  items-done v h = by_test (nat_lt v.place 64) refl h
    where
      by_test : (b : Bool) → nat_lt v.place 64 ≡ b → IsVisited counts v.place → RoundThere counts (if b then Merging v else store_done counts v)
      by_test true t (inl shard) = shard
      by_test true t (inr store) = let low : v.place < 64 = grind (arith, nat_tests) in let high : 64 ≤ v.place = grind (arith, nat_tests, store.0) in absurd (omega arith)
      by_test false t (inl shard) =
          let few = good.shards.1 in
          let low : v.place < counts.shards = grind (arith, nat_tests) in
          let high : 64 ≤ v.place = grind (arith, nat_tests) in
          absurd (omega arith)
      by_test false t (inr store) = store-next v store

  item-next : (v : Visit) (strays : List Stray) → IsVisited counts v.place → Every (StrayThere counts v.place) strays → RoundThere counts (next_item counts v strays)
  item-next v [] h k = items-done v h
  item-next v (Owed node owner home ∷ rest) h k = (h, k.0.0, k.0.1, k.1)
  item-next v (Marked note ∷ rest) h k = (h, k.0, k.1)
  item-next v (Debt node owner ∷ rest) h k = (k.0.0, k.0.1, k.1)

  -- ---- by the answer
  stopped-heard : (a : Answer) → RoundThere counts (heard_stopped a)
  stopped-heard (answer.Clients clients) = inl (root_there counts good)
  stopped-heard _ = tt

  strays-heard : (v : Visit) (a : Answer) → IsVisited counts v.place → AnswerThere counts v.place a → RoundThere counts (heard_strays counts v a)
  strays-heard v (answer.Strays strays) h a = item-next v strays h a
  strays-heard v _ h a = h

  names-heard : (v : Visit) (node : Node) (owner : Client) (home : DirId) (rest : List Stray) (a : Answer) → IsVisited counts v.place → NodeThere counts node → DirThere counts home → Every (StrayThere counts v.place) rest
      → RoundThere counts (heard_names v node owner home rest a)
  names-heard v node owner home rest answer.Yes h n d k = (h, n, k)
  names-heard v node owner home rest answer.No h n d k = (h, n, k)
  names-heard v node owner home rest _ h n d k = (h, n, d, k)

  pub round-heard : (p : RoundPhase) (a : Answer) → RoundThere counts p → AnswerThere counts (place_of (ask_round p)).0 a → RoundThere counts (heard_round_as counts p a)
  round-heard Starting a h r = stopped-heard a
  round-heard (Listing v) a h r = strays-heard v a h r
  round-heard (Naming v node owner home rest) a h r = names-heard v node owner home rest a h.0 h.1 h.2 h.3
  round-heard (OwnerSettling v node rest) a h r = item-next v rest h.0 h.2
  round-heard (OwedDropping v node owner rest) a h r = item-next v rest h.0 h.2
  round-heard (MarkRemoving v note rest) a h r = h
  round-heard (MarkDropping v note rest) a h r = h
  round-heard (MarkClearing v note rest) a h r = item-next v rest h.0 h.2
  round-heard (DebtDropping v node rest) a h r = (h.0, h.2)
  round-heard (DebtClearing v node rest) a h r = item-next v rest (inl h.0) h.1
  round-heard (Merging v) a h r = shard-next v.place
