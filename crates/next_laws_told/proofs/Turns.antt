-- What holds of every client's past in each run about which a ledger is right.
use Rattle.std.proofs.Common.{◌≡◌, ℕ, List, [], ◌∷◌, ◌++◌, Bool, true, refl, sym, ◌∙◌, subst, arith, inl, inr, append_assoc}
use Rattle.std.specs.List.{list_all}
use Rattle.std.proofs.lemmas.Bool.Decides.{nat_tests}
use Rattle.std.proofs.lemmas.List.Folds.{list_all-append}
use Rattle.std.proofs.lemmas.List.{append-nil}
use Rattle.std.proofs.lemmas.Bool.{and_parts}
use Rattle.next_ids.specs.declared.counts.Counts.{Counts}
use Rattle.next_ids.specs.declared.ids.PlaceNo.{PlaceNo}
use Rattle.next_steps.specs.declared.entry.Entry.{Entry}
use Rattle.next_steps.specs.Ends.{stamp_of}
use Rattle.next_rules.specs.Actors.{starts}
use Rattle.next_rules.specs.Histories.{is_at}
use Rattle.next_rules.specs.Setups.{AreCounts}
use Rattle.next_rules.specs.Worlds.{World, Turn, Setup, turn, run_of, opening, played}
use Rattle.next_laws_order.proofs.Stamps.{IsLow, fresh_step}
use Rattle.next_laws_order.proofs.Turns.{played-holds}
use Rattle.next_laws_told.specs.Ledgers.{Ledger, ClientTold, TurnTold, IsRight}
use Rattle.next_laws_told.proofs.Pasts.{ClientPast}
use Rattle.next_laws_told.proofs.Steps.{told-past}

-- ---- runs
run_of-append : (counts : Counts) (before after : List Turn) (w : World) → run_of counts (before ++ after) w ≡ run_of counts after (run_of counts before w)
run_of-append counts [] after w = refl
run_of-append counts (t ∷ before) after w = run_of-append counts before after (turn counts w t)

all_front : {A : Type 0} (p : A → Bool) (xs ys : List A) → list_all p (xs ++ ys) ≡ true → list_all p xs ≡ true
all_front p xs ys h = (and_parts (list_all p xs) (list_all p ys) (sym (list_all-append p xs ys) ∙ h)).0

all_next : {A : Type 0} (p : A → Bool) (xs : List A) (y : A) (ys : List A) → list_all p (xs ++ y ∷ ys) ≡ true → p y ≡ true
all_next p xs y ys h = (and_parts (p y) (list_all p ys) (and_parts (list_all p xs) (list_all p (y ∷ ys)) (sym (list_all-append p xs (y ∷ ys)) ∙ h)).1).0

-- ---- the past
abbrev pub PastOf : Ledger → World → Type 0
PastOf claims w = (c : ℕ) → ClientPast w.run c (w.actors.clients c).done (claims w c)

own_stamp : (place : PlaceNo) (entry : Entry) → is_at (stamp_of place entry) (place, entry) ≡ true
own_stamp place entry = grind (arith, nat_tests)

turn-past : (claims : Ledger) (w w' : World) → IsLow w.lasts w.run → TurnTold claims w w' → PastOf claims w → PastOf claims w'
turn-past claims w w' low (inl same) h c = subst (PastOf claims) (sym same) h c
turn-past claims w w' low (inr t) h c =
    let e : PlaceNo × Entry = (t.place, t.entry) in
    subst (λ run. ClientPast run c (w'.actors.clients c).done (claims w' c)) (sym t.run)
    (told-past w.run e (fresh_step w.lasts w.run e low t.later) (stamp_of t.place t.entry) (own_stamp t.place t.entry) c (claims w c) (claims w' c) (w.actors.clients c).done (w'.actors.clients c).done
    (subst (λ run. ClientTold c (stamp_of t.place t.entry) run t.entry.moved (claims w c) (claims w' c) (w.actors.clients c).done (w'.actors.clients c).done) t.run (t.clients c)) (h c))

module _ (setup : Setup) (good : AreCounts setup.counts) (may : Turn → Bool) (claims : Ledger) (right : IsRight setup may claims) where
  opening-past : PastOf claims (opening setup)
  opening-past c = subst (ClientPast [] c (starts (setup.plans c) (setup.stops c)).done) (sym (right.opening c)) (record { calls = tt; call = tt; told = λ q. refl })

  after-turns : (before after : List Turn) → list_all may (before ++ after) ≡ true → PastOf claims (played setup before) → PastOf claims (played setup (before ++ after))
  after-turns before [] all h = subst (λ turns. PastOf claims (played setup turns)) (sym (append-nil before)) h
  after-turns before (t ∷ after) all h =
      let w : World = played setup before in
      let told : TurnTold claims w (turn setup.counts w t) = right.told before (all_front may before (t ∷ after) all) t (all_next may before t after all) in
      let next : PastOf claims (turn setup.counts w t) = turn-past claims w (turn setup.counts w t) (played-holds setup good before).low told h in
      let now : PastOf claims (played setup (before ++ t ∷ [])) = subst (PastOf claims) (sym (run_of-append setup.counts before (t ∷ []) (opening setup))) next in
      subst (λ turns. PastOf claims (played setup turns)) (append_assoc before (t ∷ []) after)
      (after-turns (before ++ t ∷ []) after (subst (λ turns. list_all may turns ≡ true) (sym (append_assoc before (t ∷ []) after)) all) now)

  pub past_of : (turns : List Turn) → list_all may turns ≡ true → PastOf claims (played setup turns)
  past_of turns all = after-turns [] turns all opening-past
