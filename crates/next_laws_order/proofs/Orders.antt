-- A client's calls follow one another: each but the newest has ended before the next one's first step.
use Rattle.std.proofs.Common.{◌≡◌, ◌<◌, List, [], ◌∷◌, ◌++◌, length, true}
use Rattle.std.specs.Prelude.{Option, Some, None}
use Rattle.next_ids.specs.declared.ids.Client.{Client}
use Rattle.next_ids.specs.declared.ids.PlaceNo.{PlaceNo}
use Rattle.next_ids.specs.declared.ids.Stamp.{Stamp}
use Rattle.next_steps.specs.declared.entry.Entry.{Entry}
use Rattle.next_rules.specs.Histories.{is_at, position_of}
use Rattle.next_rules.specs.Legal.{EndsBelow}
use Rattle.next_laws_order.proofs.Lists.{Every, Pairs, Pairs-like, Pairs-with, Pairs-end}
use Rattle.next_laws_order.proofs.Stamps.{IsFresh, position-within, position-grown, position-new}
use Rattle.next_laws_order.proofs.Spans.{Span, IsOwnSpan, LastIsOwn, position_in, position_in-grown}

-- the first span is over before the second begins
abbrev pub Comes : List (PlaceNo × Entry) → Span → Span → Type 0
Comes run x y = (position_of x.first run < position_of y.first run) × EndsBelow (position_in run x.last) (position_of y.first run)

-- a span that has a last step
abbrev pub IsOver : Span → Type 0
IsOver x = (s : Stamp) × (x.last ≡ Some s)

replace-every : {A : Type 0} (P : A → Type 0) (a b : A) (xs : List A) → (P a → P b) → Every P (xs ++ a ∷ []) → Every P (xs ++ b ∷ [])
replace-every P a b [] to h = (to h.0, tt)
replace-every P a b (x ∷ xs) to h = (h.0, replace-every P a b xs to h.1)

replace-last : {A : Type 0} (R : A → A → Type 0) (a b : A) (xs : List A) → ((x : A) → R x a → R x b) → Pairs R (xs ++ a ∷ []) → Pairs R (xs ++ b ∷ [])
replace-last R a b [] to h = (tt, tt)
replace-last R a b (x ∷ xs) to h = (replace-every (R x) a b xs (to x) h.0, replace-last R a b xs to h.1)

module _ (run : List (PlaceNo × Entry)) (e : PlaceNo × Entry) (fresh : IsFresh run e) (client : Client) where
  comes-grown : (x y : Span) → IsOwnSpan run client x → IsOwnSpan run client y → Comes run x y → Comes (e ∷ run) x y
  comes-grown x y own other h =
      rw (position-grown x.first run e fresh own.first.there, position-grown y.first run e fresh other.first.there, position_in-grown run e fresh client x.last own.last) h

  pub order-grown : (xs : List Span) → Every (IsOwnSpan run client) xs → Pairs (Comes run) xs → Pairs (Comes (e ∷ run)) xs
  order-grown xs own h =
      Pairs-like (λ x y. IsOwnSpan run client x × (IsOwnSpan run client y × Comes run x y)) (Comes (e ∷ run)) xs (λ x y k. comes-grown x y k.0 k.1.0 k.1.1)
      (Pairs-with (IsOwnSpan run client) (Comes run) xs own h)

  -- a new span comes after all that are over
  comes-now : (x : Span) (s : Stamp) (last : Option Stamp) → is_at s e ≡ true → IsOwnSpan run client x → IsOver x → Comes (e ∷ run) x (record { first = s; last = last })
  comes-now x s last at own over =
      rw (position-grown x.first run e fresh own.first.there, position-new s run e at, position_in-grown run e fresh client x.last own.last)
      (position-within x.first run own.first.there, by_last x.last own.last over.0 over.1)
    where
      by_last : (l : Option Stamp) → LastIsOwn run client l → (t : Stamp) → l ≡ Some t → EndsBelow (position_in run l) (length run)
      by_last None h t is = cc
      by_last (Some u) h t is = position-within u run h.there

  all-come : (xs : List Span) (s : Stamp) (last : Option Stamp) → is_at s e ≡ true → Every (IsOwnSpan run client) xs → Every IsOver xs → Every (λ x. Comes (e ∷ run) x (record { first = s; last = last })) xs
  all-come [] s last at own over = tt
  all-come (x ∷ xs) s last at own over = (comes-now x s last at own.0 over.0, all-come xs s last at own.1 over.1)

  pub order-begun : (xs : List Span) (s : Stamp) (last : Option Stamp) → is_at s e ≡ true → Every (IsOwnSpan run client) xs → Every IsOver xs → Pairs (Comes run) xs → Pairs (Comes (e ∷ run)) (xs ++ record { first = s; last = last } ∷ [])
  order-begun xs s last at own over h =
      Pairs-end (Comes (e ∷ run)) xs (record { first = s; last = last }) (order-grown xs own h) (all-come xs s last at own over)

  -- a span that goes on stays where it is
  pub order-continued : (xs : List Span) (first : Stamp) (last : Option Stamp) → Every (IsOwnSpan run client) (xs ++ record { first = first; last = None } ∷ []) → Pairs (Comes run) (xs ++ record { first = first; last = None } ∷ [])
      → Pairs (Comes (e ∷ run)) (xs ++ record { first = first; last = last } ∷ [])
  order-continued xs first last own h =
      replace-last (Comes (e ∷ run)) (record { first = first; last = None }) (record { first = first; last = last }) xs (λ x k. k)
      (order-grown (xs ++ record { first = first; last = None } ∷ []) own h)
