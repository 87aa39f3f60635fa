-- The spans of a client's calls: the first own step, and the last where the call is finished. What one more step leaves
-- of them.
use Rattle.std.proofs.Common.{◌≡◌, ℕ, suc, ◌≤◌, ◌<◌, List, [], ◌∷◌, ◌++◌, length, Bool, true, false, refl, sym, ◌∙◌, ap, arith}
use Rattle.std.specs.Prelude.{if◌then◌else◌, ◌||◌, ◌&&◌, ◌==◌, nat_le, Option, Some, None}
use Rattle.std.specs.List.{list_any}
use Rattle.std.proofs.Math.Bool.{or-true}
use Rattle.std.proofs.lemmas.Bool.Decides.{nat_tests}
use Rattle.std.proofs.lemmas.List.Folds.{list_any-append}
use Rattle.next_ids.specs.declared.ids.Client.{Client}
use Rattle.next_ids.specs.declared.ids.PlaceNo.{PlaceNo}
use Rattle.next_ids.specs.declared.ids.Stamp.{Stamp}
use Rattle.next_steps.specs.declared.entry.Entry.{Entry}
use Rattle.next_rules.specs.Histories.{is_at, position_of}
use Rattle.next_laws_order.proofs.Lists.{Every, Every-like, Every-append}
use Rattle.next_laws_order.proofs.Stamps.{stands, IsFresh, position-within, position-grown, stands-grown, position-new, stands-new}
use Rattle.next_laws_order.specs.OwnSteps.{is_call_step, steps_at, is_up_to}

pub record Span : Type 0 where
  pub first : Stamp
  pub last : Option Stamp

abbrev pub position_in : List (PlaceNo × Entry) → Option Stamp → Option ℕ
position_in run None = None
position_in run (Some s) = Some (position_of s run)

-- the position lies in the span
abbrev pub covers : List (PlaceNo × Entry) → ℕ → Span → Bool
covers run p x = nat_le (position_of x.first run) p && is_up_to p (position_in run x.last)

-- the step with the stamp is there, and is one of the client's calls'
pub record IsOwnStep (run : List (PlaceNo × Entry)) (client : Client) (s : Stamp) : Type 0 where
  pub there : stands s run ≡ true
  pub own : steps_at client run (position_of s run) ≡ true

abbrev pub LastIsOwn : List (PlaceNo × Entry) → Client → Option Stamp → Type 0
LastIsOwn run client None = Unit {0}
LastIsOwn run client (Some s) = IsOwnStep run client s

pub record IsOwnSpan (run : List (PlaceNo × Entry)) (client : Client) (x : Span) : Type 0 where
  pub first : IsOwnStep run client x.first
  pub last : LastIsOwn run client x.last

-- the spans are the client's, and have each step of its calls
pub record OwnSpans (run : List (PlaceNo × Entry)) (client : Client) (xs : List Span) : Type 0 where
  pub own : Every (IsOwnSpan run client) xs
  pub steps : (p : ℕ) → steps_at client run p ≡ true → list_any (covers run p) xs ≡ true

-- ---- the steps of a run
steps-older : (client : Client) (e : PlaceNo × Entry) (run : List (PlaceNo × Entry)) (p : ℕ) → p < length run → steps_at client (e ∷ run) p ≡ steps_at client run p
steps-older client e run p h = grind (arith, nat_tests)

steps-now : (client : Client) (e : PlaceNo × Entry) (run : List (PlaceNo × Entry)) → steps_at client (e ∷ run) (length run) ≡ is_call_step client e.1
steps-now client e run = grind (arith, nat_tests)

steps-within : (client : Client) (run : List (PlaceNo × Entry)) (p : ℕ) → steps_at client run p ≡ true → p < length run
steps-within client [] p h = cc
steps-within client (e ∷ run) p h = by_test (p == length run) refl h (steps-within client run p)
  where
    by_test : (b : Bool) → (p == length run) ≡ b → (if b then is_call_step client e.1 else steps_at client run p) ≡ true → (steps_at client run p ≡ true → p < length run) → p < suc (length run)
    by_test true t h rest = let now : p ≡ length run = grind (arith, nat_tests) in omega arith
    by_test false t h rest = omega (arith, rest h)

-- ---- lists
Every-front : {A : Type 0} (P : A → Type 0) (xs ys : List A) → Every P (xs ++ ys) → Every P xs
Every-front P [] ys h = tt
Every-front P (x ∷ xs) ys h = (h.0, Every-front P xs ys h.1)

or-either : (a b d : Bool) → (a || b) ≡ true → (b ≡ true → d ≡ true) → (a || d) ≡ true
or-either true b d h to = refl
or-either false b d h to = to h

-- ---- one more step
-- a span's last step, if it has one, is the new step
abbrev pub IsNow : PlaceNo × Entry → Option Stamp → Type 0
IsNow e None = Unit {0}
IsNow e (Some s) = is_at s e ≡ true

module _ (run : List (PlaceNo × Entry)) (e : PlaceNo × Entry) (fresh : IsFresh run e) (client : Client) where
  own-grown : (s : Stamp) → IsOwnStep run client s → IsOwnStep (e ∷ run) client s
  own-grown s h = record {
    there = stands-grown s run e h.there;
    own = ap (steps_at client (e ∷ run)) (position-grown s run e fresh h.there) ∙ steps-older client e run (position_of s run) (position-within s run h.there) ∙ h.own;
  }

  own-new : (s : Stamp) → is_at s e ≡ true → is_call_step client e.1 ≡ true → IsOwnStep (e ∷ run) client s
  own-new s is by = record {
    there = stands-new s run e is;
    own = ap (steps_at client (e ∷ run)) (position-new s run e is) ∙ steps-now client e run ∙ by;
  }

  last-grown : (last : Option Stamp) → LastIsOwn run client last → LastIsOwn (e ∷ run) client last
  last-grown None h = tt
  last-grown (Some s) h = own-grown s h

  span-grown : (x : Span) → IsOwnSpan run client x → IsOwnSpan (e ∷ run) client x
  span-grown x h = record { first = own-grown x.first h.first; last = last-grown x.last h.last }

  pub position_in-grown : (last : Option Stamp) → LastIsOwn run client last → position_in (e ∷ run) last ≡ position_in run last
  position_in-grown None h = refl
  position_in-grown (Some s) h = ap (λ p. Some p) (position-grown s run e fresh h.there)

  covers-grown : (p : ℕ) (x : Span) → IsOwnSpan run client x → covers (e ∷ run) p x ≡ covers run p x
  covers-grown p x h =
      ap (λ q. nat_le q p && is_up_to p (position_in (e ∷ run) x.last)) (position-grown x.first run e fresh h.first.there)
      ∙ ap (λ o. nat_le (position_of x.first run) p && is_up_to p o) (position_in-grown x.last h.last)

  any-grown : (p : ℕ) (xs : List Span) → Every (IsOwnSpan run client) xs → list_any (covers (e ∷ run) p) xs ≡ list_any (covers run p) xs
  any-grown p [] h = refl
  any-grown p (x ∷ xs) h = cc (covers-grown p x h.0, any-grown p xs h.1)

  -- a step that is not of the client's calls
  pub spans-grown : (xs : List Span) → is_call_step client e.1 ≡ false → OwnSpans run client xs → OwnSpans (e ∷ run) client xs
  spans-grown xs other h = record {
    own = Every-like (IsOwnSpan run client) (IsOwnSpan (e ∷ run) client) xs span-grown h.own;
    steps = λ p s. by_test p (p == length run) s;
  }
    where
      by_test : (p : ℕ) (b : Bool) → (if b then is_call_step client e.1 else steps_at client run p) ≡ true → list_any (covers (e ∷ run) p) xs ≡ true
      by_test p true s = absurd (cc)
      by_test p false s = any-grown p xs h.own ∙ h.steps p s

  last-now : (last : Option Stamp) → IsNow e last → is_call_step client e.1 ≡ true → LastIsOwn (e ∷ run) client last
  last-now None is by = tt
  last-now (Some s) is by = own-new s is by

  up_to-now : (last : Option Stamp) → IsNow e last → (p : ℕ) → p ≤ length run → is_up_to p (position_in (e ∷ run) last) ≡ true
  up_to-now None is p le = refl
  up_to-now (Some s) is p le = ap (nat_le p) (position-new s run e is) ∙ grind (arith, nat_tests)

  covers-now : (x : Span) → IsNow e x.last → (p : ℕ) → position_of x.first (e ∷ run) ≤ p → p ≤ length run → covers (e ∷ run) p x ≡ true
  covers-now x is p from to =
      ap (λ b. nat_le (position_of x.first (e ∷ run)) p && b) (up_to-now x.last is p to)
      ∙ in_order (position_of x.first (e ∷ run)) from
    where
      in_order : (q : ℕ) → q ≤ p → (nat_le q p && true) ≡ true
      in_order q le = grind (arith, nat_tests)

  -- a step of the client's calls, in the newest span; ys is what stood in its place
  spans-with : (xs ys : List Span) (x : Span) → is_call_step client e.1 ≡ true → OwnSpans run client (xs ++ ys) → IsOwnStep (e ∷ run) client x.first → IsNow e x.last
      → ((p : ℕ) → list_any (covers run p) ys ≡ true → position_of x.first (e ∷ run) ≤ p)
      → OwnSpans (e ∷ run) client (xs ++ x ∷ [])
  spans-with xs ys x by h own is from = record {
    own = Every-append (IsOwnSpan (e ∷ run) client) xs (x ∷ [])
        (Every-like (IsOwnSpan run client) (IsOwnSpan (e ∷ run) client) xs span-grown before) (record { first = own; last = last-now x.last is by }, tt);
    steps = λ p s. list_any-append (covers (e ∷ run) p) xs (x ∷ []) ∙ by_test p (p == length run) refl s;
  }
    where
      before : Every (IsOwnSpan run client) xs
      before = Every-front (IsOwnSpan run client) xs ys h.own

      by_test : (p : ℕ) (b : Bool) → (p == length run) ≡ b → (if b then is_call_step client e.1 else steps_at client run p) ≡ true
          → (list_any (covers (e ∷ run) p) xs || (covers (e ∷ run) p x || false)) ≡ true
      by_test p true t s =
          let now : p ≡ length run = grind (arith, nat_tests) in
          let low = position-within x.first (e ∷ run) own.there in
          rw (covers-now x is p (omega arith) (omega arith)) (or-true (list_any (covers (e ∷ run) p) xs))
      by_test p false t s =
          let low = steps-within client run p s in
          rw (any-grown p xs before)
          (or-either (list_any (covers run p) xs) (list_any (covers run p) ys) (covers (e ∷ run) p x || false) (sym (list_any-append (covers run p) xs ys) ∙ h.steps p s)
          (λ y. ap (λ b. b || false) (covers-now x is p (from p y) (omega arith))))

  -- the first step of a call
  pub spans-begun : (xs : List Span) (s : Stamp) (last : Option Stamp) → is_call_step client e.1 ≡ true → is_at s e ≡ true → IsNow e last → OwnSpans run client (xs ++ []) → OwnSpans (e ∷ run) client (xs ++ record { first = s; last = last } ∷ [])
  spans-begun xs s last by at is h = spans-with xs [] (record { first = s; last = last }) by h (own-new s at by) is (λ p y. absurd (cc))

  -- a later one
  pub spans-continued : (xs : List Span) (first : Stamp) (last : Option Stamp) → is_call_step client e.1 ≡ true → IsNow e last → OwnSpans run client (xs ++ record { first = first; last = None } ∷ []) → OwnSpans (e ∷ run) client (xs ++ record { first = first; last = last } ∷ [])
  spans-continued xs first last by is h =
      spans-with xs (record { first = first; last = None } ∷ []) (record { first = first; last = last }) by h (own-grown first own) is
      (λ p y. from_test p (nat_le (position_of first run) p) refl y)
    where
      the_last : (ys : List Span) → Every (IsOwnSpan run client) (ys ++ record { first = first; last = None } ∷ []) → IsOwnStep run client first
      the_last [] k = k.0.first
      the_last (y ∷ ys) k = the_last ys k.1

      own : IsOwnStep run client first
      own = the_last xs h.own

      from_test : (p : ℕ) (b : Bool) → nat_le (position_of first run) p ≡ b → ((b && true) || false) ≡ true → position_of first (e ∷ run) ≤ p
      from_test p true t y =
          let same = position-grown first run e fresh own.there in
          let le : position_of first run ≤ p = grind (arith, nat_tests) in
          omega arith
      from_test p false t y = absurd (cc)
