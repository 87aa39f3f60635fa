-- A turn keeps the count of the steps and the bounds of the numbers.
use Rattle.std.proofs.Common.{◌≡◌, ◌≢◌, ℕ, ◌+◌, ◌*◌, ◌≤◌, ◌<◌, suc, zero, List, ◌∷◌, Bool, true, false, refl, ap, ◌∙◌, arith, length}
use Rattle.std.specs.Prelude.{nat_lt, nat_le, ◌==◌, ◌&&◌, ◌||◌, if◌then◌else◌}
use Rattle.std.proofs.lemmas.Bool.Decides.{nat_tests}
use Rattle.next_ids.specs.declared.ids.Actor.{Actor}
use Rattle.next_ids.specs.declared.ids.PlaceNo.{PlaceNo}
use Rattle.next_ids.specs.declared.counts.Counts.{Counts}
use Rattle.next_steps.specs.declared.ask.Ask.{Ask}
use Rattle.next_steps.specs.declared.entry.Entry.{Entry}
use Rattle.next_steps.specs.Asks.{place_of}
use Rattle.next_rules.specs.Contents.{is_full, number_after}
use Rattle.next_rules.specs.Setups.{AreCounts, has_place}
use Rattle.next_rules.specs.Actors.{Actors, last_of}
use Rattle.next_places.specs.Held.{Held, set_log, full, with_entry}
use Rattle.next_rules.specs.Worlds.{Service}
use Rattle.next_core.specs.Counted.{IsCounted, sum_below}
use Rattle.next_core.specs.Parts.{log_full}

not_full : (count last place_last : ℕ) → is_full count last place_last ≡ false → count < 1048576
not_full count last place_last h = grind (arith, nat_tests)

-- ---- one more entry in one log
sum_same : (n place : ℕ) (f g : ℕ → ℕ) → n ≤ place → ((p : ℕ) → p ≢ place → g p ≡ f p) → sum_below n g ≡ sum_below n f
sum_same zero place f g past same = refl
sum_same (suc n) place f g past same = let low = sum_same n place f g (omega arith) same in let here = same n (λ e. omega (arith, e)) in omega arith

sum_more : (n place : ℕ) (f g : ℕ → ℕ) → place < n → g place ≡ f place + 1 → ((p : ℕ) → p ≢ place → g p ≡ f p) → sum_below n g ≡ sum_below n f + 1
sum_more zero place f g lt one same = absurd (omega arith)
sum_more (suc n) place f g lt one same = by_test (λ differ. sum_more n place f g (omega (arith, differ)) one same) (n == place) refl
  where
    by_test : (n ≢ place → sum_below n g ≡ sum_below n f + 1) → (b : Bool) → (n == place) ≡ b → sum_below n g + g n ≡ (sum_below n f + f n) + 1
    by_test less true t = let is : n ≡ place = grind (arith, nat_tests) in let low = sum_same n place f g (omega arith) same in let here : g n ≡ f n + 1 = rw is one in omega arith
    by_test less false t = let differ : n ≢ place = grind (arith, nat_tests) in let low = less differ in let here = same n differ in omega arith

sum_above : (n place : ℕ) (f : ℕ → ℕ) → place < n → f place ≤ sum_below n f
sum_above zero place f lt = absurd (omega arith)
sum_above (suc n) place f lt = by_test (λ differ. sum_above n place f (omega (arith, differ))) (n == place) refl
  where
    by_test : (n ≢ place → f place ≤ sum_below n f) → (b : Bool) → (n == place) ≡ b → f place ≤ sum_below n f + f n
    by_test less true t = let is : n ≡ place = grind (arith, nat_tests) in let here : f n ≡ f place = ap f is in omega arith
    by_test less false t = let differ : n ≢ place = grind (arith, nat_tests) in let low = less differ in omega arith

sum_few : (n most : ℕ) (f : ℕ → ℕ) → ((p : ℕ) → f p ≤ most) → sum_below n f ≤ n * most
sum_few zero most f few = omega arith
sum_few (suc n) most f few = let low = sum_few n most f few in let here = few n in grind (arith, low, here)

here_log : (logs : ℕ → List Entry) (place : ℕ) (log : List Entry) → set_log logs place log place ≡ log
here_log logs place log = let same : (place == place) ≡ true = grind (arith, nat_tests) in rw same refl

other_log : (logs : ℕ → List Entry) (place p : ℕ) (log : List Entry) → p ≢ place → set_log logs place log p ≡ logs p
other_log logs place p log differ = let no : (p == place) ≡ false = grind (arith, nat_tests) in rw no refl

pub low_there : (counts : Counts) (place : ℕ) → AreCounts counts → has_place counts place ≡ true → place < 130
low_there counts place good h = by_shard (nat_lt place counts.shards) refl h
  where
    few : counts.shards ≤ 64
    few = good.shards.1

    few_stores : counts.stores ≤ 64
    few_stores = good.stores.1

    by_end : (b : Bool) → (place == 128) ≡ b → (c : Bool) → (place == 129) ≡ c → (b || c) ≡ true → place < 130
    by_end true t c u h = let is : place ≡ 128 = grind (arith, nat_tests) in omega arith
    by_end false t true u h = let is : place ≡ 129 = grind (arith, nat_tests) in omega arith
    by_end false t false u h = cc

    by_store : (b : Bool) → (nat_le 64 place && nat_lt place (64 + counts.stores)) ≡ b → (b || ((place == 128) || (place == 129))) ≡ true → place < 130
    by_store true t h = let low : place < 64 + counts.stores = grind (arith, nat_tests) in omega (arith, low, few_stores)
    by_store false t h = by_end (place == 128) refl (place == 129) refl h

    by_shard : (b : Bool) → nat_lt place counts.shards ≡ b → (b || ((nat_le 64 place && nat_lt place (64 + counts.stores)) || ((place == 128) || (place == 129)))) ≡ true → place < 130
    by_shard true t h = let low : place < counts.shards = grind (arith, nat_tests) in omega (arith, low, few)
    by_shard false t h = by_store (nat_le 64 place && nat_lt place (64 + counts.stores)) refl h

-- the steps after an entry in the log of a place, whose actors have no number above it
pub step-counted : (order : List PlaceNo) (h : Held) (actors actors' : Actors) (actor : Actor) (place : PlaceNo) (entry : Entry) (service : Service) → IsCounted order h actors → place.0 < 130
    → is_full (length (h.logs place.0)) (last_of actors actor) (h.lasts place.0) ≡ false → entry.number ≡ number_after (last_of actors actor) (h.lasts place.0)
    → ((a : Actor) → last_of actors' a ≤ length order + 1) → IsCounted (place ∷ order) (with_entry h place.0 entry service) actors'
step-counted order h actors actors' actor place entry service k low room is lows = record {
  total = sum_more 130 place.0 (λ q. length (h.logs q)) (λ q. length (set_log h.logs place.0 (entry ∷ h.logs place.0) q)) low
      (ap length (here_log h.logs place.0 (entry ∷ h.logs place.0)) ∙ omega arith)
      (λ q differ. ap length (other_log h.logs place.0 q (entry ∷ h.logs place.0) differ))
      ∙ omega (arith, k.total);
  short = λ q. short q (q == place.0);
  low = λ q. number q (q == place.0);
  actors_low = λ a. (let bound = lows a in omega (arith, bound));
}
  where
    few : length (h.logs place.0) < 1048576
    few = not_full (length (h.logs place.0)) (last_of actors actor) (h.lasts place.0) room

    short : (q : ℕ) (b : Bool) → length (if b then entry ∷ h.logs place.0 else h.logs q) ≤ 1048576
    short q true = let f = few in omega arith
    short q false = k.short q

    number_low : entry.number ≤ length order + 1
    number_low = let a = k.actors_low actor in let b = k.low place.0 in omega (arith, a, b, is)

    number : (q : ℕ) (b : Bool) → (if b then entry.number else h.lasts q) ≤ suc (length order)
    number q true = let n = number_low in omega (arith, n)
    number q false = let b = k.low q in omega (arith, b)

-- ---- a place that serves nothing more has a full log
full_log : (n count last place_last : ℕ) → is_full count last place_last ≡ true → last ≤ n → place_last ≤ n → n < 1099511627776 → nat_le 1048576 count ≡ true
full_log n count last place_last h a b lt = grind (arith, nat_tests)

pub full-log : (order : List PlaceNo) (h : Held) (actors : Actors) (actor : Actor) (ask : Ask) → IsCounted order h actors → full h (last_of actors actor) ask ≡ true → log_full h ask ≡ true
full-log order h actors actor ask k f =
    let few = sum_few 130 1048576 (λ q. length (h.logs q)) k.short in
    full_log (length order) (length (h.logs (place_of ask).0)) (last_of actors actor) (h.lasts (place_of ask).0) f (k.actors_low actor) (k.low (place_of ask).0) (omega (arith, few, k.total))

many : (n count : ℕ) → nat_le 1048576 count ≡ true → count ≤ n → 1048576 ≤ n
many n count h le = grind (arith, nat_tests)

pub many-steps : (order : List PlaceNo) (h : Held) (actors : Actors) (ask : Ask) → (place_of ask).0 < 130 → IsCounted order h actors → log_full h ask ≡ true → 1048576 ≤ length order
many-steps order h actors ask low k f = let above = sum_above 130 (place_of ask).0 (λ q. length (h.logs q)) low in many (length order) (length (h.logs (place_of ask).0)) f (omega (arith, above, k.total))

-- ---- a place that serves has room in its log
pub log-room : (h : Held) (last : ℕ) (ask : Ask) → full h last ask ≡ false → log_full h ask ≡ false
log-room h last ask f = room (length (h.logs (place_of ask).0)) last (h.lasts (place_of ask).0) f
  where
    room : (count last place_last : ℕ) → is_full count last place_last ≡ false → nat_le 1048576 count ≡ false
    room count last place_last h = grind (arith, nat_tests)
