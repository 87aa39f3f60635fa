-- A turn keeps the count of the steps and the bounds of the numbers.
use Rattle.std.proofs.Common.{◌≡◌, ℕ, ◌+◌, ◌*◌, ◌≤◌, ◌<◌, ◌≢◌, suc, zero, List, ◌∷◌, Bool, true, false, refl, sym, ap, ◌∙◌, subst, arith, length}
use Rattle.std.specs.Prelude.{Option, Some, None, nat_lt, nat_le, ◌==◌, ◌&&◌, ◌||◌, if◌then◌else◌}
use Rattle.std.proofs.lemmas.Bool.Decides.{nat_tests}
use Rattle.cfs_ids.specs.declared.ids.Client.{Client}
use Rattle.cfs_ids.specs.declared.ids.PlaceNo.{PlaceNo}
use Rattle.cfs_ids.specs.declared.ids.Actor.TheVariants.{Client as ClientActor}
use Rattle.cfs_steps.specs.declared.ask.Ask.{Ask}
use Rattle.cfs_steps.specs.declared.entry.Entry.{Entry}
use Rattle.cfs_steps.specs.Asks.{place_of}
use Rattle.cfs_steps.specs.Phases.{Phase, Asking, Inserting, Settling, TakingBack, Finished, heard}
use Rattle.cfs_rules.specs.Places.{is_full, number_after}
use Rattle.cfs_rules.specs.Worlds.{Counts, AreCounts, Progress, client_of, next_ask, set_client, set_last, with_phase, after_entry, hears}
use Rattle.cfs_view.specs.Held.{Held, Step, set_log, serve_in, serve_late, full, log_full, has_place}
use Rattle.cfs_core.specs.Counted.{IsCounted, sum_below}
use Rattle.cfs_core.specs.Parts.{turned, turn_part, full_asked, full_next}
use Rattle.cfs_core.specs.Reach.{ProgressThere}
use Rattle.cfs_core.proofs.Reaching.{asks_there}

with_phase-last : (p : Progress) (entry : Entry) (phase : Phase) → (with_phase p entry phase).last ≡ entry.number
with_phase-last p entry (Asking call) = refl
with_phase-last p entry (Inserting dir name node ts first) = refl
with_phase-last p entry (Settling dir name node ts first at) = refl
with_phase-last p entry (TakingBack dir name node errno first at) = refl
with_phase-last p entry (Finished done) = refl

after_entry-last : (p : Progress) (o : Option Phase) (place : PlaceNo) (entry : Entry) → (after_entry p o place entry).last ≡ entry.number
after_entry-last p None place entry = refl
after_entry-last p (Some phase) place entry = with_phase-last p entry (heard phase place entry)

-- a client's new progress is low where the step's number is
clients_low : (n : ℕ) (clients : ℕ → Progress) (c : ℕ) (p : Progress) (place : PlaceNo) (entry : Entry) → ((q : ℕ) → (clients q).last ≤ n) → entry.number ≤ n + 1 → (q : ℕ) → (set_client clients c (hears p place entry) q).last ≤ n + 1
clients_low n clients c p place entry low number q = by_test (q == c)
  where
    by_test : (b : Bool) → (if b then hears p place entry else clients q).last ≤ n + 1
    by_test true = let is = after_entry-last p p.current place entry in omega (arith, is, number)
    by_test false = omega (arith, low q)

not_full : (count last place_last : ℕ) → is_full count last place_last ≡ false → count < 1048576
not_full count last place_last h = grind (arith, nat_tests)

-- ---- one more entry in one log
sum_same : (n place : ℕ) (f g : ℕ → ℕ) → n ≤ place → ((p : ℕ) → p ≢ place → g p ≡ f p) → sum_below n g ≡ sum_below n f
sum_same zero place f g past same = refl
sum_same (suc n) place f g past same = let low = sum_same n place f g (omega arith) same in let here = same n (λ e. omega (arith, e)) in omega arith

sum_more : (n place : ℕ) (f g : ℕ → ℕ) → place < n → g place ≡ f place + 1 → ((p : ℕ) → p ≢ place → g p ≡ f p) → sum_below n g ≡ sum_below n f + 1
sum_more zero place f g lt one same = absurd (omega arith)
sum_more (suc n) place f g lt one same = by_test (λ differ. sum_more n place f g (omega (arith, differ)) one same) (n == place) refl
  where
    by_test : (n ≢ place → sum_below n g ≡ sum_below n f + 1) → (b : Bool) → (n == place) ≡ b → sum_below n g + g n ≡ (sum_below n f + f n) + 1
    by_test less true t = let is : n ≡ place = grind (arith, nat_tests) in let low = sum_same n place f g (omega arith) same in let here : g n ≡ f n + 1 = rw is one in omega arith
    by_test less false t = let differ : n ≢ place = grind (arith, nat_tests) in let low = less differ in let here = same n differ in omega arith

sum_above : (n place : ℕ) (f : ℕ → ℕ) → place < n → f place ≤ sum_below n f
sum_above zero place f lt = absurd (omega arith)
sum_above (suc n) place f lt = by_test (λ differ. sum_above n place f (omega (arith, differ))) (n == place) refl
  where
    by_test : (n ≢ place → f place ≤ sum_below n f) → (b : Bool) → (n == place) ≡ b → f place ≤ sum_below n f + f n
    by_test less true t = let is : n ≡ place = grind (arith, nat_tests) in let here : f n ≡ f place = ap f is in omega arith
    by_test less false t = let differ : n ≢ place = grind (arith, nat_tests) in let low = less differ in omega arith

sum_few : (n most : ℕ) (f : ℕ → ℕ) → ((p : ℕ) → f p ≤ most) → sum_below n f ≤ n * most
sum_few zero most f few = omega arith
sum_few (suc n) most f few = let low = sum_few n most f few in let here = few n in grind (arith, low, here)

-- a step leaves one more entry in the log of its place, and its number there
record OneMore (h : Held) (place number : ℕ) (step : Step) : Type 0 where
  logs : step.held.logs ≡ set_log h.logs place (step.entry ∷ h.logs place)
  lasts : step.held.lasts ≡ set_last h.lasts place number
  numbered : step.entry.number ≡ number

one_more : (a b : Bool) (h : Held) (c number : ℕ) (ask : Ask) → OneMore h (place_of ask).0 number (serve_in a b h (ClientActor (client_of c)) ask number)
one_more true b h c number ask = record { logs = refl; lasts = refl; numbered = refl }
one_more false true h c number ask = record { logs = refl; lasts = refl; numbered = refl }
one_more false false h c number ask = late ((place_of ask).0 == 128)
  where
    late : (b : Bool) → OneMore h (place_of ask).0 number (serve_late b h (ClientActor (client_of c)) ask number)
    late true = record { logs = refl; lasts = refl; numbered = refl }
    late false = record { logs = refl; lasts = refl; numbered = refl }

here_log : (logs : ℕ → List Entry) (place : ℕ) (log : List Entry) → set_log logs place log place ≡ log
here_log logs place log = let same : (place == place) ≡ true = grind (arith, nat_tests) in rw same refl

other_log : (logs : ℕ → List Entry) (place p : ℕ) (log : List Entry) → p ≢ place → set_log logs place log p ≡ logs p
other_log logs place p log differ = let no : (p == place) ≡ false = grind (arith, nat_tests) in rw no refl

pub low_there : (counts : Counts) (place : ℕ) → counts.shards ≤ 64 → counts.stores ≤ 64 → has_place counts place ≡ true → place < 130
low_there counts place few few_stores h = by_shard (nat_lt place counts.shards) refl h
  where
    by_end : (b : Bool) → (place == 128) ≡ b → (c : Bool) → (place == 129) ≡ c → (b || c) ≡ true → place < 130
    by_end true t c u h = let is : place ≡ 128 = grind (arith, nat_tests) in omega arith
    by_end false t true u h = let is : place ≡ 129 = grind (arith, nat_tests) in omega arith
    by_end false t false u h = cc

    by_store : (b : Bool) → (nat_le 64 place && nat_lt place (64 + counts.stores)) ≡ b → (b || ((place == 128) || (place == 129))) ≡ true → place < 130
    by_store true t h = let low : place < 64 + counts.stores = grind (arith, nat_tests) in omega (arith, low, few_stores)
    by_store false t h = by_end (place == 128) refl (place == 129) refl h

    by_shard : (b : Bool) → nat_lt place counts.shards ≡ b → (b || ((nat_le 64 place && nat_lt place (64 + counts.stores)) || ((place == 128) || (place == 129)))) ≡ true → place < 130
    by_shard true t h = let low : place < counts.shards = grind (arith, nat_tests) in omega (arith, low, few)
    by_shard false t h = by_store (nat_le 64 place && nat_lt place (64 + counts.stores)) refl h

place_low : (counts : Counts) (place : ℕ) → AreCounts counts → has_place counts place ≡ true → place < 130
place_low counts place good h = low_there counts place good.shards.1 good.stores.1 h

step-counted : (order : List PlaceNo) (h : Held) (clients : ℕ → Progress) (c : ℕ) (p : Progress) (ask : Ask) (step : Step) → (clients c).last ≡ p.last → IsCounted order h clients → (place_of ask).0 < 130 → full h p.last ask ≡ false
    → OneMore h (place_of ask).0 (number_after p.last (h.lasts (place_of ask).0)) step
    → IsCounted (place_of ask ∷ order) step.held (set_client clients c (hears p (place_of ask) step.entry))
step-counted order h clients c p ask step is k low room one = record {
  total = sum_more 130 place (λ q. length (h.logs q)) (λ q. length (step.held.logs q)) low
      (ap (λ (logs : ℕ → List Entry). length (logs place)) one.logs ∙ ap length (here_log h.logs place (step.entry ∷ h.logs place)) ∙ omega arith)
      (λ q differ. ap (λ (logs : ℕ → List Entry). length (logs q)) one.logs ∙ ap length (other_log h.logs place q (step.entry ∷ h.logs place) differ))
      ∙ omega (arith, k.total);
  short = λ q. subst (λ (logs : ℕ → List Entry). length (logs q) ≤ 1048576) (sym one.logs) (short q (q == place));
  low = λ q. (let bound = subst (λ (lasts : ℕ → ℕ). lasts q ≤ length order + 1) (sym one.lasts) (lows q (q == place)) in omega (arith, bound));
  clients_low = λ q. (let bound = clients_low (length order) clients c p (place_of ask) step.entry k.clients_low (omega (arith, one.numbered, number_low)) q in omega (arith, bound));
}
  where
    place : ℕ
    place = (place_of ask).0

    number_low : number_after p.last (h.lasts (place_of ask).0) ≤ length order + 1
    number_low = let a = k.clients_low c in let b = k.low (place_of ask).0 in omega (arith, a, b, is)

    few : length (h.logs (place_of ask).0) < 1048576
    few = not_full (length (h.logs (place_of ask).0)) p.last (h.lasts (place_of ask).0) room

    short : (q : ℕ) (b : Bool) → length (if b then step.entry ∷ h.logs (place_of ask).0 else h.logs q) ≤ 1048576
    short q true = let f = few in omega arith
    short q false = k.short q

    lows : (q : ℕ) (b : Bool) → (if b then number_after p.last (h.lasts (place_of ask).0) else h.lasts q) ≤ length order + 1
    lows q true = number_low
    lows q false = let b = k.low q in omega arith

turned-counted : (order : List PlaceNo) (h : Held) (clients : ℕ → Progress) (c : ℕ) (p : Progress) → clients c ≡ p → (o : Option Ask) → ((ask : Ask) → Some ask ≡ o → (place_of ask).0 < 130) → IsCounted order h clients → full_asked h p.last o ≡ false
    → (let part = turned (client_of c) (record { held = h; progress = p; order = order }) o in IsCounted part.order part.held (set_client clients c part.progress))
turned-counted order h clients c p is None low k room = record {
  total = k.total;
  short = k.short;
  low = k.low;
  clients_low = λ q. by_test q (q == c);
}
  where
    by_test : (q : ℕ) (b : Bool) → (if b then p else clients q).last ≤ length order
    by_test q true = subst (λ (r : Progress). r.last ≤ length order) is (k.clients_low c)
    by_test q false = k.clients_low q
turned-counted order h clients c p is (Some ask) low k room = step-counted order h clients c p ask _ (ap (λ (r : Progress). r.last) is) k (low ask refl) room
    (one_more (nat_lt (place_of ask).0 64) (nat_lt (place_of ask).0 128) h c (number_after p.last (h.lasts (place_of ask).0)) ask)

pub turn-counted : (counts : Counts) → AreCounts counts → (order : List PlaceNo) (h : Held) (clients : ℕ → Progress) (c : ℕ) (p : Progress) → clients c ≡ p → ProgressThere counts p → IsCounted order h clients → full_next counts (client_of c) h p ≡ false
    → (let part = turn_part counts (client_of c) (record { held = h; progress = p; order = order }) in IsCounted part.order part.held (set_client clients c part.progress))
turn-counted counts good order h clients c p is there k room = turned-counted order h clients c p is (next_ask counts (client_of c) p) (λ ask next. place_low counts (place_of ask).0 good (asks_there counts good (client_of c) p ask next there)) k room

-- ---- a place that serves nothing more has a full log
full_log : (n count last place_last : ℕ) → is_full count last place_last ≡ true → last ≤ n → place_last ≤ n → n < 1099511627776 → nat_le 1048576 count ≡ true
full_log n count last place_last h a b lt = grind (arith, nat_tests)

pub full-log : (order : List PlaceNo) (h : Held) (clients : ℕ → Progress) (p : Progress) (c : ℕ) (ask : Ask) → clients c ≡ p → IsCounted order h clients → full h p.last ask ≡ true → log_full h ask ≡ true
full-log order h clients p c ask is k f =
    let few = sum_few 130 1048576 (λ q. length (h.logs q)) k.short in
    let own : (clients c).last ≡ p.last = ap (λ (r : Progress). r.last) is in
    let low = k.clients_low c in
    full_log (length order) (length (h.logs (place_of ask).0)) p.last (h.lasts (place_of ask).0) f (omega (arith, low, own)) (k.low (place_of ask).0) (omega (arith, few, k.total))

many : (n count : ℕ) → nat_le 1048576 count ≡ true → count ≤ n → 1048576 ≤ n
many n count h le = grind (arith, nat_tests)

pub many-steps : (order : List PlaceNo) (h : Held) (clients : ℕ → Progress) (ask : Ask) → (place_of ask).0 < 130 → IsCounted order h clients → log_full h ask ≡ true → 1048576 ≤ length order
many-steps order h clients ask low k f = let above = sum_above 130 (place_of ask).0 (λ q. length (h.logs q)) low in many (length order) (length (h.logs (place_of ask).0)) f (omega (arith, above, k.total))

pub asked-low : (counts : Counts) → AreCounts counts → (c : Client) (p : Progress) (ask : Ask) → Some ask ≡ next_ask counts c p → ProgressThere counts p → (place_of ask).0 < 130
asked-low counts good c p ask next there = place_low counts (place_of ask).0 good (asks_there counts good c p ask next there)

-- ---- a place that serves has room in its log
room : (count last place_last : ℕ) → is_full count last place_last ≡ false → nat_le 1048576 count ≡ false
room count last place_last h = grind (arith, nat_tests)

pub log-room : (counts : Counts) (c : Client) (h : Held) (p : Progress) (ask : Ask) → Some ask ≡ next_ask counts c p → full_next counts c h p ≡ false → log_full h ask ≡ false
log-room counts c h p ask next f = room (length (h.logs (place_of ask).0)) p.last (h.lasts (place_of ask).0) (ap (full_asked h p.last) next ∙ f)
