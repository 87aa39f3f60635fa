-- What the text of a line makes of the reading so far.
use Rattle.std.proofs.Common.{◌≡◌, ℕ, ◌+◌, ◌<◌, ◌≤◌, nat_le, nat_lt, ◌==◌, Bool, true, false, cond, ◌||◌, List, [], ◌∷◌, length, map, refl, ap, ◌∙◌, arith, Option, Some, None, Result, Ok, Err, inl, inr}
use Rattle.std.specs.List.{list_all}
use Rattle.std.proofs.lemmas.Bool.Decides.{nat_tests}
use Rattle.next_grammar.specs.declared.fault.Fault.{Fault}
use Rattle.next_grammar.specs.declared.fault.Fault.TheVariants.{BadNumber, TooMany, LateLine, NotBuilt}
use Rattle.next_grammar.specs.declared.line.Counts.{Counts}
use Rattle.next_grammar.specs.declared.line.LineKind.{LineKind}
use Rattle.next_grammar.specs.declared.line.LineKind.TheVariants.{Places, Client as ClientLine, Stop as StopLine, Turns as TurnsLine}
use Rattle.next_grammar.specs.declared.line.Stop.{Stop}
use Rattle.next_grammar.specs.declared.order.Order.{Order}
use Rattle.next_grammar.specs.declared.turns.ListedTurns.{ListedTurns}
use Rattle.next_grammar.specs.Lines.{kind_of, places_said, stop_said}
use Rattle.next_grammar.specs.Orders.{order_said}
use Rattle.next_grammar.specs.Turns.{turns_said}
use Rattle.next_grammar.specs.Words.{words, is_comment}
use Rattle.next_script.specs.declared.reading.Reading.{Reading}
use Rattle.next_setup.specs.Built.{is_built}
use Rattle.next_script.specs.Forms.{IsSilent, Has, SaysPlaces, SaysOrder, SaysTurns}
use Rattle.next_setup.specs.Lists.{is_in}
use Rattle.next_script.specs.Scripts.{and_then, is_list, start, ordered, with_order, client_line, with_stop, stop_line, all_listed, turn_count, is_client, turned, with_turns, turns_line, in_kind, by_words, with_text}
use Rattle.next_script.proofs.FirstWords.{word_of, kind_of-word, kind_of-word_of}
use Rattle.next_script.proofs.Turning.{AreListedIn, all_listed-said, listed-clients, all_listed-from, all-clients}
use Rattle.next_script.proofs.Choices.{second-of, third-of}

-- one more order fits
pub record HasRoom (r : Reading) (order : Order) : Type 0 where
  pub none : length r.script.turns ≡ 0
  pub few : r.commands < 65536
  pub rare : is_list order.command ≡ true → r.lists < 128

-- what was read, behind `places`, with one more text
pub data Step (r : Reading) (text : List ℕ) (next : Option Reading) : Type 0 where
  silent : IsSilent text → next ≡ Some r → Step r text next
  order_line : (order : Order) → SaysOrder text order → HasRoom r order → next ≡ Some (ordered r order) → Step r text next
  turns_of_line : (turns : ListedTurns) (more : List ListedTurns) → SaysTurns r.script.commands text (turns ∷ more) → r.turns + turn_count (turns ∷ more) ≤ 1000000 → next ≡ Some (turned r (turns ∷ more)) → Step r text next

-- the same, where nothing was read yet
pub data Opening (text : List ℕ) (next : Option Reading) : Type 0 where
  still : IsSilent text → next ≡ None → Opening text next
  places_line : (counts : Counts) → SaysPlaces text counts → next ≡ Some (start counts) → Opening text next

-- ---- a `client` line
record IsOrdered (r s : Reading) (behind : List (List ℕ)) : Type 0 where
  pub order : Order
  pub said : order_said behind ≡ Ok order
  pub built : is_built order.command ≡ true
  pub few : r.commands < 65536
  pub rare : is_list order.command ≡ true → r.lists < 128
  pub is : s ≡ ordered r order

client_line-ordered : (r s : Reading) (behind : List (List ℕ)) → client_line r behind ≡ Ok s → IsOrdered r s behind
unfolding client_line with_order
client_line-ordered r s behind e = by_said (order_said behind) refl e
  where
    by_tests : (order : Order) → order_said behind ≡ Ok order → (c : Bool) → nat_le 65536 r.commands ≡ c → (k : Bool) → is_list order.command ≡ k → (l : Bool) → nat_le 128 r.lists ≡ l → (b : Bool) → is_built order.command ≡ b →
        cond (c || cond k l false) (Err TooMany) (cond b (Ok (ordered r order)) (Err NotBuilt)) ≡ Ok s → IsOrdered r s behind
    by_tests order o true t k u l v b w e = cc
    by_tests order o false t true u true v b w e = cc
    by_tests order o false t true u false v true w e = record { order = order; said = o; built = w; few = grind (arith, nat_tests); rare = λ listed. grind (arith, nat_tests); is = cc }
    by_tests order o false t true u false v false w e = cc
    by_tests order o false t false u l v true w e = record { order = order; said = o; built = w; few = grind (arith, nat_tests); rare = λ listed. cc; is = cc }
    by_tests order o false t false u l v false w e = cc

    by_said : (said : Result Order Fault) → order_said behind ≡ said → and_then (with_order r) said ≡ Ok s → IsOrdered r s behind
    by_said (Err fault) o e = cc
    by_said (Ok order) o e = by_tests order o (nat_le 65536 r.commands) refl (is_list order.command) refl (nat_le 128 r.lists) refl (is_built order.command) refl e

with_order-room : (r : Reading) (order : Order) → HasRoom r order → is_built order.command ≡ true → with_order r order ≡ Ok (ordered r order)
unfolding with_order
with_order-room r order h built =
    third-of (nat_le 65536 r.commands) (cond (is_list order.command) (nat_le 128 r.lists) false) (is_built order.command) (Err TooMany) (Ok (ordered r order)) (Err NotBuilt) room (by_kind (is_list order.command) refl) built
  where
    room : nat_le 65536 r.commands ≡ false
    room = let few = h.few in grind (arith, nat_tests)

    by_kind : (k : Bool) → is_list order.command ≡ k → cond k (nat_le 128 r.lists) false ≡ false
    by_kind true listed = let few = h.rare listed in grind (arith, nat_tests)
    by_kind false other = refl

-- ---- no `stop` line is read
stop_line-none : (r s : Reading) (behind : List (List ℕ)) → stop_line r behind ≡ Ok s → ⊥
unfolding stop_line
stop_line-none r s behind e = by_said (stop_said behind) e
  where
    by_test : (b : Bool) → cond b (Err NotBuilt) (Err BadNumber) ≡ Ok s → ⊥
    by_test true e = cc
    by_test false e = cc

    by_said : (said : Result Stop Fault) → and_then (with_stop r) said ≡ Ok s → ⊥
    by_said (Err fault) e = cc
    by_said (Ok stop) e = by_test (is_in r.script.commands stop.client) e

-- ---- a `turns` line
record IsTurned (r s : Reading) (behind : List (List ℕ)) : Type 0 where
  pub turns : ListedTurns
  pub more : List ListedTurns
  pub said : map turns_said behind ≡ map Some (turns ∷ more)
  pub clients : AreListedIn r.script.commands (turns ∷ more)
  pub few : r.turns + turn_count (turns ∷ more) ≤ 1000000
  pub is : s ≡ turned r (turns ∷ more)

with_turns-turned : (r s : Reading) (word : List ℕ) (words : List (List ℕ)) (listed : List ListedTurns) → all_listed r (word ∷ words) ≡ Some listed → with_turns r (Some listed) ≡ Ok s → IsTurned r s (word ∷ words)
with_turns-turned r s word words [] a e = let h = all_listed-said r (word ∷ words) [] a in let said = h.said in cc
with_turns-turned r s word words (t ∷ ts) a e = by_tests (nat_lt 1000000 (r.turns + turn_count (t ∷ ts))) refl (list_all (λ turns. is_client turns.actor) (t ∷ ts)) refl e
  where
    by_tests : (m : Bool) → nat_lt 1000000 (r.turns + turn_count (t ∷ ts)) ≡ m → (c : Bool) → list_all (λ (turns : ListedTurns). is_client turns.actor) (t ∷ ts) ≡ c → cond m (Err TooMany) (cond c (Ok (turned r (t ∷ ts))) (Err NotBuilt)) ≡ Ok s → IsTurned r s (word ∷ words)
    by_tests true u c v e = cc
    by_tests false u true v e =
        let h = all_listed-said r (word ∷ words) (t ∷ ts) a in
        record { turns = t; more = ts; said = h.said; clients = listed-clients r (t ∷ ts) h.known v; few = grind (arith, nat_tests); is = cc }
    by_tests false u false v e = cc

turns_line-turned : (r s : Reading) (behind : List (List ℕ)) → turns_line r behind ≡ Ok s → IsTurned r s behind
unfolding turns_line
turns_line-turned r s [] e = cc
turns_line-turned r s (word ∷ words) e = by_listed (all_listed r (word ∷ words)) refl e
  where
    by_listed : (o : Option (List ListedTurns)) → all_listed r (word ∷ words) ≡ o → with_turns r o ≡ Ok s → IsTurned r s (word ∷ words)
    by_listed None o e = cc
    by_listed (Some listed) o e = with_turns-turned r s word words listed o e

turns_line-room : (r : Reading) (behind : List (List ℕ)) (t : ListedTurns) (ts : List ListedTurns) → map turns_said behind ≡ map Some (t ∷ ts) → AreListedIn r.script.commands (t ∷ ts) → r.turns + turn_count (t ∷ ts) ≤ 1000000 → turns_line r behind ≡ Ok (turned r (t ∷ ts))
unfolding turns_line
turns_line-room r [] t ts said clients few = cc
turns_line-room r (word ∷ words) t ts said clients few =
    ap (with_turns r) (all_listed-from r (word ∷ words) (t ∷ ts) said clients)
    ∙ second-of (nat_lt 1000000 (r.turns + turn_count (t ∷ ts))) (list_all (λ (turns : ListedTurns). is_client turns.actor) (t ∷ ts)) (Err TooMany) (Ok (turned r (t ∷ ts))) (Err NotBuilt) room (all-clients r.script.commands (t ∷ ts) clients)
  where
    room : nat_lt 1000000 (r.turns + turn_count (t ∷ ts)) ≡ false
    room = grind (arith, nat_tests)

-- ---- from what is read to what the text says
place : (text first : List ℕ) (behind : List (List ℕ)) (kind : LineKind) → is_comment text ≡ false → words text ≡ first ∷ behind → kind_of first ≡ Some kind → Has text (word_of kind) behind
place text first behind kind c w k = (c, w ∙ ap (λ (word : List ℕ). word ∷ behind) (kind_of-word first kind k))

kind-step : (r : Reading) (text : List ℕ) (next : Option Reading) (behind : List (List ℕ)) (kind : LineKind) → Has text (word_of kind) behind → in_kind (Some r) (Some kind) behind ≡ Ok next → Step r text next
kind-step r text next behind Places h e = cc
kind-step r text next behind StopLine h e = by_turns (length r.script.turns == 0) (stop_line r behind) refl e
  where
    by_turns : (b : Bool) (said : Result Reading Fault) → stop_line r behind ≡ said → and_then (λ (s : Reading). Ok (Some s)) (cond b said (Err LateLine)) ≡ Ok next → Step r text next
    by_turns true (Ok s) o e = absurd (stop_line-none r s behind o)
    by_turns true (Err fault) o e = cc
    by_turns false said o e = cc
kind-step r text next behind ClientLine h e = by_turns (length r.script.turns == 0) refl (client_line r behind) refl e
  where
    by_turns : (b : Bool) → (length r.script.turns == 0) ≡ b → (said : Result Reading Fault) → client_line r behind ≡ said → and_then (λ (s : Reading). Ok (Some s)) (cond b said (Err LateLine)) ≡ Ok next → Step r text next
    by_turns true t (Ok s) o e =
        let g = client_line-ordered r s behind o in
        let same : next ≡ Some s = cc in
        order_line g.order (record { behind = behind; has = h; said = g.said; built = g.built }) (record { none = grind (arith, nat_tests); few = g.few; rare = g.rare }) (same ∙ ap (λ (s : Reading). Some s) g.is)
    by_turns true t (Err fault) o e = cc
    by_turns false t said o e = cc
kind-step r text next behind TurnsLine h e = by_said (turns_line r behind) refl e
  where
    by_said : (said : Result Reading Fault) → turns_line r behind ≡ said → and_then (λ (s : Reading). Ok (Some s)) said ≡ Ok next → Step r text next
    by_said (Ok s) o e =
        let g = turns_line-turned r s behind o in
        let same : next ≡ Some s = cc in
        turns_of_line g.turns g.more (record { behind = behind; has = h; said = g.said; clients = g.clients }) g.few (same ∙ ap (λ (s : Reading). Some s) g.is)
    by_said (Err fault) o e = cc

words-step : (r : Reading) (text : List ℕ) (next : Option Reading) (ws : List (List ℕ)) → is_comment text ≡ false → words text ≡ ws → by_words (Some r) ws ≡ Ok next → Step r text next
words-step r text next [] c w e = silent (inr w) cc
words-step r text next (first ∷ behind) c w e = by_kind_of (kind_of first) refl e
  where
    by_kind_of : (o : Option LineKind) → kind_of first ≡ o → in_kind (Some r) o behind ≡ Ok next → Step r text next
    by_kind_of None o e = cc
    by_kind_of (Some kind) o e = kind-step r text next behind kind (place text first behind kind c w o) e

pub with_text-step : (r : Reading) (text : List ℕ) (next : Option Reading) → with_text (Some r) text ≡ Ok next → Step r text next
unfolding with_text
with_text-step r text next e = by_comment (is_comment text) refl e
  where
    by_comment : (b : Bool) → is_comment text ≡ b → cond b (Ok (Some r)) (by_words (Some r) (words text)) ≡ Ok next → Step r text next
    by_comment true t e = silent (inl t) cc
    by_comment false t e = words-step r text next (words text) t refl e

-- ---- the same, where nothing was read yet
kind-opening : (text : List ℕ) (next : Option Reading) (behind : List (List ℕ)) (kind : LineKind) → Has text (word_of kind) behind → in_kind None (Some kind) behind ≡ Ok next → Opening text next
kind-opening text next behind Places h e = by_said (places_said behind) refl e
  where
    by_said : (said : Result Counts Fault) → places_said behind ≡ said → and_then (λ (r : Reading). Ok (Some r)) (and_then (λ (counts : Counts). Ok (start counts)) said) ≡ Ok next → Opening text next
    by_said (Ok counts) o e = places_line counts (record { behind = behind; has = h; said = o }) cc
    by_said (Err fault) o e = cc
kind-opening text next behind ClientLine h e = cc
kind-opening text next behind StopLine h e = cc
kind-opening text next behind TurnsLine h e = cc

words-opening : (text : List ℕ) (next : Option Reading) (ws : List (List ℕ)) → is_comment text ≡ false → words text ≡ ws → by_words None ws ≡ Ok next → Opening text next
words-opening text next [] c w e = still (inr w) cc
words-opening text next (first ∷ behind) c w e = by_kind_of (kind_of first) refl e
  where
    by_kind_of : (o : Option LineKind) → kind_of first ≡ o → in_kind None o behind ≡ Ok next → Opening text next
    by_kind_of None o e = cc
    by_kind_of (Some kind) o e = kind-opening text next behind kind (place text first behind kind c w o) e

pub with_text-opening : (text : List ℕ) (next : Option Reading) → with_text None text ≡ Ok next → Opening text next
unfolding with_text
with_text-opening text next e = by_comment (is_comment text) refl e
  where
    by_comment : (b : Bool) → is_comment text ≡ b → cond b (Ok None) (by_words None (words text)) ≡ Ok next → Opening text next
    by_comment true t e = still (inl t) cc
    by_comment false t e = words-opening text next (words text) t refl e

-- ---- from what the text says to what is read
pub silent-text : (s : Option Reading) (text : List ℕ) → IsSilent text → with_text s text ≡ Ok s
unfolding with_text
silent-text s text (inl comment) = ap (λ (b : Bool). cond b (Ok s) (by_words s (words text))) comment
silent-text s text (inr none) = by_comment (is_comment text)
  where
    by_comment : (b : Bool) → cond b (Ok s) (by_words s (words text)) ≡ Ok s
    by_comment true = refl
    by_comment false = ap (by_words s) none

has-text : (s : Option Reading) (text first : List ℕ) (behind : List (List ℕ)) → Has text first behind → with_text s text ≡ in_kind s (kind_of first) behind
unfolding with_text
has-text s text first behind h = ap (λ (b : Bool). cond b (Ok s) (by_words s (words text))) h.0 ∙ ap (by_words s) h.1

kind-text : (s : Option Reading) (text : List ℕ) (kind : LineKind) (behind : List (List ℕ)) → Has text (word_of kind) behind → with_text s text ≡ in_kind s (Some kind) behind
kind-text s text kind behind h = has-text s text (word_of kind) behind h ∙ ap (λ (k : Option LineKind). in_kind s k behind) (kind_of-word_of kind)

abbrev lifted : Result Reading Fault → Result (Option Reading) Fault
lifted said = and_then (λ r. Ok (Some r)) said

pub places-text : (text : List ℕ) (counts : Counts) → SaysPlaces text counts → with_text None text ≡ Ok (Some (start counts))
places-text text counts p = kind-text None text Places p.behind p.has ∙ ap (λ (said : Result Counts Fault). lifted (and_then (λ (counts : Counts). Ok (start counts)) said)) p.said

pub order-text : (r : Reading) (text : List ℕ) (order : Order) → SaysOrder text order → HasRoom r order → with_text (Some r) text ≡ Ok (Some (ordered r order))
unfolding client_line
order-text r text order p h =
    kind-text (Some r) text ClientLine p.behind p.has
    ∙ ap (λ (b : Bool). lifted (cond b (client_line r p.behind) (Err LateLine))) early
    ∙ ap (λ (said : Result Order Fault). lifted (and_then (with_order r) said)) p.said
    ∙ ap lifted (with_order-room r order h p.built)
  where
    early : (length r.script.turns == 0) ≡ true
    early = let none = h.none in grind (arith, nat_tests)

pub turns-text : (r : Reading) (text : List ℕ) (t : ListedTurns) (ts : List ListedTurns) → SaysTurns r.script.commands text (t ∷ ts) → r.turns + turn_count (t ∷ ts) ≤ 1000000 → with_text (Some r) text ≡ Ok (Some (turned r (t ∷ ts)))
turns-text r text t ts p few = kind-text (Some r) text TurnsLine p.behind p.has ∙ ap lifted (turns_line-room r p.behind t ts p.said p.clients few)
