-- A store serves each ask of its own as all stores together do.
use Rattle.std.proofs.Common.{◌≡◌, ℕ, ◌+◌, ◌<◌, List, [], flat_map, Bool, true, false, refl, sym, ◌∙◌, ap, subst, arith}
use Rattle.std.specs.Prelude.{◌==◌, ◌%◌, Option, Some, None, if◌then◌else◌}
use Rattle.std.proofs.lemmas.Bool.Decides.{nat_tests}
use Rattle.std.specs.Ordering.{nat_cmp}
use Rattle.std.specs.Cmp.{nat_cmp_total}
use Rattle.std.specs.FinMap.{insert, entries, nat_cmp-IsAntisymmetric}
use Rattle.next_ids.specs.declared.ids.FileId.{FileId}
use Rattle.next_ids.specs.declared.ids.Client.{Client}
use Rattle.next_ids.specs.declared.ids.PlaceNo.{PlaceNo}
use Rattle.next_ids.specs.declared.ids.Stamp.{Stamp}
use Rattle.next_ids.specs.declared.ids.Node.TheVariants.{File}
use Rattle.next_ids.specs.declared.time.Ts.{Ts}
use Rattle.next_ids.specs.Times.{later, ts_at}
use Rattle.next_steps.specs.declared.contents.FileRec.{FileRec}
use Rattle.next_steps.specs.declared.ask.Ask.{Ask}
use Rattle.next_steps.specs.declared.ask.Ask.TheVariants as ask
use Rattle.next_steps.specs.declared.answer.Answer.{Answer}
use Rattle.next_steps.specs.declared.answer.Answer.TheVariants as answer
use Rattle.next_steps.specs.declared.moves.Moved.{Moved}
use Rattle.next_steps.specs.declared.moves.Moved.TheVariants.{Forget}
use Rattle.next_steps.specs.Asks.{place_of}
use Rattle.next_rules.specs.Contents.{Store, Served, unmoved, made_at}
use Rattle.next_rules.specs.Homes.{home_of_number}
use Rattle.next_rules.specs.Stores.{new_file, got, resized, file_owner, settled, cut_file, taken_back, dropped, serve_store}
use Rattle.next_rules.specs.Strays.{file_of_number, lies_here, owed_item, store_strays}
use Rattle.next_laws_several.proofs.Parts.{Moves, lies, set_one, cut_one, entries-part, flat-part}

-- the store with the index, and all together in w, which were v
abbrev pub AlikeStores : (index : ℕ) → (v s w : Store) → Type 0
AlikeStores index v s w = Moves home_of_number index v s w

pub record ServesStore (index : ℕ) (v : Store) (one all : Served Store) : Type 0 where
  pub answer : all.answer ≡ one.answer
  pub moved : all.moved ≡ one.moved
  pub contents : Moves home_of_number index v one.contents all.contents

home_in : (index n : ℕ) → 64 + n % 64 ≡ 64 + index → home_of_number n ≡ index
home_in index n e = omega arith

made_home : (index : ℕ) (at : Stamp) → at.place.0 ≡ 64 + index → index < 64 → home_of_number (made_at at) ≡ index
made_home index at is low = omega arith

module _ (index : ℕ) (v s w : Store) (a : Moves home_of_number index v s w) where
  looks : (x : Answer) → ServesStore index v (unmoved s x) (unmoved w x)
  looks x = record { answer = refl; moved = refl; contents = a }

  sets : (f : ℕ) (r : FileRec) → home_of_number f ≡ index → Moves home_of_number index v (insert s f r) (insert w f r)
  sets f r home = set_one nat_cmp_total nat_cmp-IsAntisymmetric home_of_number index v s w f r home a

  via : {one all given : Served Store} → given ≡ all → ServesStore index v one all → ServesStore index v one given
  via {one} e h = subst (ServesStore index v one) (sym e) h

  -- ---- line by line, where both have found the same
  resized-alike : (c : Client) (f : FileId) (size : ℕ) (ts : Ts) → home_of_number f.0 ≡ index → (r : Option FileRec) → ServesStore index v (resized s c f size ts r) (resized w c f size ts r)
  resized-alike c f size ts home None = looks _
  resized-alike c f size ts home (Some r) = record { answer = refl; moved = refl; contents = sets f.0 (record r { size = size; time = later r.time ts }) home }

  settled-alike : (f : FileId) → home_of_number f.0 ≡ index → (r : Option FileRec) (owner : Option Client) → ServesStore index v (settled s f r owner) (settled w f r owner)
  settled-alike f home None owner = looks _
  settled-alike f home (Some r) None = looks _
  settled-alike f home (Some r) (Some c) = record { answer = refl; moved = refl; contents = sets f.0 (record r { owner = None }) home }

  cut-alike : (f : FileId) → home_of_number f.0 ≡ index → (moved : Option Moved) → ServesStore index v (cut_file s f moved) (cut_file w f moved)
  cut-alike f home moved = record { answer = refl; moved = refl; contents = cut_one nat_cmp_total nat_cmp-IsAntisymmetric home_of_number index v s w f.0 home a }

  taken_back-alike : (c : Client) (f : FileId) → home_of_number f.0 ≡ index → (moved : Option Moved) (owner : Option Client) → ServesStore index v (taken_back s c f moved owner) (taken_back w c f moved owner)
  taken_back-alike c f home moved None = looks _
  taken_back-alike c f home moved (Some owner) = by_test (owner.0 == c.0)
    where
      by_test : (b : Bool) → ServesStore index v (if b then cut_file s f moved else unmoved s answer.None) (if b then cut_file w f moved else unmoved w answer.None)
      by_test true = cut-alike f home moved
      by_test false = looks _

  dropped-alike : (f : FileId) → home_of_number f.0 ≡ index → (r : Option FileRec) → ServesStore index v (dropped s f r) (dropped w f r)
  dropped-alike f home None = looks _
  dropped-alike f home (Some r) = cut-alike f home (Some (Forget f))

  -- ---- strays
  module _ (at : PlaceNo) (own : at.0 ≡ 64 + index) (clients : List Client) where
    owed-away : (e : ℕ × FileRec) → lies home_of_number index e.0 ≡ false → (owner : Option Client) → owed_item at clients (file_of_number e.0) owner e.1.home ≡ []
    owed-away e away None = refl
    owed-away e away (Some owner) = let elsewhere : lies_here at (file_of_number e.0) ≡ false = grind (arith, nat_tests, own) in rw elsewhere refl

    strays-alike : store_strays w at clients ≡ store_strays s at clients
    strays-alike = ap answer.Strays (sym (
        ap (flat_map (λ (e : ℕ × FileRec). owed_item at clients (file_of_number e.0) e.1.owner e.1.home)) (entries-part nat_cmp_total nat_cmp-IsAntisymmetric home_of_number index v s w a)
        ∙ flat-part nat_cmp (lies home_of_number index) (λ (e : ℕ × FileRec). owed_item at clients (file_of_number e.0) e.1.owner e.1.home) (λ e away. owed-away e away e.1.owner) (entries w)))

  -- ---- all lines
  pub serves-alike : (at : Stamp) (moment : ℕ) → at.place.0 ≡ 64 + index → index < 64 → (x : Ask) → (place_of x).0 ≡ 64 + index → ServesStore index v (serve_store s at moment x) (serve_store w at moment x)
  serves-alike at moment own low (ask.Put client place home) is = record { answer = refl; moved = refl; contents = sets (made_at at) (new_file client home (ts_at moment at.number)) (made_home index at own low) }
  serves-alike at moment own low (ask.Get file) is = via (ap (λ r. unmoved w (got r)) (a.here file.0 (home_in index file.0 is))) (looks _)
  serves-alike at moment own low (ask.SetSize client file size ts) is =
      let home = home_in index file.0 is in via (ap (resized w client file size ts) (a.here file.0 home)) (resized-alike client file size ts home _)
  serves-alike at moment own low (ask.Settle (File file)) is =
      let home = home_in index file.0 is in via (ap (λ r. settled w file r (file_owner r)) (a.here file.0 home)) (settled-alike file home _ _)
  serves-alike at moment own low (ask.TakeBack client (File file)) is =
      let home = home_in index file.0 is in via (ap (λ r. taken_back w client file None (file_owner r)) (a.here file.0 home)) (taken_back-alike client file home None _)
  serves-alike at moment own low (ask.DropOwed client (File file)) is =
      let home = home_in index file.0 is in via (ap (λ r. taken_back w client file (Some (Forget file)) (file_owner r)) (a.here file.0 home)) (taken_back-alike client file home _ _)
  serves-alike at moment own low (ask.Drop file) is =
      let home = home_in index file.0 is in via (ap (dropped w file) (a.here file.0 home)) (dropped-alike file home _)
  serves-alike at moment own low (ask.Strays place clients) is = via (ap (unmoved w) (strays-alike at.place own clients)) (looks _)
  serves-alike at moment own low x is = looks _
