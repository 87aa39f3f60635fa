-- What a record, a row or a debt tells of a node's stage.
use Rattle.std.proofs.Common.{◌≡◌, ℕ, ◌<◌, List, ◌∷◌, Bool, true, false, refl, sym, ◌∙◌, ap, arith, inl, inr}
use Rattle.std.specs.Prelude.{◌==◌, ◌&&◌, Option, Some, None}
use Rattle.std.specs.Str.{bytes_eq}
use Rattle.std.proofs.lemmas.Bool.Decides.{nat_tests}
use Rattle.std.proofs.lemmas.Slice.Eq.{bytes_eq-Decides}
use Rattle.std.proofs.lemmas.Option.{same_Some}
use Rattle.std.specs.FinMap.{get}
use Rattle.next_ids.specs.declared.ids.DirId.{DirId}
use Rattle.next_ids.specs.declared.ids.Node.{Node}
use Rattle.next_ids.specs.declared.ids.Node.TheVariants.{Dir}
use Rattle.next_ids.specs.declared.ids.Stamp.{Stamp}
use Rattle.next_ids.specs.declared.note.MarkNote.{MarkNote}
use Rattle.next_ids.specs.Maps.{row_key}
use Rattle.next_steps.specs.Asks.{home_of}
use Rattle.next_steps.specs.declared.contents.Debt.{Debt}
use Rattle.next_steps.specs.declared.contents.DirRec.{DirRec}
use Rattle.next_steps.specs.declared.contents.FileRec.{FileRec}
use Rattle.next_steps.specs.declared.contents.Row.{Row}
use Rattle.next_rules.specs.Contents.{Shard, Store, debt_key, made_at}
use Rattle.next_rules.specs.Reading.{lies_at, is_back}
use Rattle.next_laws_stages.specs.Stages.{Stage, Unborn, Root, Named, Marked, Owed, Cleared, Gone, is_born, is_known, is_in, is_open, is_kept, is_left, key_of, debt_of}
use Rattle.next_laws_stages.specs.Needs.{Noted, Meets}
use Rattle.next_laws_stages.specs.Held.{HasRec, FileIs, DirIs, PlacesHold, number_of, place_at, dir_at}
use Rattle.next_laws_stages.proofs.Effects.{head_of, tail_of, none_some, true_false}

same_mark : (r : DirRec) (m : Option MarkNote) (b : Option (DirId × List ℕ)) → HasRec (Some r) m b → r.mark ≡ m
same_mark r m b it = ap (λ (z : DirRec). z.mark) (same_Some r it.r it.there) ∙ it.mark

same_back : (r : DirRec) (m : Option MarkNote) (b : Option (DirId × List ℕ)) → HasRec (Some r) m b → r.back ≡ b
same_back r m b it = ap (λ (z : DirRec). z.back) (same_Some r it.r it.there) ∙ it.back

-- ---- what a record tells of a directory that is known
-- without a mark, rows may lie in it
pub open_known : (d : ℕ) (s : Stage) (r : DirRec) → is_known s ≡ true → DirIs d (Some r) s → r.mark ≡ None → is_open s ≡ true
open_known d Root r known it none = refl
open_known d (Named dir name) r known it none = refl
open_known d (Marked note) r known it none = absurd (none_some r.mark note none (same_mark r (Some note) _ it.1))
open_known d (Owed owner p at) r known it none = absurd (none_some r.mark it.note none (same_mark r (Some it.note) it.back it.rec))
open_known d s r known it none = absurd (cc)

-- with a mark it is marked so, or has lost its name
pub noted_known : (i : ℕ) (d : DirId) (s : Stage) (r : DirRec) (note : MarkNote) → is_known s ≡ true → DirIs d.0 (Some r) s → r.mark ≡ Some note → Meets i (Dir d) (Noted note) s
noted_known i d Root r note known it e = absurd (none_some r.mark note (same_mark r None None it.1) e)
noted_known i d (Named dir name) r note known it e = absurd (none_some r.mark note (same_mark r None (Some (dir, name)) it) e)
noted_known i d (Marked n) r note known it e =
    let same : n ≡ note = same_Some n note (sym (same_mark r (Some n) (Some (n.dir, n.name)) it.1) ∙ e) in
    (ap dir_at (ap (λ (q : MarkNote). q.child.0) (sym same) ∙ it.0), inl (ap Marked same))
noted_known i d (Owed owner p at) r note known it e =
    let same : it.note ≡ note = same_Some it.note note (sym (same_mark r (Some it.note) it.back it.rec) ∙ e) in
    (ap dir_at (ap (λ (q : MarkNote). q.child.0) (sym same) ∙ it.child), inr refl)
noted_known i d s r note known it e = absurd (cc)

-- where a record says that it is named, without a mark
named_as : (d : DirId) (n : List ℕ) (dir : DirId) (name : List ℕ) → ((d.0 == dir.0) && bytes_eq n name) ≡ true → Named d n ≡ Named dir name
named_as d n dir name e = by_tests (d.0 == dir.0) refl (bytes_eq n name) refl e
  where
    same : d.0 ≡ dir.0 → n ≡ name → Named d n ≡ Named dir name
    same p q = λ i. Named (record { 0 = p i }) (q i)

    by_tests : (a : Bool) → (d.0 == dir.0) ≡ a → (b : Bool) → bytes_eq n name ≡ b → (a && b) ≡ true → Named d n ≡ Named dir name
    by_tests true p true q e = same (grind (arith, nat_tests)) ((bytes_eq-Decides n name).0 q)
    by_tests true p false q e = absurd (cc)
    by_tests false p b q e = absurd (cc)

pub named_known : (d : ℕ) (s : Stage) (r : DirRec) (dir : DirId) (name : List ℕ) → is_known s ≡ true → DirIs d (Some r) s → r.mark ≡ None → lies_at (Some (dir, name)) (Some r) ≡ true → s ≡ Named dir name
named_known d Root r dir name known it none here =
    absurd (true_false (is_back r.back (Some (dir, name))) here (ap (λ b. is_back b (Some (dir, name))) (same_back r None None it.1)))
named_known d (Named e n) r dir name known it none here =
    named_as e n dir name (ap (λ b. is_back b (Some (dir, name))) (sym (same_back r None (Some (e, n)) it)) ∙ here)
named_known d (Marked note) r dir name known it none here = absurd (none_some r.mark note none (same_mark r (Some note) _ it.1))
named_known d (Owed owner p at) r dir name known it none here = absurd (none_some r.mark it.note none (same_mark r (Some it.note) it.back it.rec))
named_known d s r dir name known it none here = absurd (cc)

-- without a record it is not in the tree
pub out_without : (d : ℕ) (s : Stage) → DirIs d None s → is_in s ≡ false
out_without d Root it = absurd (let e = it.1.there in cc)
out_without d (Named dir name) it = absurd (let e = it.there in cc)
out_without d (Marked note) it = absurd (let e = it.1.there in cc)
out_without d s it = refl

-- ---- and of a file
pub known_kept : (s : Stage) (r : FileRec) → is_known s ≡ true → FileIs (Some r) s → is_kept s ≡ true
known_kept (Named dir name) r known it = refl
known_kept (Owed owner p at) r known it = refl
known_kept Root r known it = absurd it
known_kept (Marked note) r known it = absurd it
known_kept s r known it = absurd (cc)

-- a file with a key is named at it
key_name : (d : DirId) (n : List ℕ) (dir : DirId) (name : List ℕ) → Some (row_key d n) ≡ Some (row_key dir name) → Named d n ≡ Named dir name
key_name d n dir name e = let same : row_key d n ≡ row_key dir name = same_Some _ _ e in λ i. Named (record { 0 = head_of (same i) }) (tail_of (same i))

pub file_named : (dir : DirId) (name : List ℕ) (o : Option FileRec) (s : Stage) → FileIs o s → key_of s ≡ Some (row_key dir name) → s ≡ Named dir name
file_named dir name o (Named d n) it key = key_name d n dir name key
file_named dir name o (Marked note) it key = absurd it
file_named dir name o s it key = absurd (cc)

-- ---- stages
pub left_out : (s : Stage) → is_left s ≡ true → is_in s ≡ false
left_out (Owed owner p at) e = refl
left_out (Cleared owner p at) e = refl
left_out Gone e = refl
left_out s e = absurd (cc)

pub left_keyless : (s : Stage) → is_left s ≡ true → key_of s ≡ None
left_keyless (Owed owner p at) e = refl
left_keyless (Cleared owner p at) e = refl
left_keyless Gone e = refl
left_keyless s e = absurd (cc)

pub key_known : (s : Stage) (k : List ℕ) → key_of s ≡ Some k → is_known s ≡ true
key_known (Named dir name) k e = refl
key_known (Marked note) k e = refl
key_known s k e = absurd (cc)

pub open_in : (s : Stage) → is_open s ≡ true → is_in s ≡ true
open_in Root e = refl
open_in (Named dir name) e = refl
open_in s e = absurd (cc)

unborn : (s : Stage) → is_born s ≡ false → s ≡ Unborn
unborn Unborn e = refl
unborn s e = absurd (cc)

module _ (stage : Node → Stage) (shard : Shard) (store : Store) (lasts : ℕ → ℕ) (h : PlacesHold stage shard store lasts) where
  -- what a later step of a place makes is new
  pub unborn_above : (x : Node) (at : Stamp) → lasts at.place.0 < at.number → number_of x ≡ made_at at → (home_of x).0 ≡ at.place.0 → stage x ≡ Unborn
  unborn_above x at later is home = by_test (is_born (stage x)) refl
    where
      by_test : (b : Bool) → is_born (stage x) ≡ b → stage x ≡ Unborn
      by_test false e = unborn (stage x) e
      by_test true e = let low = h.issued x e in let here = ap lasts home in absurd (omega arith)

  -- a row names a node that is known
  pub row_known : (k : List ℕ) (row : Row) → get shard.rows k ≡ Some row → is_known (stage row.node) ≡ true
  row_known k row e = key_known (stage row.node) k (h.rows k row e)

  -- no debt is left for a node whose stage has none
  pub no_debt_at : (p : ℕ) (x : Node) → debt_of (stage x) ≡ None → get shard.debts (debt_key (place_at p) x) ≡ None
  no_debt_at p x none = by_debt (get shard.debts (debt_key (place_at p) x)) refl
    where
      by_debt : (o : Option Debt) → get shard.debts (debt_key (place_at p) x) ≡ o → o ≡ None
      by_debt None e = refl
      by_debt (Some debt) e = absurd (none_some (debt_of (stage x)) (p, debt) none (h.debts p x debt e))

  -- no row lies in a directory that is not open
  pub no_rows_in : (d : ℕ) → is_open (stage (dir_at d)) ≡ false → (name : List ℕ) → get shard.rows (d ∷ name) ≡ None
  no_rows_in d closed name = by_row (get shard.rows (d ∷ name)) refl
    where
      by_row : (o : Option Row) → get shard.rows (d ∷ name) ≡ o → o ≡ None
      by_row None e = refl
      by_row (Some row) e = absurd (true_false (is_open (stage (dir_at d))) (h.housed d name row e) closed)
