-- What each effect of a step keeps of what the places hold.
use Rattle.std.proofs.Common.{◌≡◌, ◌≢◌, ℕ, suc, ◌*◌, ◌%◌, ◌<◌, ◌≤◌, List, [], ◌∷◌, Bool, true, false, refl, sym, ◌∙◌, ap, subst, arith, inl, inr}
use Rattle.std.specs.Prelude.{Option, Some, None}
use Rattle.std.proofs.lemmas.Option.{same_Some}
use Rattle.std.specs.Option.{option_map}
use Rattle.std.specs.Cmp.{nat_cmp_total}
use Rattle.std.specs.FinMap.{get, insert, remove, empty, nat_cmp-IsAntisymmetric}
use Rattle.next_ids.specs.declared.ids.Actor.{Actor}
use Rattle.next_ids.specs.declared.ids.Actor.TheVariants.{Client as ClientActor}
use Rattle.next_ids.specs.declared.ids.FileId.{FileId}
use Rattle.next_ids.specs.declared.ids.DirId.{DirId}
use Rattle.next_ids.specs.declared.ids.Node.{Node}
use Rattle.next_ids.specs.declared.ids.Node.TheVariants.{Dir, File}
use Rattle.next_ids.specs.declared.ids.PlaceNo.{PlaceNo}
use Rattle.next_ids.specs.declared.ids.Stamp.{Stamp}
use Rattle.next_ids.specs.declared.note.MarkNote.{MarkNote}
use Rattle.next_ids.specs.declared.time.Ts.{Ts}
use Rattle.next_ids.specs.Maps.{Numbers, row_key, map_values}
use Rattle.next_ids.proofs.MapLemmas.{get-map_values}
use Rattle.next_steps.specs.Asks.{home_of}
use Rattle.next_steps.specs.declared.contents.Row.{Row}
use Rattle.next_steps.specs.declared.contents.DirRec.{DirRec}
use Rattle.next_steps.specs.declared.contents.Debt.{Debt}
use Rattle.next_rules.specs.Actors.{client_of}
use Rattle.next_rules.specs.Contents.{Shard, Store, debt_key}
use Rattle.next_rules.specs.Changes.{set_row, cut_row, update, leave_debt, end_debt, node_in, delta_of}
use Rattle.next_rules.specs.Facts.{SumsHold, LinksHold}
use Rattle.next_rules.specs.Owning.{merged_at}
use Rattle.next_rules.specs.Primitives.{new_dir}
use Rattle.next_rules.specs.Room.{HasRoom, room_in}
use Rattle.next_rules.specs.Strays.{lies_here, dir_of_number}
use Rattle.next_rules.proofs.Sums.{with_delta}
use Rattle.next_laws_shard.proofs.Leaving.{AllMerged}
use Rattle.next_laws_stages.specs.Stages.{Stage, Unborn, Root, Fresh, Named, Marked, Owed, Cleared, Gone, is_born, is_open, key_of, debt_of, Deletes, Removes, from, to}
use Rattle.next_laws_stages.specs.Held.{HasRec, FileIs, DirIs, NodeIs, PlacesHold, number_of, place_at, dir_at}
use Rattle.next_laws_stages.proofs.Counts.{sums_left, sums_inserted, sums_cut, links_inserted, links_cut, links_merged}
use Rattle.next_laws_stages.proofs.Maps.{name_set_here, name_set_away, name_cut_here, name_cut_away, set_here_n, set_away_n, names_or_not, numbers_or_not}
use Rattle.next_laws_stages.proofs.Stages.{Shifts, same_or_not, at_each}

-- ---- what is equal in equal values
same_pair : (p q : ℕ) (a b : Debt) → p ≡ q → a ≡ b → ◌≡◌ {A = Option (ℕ × Debt)} (Some (p, a)) (Some (q, b))
same_pair p q a b e f = λ i. Some (e i, f i)

pub none_some : {X : Type 0} (o : Option X) (a : X) → o ≡ None → o ≡ Some a → ⊥
none_some o a none some = cc

pub true_false : (b : Bool) → b ≡ true → b ≡ false → ⊥
true_false b t f = cc

-- ---- keys of debts
abbrev pub head_of : List ℕ → ℕ
head_of (d ∷ ns) = d
head_of [] = 0

abbrev pub tail_of : List ℕ → List ℕ
tail_of (d ∷ ns) = ns
tail_of [] = []

abbrev number_at : List ℕ → ℕ
number_at (p ∷ k ∷ n ∷ ns) = n
number_at _ = 0

abbrev kind_at : List ℕ → ℕ
kind_at (p ∷ k ∷ ns) = k
kind_at _ = 0

pub key_node : (q p : PlaceNo) (y x : Node) → debt_key q y ≡ debt_key p x → y ≡ x
key_node q p (Dir d) (Dir e) k = ap dir_at (ap number_at k)
key_node q p (File f) (File g) k = ap (λ n. File (record { 0 = n })) (ap number_at k)
key_node q p (Dir d) (File g) k = absurd (let no : 1 ≡ 0 = ap kind_at k in omega arith)
key_node q p (File f) (Dir e) k = absurd (let no : 0 ≡ 1 = ap kind_at k in omega arith)

pub key_place : (q p : PlaceNo) (y x : Node) → debt_key q y ≡ debt_key p x → q.0 ≡ p.0
key_place q p (Dir d) (Dir e) k = ap head_of k
key_place q p (File f) (File g) k = ap head_of k
key_place q p (Dir d) (File g) k = ap head_of k
key_place q p (File f) (Dir e) k = ap head_of k

-- ---- records
-- one that keeps its mark and where it is named
rec_like : (r new : DirRec) (m : Option MarkNote) (b : Option (DirId × List ℕ)) → new.mark ≡ r.mark → new.back ≡ r.back → HasRec (Some r) m b → HasRec (Some new) m b
rec_like r new m b mark back it =
    let same : it.r ≡ r = same_Some it.r r (sym it.there) in record {
      r = new;
      there = refl;
      mark = mark ∙ ap (λ (z : DirRec). z.mark) (sym same) ∙ it.mark;
      back = back ∙ ap (λ (z : DirRec). z.back) (sym same) ∙ it.back;
    }

-- it says the same of each node but one that is only put
pub dir_like : (d : ℕ) (r new : DirRec) (s : Stage) → new.mark ≡ r.mark → new.back ≡ r.back → ((client : ℕ) (ts : Ts) (dir : DirId) (name : List ℕ) → s ≡ Fresh client ts dir name → ⊥)
    → DirIs d (Some r) s → DirIs d (Some new) s
dir_like d r new Root mark back old it = (it.0, rec_like r new None None mark back it.1)
dir_like d r new (Named dir name) mark back old it = rec_like r new None (Some (dir, name)) mark back it
dir_like d r new (Marked note) mark back old it = (it.0, rec_like r new (Some note) (Some (note.dir, note.name)) mark back it.1)
dir_like d r new (Owed owner shard at) mark back old it = record { note = it.note; back = it.back; child = it.child; rec = rec_like r new (Some it.note) it.back mark back it.rec }
dir_like d r new (Fresh client ts dir name) mark back old it = absurd (old client ts dir name refl)
dir_like d r new s mark back old it = absurd (none_some (Some r) r it refl)

-- a directory in which rows may lie has a record
pub open_rec : (d : ℕ) (o : Option DirRec) (s : Stage) → is_open s ≡ true → DirIs d o s → (r : DirRec) × (o ≡ Some r)
open_rec d o Root open' it = (it.1.r, it.1.there)
open_rec d o (Named dir name) open' it = (it.r, it.there)
open_rec d o s open' it = absurd (cc)

open_fresh : (s : Stage) → is_open s ≡ true → (client : ℕ) (ts : Ts) (dir : DirId) (name : List ℕ) → s ≡ Fresh client ts dir name → ⊥
open_fresh s open' client ts dir name e = true_false (is_open s) open' (ap is_open e)

abbrev dir_in : Node → DirId
dir_in (Dir d) = d
dir_in (File f) = record { 0 = 0 }

-- where a record keeps its mark and where it is named, and the others stay, each node is in its stage
pub nodes_like : (stage : Node → Stage) (shard t : Shard) (store : Store) (dir : DirId) (r new : DirRec) → get shard.recs dir.0 ≡ Some r → new.mark ≡ r.mark → new.back ≡ r.back
    → ((client : ℕ) (ts : Ts) (d : DirId) (name : List ℕ) → stage (Dir dir) ≡ Fresh client ts d name → ⊥) → t.recs ≡ insert shard.recs dir.0 new
    → (y : Node) → NodeIs shard store y (stage y) → NodeIs t store y (stage y)
nodes_like stage shard t store dir r new there mark back old recs (File f) it = it
nodes_like stage shard t store dir r new there mark back old recs (Dir d) it = elim (numbers_or_not d.0 dir.0) [
  | inl e ↦ (let same : Dir d ≡ Dir dir = ap dir_at e in
      subst (λ (q : DirId). DirIs q.0 (get t.recs q.0) (stage (Dir q))) (sym (ap dir_in same)) (
      subst (λ o. DirIs dir.0 o (stage (Dir dir))) (sym (ap (λ m. get m dir.0) recs ∙ set_here_n shard.recs dir.0 new))
      (dir_like dir.0 r new (stage (Dir dir)) mark back old (subst (λ o. DirIs dir.0 o (stage (Dir dir))) there (subst (λ (q : DirId). DirIs q.0 (get shard.recs q.0) (stage (Dir q))) (ap dir_in same) it)))))
  | inr differ ↦ subst (λ o. DirIs d.0 o (stage (Dir d))) (sym (ap (λ m. get m d.0) recs ∙ set_away_n shard.recs dir.0 d.0 new differ)) it
]

-- ---- what one node's change leaves of a fact of all
module _ (stage stage' : Node → Stage) (x : Node) (s s' : Stage) (shifts : Shifts stage stage' x s s') where
  keys_alike : key_of s' ≡ key_of s → (y : Node) → key_of (stage' y) ≡ key_of (stage y)
  keys_alike same y = elim (same_or_not y x) [
    | inl e ↦ ap (λ z. key_of (stage' z)) e ∙ ap key_of shifts.now ∙ same ∙ ap key_of (sym shifts.was) ∙ ap (λ z. key_of (stage z)) (sym e)
    | inr other ↦ ap key_of (shifts.away y other)
  ]

  debts_alike : debt_of s' ≡ debt_of s → (y : Node) → debt_of (stage' y) ≡ debt_of (stage y)
  debts_alike same y = elim (same_or_not y x) [
    | inl e ↦ ap (λ z. debt_of (stage' z)) e ∙ ap debt_of shifts.now ∙ same ∙ ap debt_of (sym shifts.was) ∙ ap (λ z. debt_of (stage z)) (sym e)
    | inr other ↦ ap debt_of (shifts.away y other)
  ]

  root_stays : stage (dir_at 0) ≡ Root → (s ≡ Root → s' ≡ Root) → stage' (dir_at 0) ≡ Root
  root_stays root keep = elim (same_or_not (dir_at 0) x) [
    | inl e ↦ ap stage' e ∙ shifts.now ∙ keep (sym shifts.was ∙ ap stage (sym e) ∙ root)
    | inr other ↦ shifts.away (dir_at 0) other ∙ root
  ]

  -- rows may lie where they did
  opens_stay : (d : ℕ) → (dir_at d ≡ x → is_open s' ≡ true) → is_open (stage (dir_at d)) ≡ true → is_open (stage' (dir_at d)) ≡ true
  opens_stay d keep is = elim (same_or_not (dir_at d) x) [
    | inl e ↦ ap (λ z. is_open (stage' z)) e ∙ ap is_open shifts.now ∙ keep e
    | inr other ↦ ap is_open (shifts.away (dir_at d) other) ∙ is
  ]

  module _ (lasts lasts' : ℕ → ℕ) (up : (p : ℕ) → lasts p ≤ lasts' p) (issued : (y : Node) → is_born (stage y) ≡ true → number_of y < 64 * suc (lasts (home_of y).0)) where
    issued_stays : (is_born s' ≡ true → number_of x < 64 * suc (lasts' (home_of x).0)) → (y : Node) → is_born (stage' y) ≡ true → number_of y < 64 * suc (lasts' (home_of y).0)
    issued_stays low y =
        at_each stage stage' x s s' shifts (λ z t. is_born t ≡ true → number_of z < 64 * suc (lasts' (home_of z).0)) y low
        (λ other born. let old = issued y born in let more = up (home_of y).0 in omega arith)

    -- one that was issued before
    pub low_stays : is_born s ≡ true → number_of x < 64 * suc (lasts' (home_of x).0)
    low_stays born = let old = issued x (ap is_born shifts.was ∙ born) in let more = up (home_of x).0 in omega arith

-- ---- a later number of one place
pub raise : (stage : Node → Stage) (shard : Shard) (store : Store) (lasts lasts' : ℕ → ℕ) → ((p : ℕ) → lasts p ≤ lasts' p) → PlacesHold stage shard store lasts → PlacesHold stage shard store lasts'
raise stage shard store lasts lasts' up h = record {
  sums = h.sums;
  links = h.links;
  nodes = h.nodes;
  rows = h.rows;
  named = h.named;
  debts = h.debts;
  owed = h.owed;
  keyed = h.keyed;
  housed = h.housed;
  root = h.root;
  issued = λ x born. let low = h.issued x born in let more = up (home_of x).0 in omega arith;
}

-- ---- the record of one node changes, and no row
pub record RecordsAway (shard : Shard) (recs : Numbers DirRec) (store store' : Store) (x : Node) : Type 0 where
  pub files : (f : ℕ) → x ≢ File (record { 0 = f }) → get store' f ≡ get store f
  pub dirs : (d : ℕ) → x ≢ Dir (record { 0 = d }) → get recs d ≡ get shard.recs d

node_away : (shard : Shard) (recs : Numbers DirRec) (store store' : Store) (x : Node) → RecordsAway shard recs store store' x → (y : Node) → y ≢ x → (t : Stage) → NodeIs shard store y t
    → NodeIs (record shard { recs = recs }) store' y t
node_away shard recs store store' x away (File f) other t it = subst (λ o. FileIs o t) (sym (away.files f.0 (λ e. other (sym e)))) it
node_away shard recs store store' x away (Dir d) other t it = subst (λ o. DirIs d.0 o t) (sym (away.dirs d.0 (λ e. other (sym e)))) it

module _ (stage stage' : Node → Stage) (shard : Shard) (store : Store) (lasts lasts' : ℕ → ℕ) (h : PlacesHold stage shard store lasts) (up : (p : ℕ) → lasts p ≤ lasts' p)
    (x : Node) (s s' : Stage) (shifts : Shifts stage stage' x s s') where
  pub record_keeps : (recs : Numbers DirRec) (store' : Store) → RecordsAway shard recs store store' x → NodeIs (record shard { recs = recs }) store' x s' → key_of s' ≡ key_of s → debt_of s' ≡ debt_of s
      → ((d : ℕ) (name : List ℕ) (row : Row) → dir_at d ≡ x → get shard.rows (d ∷ name) ≡ Some row → is_open s' ≡ true) → (s ≡ Root → s' ≡ Root)
      → (is_born s' ≡ true → number_of x < 64 * suc (lasts' (home_of x).0)) → SumsHold (record shard { recs = recs }) → LinksHold (record shard { recs = recs })
      → PlacesHold stage' (record shard { recs = recs }) store' lasts'
  record_keeps recs store' away here keys debts opens roots low sums links = record {
    sums = sums;
    links = links;
    nodes = λ y. at_each stage stage' x s s' shifts (NodeIs (record shard { recs = recs }) store') y here (λ other. node_away shard recs store store' x away y other (stage y) (h.nodes y));
    rows = λ k row e. keys_alike stage stage' x s s' shifts keys row.node ∙ h.rows k row e;
    named = λ y k e. h.named y k (sym (keys_alike stage stage' x s s' shifts keys y) ∙ e);
    debts = λ p y debt e. debts_alike stage stage' x s s' shifts debts y ∙ h.debts p y debt e;
    owed = λ p y debt e. h.owed p y debt (sym (debts_alike stage stage' x s s' shifts debts y) ∙ e);
    keyed = h.keyed;
    housed = λ d name row e. opens_stay stage stage' x s s' shifts d (λ at. opens d name row at e) (h.housed d name row e);
    issued = issued_stays stage stage' x s s' shifts lasts lasts' up h.issued low;
    root = root_stays stage stage' x s s' shifts h.root roots;
  }

  -- ---- a debt goes
  pub clear_keeps : (owner : Actor) (p : ℕ) (at : Stamp) → s ≡ Cleared owner p at → s' ≡ Gone → PlacesHold stage' (end_debt shard (place_at p) x) store lasts'
  clear_keeps owner p at was now = record {
    sums = λ d r e. let old = h.sums d r e in record { children = old.children; subdirs = old.subdirs };
    links = h.links;
    nodes = λ y. at_each stage stage' x s s' shifts (NodeIs (end_debt shard (place_at p) x) store) y (here x (subst (NodeIs shard store x) (shifts.was ∙ was) (h.nodes x))) (λ other. same y (stage y) (h.nodes y));
    rows = λ k row e. keys_alike stage stage' x s s' shifts none row.node ∙ h.rows k row e;
    named = λ y k e. h.named y k (sym (keys_alike stage stage' x s s' shifts none y) ∙ e);
    debts = λ q y debt e. elim (names_or_not (debt_key (place_at q) y) (debt_key (place_at p) x)) [
      | inl k ↦ absurd (none_some _ debt (ap (get (remove shard.debts (debt_key (place_at p) x))) k ∙ name_cut_here shard.debts (debt_key (place_at p) x)) e)
      | inr k ↦ (let old = h.debts q y debt (sym (name_cut_away shard.debts _ _ k) ∙ e) in elim (same_or_not y x) [
        | inl y_is ↦ (let one : Some (q, debt) ≡ Some (p, record { owner = owner; stamp = at }) = sym old ∙ ap (λ z. debt_of (stage z)) y_is ∙ ap debt_of (shifts.was ∙ was) in
            absurd (k (ap (λ z. debt_key (place_at q) z) y_is ∙ ap (λ n. debt_key (place_at n) x) (ap (λ (z : ℕ × Debt). z.0) (same_Some _ _ one)))))
        | inr other ↦ ap debt_of (shifts.away y other) ∙ old
      ])
    ];
    owed = λ q y debt e. elim (same_or_not y x) [
      | inl y_is ↦ absurd (none_some (debt_of (stage' y)) (q, debt) (ap (λ z. debt_of (stage' z)) y_is ∙ ap debt_of (shifts.now ∙ now)) e)
      | inr other ↦ name_cut_away shard.debts _ _ (λ k. other (key_node (place_at q) (place_at p) y x k)) ∙ h.owed q y debt (sym (ap debt_of (shifts.away y other)) ∙ e)
    ];
    keyed = λ k debt e. elim (names_or_not k (debt_key (place_at p) x)) [
      | inl same ↦ (p, x, same)
      | inr differ ↦ h.keyed k debt (sym (name_cut_away shard.debts _ k differ) ∙ e)
    ];
    housed = λ d name row e. opens_stay stage stage' x s s' shifts d
        (λ k. absurd (true_false (is_open (stage (dir_at d))) (h.housed d name row e) (ap (λ z. is_open (stage z)) k ∙ ap is_open (shifts.was ∙ was)))) (h.housed d name row e);
    issued = issued_stays stage stage' x s s' shifts lasts lasts' up h.issued (λ born. low_stays stage stage' x s s' shifts lasts lasts' up h.issued (ap is_born was));
    root = root_stays stage stage' x s s' shifts h.root (λ r. absurd (let w = was in cc));
  }
    where
      none : key_of s' ≡ key_of s
      none = ap key_of now ∙ sym (ap key_of was)

      here : (y : Node) → NodeIs shard store y (Cleared owner p at) → NodeIs (end_debt shard (place_at p) x) store y s'
      here (File f) it = subst (FileIs (get store f.0)) (sym now) it
      here (Dir d) it = subst (DirIs d.0 (get shard.recs d.0)) (sym now) it

      same : (y : Node) (t : Stage) → NodeIs shard store y t → NodeIs (end_debt shard (place_at p) x) store y t
      same (File f) t it = it
      same (Dir d) t it = it

-- ---- a row is set, of a node that a client has put
named_now : (t : Shard) (store : Store) (y : Node) (client : ℕ) (ts : Ts) (dir : DirId) (name : List ℕ) → NodeIs t store y (Fresh client ts dir name) → NodeIs t store y (Named dir name)
named_now t store (File f) client ts dir name it = (_, it)
named_now t store (Dir d) client ts dir name it = record { r = new_dir (client_of client) dir name ts; there = it; mark = refl; back = refl }

module _ (stage stage' : Node → Stage) (shard : Shard) (store : Store) (lasts lasts' : ℕ → ℕ) (h : PlacesHold stage shard store lasts) (up : (p : ℕ) → lasts p ≤ lasts' p)
    (x : Node) (client : ℕ) (put ts : Ts) (dir : DirId) (name : List ℕ) (shifts : Shifts stage stage' x (Fresh client put dir name) (Named dir name))
    (at : Stamp) (r : DirRec) (calm : shard.locks ≡ empty) (there : get shard.recs dir.0 ≡ Some r) (free : get shard.rows (row_key dir name) ≡ None) (room : room_in shard dir x ≡ HasRoom)
    (opens : is_open (stage (Dir dir)) ≡ true) where
  abbrev set : Shard
  set = update (set_row shard dir name x at) dir (x ∷ []) [] ts (Some r)

  keyed : (y : Node) (k : List ℕ) → key_of (stage y) ≡ Some k → y ≢ x
  keyed y k e same = none_some (key_of (stage y)) k (ap (λ z. key_of (stage z)) same ∙ ap key_of shifts.was) e

  opened : (d : ℕ) → is_open (stage (dir_at d)) ≡ true → is_open (stage' (dir_at d)) ≡ true
  opened d is = opens_stay stage stage' x _ _ shifts d (λ e. refl) is

  sums_set : SumsHold set
  sums_set = sums_inserted stage shard store lasts h dir name x ts r there at free

  held : (y : Node) → NodeIs set store y (stage y)
  held y = nodes_like stage shard set store dir r (with_delta r (delta_of (x ∷ []) [] ts)) there refl refl (open_fresh (stage (Dir dir)) opens) refl y (h.nodes y)

  pub insert_keeps : PlacesHold stage' set store lasts'
  insert_keeps = record {
    sums = sums_set;
    links = links_inserted shard dir name x ts r calm there h.sums h.links at free room sums_set;
    nodes = λ y. at_each stage stage' x _ _ shifts (NodeIs set store) y (named_now set store x client put dir name (subst (NodeIs set store x) shifts.was (held x))) (λ other. held y);
    rows = λ k row e. elim (names_or_not k (row_key dir name)) [
      | inl same ↦ (let now : row ≡ record { node = x; stamp = at } = same_Some _ _ (sym e ∙ ap (get set.rows) same ∙ name_set_here shard.rows (row_key dir name) (record { node = x; stamp = at })) in
          ap (λ (q : Row). key_of (stage' q.node)) now ∙ ap key_of shifts.now ∙ ap Some (sym same))
      | inr differ ↦ (let old = h.rows k row (sym (name_set_away shard.rows _ k _ differ) ∙ e) in ap key_of (shifts.away row.node (keyed row.node k old)) ∙ old)
    ];
    named = λ y k e. elim (same_or_not y x) [
      | inl same ↦ (let key : Some (row_key dir name) ≡ Some k = sym (ap key_of shifts.now) ∙ ap (λ z. key_of (stage' z)) (sym same) ∙ e in
          ap (λ q. node_in (get set.rows q)) (sym (same_Some _ _ key)) ∙ ap node_in (name_set_here shard.rows (row_key dir name) (record { node = x; stamp = at })) ∙ ap Some (sym same))
      | inr other ↦ (let old = h.named y k (sym (ap key_of (shifts.away y other)) ∙ e) in
          ap node_in (name_set_away shard.rows _ k _ (λ same. none_some (node_in (get shard.rows k)) y (ap (λ q. node_in (get shard.rows q)) same ∙ ap node_in free) old)) ∙ old)
    ];
    debts = λ p y debt e. debts_alike stage stage' x _ _ shifts refl y ∙ h.debts p y debt e;
    owed = λ p y debt e. h.owed p y debt (sym (debts_alike stage stage' x _ _ shifts refl y) ∙ e);
    keyed = h.keyed;
    housed = λ d n row e. elim (names_or_not (d ∷ n) (row_key dir name)) [
      | inl same ↦ opened d (ap (λ q. is_open (stage (dir_at q))) (ap head_of same) ∙ opens)
      | inr differ ↦ opened d (h.housed d n row (sym (name_set_away shard.rows _ (d ∷ n) _ differ) ∙ e))
    ];
    issued = issued_stays stage stage' x _ _ shifts lasts lasts' up h.issued (λ born. low_stays stage stage' x _ _ shifts lasts lasts' up h.issued refl);
    root = root_stays stage stage' x _ _ shifts h.root (λ e. absurd (cc));
  }

-- ---- a row is cut, and a debt left for its node
is_keyed : (t : Stage) (k : List ℕ) → key_of t ≡ Some k → is_born t ≡ true
is_keyed Unborn k e = cc
is_keyed t k e = refl

module _ (stage stage' : Node → Stage) (shard : Shard) (store : Store) (lasts lasts' : ℕ → ℕ) (h : PlacesHold stage shard store lasts) (up : (p : ℕ) → lasts p ≤ lasts' p)
    (x : Node) (s : Stage) (owner : Actor) (at : Stamp) (dir : DirId) (name : List ℕ) (ts : Ts) (shifts : Shifts stage stage' x s (Owed owner (dir.0 % 64) at)) (place : at.place.0 ≡ dir.0 % 64)
    (key : key_of s ≡ Some (row_key dir name)) (none : debt_of s ≡ None) (closed : (d : ℕ) → dir_at d ≡ x → is_open s ≡ false)
    (calm : shard.locks ≡ empty) (row : Row) (found : get shard.rows (row_key dir name) ≡ Some row) (names : row.node ≡ x) where
  -- the shard after it, by the record of the directory
  abbrev cut_by : Option DirRec → Shard
  cut_by o = leave_debt (update (cut_row shard dir name) dir [] (x ∷ []) ts o) owner at x

  opens : is_open (stage (Dir dir)) ≡ true
  opens = h.housed dir.0 name row found

  owed_now : (t : Shard) (y : Node) (u : Stage) → NodeIs t store y u → key_of u ≡ Some (row_key dir name) → ((d : ℕ) → dir_at d ≡ y → is_open u ≡ false) → NodeIs t store y (Owed owner (dir.0 % 64) at)
  owed_now t (File f) (Named d n) it k c = it
  owed_now t (File f) (Marked note) it k c = absurd it
  owed_now t (Dir d) (Marked note) it k c = record { note = note; back = Some (note.dir, note.name); child = it.0; rec = it.1 }
  owed_now t (Dir d) (Named q n) it k c = absurd (true_false true refl (c d.0 refl))
  owed_now t y u it k c = absurd (cc)

  module _ (r : DirRec) (there : get shard.recs dir.0 ≡ Some r) where
    stays : (y : Node) → NodeIs (cut_by (Some r)) store y (stage y)
    stays y = nodes_like stage shard (cut_by (Some r)) store dir r (with_delta r (delta_of [] (x ∷ []) ts)) there refl refl (open_fresh (stage (Dir dir)) opens) refl y (h.nodes y)

    sums_after : SumsHold (cut_by (Some r))
    sums_after = subst (λ o. SumsHold (cut_by o)) there (sums_cut stage shard store lasts h dir name x ts r there owner at row found names)

    cut_some : PlacesHold stage' (cut_by (Some r)) store lasts'
    cut_some = record {
      sums = sums_after;
      links = links_cut shard dir name x ts r calm there h.sums h.links owner at row found names (λ d q e. let sum = sums_after d q e in record { children = sum.children; subdirs = sum.subdirs });
      nodes = λ y. at_each stage stage' x _ _ shifts (NodeIs (cut_by (Some r)) store) y (owed_now (cut_by (Some r)) x s (subst (NodeIs (cut_by (Some r)) store x) shifts.was (stays x)) key closed) (λ other. stays y);
      rows = λ k q e. elim (names_or_not k (row_key dir name)) [
        | inl same ↦ absurd (none_some _ q (ap (get (cut_by (Some r)).rows) same ∙ name_cut_here shard.rows (row_key dir name)) e)
        | inr differ ↦ (let old = h.rows k q (sym (name_cut_away shard.rows _ k differ) ∙ e) in
            let other : q.node ≢ x = (λ same. differ (same_Some _ _ (sym old ∙ ap (λ z. key_of (stage z)) same ∙ ap key_of shifts.was ∙ key))) in
            ap key_of (shifts.away q.node other) ∙ old)
      ];
      named = λ y k e. elim (same_or_not y x) [
        | inl same ↦ absurd (none_some (key_of (stage' y)) k (ap (λ z. key_of (stage' z)) same ∙ ap key_of shifts.now) e)
        | inr other ↦ (let old = h.named y k (sym (ap key_of (shifts.away y other)) ∙ e) in
            ap node_in (name_cut_away shard.rows _ k (λ same. other (same_Some _ _ (sym old ∙ ap (λ q. node_in (get shard.rows q)) same ∙ ap node_in found ∙ ap Some names)))) ∙ old)
      ];
      debts = λ p y debt e. elim (names_or_not (debt_key (place_at p) y) (debt_key at.place x)) [
        | inl same ↦ (let y_is = key_node (place_at p) at.place y x same in
            let now : debt ≡ record { owner = owner; stamp = at } = same_Some _ _ (sym e ∙ ap (get (cut_by (Some r)).debts) same ∙ name_set_here shard.debts (debt_key at.place x) (record { owner = owner; stamp = at })) in
            ap (λ z. debt_of (stage' z)) y_is ∙ ap debt_of shifts.now ∙ same_pair _ _ _ _ (sym (key_place (place_at p) at.place y x same ∙ place)) (sym now))
        | inr differ ↦ (let old = h.debts p y debt (sym (name_set_away shard.debts _ _ _ differ) ∙ e) in
            let other : y ≢ x = (λ same. none_some (debt_of (stage y)) (p, debt) (ap (λ z. debt_of (stage z)) same ∙ ap debt_of shifts.was ∙ none) old) in
            ap debt_of (shifts.away y other) ∙ old)
      ];
      owed = λ p y debt e. elim (same_or_not y x) [
        | inl same ↦ (let one : Some (dir.0 % 64, record { owner = owner; stamp = at }) ≡ Some (p, debt) = sym (ap debt_of shifts.now) ∙ ap (λ z. debt_of (stage' z)) (sym same) ∙ e in
            ap (λ z. get (cut_by (Some r)).debts (debt_key (place_at p) z)) same ∙ ap (λ n. get (cut_by (Some r)).debts (debt_key (place_at n) x)) (sym (place ∙ ap (λ (z : ℕ × Debt). z.0) (same_Some _ _ one)))
            ∙ name_set_here shard.debts (debt_key at.place x) (record { owner = owner; stamp = at }) ∙ ap (λ (z : ℕ × Debt). Some z.1) (same_Some _ _ one))
        | inr other ↦ name_set_away shard.debts _ _ _ (λ same. other (key_node (place_at p) at.place y x same)) ∙ h.owed p y debt (sym (ap debt_of (shifts.away y other)) ∙ e)
      ];
      keyed = λ k debt e. elim (names_or_not k (debt_key at.place x)) [
        | inl same ↦ (at.place.0, x, same)
        | inr differ ↦ h.keyed k debt (sym (name_set_away shard.debts _ k _ differ) ∙ e)
      ];
      housed = λ d n q e. elim (names_or_not (d ∷ n) (row_key dir name)) [
        | inl same ↦ absurd (none_some _ q (ap (get (cut_by (Some r)).rows) same ∙ name_cut_here shard.rows (row_key dir name)) e)
        | inr differ ↦ (let old = h.housed d n q (sym (name_cut_away shard.rows _ (d ∷ n) differ) ∙ e) in
            opens_stay stage stage' x _ _ shifts d (λ same. absurd (true_false (is_open (stage (dir_at d))) old (ap (λ z. is_open (stage z)) same ∙ ap is_open shifts.was ∙ closed d same))) old)
      ];
      issued = issued_stays stage stage' x _ _ shifts lasts lasts' up h.issued (λ born. low_stays stage stage' x _ _ shifts lasts lasts' up h.issued (is_keyed s _ key));
      root = root_stays stage stage' x _ _ shifts h.root (λ e. absurd (none_some (key_of s) (row_key dir name) (ap key_of e) key));
    }

  cut_found : PlacesHold stage' (leave_debt (update (cut_row shard dir name) dir [] (x ∷ []) ts (get shard.recs dir.0)) owner at x) store lasts'
  cut_found =
      let rec = open_rec dir.0 (get shard.recs dir.0) (stage (Dir dir)) opens (h.nodes (Dir dir)) in
      subst (λ o. PlacesHold stage' (cut_by o) store lasts') (sym rec.1) (cut_some rec.0 rec.1)

-- the row that names a node
pub row_there : (o : Option Row) (x : Node) → node_in o ≡ Some x → (row : Row) × (o ≡ Some row) × (row.node ≡ x)
row_there None x e = cc
row_there (Some row) x e = (row, refl, same_Some row.node x e)

module _ (stage stage' : Node → Stage) (shard : Shard) (store : Store) (lasts lasts' : ℕ → ℕ) (h : PlacesHold stage shard store lasts) (up : (p : ℕ) → lasts p ≤ lasts' p) (calm : shard.locks ≡ empty) where
  -- of a node whose stage has the key, and in which no row lies
  pub cut_keeps : (x : Node) (s : Stage) (owner : Actor) (at : Stamp) (dir : DirId) (name : List ℕ) (ts : Ts) → Shifts stage stage' x s (Owed owner (dir.0 % 64) at) → at.place.0 ≡ dir.0 % 64
      → key_of s ≡ Some (row_key dir name) → debt_of s ≡ None → ((d : ℕ) → dir_at d ≡ x → is_open s ≡ false)
      → PlacesHold stage' (leave_debt (update (cut_row shard dir name) dir [] (x ∷ []) ts (get shard.recs dir.0)) owner at x) store lasts'
  cut_keeps x s owner at dir name ts shifts place key none closed =
      let found = row_there (get shard.rows (row_key dir name)) x (h.named x (row_key dir name) (ap key_of shifts.was ∙ key)) in
      cut_found stage stage' shard store lasts lasts' h up x s owner at dir name ts shifts place key none closed calm found.0 found.1 found.2

  -- of a file that is deleted
  pub delete_keeps : (file : FileId) (owner : Actor) (dir : DirId) (name : List ℕ) (at : Stamp) (ts : Ts) → Shifts stage stage' (File file) (from (Deletes owner dir name at)) (to (Deletes owner dir name at))
      → at.place.0 ≡ dir.0 % 64 → PlacesHold stage' (leave_debt (update (cut_row shard dir name) dir [] (File file ∷ []) ts (get shard.recs dir.0)) owner at (File file)) store lasts'
  delete_keeps file owner dir name at ts shifts place = cut_keeps (File file) (Named dir name) owner at dir name ts shifts place refl refl (λ d e. absurd (cc))

  -- of a directory that is marked
  pub remove_keeps : (note : MarkNote) (at : Stamp) → Shifts stage stage' (Dir note.child) (from (Removes note at)) (to (Removes note at)) → at.place.0 ≡ note.dir.0 % 64
      → PlacesHold stage' (leave_debt (update (cut_row shard note.dir note.name) note.dir [] (Dir note.child ∷ []) note.ts (get shard.recs note.dir.0)) (ClientActor note.owner) at (Dir note.child)) store lasts'
  remove_keeps note at shifts place = cut_keeps (Dir note.child) (Marked note) (ClientActor note.owner) at note.dir note.name note.ts shifts place refl refl (λ d e. refl)

-- ---- the pending changes of a place's records are worked in
merged_rec : (place : PlaceNo) (d : ℕ) (r : DirRec) → ((merged_at place d r).mark ≡ r.mark) × ((merged_at place d r).back ≡ r.back)
merged_rec place d r = by_test (lies_here place (dir_of_number d)) refl
  where
    by_test : (b : Bool) → lies_here place (dir_of_number d) ≡ b → ((merged_at place d r).mark ≡ r.mark) × ((merged_at place d r).back ≡ r.back)
    by_test true here = rw here (refl, refl)
    by_test false here = rw here (refl, refl)

-- that of a directory that is only put has none
merged_new : (place : PlaceNo) (d client : ℕ) (dir : DirId) (name : List ℕ) (ts : Ts) → merged_at place d (new_dir (client_of client) dir name ts) ≡ new_dir (client_of client) dir name ts
merged_new place d client dir name ts = by_test (lies_here place (dir_of_number d)) refl
  where
    by_test : (b : Bool) → lies_here place (dir_of_number d) ≡ b → merged_at place d (new_dir (client_of client) dir name ts) ≡ new_dir (client_of client) dir name ts
    by_test true here = rw here refl
    by_test false here = rw here refl

merged_has : (place : PlaceNo) (d : ℕ) (o : Option DirRec) (m : Option MarkNote) (b : Option (DirId × List ℕ)) → HasRec o m b → HasRec (option_map (merged_at place d) o) m b
merged_has place d o m b it = let kept = merged_rec place d it.r in record { r = merged_at place d it.r; there = ap (option_map (merged_at place d)) it.there; mark = kept.0 ∙ it.mark; back = kept.1 ∙ it.back }

merged_dir : (place : PlaceNo) (d : ℕ) (o : Option DirRec) (s : Stage) → DirIs d o s → DirIs d (option_map (merged_at place d) o) s
merged_dir place d o Root it = (it.0, merged_has place d o None None it.1)
merged_dir place d o (Fresh client ts dir name) it = ap (option_map (merged_at place d)) it ∙ ap Some (merged_new place d client dir name ts)
merged_dir place d o (Named dir name) it = merged_has place d o None (Some (dir, name)) it
merged_dir place d o (Marked note) it = (it.0, merged_has place d o (Some note) (Some (note.dir, note.name)) it.1)
merged_dir place d o (Owed owner shard at) it = record { note = it.note; back = it.back; child = it.child; rec = merged_has place d o (Some it.note) it.back it.rec }
merged_dir place d o s it = ap (option_map (merged_at place d)) it

pub merge_keeps : (stage : Node → Stage) (shard : Shard) (store : Store) (lasts lasts' : ℕ → ℕ) (place : PlaceNo) → ((p : ℕ) → lasts p ≤ lasts' p) → PlacesHold stage shard store lasts
    → PlacesHold stage (record shard { recs = map_values (merged_at place) shard.recs }) store lasts'
merge_keeps stage shard store lasts lasts' place up h = record {
  sums = sums_left stage shard store lasts h place _ AllMerged;
  links = links_merged shard place h.links;
  nodes = λ y. nodes y (h.nodes y);
  rows = h.rows;
  named = h.named;
  debts = h.debts;
  owed = h.owed;
  keyed = h.keyed;
  housed = h.housed;
  issued = λ x born. let low = h.issued x born in let more = up (home_of x).0 in omega arith;
  root = h.root;
}
  where
    nodes : (y : Node) → NodeIs shard store y (stage y) → NodeIs (record shard { recs = map_values (merged_at place) shard.recs }) store y (stage y)
    nodes (File f) it = it
    nodes (Dir d) it = subst (λ o. DirIs d.0 o (stage (Dir d))) (sym (get-map_values nat_cmp_total nat_cmp-IsAntisymmetric (merged_at place) shard.recs d.0)) (merged_dir place d.0 (get shard.recs d.0) (stage (Dir d)) it)
