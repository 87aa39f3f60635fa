-- What each change of the places keeps.
use Rattle.std.proofs.Common.{◌≡◌, ◌≢◌, ℕ, suc, ◌*◌, ◌≤◌, ◌<◌, List, Bool, true, false, refl, sym, ◌∙◌, ap, subst, arith, inl, inr}
use Rattle.std.specs.Prelude.{if◌then◌else◌, ◌||◌, ◌==◌, Option, Some, None}
use Rattle.std.proofs.lemmas.Bool.Decides.{nat_tests}
use Rattle.std.specs.Option.{option_map}
use Rattle.std.specs.FinMap.{get}
use Rattle.cfs_ids.specs.declared.ids.DirId.{DirId}
use Rattle.cfs_ids.specs.declared.ids.Client.{Client}
use Rattle.cfs_ids.specs.declared.ids.Stamp.{Stamp}
use Rattle.cfs_ids.specs.declared.ids.Node.{Node}
use Rattle.cfs_ids.specs.declared.ids.Node.TheVariants.{Dir, File}
use Rattle.cfs_ids.specs.Maps.{Numbers, row_key}
use Rattle.cfs_ids.specs.Namespace.{is_node}
use Rattle.cfs_steps.specs.Asks.{home_of}
use Rattle.cfs_steps.specs.declared.contents.DirRec.{DirRec}
use Rattle.cfs_steps.specs.Phases.{Phase, Asking, Inserting, Settling, TakingBack, Finished}
use Rattle.cfs_rules.specs.Places.{Shard, Store, with_row, with_recs, updated}
use Rattle.cfs_rules.specs.Worlds.{client_of, set_last, dir_of}
use Rattle.cfs_rules.specs.Trees.{is_shown}
use Rattle.cfs_rules.specs.Facts.{CountsHold}
use Rattle.cfs_rules.proofs.Counts.{with_row-counts}
use Rattle.cfs_laws_places.proofs.Invariant.{is_named_node, owner_at, Has, number_of, Owns, IsNew, MayInsert, CurrentHolds, PlacesHold, any-set_row, get-insert_same, get-insert_other, place_from_insert}
use Rattle.cfs_laws_places.proofs.Nodes.{names_true, names_same, names_other, same_or_not, two_nodes, unshown}
use Rattle.cfs_laws_places.proofs.Trees.{stays_shown}

-- what a client relies on stays where its nodes keep their owner, their name and, until they are named, what they were put as
phase_keeps : (shard shard' : Shard) (store store' : Store) (i : ℕ)
    → ((d : ℕ) → is_shown shard d ≡ true → is_shown shard' d ≡ true)
    → ((node : Node) (named : Bool) → Owns shard store i node named → Owns shard' store' i node named)
    → ((node : Node) (ts : ℕ) → Owns shard store i node false → IsNew shard store node ts → IsNew shard' store' node ts)
    → (o : Option Phase) → CurrentHolds shard store i o → CurrentHolds shard' store' i o
phase_keeps shard shard' store store' i shows owns news None h = h
phase_keeps shard shard' store store' i shows owns news (Some (Asking call)) h = record { built = h.built; sees = shows (dir_of call).0 h.sees }
phase_keeps shard shard' store store' i shows owns news (Some (Inserting dir name node ts first)) h = record { sees = shows dir.0 h.sees; owns = owns node false h.owns; new = news node ts h.owns h.new }
phase_keeps shard shard' store store' i shows owns news (Some (Settling dir name node ts first at)) h = owns node true h
phase_keeps shard shard' store store' i shows owns news (Some (TakingBack dir name node errno first at)) h = owns node false h
phase_keeps shard shard' store store' i shows owns news (Some (Finished done)) h = h

-- a later number of one place
pub raised : (lasts : ℕ → ℕ) (place number : ℕ) → lasts place < number → (p : ℕ) → lasts p ≤ set_last lasts place number p
raised lasts place number later p = by_test (p == place) refl
  where
    by_test : (b : Bool) → (p == place) ≡ b → lasts p ≤ (if b then number else lasts p)
    by_test true t = let same : p ≡ place = grind (arith, nat_tests) in let low : lasts p < number = rw same later in omega arith
    by_test false t = omega arith

pub last_set : (lasts : ℕ → ℕ) (place number : ℕ) → set_last lasts place number place ≡ number
last_set lasts place number = let same : (place == place) ≡ true = grind (arith, nat_tests) in rw same refl

pub raise : (shard : Shard) (store : Store) (lasts lasts' : ℕ → ℕ) → ((p : ℕ) → lasts p ≤ lasts' p) → PlacesHold shard store lasts → PlacesHold shard store lasts'
raise shard store lasts lasts' up h = record {
  counts = h.counts;
  named = h.named;
  housed = h.housed;
  root = h.root;
  known = λ node o e. let low = h.known node o e in let more = up (home_of node).0 in omega arith;
}

-- ---- the record of one node is set or goes, and no row
-- the node has this owner afterwards, or no record; all others are as before
pub record Replaces (shard : Shard) (store : Store) (recs : Numbers DirRec) (store' : Store) (node : Node) (o : Option (Option Client)) : Type 0 where
  pub here : owner_at (with_recs shard recs) store' node ≡ o
  pub others : (x : Node) → x ≢ node → owner_at (with_recs shard recs) store' x ≡ owner_at shard store x
  pub news : (x : Node) (ts : ℕ) → x ≢ node → IsNew shard store x ts → IsNew (with_recs shard recs) store' x ts
  pub counts : CountsHold (with_recs shard recs)

module _ (shard : Shard) (store : Store) (recs : Numbers DirRec) (store' : Store) (node : Node) (o : Option (Option Client)) (r : Replaces shard store recs store' node o) where
  -- no client but c owns the node, and it is no root
  pub replaced_others : (i : ℕ) → ((x : Node) (named : Bool) → Owns shard store i x named → x ≢ node) → (p : Option Phase) → CurrentHolds shard store i p → CurrentHolds (with_recs shard recs) store' i p
  replaced_others i apart p h = phase_keeps shard (with_recs shard recs) store store' i (λ d s. s)
      (λ x named owns. record { owner = r.others x (apart x named owns) ∙ owns.owner; name = owns.name })
      (λ x ts owns new. r.news x ts (apart x false owns) new)
      p h

  pub replaced_places : (lasts lasts' : ℕ → ℕ) → ((p : ℕ) → lasts p ≤ lasts' p) → PlacesHold shard store lasts
      → owner_at shard store node ≢ Some None
      → (is_named_node shard node ≡ true → (owner : Option Client) × (o ≡ Some owner))
      → ((owner : Option Client) → o ≡ Some owner → number_of node < 64 * suc (lasts' (home_of node).0))
      → PlacesHold (with_recs shard recs) store' lasts'
  replaced_places lasts lasts' up h owned stays low = record {
    counts = r.counts;
    named = λ x e. elim (same_or_not x node) [
      | inl same ↦ (let s = stays (subst (λ y. is_named_node shard y ≡ true) same e) in (s.0, ap (owner_at (with_recs shard recs) store') same ∙ r.here ∙ s.1))
      | inr differ ↦ (let has = h.named x e in (has.0, r.others x differ ∙ has.1))
    ];
    housed = h.housed;
    root = r.others (Dir (record { 0 = 0 })) (λ same. owned (ap (owner_at shard store) (sym same) ∙ h.root)) ∙ h.root;
    known = λ x owner e. elim (same_or_not x node) [
      | inl same ↦ (let there : owner_at (with_recs shard recs) store' node ≡ Some owner = ap (owner_at (with_recs shard recs) store') (sym same) ∙ e in
          subst (λ y. number_of y < 64 * suc (lasts' (home_of y).0)) (sym same) (low owner (sym r.here ∙ there)))
      | inr differ ↦ (let before = h.known x owner (sym (r.others x differ) ∙ e) in let more = up (home_of x).0 in omega arith)
    ];
  }

-- ---- a row is set that names a client's node
module _ (shard : Shard) (store : Store) (lasts : ℕ → ℕ) (h : PlacesHold shard store lasts) (at : Stamp) (dir : DirId) (name : List ℕ) (node : Node) (ts c : ℕ) (r : DirRec)
    (there : get shard.recs dir.0 ≡ Some r) (free : get shard.rows (row_key dir name) ≡ None) (may : MayInsert shard store c dir node ts) where
  abbrev after : Shard
  after = with_row shard at dir name node ts r

  owners_stay : (x : Node) → owner_at after store x ≡ owner_at shard store x
  owners_stay (File f) = refl
  owners_stay (Dir d) = by_test (d.0 == dir.0) refl
    where
      by_test : (b : Bool) → (d.0 == dir.0) ≡ b → option_map (λ (s : DirRec). s.owner) (get after.recs d.0) ≡ option_map (λ (s : DirRec). s.owner) (get shard.recs d.0)
      by_test true t = let same : d.0 ≡ dir.0 = grind (arith, nat_tests) in rw (same, there, get-insert_same shard.recs dir.0 (record r { attr = updated r.attr node ts })) refl
      by_test false t = let differ : d.0 ≢ dir.0 = grind (arith, nat_tests) in ap (option_map (λ (s : DirRec). s.owner)) (get-insert_other shard.recs dir.0 d.0 _ differ)

  naming : (x : Node) → is_named_node after x ≡ (is_node x node || is_named_node shard x)
  naming x = any-set_row shard.rows (λ e. is_node x e.1.node) (row_key dir name) (record { node = node; stamp = at }) free

  naming_other : (x : Node) → x ≢ node → is_named_node after x ≡ is_named_node shard x
  naming_other x differ = naming x ∙ ap (λ b. b || is_named_node shard x) (names_other x node differ)

  pub insert_own : Owns after store c node true
  insert_own = record { owner = owners_stay node ∙ may.owns.owner; name = naming node ∙ ap (λ b. b || is_named_node shard node) (names_same node) }

  new_stays : (i : ℕ) (x : Node) (t : ℕ) → Owns shard store i x false → IsNew shard store x t → IsNew after store x t
  new_stays i (File f) t owns new = new
  new_stays i (Dir d) t owns new =
      let hidden = unshown shard store lasts i d h owns in
      let differ : d.0 ≢ dir.0 = (λ same. let seen : is_shown shard d.0 ≡ true = ap (is_shown shard) same ∙ may.sees in cc) in
      ap (option_map (λ (s : DirRec). s.attr.time)) (get-insert_other shard.recs dir.0 d.0 _ differ) ∙ new

  pub insert_others : (i : ℕ) → i ≢ c → (o : Option Phase) → CurrentHolds shard store i o → CurrentHolds after store i o
  insert_others i differ = phase_keeps shard after store store i (stays_shown shard at dir name node ts r free)
      (λ x named owns. record { owner = owners_stay x ∙ owns.owner; name = naming_other x (two_nodes shard store i c x node named false owns may.owns differ) ∙ owns.name })
      (new_stays i)

  pub insert_places : PlacesHold after store lasts
  insert_places = record {
    counts = with_row-counts shard at dir name node ts r there free h.counts;
    named = λ x e. by_test x (is_node x node) refl (sym (naming x) ∙ e);
    housed = λ d n x e. elim (place_from_insert shard.rows dir.0 name d n (record { node = node; stamp = at }) x e) [
      | inl p ↦ stays_shown shard at dir name node ts r free d (ap (is_shown shard) p ∙ may.sees)
      | inr p ↦ stays_shown shard at dir name node ts r free d (h.housed d n x p)
    ];
    root = owners_stay (Dir (record { 0 = 0 })) ∙ h.root;
    known = λ x owner e. h.known x owner (sym (owners_stay x) ∙ e);
  }
    where
      by_test : (x : Node) (b : Bool) → is_node x node ≡ b → (b || is_named_node shard x) ≡ true → Has after store x
      by_test x true t e = (Some (client_of c), ap (owner_at after store) (names_true x node t) ∙ owners_stay node ∙ may.owns.owner)
      by_test x false t e = let has = h.named x e in (has.0, owners_stay x ∙ has.1)
