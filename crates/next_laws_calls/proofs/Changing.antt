-- What each change of the places by a client's step keeps, of the places and of the other clients.
use Rattle.std.proofs.Common.{◌≡◌, ◌≢◌, ℕ, suc, ◌+◌, ◌*◌, ◌%◌, ◌<◌, ◌≤◌, List, [], ◌∷◌, Bool, true, false, refl, sym, ◌∙◌, ap, subst, arith, ◌⊎◌, inl, inr}
use Rattle.std.specs.Prelude.{◌==◌, Option, Some, None}
use Rattle.std.proofs.lemmas.Bool.Decides.{nat_tests}
use Rattle.std.proofs.lemmas.Option.{same_Some}
use Rattle.std.specs.FinMap.{get, insert, remove}
use Rattle.next_ids.specs.declared.ids.Actor.{Actor}
use Rattle.next_ids.specs.declared.ids.Actor.TheVariants.{Client as ClientActor}
use Rattle.next_ids.specs.declared.ids.Client.{Client}
use Rattle.next_ids.specs.declared.ids.DirId.{DirId}
use Rattle.next_ids.specs.declared.ids.FileId.{FileId}
use Rattle.next_ids.specs.declared.ids.PlaceNo.{PlaceNo}
use Rattle.next_ids.specs.declared.ids.Stamp.{Stamp}
use Rattle.next_ids.specs.declared.ids.Node.{Node}
use Rattle.next_ids.specs.declared.ids.Node.TheVariants.{Dir, File}
use Rattle.next_ids.specs.declared.note.MarkNote.{MarkNote}
use Rattle.next_ids.specs.declared.time.Ts.{Ts}
use Rattle.next_ids.specs.declared.call.Call.TheVariants.{Truncate, Unlink, Rmdir}
use Rattle.next_ids.specs.Maps.{row_key}
use Rattle.next_ids.specs.Times.{later as later_of}
use Rattle.next_steps.specs.declared.contents.Debt.{Debt}
use Rattle.next_steps.specs.declared.contents.DirRec.{DirRec}
use Rattle.next_steps.specs.declared.contents.FileRec.{FileRec}
use Rattle.next_steps.specs.declared.contents.Row.{Row}
use Rattle.next_steps.specs.declared.entry.Entry.{Entry}
use Rattle.next_steps.specs.declared.moves.Moved.{Moved}
use Rattle.next_steps.specs.declared.moves.Moved.TheVariants.{Move, Forget}
use Rattle.next_steps.specs.Asks.{shard_of}
use Rattle.next_steps.specs.Phases.{Phase, Asking, Reads, Writes, Removes, Finished, RowReading, Marking, MarkHelping, Removing, RecDropping, RecClearing}
use Rattle.next_steps.specs.Removers.{note_of}
use Rattle.next_steps.specs.Writers.{maker}
use Rattle.next_rules.specs.Actors.{client_of}
use Rattle.next_rules.specs.Changes.{set_row, cut_row, set_rec, cut_rec, update, leave_debt, end_debt}
use Rattle.next_rules.specs.Contents.{Shard, Store, debt_key, made_at}
use Rattle.next_rules.specs.Moves.{IsAllowed, after_moved}
use Rattle.next_rules.specs.Primitives.{move_by, new_dir}
use Rattle.next_rules.specs.Removing.{has_rows}
use Rattle.next_rules.specs.Room.{HasRoom, room_in}
use Rattle.next_rules.specs.Stores.{new_file}
use Rattle.next_rules.specs.Trees.{tree}
use Rattle.next_rules.specs.Worlds.{Service, World, set_last}
use Rattle.next_laws_told.specs.Claims.{Claim, Idle, Open, Said, Made, Leads, IsOthers}
use Rattle.next_laws_stages.specs.Stages.{Stage, Fresh, Named, Marked, Owed, Cleared, is_known, is_open, debt_of, Change, Puts, Inserts, TakesBack, Deletes, Marks, Removes, Drops, Clears, from, to}
use Rattle.next_laws_stages.specs.Needs.{is_own, Need, Removing as RemovingNeed, Meets, MeetsAll}
use Rattle.next_laws_stages.specs.Held.{FileIs, PlacesHold, IsFree, place_at, dir_at, still}
use Rattle.next_laws_stages.proofs.Effects.{raise, clear_keeps, insert_keeps, delete_keeps, remove_keeps, key_node, none_some}
use Rattle.next_laws_stages.proofs.Free.{set_free, same_free, cut_free, inserted_free, cut_row_free, cleared_free}
use Rattle.next_laws_stages.proofs.Known.{unborn_above, no_debt_at, known_kept}
use Rattle.next_laws_stages.proofs.Maps.{name_set_here, name_set_away, name_cut_here, name_cut_away, names_or_not}
use Rattle.next_laws_stages.proofs.Made.{drop_file_tree, insert_tree, delete_tree, remove_tree, resize_tree}
use Rattle.next_laws_stages.proofs.Moves.{put_file_tree, put_dir_tree, take_file_tree, take_dir_tree, mark_tree, drop_dir_tree, clear_tree, settle_file_tree, settle_dir_tree}
use Rattle.next_laws_stages.proofs.Records.{put_file_keeps, put_dir_keeps, take_back_file_keeps, take_back_dir_keeps, drop_file_keeps, drop_dir_keeps, mark_keeps, file_keeps, dir_keeps}
use Rattle.next_laws_stages.proofs.Stages.{set_stage, Shifts, shifts_set, shift_marks, needs_stay, knows_stay}
use Rattle.next_laws_calls.specs.Claimed.{claim_of, marked_claim, ledger}
use Rattle.next_laws_calls.specs.Holding.{needs}
use Rattle.next_laws_calls.specs.Worlds.{IsRemoving, Holds}
use Rattle.next_laws_calls.proofs.Frame.{Keeps}
use Rattle.next_laws_calls.proofs.Grown.{raise_up, raise_here}

-- a step that changes the stage of one node
pub record Changed (w : World) (h : Holds w) (c : ℕ) (at : Stamp) (v : Service) (moved : Option Moved) (x : Node) (change : Change) : Type 0 where
  pub keeps : Keeps w h c at v moved
  pub now : keeps.stage x ≡ to change
  pub old : (y : Node) (note : MarkNote) → keeps.stage y ≡ Marked note → (h.stage y ≡ Marked note) ⊎ (to change ≡ Marked note)
  -- what the client itself needs stays, where the change is of nothing that it has put or owes
  pub own : is_own c change ≡ false → (ns : List (Node × Need)) → MeetsAll c h.stage ns → MeetsAll c keeps.stage ns

-- and one that changes none
pub record Unchanged (w : World) (h : Holds w) (c : ℕ) (at : Stamp) (v : Service) (moved : Option Moved) : Type 0 where
  pub keeps : Keeps w h c at v moved
  pub same : keeps.stage ≡ h.stage

-- ---- what the other clients' calls have come to
claim_stays : (i : ℕ) (s : Stamp) (run : List (PlaceNo × Entry)) (moved : Option Moved) (claim : Claim) → IsOthers i moved → Leads i s run moved claim claim
claim_stays i s run moved Idle others = others
claim_stays i s run moved (Open call first) others = (refl, others)
claim_stays i s run moved (Said call first at reply) others = (refl, others)
claim_stays i s run moved (Made call first at ts made) others = (refl, others)

pub same_leads : (i : ℕ) (s : Stamp) (run : List (PlaceNo × Entry)) (moved : Option Moved) (claim claim' : Claim) → claim' ≡ claim → IsOthers i moved → Leads i s run moved claim claim'
same_leads i s run moved claim claim' same others = subst (Leads i s run moved claim) (sym same) (claim_stays i s run moved claim others)

abbrev SameDebt : Shard → Shard → Option Phase → Type 0
SameDebt shard shard' (Some (Removes (Removing dir name child ts first))) = get shard'.debts (debt_key (shard_of dir) (Dir child)) ≡ get shard.debts (debt_key (shard_of dir) (Dir child))
SameDebt shard shard' current = Unit {0}

claim_same : (shard shard' : Shard) (o : Option Phase) → SameDebt shard shard' o → claim_of shard' o ≡ claim_of shard o
claim_same shard shard' None same = refl
claim_same shard shard' (Some (Asking call)) same = refl
claim_same shard shard' (Some (Reads q)) same = refl
claim_same shard shard' (Some (Writes q)) same = refl
claim_same shard shard' (Some (Removes (RowReading dir name ts first))) same = refl
claim_same shard shard' (Some (Removes (Marking dir name child ts first))) same = refl
claim_same shard shard' (Some (Removes (MarkHelping dir name note ts first))) same = refl
claim_same shard shard' (Some (Removes (Removing dir name child ts first))) same = ap (λ d. marked_claim d (Rmdir dir name) first ts) same
claim_same shard shard' (Some (Removes (RecDropping dir name child ts first at))) same = refl
claim_same shard shard' (Some (Removes (RecClearing dir name child ts first at))) same = refl
claim_same shard shard' (Some (Finished done)) same = refl

all_same : (shard shard' : Shard) → shard'.debts ≡ shard.debts → (o : Option Phase) → SameDebt shard shard' o
all_same shard shard' same (Some (Removes (Removing dir name child ts first))) = ap (λ m. get m (debt_key (shard_of dir) (Dir child))) same
all_same shard shard' same None = tt
all_same shard shard' same (Some q) = tt

other_client : (c i : ℕ) → i ≢ c → (c == i) ≡ false
other_client c i differ = let d : c ≢ i = (λ e. differ (sym e)) in grind (arith, nat_tests, d)

abbrev is_removable : Stage → Bool
is_removable (Marked note) = true
is_removable (Owed a p at) = true
is_removable s = false

not_removing : (i : ℕ) (x : Node) (s : Stage) → is_removable s ≡ false → (note : MarkNote) → Meets i x (RemovingNeed note) s → ⊥
not_removing i x s bar note m = elim m.1 [
  | inl e ↦ (let there : is_removable s ≡ true = ap is_removable e in cc)
  | inr e ↦ (let there : is_removable s ≡ true = ap is_removable e.1 in cc)
]

-- rows and debts after an update
update_rows : (s : Shard) (dir : DirId) (come gone : List Node) (ts : Ts) (o : Option DirRec) → (update s dir come gone ts o).rows ≡ s.rows
update_rows s dir come gone ts None = refl
update_rows s dir come gone ts (Some r) = refl

update_debts : (s : Shard) (dir : DirId) (come gone : List Node) (ts : Ts) (o : Option DirRec) → (update s dir come gone ts o).debts ≡ s.debts
update_debts s dir come gone ts None = refl
update_debts s dir come gone ts (Some r) = refl

abbrev owner_in : Client → Stage → Client
owner_in other (Marked n) = n.owner
owner_in other s = other

abbrev note_in : MarkNote → Stage → MarkNote
note_in other (Marked n) = n
note_in other s = other

module _ (w : World) (h : Holds w) (c : ℕ) (at : Stamp) (later : w.lasts at.place.0 < at.number) where
  abbrev shard : Shard
  shard = w.service.shard

  abbrev store : Store
  store = w.service.store

  abbrev lasts' : ℕ → ℕ
  lasts' = set_last w.lasts at.place.0 at.number

  pub up : (p : ℕ) → w.lasts p ≤ lasts' p
  up = raise_up w.lasts at.place.0 at.number later

  -- others' claims where no debt changes for them
  same_helps : (shard' : Shard) (moved : Option Moved) → ((i : ℕ) → i ≢ c → SameDebt shard shard' (w.actors.clients i).current) → ((i : ℕ) → i ≢ c → IsOthers i moved)
      → (i : ℕ) → i ≢ c → (run : List (PlaceNo × Entry)) → Leads i at run moved (ledger w i) (claim_of shard' (w.actors.clients i).current)
  same_helps shard' moved same others i differ run = same_leads i at run moved (ledger w i) (claim_of shard' (w.actors.clients i).current) (claim_same shard shard' (w.actors.clients i).current (same i differ)) (others i differ)

  pub free_helps : (shard' : Shard) (moved : Option Moved) → shard'.debts ≡ shard.debts → ((i : ℕ) → i ≢ c → IsOthers i moved)
      → (i : ℕ) → i ≢ c → (run : List (PlaceNo × Entry)) → Leads i at run moved (ledger w i) (claim_of shard' (w.actors.clients i).current)
  free_helps shard' moved same others = same_helps shard' moved (λ i differ. all_same shard shard' same (w.actors.clients i).current) others

  -- ---- nothing changes
  abbrev pub quiet : Keeps w h c at w.service None
  quiet = record {
    stage = h.stage;
    places = raise h.stage shard store w.lasts lasts' up h.places;
    free = h.free;
    rows = λ k row e. inl e;
    knows = λ y k. k;
    needs = λ i d ns m. m;
    marks = λ y note e. inl e;
    to = refl;
    may = tt;
    helps = free_helps shard None refl (λ i d. tt);
  }

  -- ---- no node's stage changes
  unshifted : (v : Service) (moved : Option Moved) → PlacesHold h.stage v.shard v.store lasts' → IsFree v.shard → v.shard.rows ≡ shard.rows → v.shard.debts ≡ shard.debts
      → tree (still v.shard v.store) ≡ after_moved (tree (still shard store)) moved → IsAllowed (tree (still shard store)) moved → ((i : ℕ) → i ≢ c → IsOthers i moved) → Unchanged w h c at v moved
  unshifted v moved places free rows debts makes may others = record {
    keeps = record {
      stage = h.stage;
      places = places;
      free = free;
      rows = λ k row e. inl (ap (λ m. get m k) (sym rows) ∙ e);
      knows = λ y k. k;
      needs = λ i d ns m. m;
      marks = λ y note e. inl e;
      to = makes;
      may = may;
      helps = free_helps v.shard moved debts others;
    };
    same = refl;
  }

  -- ---- a node's stage changes
  module _ (x : Node) (change : Change) (was : h.stage x ≡ from change) (own : (i : ℕ) → i ≢ c → is_own i change ≡ false) (marks : (note : MarkNote) → to change ≡ Marked note → note.owner ≡ client_of c) where
    abbrev pub stage_after : Node → Stage
    stage_after = set_stage h.stage x (to change)

    pub shifts_after : Shifts h.stage stage_after x (from change) (to change)
    shifts_after = shifts_set h.stage x (from change) (to change) was

    pub shifted : (v : Service) (moved : Option Moved) → PlacesHold stage_after v.shard v.store lasts' → IsFree v.shard
        → ((k : List ℕ) (row : Row) → get v.shard.rows k ≡ Some row → (get shard.rows k ≡ Some row) ⊎ (row.stamp ≡ at))
        → tree (still v.shard v.store) ≡ after_moved (tree (still shard store)) moved → IsAllowed (tree (still shard store)) moved
        → ((i : ℕ) → i ≢ c → (run : List (PlaceNo × Entry)) → Leads i at run moved (ledger w i) (claim_of v.shard (w.actors.clients i).current)) → Changed w h c at v moved x change
    shifted v moved places free rows makes may helps = record {
      keeps = record {
        stage = stage_after;
        places = places;
        free = free;
        rows = rows;
        knows = knows_stay h.stage stage_after x change shifts_after;
        needs = λ i differ ns m. needs_stay h.stage stage_after x change shifts_after i (own i differ) ns m;
        marks = shift_marks h.stage stage_after x (from change) (to change) shifts_after (λ note. note.owner ≡ client_of c) marks;
        to = makes;
        may = may;
        helps = helps;
      };
      now = shifts_after.now;
      old = shift_marks h.stage stage_after x (from change) (to change) shifts_after (λ note. to change ≡ Marked note) (λ note e. e);
      own = λ other ns m. needs_stay h.stage stage_after x change shifts_after c other ns m;
    }

  -- ---- a debt at a node that no other client is removing is nothing to the others
  debt_set : (p : PlaceNo) (x : Node) (debt : Debt) (shard' : Shard) → shard'.debts ≡ insert shard.debts (debt_key p x) debt → (i : ℕ) → ((note : MarkNote) → Meets i x (RemovingNeed note) (h.stage x) → ⊥)
      → (o : Option Phase) → MeetsAll i h.stage (needs i o) → SameDebt shard shard' o
  debt_set p x debt shard' is i bar (Some (Removes (Removing dir name child ts first))) m =
      ap (λ d. get d (debt_key (shard_of dir) (Dir child))) is ∙ name_set_away shard.debts _ _ _ (λ e. bar _ (subst (λ z. Meets i z (RemovingNeed (note_of (client_of i) dir name child ts)) (h.stage z)) (key_node (shard_of dir) p (Dir child) x e) m.0))
  debt_set p x debt shard' is i bar None m = tt
  debt_set p x debt shard' is i bar (Some q) m = tt

  debt_cut : (p : PlaceNo) (x : Node) (shard' : Shard) → shard'.debts ≡ remove shard.debts (debt_key p x) → (i : ℕ) → ((note : MarkNote) → Meets i x (RemovingNeed note) (h.stage x) → ⊥)
      → (o : Option Phase) → MeetsAll i h.stage (needs i o) → SameDebt shard shard' o
  debt_cut p x shard' is i bar (Some (Removes (Removing dir name child ts first))) m =
      ap (λ d. get d (debt_key (shard_of dir) (Dir child))) is ∙ name_cut_away shard.debts _ _ (λ e. bar _ (subst (λ z. Meets i z (RemovingNeed (note_of (client_of i) dir name child ts)) (h.stage z)) (key_node (shard_of dir) p (Dir child) x e) m.0))
  debt_cut p x shard' is i bar None m = tt
  debt_cut p x shard' is i bar (Some q) m = tt

  -- ---- a node is put
  module _ (dir : DirId) (name : List ℕ) (ts : Ts) where
    pub put_file : (f : FileId) → f.0 ≡ made_at at → at.place.0 ≡ 64 + at.place.0 % 64 → Changed w h c at (record w.service { store = insert store f.0 (new_file (client_of c) dir ts) }) None (File f) (Puts c ts dir name)
    put_file f is place =
        let home : 64 + f.0 % 64 ≡ at.place.0 = omega arith in
        let was = unborn_above h.stage shard store w.lasts h.places (File f) at later is home in
        let here = raise_here w.lasts at.place.0 at.number in
        let same = ap lasts' home in
        let low : f.0 < 64 * suc (lasts' (64 + f.0 % 64)) = omega arith in
        let shifts = shifts_after (File f) (Puts c ts dir name) was (other_client c) (λ note e. absurd (cc)) in
        let places = put_file_keeps h.stage (stage_after (File f) (Puts c ts dir name) was (other_client c) (λ note e. absurd (cc))) shard store w.lasts lasts' h.places up f c ts dir name shifts low in
        shifted (File f) (Puts c ts dir name) was (other_client c) (λ note e. absurd (cc)) (record w.service { store = insert store f.0 (new_file (client_of c) dir ts) }) None places h.free (λ k row e. inl e)
        (put_file_tree h.stage _ shard store w.lasts lasts' h.places f c ts dir name shifts (new_file (client_of c) dir ts) places) tt (free_helps shard None refl (λ i d. tt))

    pub put_dir : (d : DirId) → d.0 ≡ made_at at → at.place.0 ≡ at.place.0 % 64 → Changed w h c at (record w.service { shard = set_rec shard (record { 0 = made_at at }) (new_dir (client_of c) dir name ts) }) None (dir_at (made_at at)) (Puts c ts dir name)
    put_dir d is place =
        let x = dir_at (made_at at) in
        let home : made_at at % 64 ≡ at.place.0 = omega arith in
        let was = unborn_above h.stage shard store w.lasts h.places x at later refl home in
        let here = raise_here w.lasts at.place.0 at.number in
        let same = ap lasts' home in
        let low : made_at at < 64 * suc (lasts' (made_at at % 64)) = omega arith in
        let shifts = shifts_after x (Puts c ts dir name) was (other_client c) (λ note e. absurd (cc)) in
        let new = new_dir (client_of c) dir name ts in
        let places = put_dir_keeps h.stage (stage_after x (Puts c ts dir name) was (other_client c) (λ note e. absurd (cc))) shard store w.lasts lasts' h.places up at c ts dir name shifts low h.free.locks in
        shifted x (Puts c ts dir name) was (other_client c) (λ note e. absurd (cc)) (record w.service { shard = set_rec shard (record { 0 = made_at at }) new }) None places (set_free shard (record { 0 = made_at at }) new refl h.free) (λ k row e. inl e)
        (put_dir_tree h.stage _ shard store w.lasts lasts' h.places (record { 0 = made_at at }) c ts dir name shifts new places) tt (free_helps (set_rec shard (record { 0 = made_at at }) new) None refl (λ i d. tt))

    -- ---- and taken back
    pub take_file : (f : FileId) → h.stage (File f) ≡ Fresh c ts dir name → Changed w h c at (record w.service { store = remove store f.0 }) None (File f) (TakesBack c ts dir name)
    take_file f was =
        let shifts = shifts_after (File f) (TakesBack c ts dir name) was (other_client c) (λ note e. absurd (cc)) in
        let places = take_back_file_keeps h.stage (stage_after (File f) (TakesBack c ts dir name) was (other_client c) (λ note e. absurd (cc))) shard store w.lasts lasts' h.places up f c ts dir name shifts in
        shifted (File f) (TakesBack c ts dir name) was (other_client c) (λ note e. absurd (cc)) (record w.service { store = remove store f.0 }) None places h.free (λ k row e. inl e)
        (take_file_tree h.stage _ shard store w.lasts lasts' h.places f c ts dir name shifts places) tt (free_helps shard None refl (λ i d. tt))

    pub take_dir : (d : DirId) → h.stage (Dir d) ≡ Fresh c ts dir name → Changed w h c at (record w.service { shard = cut_rec shard d }) None (Dir d) (TakesBack c ts dir name)
    take_dir d was =
        let shifts = shifts_after (Dir d) (TakesBack c ts dir name) was (other_client c) (λ note e. absurd (cc)) in
        let places = take_back_dir_keeps h.stage (stage_after (Dir d) (TakesBack c ts dir name) was (other_client c) (λ note e. absurd (cc))) shard store w.lasts lasts' h.places up d c ts dir name shifts in
        shifted (Dir d) (TakesBack c ts dir name) was (other_client c) (λ note e. absurd (cc)) (record w.service { shard = cut_rec shard d }) None places (cut_free shard d h.free) (λ k row e. inl e)
        (take_dir_tree h.stage _ shard store w.lasts lasts' h.places d c ts dir name shifts places) tt (free_helps (cut_rec shard d) None refl (λ i d. tt))

    -- ---- and named
    pub insert_it : (x : Node) → h.stage x ≡ Fresh c ts dir name → (r : DirRec) → get shard.recs dir.0 ≡ Some r → get shard.rows (row_key dir name) ≡ None → room_in shard dir x ≡ HasRoom → is_open (h.stage (Dir dir)) ≡ true
        → Changed w h c at (record w.service { shard = update (set_row shard dir name x at) dir (x ∷ []) [] ts (Some r) }) (Some (Move (record { client = client_of c; call = maker dir name x; ts = ts; made = Some x }))) x (Inserts c ts dir name)
    insert_it x was r there free room opens =
        let change = Inserts c ts dir name in
        let moved : Option Moved = Some (Move (record { client = client_of c; call = maker dir name x; ts = ts; made = Some x })) in
        let new : Shard = update (set_row shard dir name x at) dir (x ∷ []) [] ts (Some r) in
        let shifts = shifts_after x (Inserts c ts dir name) was (other_client c) (λ note e. absurd (cc)) in
        let places = insert_keeps h.stage (stage_after x (Inserts c ts dir name) was (other_client c) (λ note e. absurd (cc))) shard store w.lasts lasts' h.places up x c ts ts dir name shifts at r h.free.locks there free room opens in
        let both = insert_tree h.stage _ shard store w.lasts lasts' h.places x c ts dir name shifts at r h.free.locks there free room opens places in
        shifted x (Inserts c ts dir name) was (other_client c) (λ note e. absurd (cc)) (record w.service { shard = new }) moved places (inserted_free shard at dir name x ts r there h.free)
        (λ k row e. elim (names_or_not k (row_key dir name)) [
          | inl same ↦ inr (ap (λ (q : Row). q.stamp) (same_Some row (record { node = x; stamp = at }) (sym e ∙ ap (get new.rows) same ∙ name_set_here shard.rows (row_key dir name) (record { node = x; stamp = at }))))
          | inr differ ↦ inl (sym (name_set_away shard.rows (row_key dir name) k (record { node = x; stamp = at }) differ) ∙ e)
        ])
        both.0 both.1 (free_helps new moved refl (λ i differ. other_client c i differ))

  -- rows after one was cut
  cut_rows : (owner : Actor) (dir : DirId) (name : List ℕ) (x : Node) (ts : Ts) (k : List ℕ) (row : Row)
      → get (leave_debt (update (cut_row shard dir name) dir [] (x ∷ []) ts (get shard.recs dir.0)) owner at x).rows k ≡ Some row → get shard.rows k ≡ Some row
  cut_rows owner dir name x ts k row e =
      let there : get (remove shard.rows (row_key dir name)) k ≡ Some row = ap (λ m. get m k) (sym (update_rows (cut_row shard dir name) dir [] (x ∷ []) ts (get shard.recs dir.0))) ∙ e in
      elim (names_or_not k (row_key dir name)) [
        | inl same ↦ absurd (none_some _ row (ap (get (remove shard.rows (row_key dir name))) same ∙ name_cut_here shard.rows (row_key dir name)) there)
        | inr differ ↦ sym (name_cut_away shard.rows (row_key dir name) k differ) ∙ there
      ]

  cut_debts : (owner : Actor) (dir : DirId) (name : List ℕ) (x : Node) (ts : Ts)
      → (leave_debt (update (cut_row shard dir name) dir [] (x ∷ []) ts (get shard.recs dir.0)) owner at x).debts ≡ insert shard.debts (debt_key at.place x) (record { owner = owner; stamp = at })
  cut_debts owner dir name x ts = ap (λ m. insert m (debt_key at.place x) (record { owner = owner; stamp = at })) (update_debts (cut_row shard dir name) dir [] (x ∷ []) ts (get shard.recs dir.0))

  -- ---- a file is unlinked
  pub delete_it : (dir : DirId) (name : List ℕ) (f : FileId) (ts : Ts) → h.stage (File f) ≡ Named dir name → at.place.0 ≡ dir.0 % 64
      → Changed w h c at (record w.service { shard = leave_debt (update (cut_row shard dir name) dir [] (File f ∷ []) ts (get shard.recs dir.0)) (ClientActor (client_of c)) at (File f) }) (move_by (client_of c) (Unlink dir name) ts) (File f) (Deletes (ClientActor (client_of c)) dir name at)
  delete_it dir name f ts was place =
      let owner : Actor = ClientActor (client_of c) in
      let new : Shard = leave_debt (update (cut_row shard dir name) dir [] (File f ∷ []) ts (get shard.recs dir.0)) (ClientActor (client_of c)) at (File f) in
      let shifts = shifts_after (File f) (Deletes (ClientActor (client_of c)) dir name at) was (λ i differ. refl) (λ note e. absurd (cc)) in
      let places = delete_keeps h.stage (stage_after (File f) (Deletes (ClientActor (client_of c)) dir name at) was (λ i differ. refl) (λ note e. absurd (cc))) shard store w.lasts lasts' h.places up h.free.locks f (ClientActor (client_of c)) dir name at ts shifts place in
      let both = delete_tree h.stage _ shard store w.lasts lasts' h.places f (client_of c) dir name at ts shifts places in
      shifted (File f) (Deletes (ClientActor (client_of c)) dir name at) was (λ i differ. refl) (λ note e. absurd (cc)) (record w.service { shard = new }) (move_by (client_of c) (Unlink dir name) ts) places
      (cut_row_free shard (ClientActor (client_of c)) at dir name (File f) ts h.free) (λ k row e. inl (cut_rows (ClientActor (client_of c)) dir name (File f) ts k row e)) both.0 both.1
      (same_helps new (move_by (client_of c) (Unlink dir name) ts)
      (λ i differ. debt_set at.place (File f) (record { owner = ClientActor (client_of c); stamp = at }) new (cut_debts (ClientActor (client_of c)) dir name (File f) ts) i
      (λ note m. not_removing i (File f) (Named dir name) refl note (subst (Meets i (File f) (RemovingNeed note)) was m)) (w.actors.clients i).current (h.clients i).needs)
      (λ i differ. other_client c i differ))

  -- ---- a directory is marked
  pub mark_it : (note : MarkNote) (r : DirRec) → note.owner ≡ client_of c → h.stage (Dir note.child) ≡ Named note.dir note.name → get shard.recs note.child.0 ≡ Some r → has_rows shard note.child ≡ false
      → Changed w h c at (record w.service { shard = set_rec shard note.child (record r { mark = Some note }) }) None (Dir note.child) (Marks note)
  mark_it note r own was there none =
      let marks : (n : MarkNote) → Marked note ≡ Marked n → n.owner ≡ client_of c = (λ n e. sym (ap (owner_in note.owner) e) ∙ own) in
      let new : Shard = set_rec shard note.child (record r { mark = Some note }) in
      let shifts = shifts_after (Dir note.child) (Marks note) was (λ i differ. refl) marks in
      let places = mark_keeps h.stage (stage_after (Dir note.child) (Marks note) was (λ i differ. refl) marks) shard store w.lasts lasts' h.places up note r shifts there none in
      shifted (Dir note.child) (Marks note) was (λ i differ. refl) marks (record w.service { shard = new }) None places (same_free shard note.child r (record r { mark = Some note }) there refl h.free) (λ k row e. inl e)
      (mark_tree h.stage _ shard store w.lasts lasts' h.places note r shifts there places) tt (free_helps new None refl (λ i d. tt))

  -- ---- a record is dropped
  module _ (p : ℕ) (t : Stamp) where
    pub drop_file : (f : FileId) → h.stage (File f) ≡ Owed (ClientActor (client_of c)) p t → Changed w h c at (record w.service { store = remove store f.0 }) (Some (Forget f)) (File f) (Drops (ClientActor (client_of c)) p t)
    drop_file f was =
        let shifts = shifts_after (File f) (Drops (ClientActor (client_of c)) p t) was (other_client c) (λ note e. absurd (cc)) in
        let places = drop_file_keeps h.stage (stage_after (File f) (Drops (ClientActor (client_of c)) p t) was (other_client c) (λ note e. absurd (cc))) shard store w.lasts lasts' h.places up f (ClientActor (client_of c)) p t shifts in
        let both = drop_file_tree h.stage _ shard store w.lasts lasts' h.places f (ClientActor (client_of c)) p t shifts places in
        shifted (File f) (Drops (ClientActor (client_of c)) p t) was (other_client c) (λ note e. absurd (cc)) (record w.service { store = remove store f.0 }) (Some (Forget f)) places h.free (λ k row e. inl e)
        both.0 both.1 (free_helps shard (Some (Forget f)) refl (λ i d. tt))

    pub drop_dir : (d : DirId) → h.stage (Dir d) ≡ Owed (ClientActor (client_of c)) p t → Changed w h c at (record w.service { shard = cut_rec shard d }) None (Dir d) (Drops (ClientActor (client_of c)) p t)
    drop_dir d was =
        let shifts = shifts_after (Dir d) (Drops (ClientActor (client_of c)) p t) was (other_client c) (λ note e. absurd (cc)) in
        let places = drop_dir_keeps h.stage (stage_after (Dir d) (Drops (ClientActor (client_of c)) p t) was (other_client c) (λ note e. absurd (cc))) shard store w.lasts lasts' h.places up d (ClientActor (client_of c)) p t shifts in
        shifted (Dir d) (Drops (ClientActor (client_of c)) p t) was (other_client c) (λ note e. absurd (cc)) (record w.service { shard = cut_rec shard d }) None places (cut_free shard d h.free) (λ k row e. inl e)
        (drop_dir_tree h.stage _ shard store w.lasts lasts' h.places d (ClientActor (client_of c)) p t shifts places) tt (free_helps (cut_rec shard d) None refl (λ i d. tt))

    -- ---- a debt goes
    pub clear_it : (x : Node) → h.stage x ≡ Cleared (ClientActor (client_of c)) p t → Changed w h c at (record w.service { shard = end_debt shard (place_at p) x }) None x (Clears (ClientActor (client_of c)) p t)
    clear_it x was =
        let shifts = shifts_after x (Clears (ClientActor (client_of c)) p t) was (other_client c) (λ note e. absurd (cc)) in
        let places = clear_keeps h.stage (stage_after x (Clears (ClientActor (client_of c)) p t) was (other_client c) (λ note e. absurd (cc))) shard store w.lasts lasts' h.places up x _ _ shifts (ClientActor (client_of c)) p t refl refl in
        shifted x (Clears (ClientActor (client_of c)) p t) was (other_client c) (λ note e. absurd (cc)) (record w.service { shard = end_debt shard (place_at p) x }) None places (cleared_free shard (place_at p) x h.free) (λ k row e. inl e)
        (clear_tree h.stage _ shard store w.lasts lasts' h.places x (ClientActor (client_of c)) p t shifts places) tt
        (same_helps (end_debt shard (place_at p) x) None
        (λ i differ. debt_cut (place_at p) x (end_debt shard (place_at p) x) refl i
        (λ note m. not_removing i x (Cleared (ClientActor (client_of c)) p t) refl note (subst (Meets i x (RemovingNeed note)) was m)) (w.actors.clients i).current (h.clients i).needs)
        (λ i d. tt))

  -- ---- a record changes, and its node's stage doesn't
  pub settle_file : (f : FileId) (r : FileRec) → is_known (h.stage (File f)) ≡ true → get store f.0 ≡ Some r → Unchanged w h c at (record w.service { store = insert store f.0 (record r { owner = None }) }) None
  settle_file f r known there =
      let kept = known_kept (h.stage (File f)) r known (subst (λ o. FileIs o (h.stage (File f))) there (h.places.nodes (File f))) in
      let places = file_keeps h.stage shard store w.lasts lasts' h.places up f (record r { owner = None }) kept in
      unshifted (record w.service { store = insert store f.0 (record r { owner = None }) }) None places h.free refl refl
      (settle_file_tree h.stage shard store w.lasts lasts' h.places f r (record r { owner = None }) there refl refl places) tt (λ i d. tt)

  pub settle_dir : (d : DirId) (r : DirRec) → is_known (h.stage (Dir d)) ≡ true → get shard.recs d.0 ≡ Some r → Unchanged w h c at (record w.service { shard = set_rec shard d (record r { owner = None }) }) None
  settle_dir d r known there =
      let places = dir_keeps h.stage shard store w.lasts lasts' h.places up d r (record r { owner = None }) there refl refl refl refl known in
      unshifted (record w.service { shard = set_rec shard d (record r { owner = None }) }) None places (same_free shard d r (record r { owner = None }) there refl h.free) refl refl
      (settle_dir_tree h.stage shard store w.lasts lasts' h.places d r (record r { owner = None }) there refl refl places) tt (λ i d. tt)

  pub resize_it : (f : FileId) (r : FileRec) (size : ℕ) (ts : Ts) → is_known (h.stage (File f)) ≡ true → get store f.0 ≡ Some r
      → Unchanged w h c at (record w.service { store = insert store f.0 (record r { size = size; time = later_of r.time ts }) }) (move_by (client_of c) (Truncate f size) ts)
  resize_it f r size ts known there =
      let kept = known_kept (h.stage (File f)) r known (subst (λ o. FileIs o (h.stage (File f))) there (h.places.nodes (File f))) in
      let places = file_keeps h.stage shard store w.lasts lasts' h.places up f (record r { size = size; time = later_of r.time ts }) kept in
      let both = resize_tree h.stage shard store w.lasts lasts' h.places f r size ts (client_of c) there kept places in
      unshifted (record w.service { store = insert store f.0 (record r { size = size; time = later_of r.time ts }) }) (move_by (client_of c) (Truncate f size) ts) places h.free refl refl both.0 both.1
      (λ i differ. other_client c i differ)

  -- ---- the name of a marked directory is cut, by whomever
  module _ (note : MarkNote) (was : h.stage (Dir note.child) ≡ Marked note) (place : at.place ≡ shard_of note.dir) where
    abbrev pub removed_shard : Shard
    removed_shard = leave_debt (update (cut_row shard note.dir note.name) note.dir [] (Dir note.child ∷ []) note.ts (get shard.recs note.dir.0)) (ClientActor note.owner) at (Dir note.child)

    no_debt : get shard.debts (debt_key (shard_of note.dir) (Dir note.child)) ≡ None
    no_debt = no_debt_at h.stage shard store w.lasts h.places (note.dir.0 % 64) (Dir note.child) (ap debt_of was)

    now_debt : get removed_shard.debts (debt_key (shard_of note.dir) (Dir note.child)) ≡ Some (record { owner = ClientActor note.owner; stamp = at })
    now_debt = subst (λ p. get removed_shard.debts (debt_key p (Dir note.child)) ≡ Some (record { owner = ClientActor note.owner; stamp = at })) place
        (ap (λ m. get m (debt_key at.place (Dir note.child))) (cut_debts (ClientActor note.owner) note.dir note.name (Dir note.child) note.ts) ∙ name_set_here shard.debts (debt_key at.place (Dir note.child)) (record { owner = ClientActor note.owner; stamp = at }))

    helped_by : (i : ℕ) (run : List (PlaceNo × Entry)) (o : Option Phase) → IsRemoving i note o → Leads i at run (move_by note.owner (Rmdir note.dir note.name) note.ts) (claim_of shard o) (claim_of removed_shard o)
    helped_by i run (Some (Removes (Removing dir name child ts first))) e =
        let before : get shard.debts (debt_key (shard_of dir) (Dir child)) ≡ None = subst (λ (m : MarkNote). get shard.debts (debt_key (shard_of m.dir) (Dir m.child)) ≡ None) e no_debt in
        let after : get removed_shard.debts (debt_key (shard_of dir) (Dir child)) ≡ Some (record { owner = ClientActor note.owner; stamp = at }) =
        subst (λ (m : MarkNote). get removed_shard.debts (debt_key (shard_of m.dir) (Dir m.child)) ≡ Some (record { owner = ClientActor note.owner; stamp = at })) e now_debt in
        subst (λ o. Leads i at run (move_by note.owner (Rmdir note.dir note.name) note.ts) (marked_claim o (Rmdir dir name) first ts) (claim_of removed_shard (Some (Removes (Removing dir name child ts first))))) (sym before)
        (subst (λ o. Leads i at run (move_by note.owner (Rmdir note.dir note.name) note.ts) (Open (Rmdir dir name) first) (marked_claim o (Rmdir dir name) first ts)) (sym after)
        (refl, refl, ap (λ (m : MarkNote). move_by m.owner (Rmdir m.dir m.name) m.ts) e))
    helped_by i run None e = absurd e
    helped_by i run (Some q) e = absurd e

    -- no other client than its owner is removing it
    apart : (i : ℕ) → (note.owner.0 == i) ≡ false → (n : MarkNote) → Meets i (Dir note.child) (RemovingNeed n) (h.stage (Dir note.child)) → ⊥
    apart i t n m = elim m.1 [
      | inl e ↦ (let own : note.owner.0 ≡ i = ap (λ (x : Client). x.0) (ap (owner_in note.owner) (sym was ∙ e) ∙ m.0) in let same : (note.owner.0 == i) ≡ true = grind (arith, nat_tests) in cc)
      | inr e ↦ (let differ = sym was ∙ e.1 in cc)
    ]

    pub removed_helps : (i : ℕ) (run : List (PlaceNo × Entry)) → Leads i at run (move_by note.owner (Rmdir note.dir note.name) note.ts) (ledger w i) (claim_of removed_shard (w.actors.clients i).current)
    removed_helps i run = by_test (note.owner.0 == i) refl
      where
        by_test : (b : Bool) → (note.owner.0 == i) ≡ b → Leads i at run (move_by note.owner (Rmdir note.dir note.name) note.ts) (ledger w i) (claim_of removed_shard (w.actors.clients i).current)
        by_test true t = let same : note.owner.0 ≡ i = grind (arith, nat_tests) in helped_by i run (w.actors.clients i).current (subst (λ j. IsRemoving j note (w.actors.clients j).current) same (h.works (Dir note.child) note was))
        by_test false t = same_leads i at run (move_by note.owner (Rmdir note.dir note.name) note.ts) (ledger w i) (claim_of removed_shard (w.actors.clients i).current)
            (claim_same shard removed_shard (w.actors.clients i).current (debt_set at.place (Dir note.child) (record { owner = ClientActor note.owner; stamp = at }) removed_shard (cut_debts (ClientActor note.owner) note.dir note.name (Dir note.child) note.ts) i (apart i t) (w.actors.clients i).current (h.clients i).needs)) t

    pub remove_it : Changed w h c at (record w.service { shard = removed_shard }) (move_by note.owner (Rmdir note.dir note.name) note.ts) (Dir note.child) (Removes note at)
    remove_it =
        let here : at.place.0 ≡ note.dir.0 % 64 = ap (λ (p : PlaceNo). p.0) place in
        let shifts = shifts_after (Dir note.child) (Removes note at) was (λ i differ. refl) (λ n e. absurd (cc)) in
        let places = remove_keeps h.stage (stage_after (Dir note.child) (Removes note at) was (λ i differ. refl) (λ n e. absurd (cc))) shard store w.lasts lasts' h.places up h.free.locks note at shifts here in
        let both = remove_tree h.stage _ shard store w.lasts lasts' h.places note at shifts places in
        shifted (Dir note.child) (Removes note at) was (λ i differ. refl) (λ n e. absurd (cc)) (record w.service { shard = removed_shard }) (move_by note.owner (Rmdir note.dir note.name) note.ts) places
        (cut_row_free shard (ClientActor note.owner) at note.dir note.name (Dir note.child) note.ts h.free) (λ k row e. inl (cut_rows (ClientActor note.owner) note.dir note.name (Dir note.child) note.ts k row e)) both.0 both.1 (λ i differ run. removed_helps i run)
