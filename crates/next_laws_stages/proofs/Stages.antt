-- What a change of one node's stage leaves of what is known and needed of nodes.
use Rattle.std.proofs.Common.{◌≡◌, ◌≢◌, ℕ, ◌%◌, List, [], ◌∷◌, Bool, true, false, refl, sym, ◌∙◌, ap, subst, arith, ◌⊎◌, inl, inr}
use Rattle.std.specs.Prelude.{if◌then◌else◌, ◌==◌}
use Rattle.std.proofs.lemmas.Bool.Decides.{nat_tests}
use Rattle.next_ids.specs.declared.ids.Actor.TheVariants.{Client as ClientActor}
use Rattle.next_ids.specs.declared.ids.Client.{Client}
use Rattle.next_ids.specs.declared.ids.Node.{Node}
use Rattle.next_ids.specs.declared.ids.Node.TheVariants.{Dir, File}
use Rattle.next_ids.specs.declared.ids.Stamp.{Stamp}
use Rattle.next_ids.specs.declared.note.MarkNote.{MarkNote}
use Rattle.next_ids.specs.Namespace.{is_node}
use Rattle.next_rules.specs.Actors.{client_of}
use Rattle.next_laws_stages.specs.Stages.{Stage, Fresh, Marked, Owed, Cleared, is_known, is_left, Change, Puts, Inserts, TakesBack, Deletes, Marks, Removes, Drops, Clears, from, to}
use Rattle.next_laws_stages.specs.Needs.{is_client, is_own, Need, Known, MayName, HasPut, Noted, Removing, Owes, Cleans, Meets, MeetsAll}

-- ---- what is known stays known, whoever makes the step
pub known_stays : (change : Change) → is_known (from change) ≡ true → is_known (to change) ≡ true
known_stays (Puts client ts dir name) h = cc
known_stays (Inserts client ts dir name) h = refl
known_stays (TakesBack client ts dir name) h = refl
known_stays (Deletes owner dir name at) h = refl
known_stays (Marks note) h = refl
known_stays (Removes note at) h = refl
known_stays (Drops owner shard at) h = refl
known_stays (Clears owner shard at) h = refl

pub left_stays : (change : Change) → is_left (from change) ≡ true → is_left (to change) ≡ true
left_stays (Drops owner shard at) h = refl
left_stays (Clears owner shard at) h = refl
left_stays change h = absurd (cc)

-- a mark stays until its name is cut
pub marked_goes : (change : Change) (note : MarkNote) → from change ≡ Marked note → is_left (to change) ≡ true
marked_goes (Removes n at) note e = refl
marked_goes change note e = absurd (cc)

abbrev note_in : Stage → MarkNote → MarkNote
note_in (Marked note) other = note
note_in _ other = other

pub marked_owes : (change : Change) (note : MarkNote) → from change ≡ Marked note
    → (at : Stamp) × (to change ≡ Owed (ClientActor note.owner) (note.dir.0 % 64) at)
marked_owes (Removes n at) note e =
    (at, ap (λ (m : MarkNote). Owed (ClientActor m.owner) (m.dir.0 % 64) at) (ap (λ s. note_in s n) e))
marked_owes change note e = absurd (cc)

-- ---- the client whose stage it is
pub client_same : (i j : ℕ) → client_of i ≡ client_of j → i ≡ j
client_same i j e = ap (λ (x : Client). x.0) e

abbrev is_held : ℕ → Stage → Bool
is_held i (Fresh client ts dir name) = client == i
is_held i (Owed owner shard at) = is_client i owner
is_held i (Cleared owner shard at) = is_client i owner
is_held i _ = false

-- a change of a stage that a client holds is the client's own
pub held_own : (i : ℕ) (change : Change) → is_held i (from change) ≡ true → is_own i change ≡ true
held_own i (Puts client ts dir name) h = cc
held_own i (Inserts client ts dir name) h = h
held_own i (TakesBack client ts dir name) h = h
held_own i (Deletes owner dir name at) h = cc
held_own i (Marks note) h = cc
held_own i (Removes note at) h = cc
held_own i (Drops owner shard at) h = h
held_own i (Clears owner shard at) h = h

-- so another's change does not begin at it
not_held : (i : ℕ) (change : Change) (s : Stage) → is_own i change ≡ false → is_held i s ≡ true → from change ≡ s → ⊥
not_held i change s other held e = let own = held_own i change (ap (is_held i) e ∙ held) in cc

own_itself : (i : ℕ) → (i == i) ≡ true
own_itself i = grind (arith, nat_tests)

owner_held : (i : ℕ) (owner : Client) (shard : ℕ) (at : Stamp) → owner ≡ client_of i → is_held i (Owed (ClientActor owner) shard at) ≡ true
owner_held i owner shard at own = ap (λ (x : Client). x.0 == i) own ∙ own_itself i

-- what a client needs of a node stays with a change that is not its own
pub need_stays : (i : ℕ) (x : Node) (change : Change) (need : Need) → is_own i change ≡ false → Meets i x need (from change)
    → Meets i x need (to change)
need_stays i x change Known other h = known_stays change h
need_stays i x change (MayName ts dir name) other h = absurd (not_held i change (Fresh i ts dir name) other (own_itself i) h)
need_stays i x change HasPut other h = absurd (not_held i change (Fresh i h.0 h.1 h.2) other (own_itself i) h.3)
need_stays i x change (Noted note) other h =
    (h.0, elim h.1 [ inl m ↦ inr (marked_goes change note m) | inr l ↦ inr (left_stays change l) ])
need_stays i x change (Removing note) other h = (
  h.0,
  elim h.1 [
    | inl m ↦ inr (marked_owes change note m)
    | inr o ↦ absurd (not_held i change (Owed (ClientActor note.owner) (note.dir.0 % 64) o.0) other (owner_held i note.owner (note.dir.0 % 64) o.0 h.0) o.1)
  ],
)
need_stays i x change (Owes shard at) other h = absurd (not_held i change (Owed (ClientActor (client_of i)) shard at) other (own_itself i) h)
need_stays i x change (Cleans shard at) other h = absurd (not_held i change (Cleared (ClientActor (client_of i)) shard at) other (own_itself i) h)

-- ---- nodes by their names
pub names_true : (x y : Node) → is_node x y ≡ true → x ≡ y
names_true (File f) (File g) h = let same : f.0 ≡ g.0 = grind (arith, nat_tests) in ap (λ n. File (record { 0 = n })) same
names_true (File f) (Dir d) h = cc
names_true (Dir d) (File f) h = cc
names_true (Dir d) (Dir e) h = let same : d.0 ≡ e.0 = grind (arith, nat_tests) in ap (λ n. Dir (record { 0 = n })) same

pub names_same : (x : Node) → is_node x x ≡ true
names_same (File f) = grind (arith, nat_tests)
names_same (Dir d) = grind (arith, nat_tests)

pub names_other : (x y : Node) → x ≢ y → is_node x y ≡ false
names_other x y differ = by_test (is_node x y) refl
  where
    by_test : (b : Bool) → is_node x y ≡ b → b ≡ false
    by_test true e = absurd (differ (names_true x y e))
    by_test false e = refl

-- a node is another one, or it is not
pub same_or_not : (x y : Node) → (x ≡ y) ⊎ (x ≢ y)
same_or_not x y = by_test (is_node x y) refl
  where
    by_test : (b : Bool) → is_node x y ≡ b → (x ≡ y) ⊎ (x ≢ y)
    by_test true e = inl (names_true x y e)
    by_test false e = inr (λ same. let t = names_same x in let f : is_node x x ≡ false = ap (is_node x) same ∙ e in cc)

-- ---- one node's stage changes
abbrev pub set_stage : (Node → Stage) → Node → Stage → Node → Stage
set_stage stage x s y = if is_node x y then s else stage y

pub record Shifts (stage stage' : Node → Stage) (x : Node) (s s' : Stage) : Type 0 where
  pub was : stage x ≡ s
  pub now : stage' x ≡ s'
  pub away : (y : Node) → y ≢ x → stage' y ≡ stage y

pub shifts_set : (stage : Node → Stage) (x : Node) (s s' : Stage) → stage x ≡ s → Shifts stage (set_stage stage x s') x s s'
shifts_set stage x s s' was = record {
  was = was;
  now = ap (λ b. if b then s' else stage x) (names_same x);
  away = λ y differ. ap (λ b. if b then s' else stage y) (names_other x y (λ e. differ (sym e)));
}

-- a stage that does not change
pub shifts_none : (stage : Node → Stage) (x : Node) (s : Stage) → stage x ≡ s → Shifts stage stage x s s
shifts_none stage x s was = record { was = was; now = was; away = λ y differ. refl }

-- a fact of each node, by whether it is the one that changes
pub at_each : (stage stage' : Node → Stage) (x : Node) (s s' : Stage) → Shifts stage stage' x s s' → (P : Node → Stage → Type 0) → (y : Node)
    → P x s' → (y ≢ x → P y (stage y)) → P y (stage' y)
at_each stage stage' x s s' h P y here there = elim (same_or_not y x) [
  | inl e ↦ subst (λ z. P z (stage' z)) (sym e) (subst (P x) (sym h.now) here)
  | inr differ ↦ subst (P y) (sym (h.away y differ)) (there differ)
]

-- a mark that stands after a change stood before, or it is the one that was set
pub shift_marks : (stage stage' : Node → Stage) (x : Node) (s s' : Stage) → Shifts stage stage' x s s' → (P : MarkNote → Type 0) → ((note : MarkNote) → s' ≡ Marked note → P note)
    → (y : Node) (note : MarkNote) → stage' y ≡ Marked note → (stage y ≡ Marked note) ⊎ P note
shift_marks stage stage' x s s' shifts P set y note e = elim (same_or_not y x) [
  | inl same ↦ inr (set note (sym shifts.now ∙ ap stage' (sym same) ∙ e))
  | inr other ↦ inl (sym (shifts.away y other) ∙ e)
]

pub marks_old : (stage stage' : Node → Stage) (x : Node) (s s' : Stage) → Shifts stage stage' x s s' → ((note : MarkNote) → s' ≡ Marked note → ⊥)
    → (y : Node) (note : MarkNote) → stage' y ≡ Marked note → stage y ≡ Marked note
marks_old stage stage' x s s' shifts bar y note e = elim (same_or_not y x) [
  | inl same ↦ absurd (bar note (sym shifts.now ∙ ap stage' (sym same) ∙ e))
  | inr other ↦ sym (shifts.away y other) ∙ e
]

module _ (stage stage' : Node → Stage) (x : Node) (change : Change) (h : Shifts stage stage' x (from change) (to change)) where
  -- what the change leaves of the node itself, as it was before
  was_so : (P : Node → Stage → Type 0) (y : Node) → y ≡ x → P y (stage y) → P x (from change)
  was_so P y e it = subst (P x) h.was (subst (λ z. P z (stage z)) e it)

  pub others_stay : (i : ℕ) → is_own i change ≡ false → (y : Node) (need : Need) → Meets i y need (stage y) → Meets i y need (stage' y)
  others_stay i other y need meets = elim (same_or_not y x) [
    | inl e ↦ subst (λ z. Meets i z need (stage' z)) (sym e) (subst (Meets i x need) (sym h.now) (need_stays i x change need other (was_so (λ z. Meets i z need) y e meets)))
    | inr differ ↦ subst (Meets i y need) (sym (h.away y differ)) meets
  ]

  pub needs_stay : (i : ℕ) → is_own i change ≡ false → (needs : List (Node × Need)) → MeetsAll i stage needs → MeetsAll i stage' needs
  needs_stay i other [] meets = tt
  needs_stay i other (n ∷ ns) meets = (others_stay i other n.0 n.1 meets.0, needs_stay i other ns meets.1)

  pub knows_stay : (y : Node) → is_known (stage y) ≡ true → is_known (stage' y) ≡ true
  knows_stay y known = elim (same_or_not y x) [
    | inl e ↦ ap (λ z. is_known (stage' z)) e ∙ ap is_known h.now ∙ known_stays change (was_so (λ z s. is_known s ≡ true) y e known)
    | inr differ ↦ ap is_known (h.away y differ) ∙ known
  ]
