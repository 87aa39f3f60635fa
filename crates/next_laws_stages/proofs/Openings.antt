-- The places as they open: there is the root, and nothing else.
use Rattle.std.proofs.Common.{◌≡◌, ◌≢◌, ℕ, suc, ◌*◌, ◌<◌, List, [], ◌∷◌, Bool, true, false, refl, sym, ◌∙◌, ap, subst, arith, inl, inr}
use Rattle.std.specs.Prelude.{◌||◌, if◌then◌else◌, Some, None}
use Rattle.std.proofs.lemmas.Option.{same_Some}
use Rattle.std.specs.Ordering.{nat_cmp}
use Rattle.std.specs.Cmp.Lexicographic.{slice_cmp}
use Rattle.std.specs.FinMap.{get, empty, get-empty}
use Rattle.next_ids.specs.declared.ids.Node.{Node}
use Rattle.next_ids.specs.declared.ids.Node.TheVariants.{Dir, File}
use Rattle.next_ids.specs.Namespace.{is_node}
use Rattle.next_steps.specs.declared.contents.Row.{Row}
use Rattle.next_steps.specs.declared.contents.DirRec.{DirRec}
use Rattle.next_steps.specs.declared.contents.FileRec.{FileRec}
use Rattle.next_steps.specs.declared.contents.Debt.{Debt}
use Rattle.next_rules.specs.Contents.{opening_shard, root_rec, debt_key}
use Rattle.next_rules.specs.Facts.{LinksHold}
use Rattle.next_rules.specs.Room.{links_in}
use Rattle.next_rules.specs.Setups.{knows}
use Rattle.next_laws_shard.proofs.Openings.{opening-sums}
use Rattle.next_laws_stages.specs.Stages.{Stage, Unborn, Root, is_born, is_known, key_of, debt_of}
use Rattle.next_laws_stages.specs.Held.{NodeIs, IsFree, PlacesHold, number_of, place_at, dir_at}
use Rattle.next_laws_stages.proofs.Counts.{coming_none}
use Rattle.next_laws_stages.proofs.Effects.{none_some, true_false}
use Rattle.next_laws_stages.proofs.Maps.{set_here_n, set_away_n, numbers_or_not}
use Rattle.next_laws_stages.proofs.Stages.{set_stage, same_or_not, names_same, names_other, names_true}

abbrev pub opening_stage : Node → Stage
opening_stage = set_stage (λ x. Unborn) (dir_at 0) Root

pub at_root : opening_stage (dir_at 0) ≡ Root
at_root = ap (λ b. if b then Root else Unborn) (names_same (dir_at 0))

pub elsewhere : (x : Node) → x ≢ dir_at 0 → opening_stage x ≡ Unborn
elsewhere x differ = ap (λ b. if b then Root else Unborn) (names_other (dir_at 0) x (λ e. differ (sym e)))

-- what is true of the root and of what is unborn
at_opening : (P : Stage → Type 0) → P Root → P Unborn → (x : Node) → P (opening_stage x)
at_opening P root unborn x = elim (same_or_not x (dir_at 0)) [
  | inl e ↦ subst P (sym (ap opening_stage e ∙ at_root)) root
  | inr differ ↦ subst P (sym (elsewhere x differ)) unborn
]

-- whoever begins with the root alone knows no other
pub root_known : (x : Node) → knows (dir_at 0 ∷ []) x ≡ true → is_known (opening_stage x) ≡ true
root_known x known = by_test (is_node x (dir_at 0)) refl known
  where
    by_test : (b : Bool) → is_node x (dir_at 0) ≡ b → (b || false) ≡ true → is_known (opening_stage x) ≡ true
    by_test true e known = ap (λ y. is_known (opening_stage y)) (names_true x (dir_at 0) e) ∙ ap is_known at_root
    by_test false e known = absurd (cc)

no_key : (x : Node) → key_of (opening_stage x) ≡ None
no_key = at_opening (λ s. key_of s ≡ None) refl refl

no_debt : (x : Node) → debt_of (opening_stage x) ≡ None
no_debt = at_opening (λ s. debt_of s ≡ None) refl refl

no_rec : (d : ℕ) → d ≢ 0 → get opening_shard.recs d ≡ None
no_rec d differ = set_away_n (empty {X = DirRec} {R = nat_cmp}) 0 d root_rec differ ∙ get-empty {X = DirRec} nat_cmp d

no_row : (k : List ℕ) (row : Row) → get opening_shard.rows k ≡ Some row → ⊥
no_row k row e = none_some _ row (get-empty {X = Row} (slice_cmp nat_cmp) k) e

-- the only record is the root's
root_only : (d : ℕ) (r : DirRec) → get opening_shard.recs d ≡ Some r → root_rec ≡ r
root_only d r e = elim (numbers_or_not d 0) [
  | inl is ↦ same_Some root_rec r (sym (set_here_n (empty {X = DirRec} {R = nat_cmp}) 0 root_rec) ∙ ap (get opening_shard.recs) (sym is) ∙ e)
  | inr differ ↦ absurd (none_some _ r (no_rec d differ) e)
]

opening_node : (x : Node) → x ≢ dir_at 0 → NodeIs opening_shard empty x Unborn
opening_node (File f) differ = get-empty {X = FileRec} nat_cmp f.0
opening_node (Dir d) differ = no_rec d.0 (λ e. differ (ap dir_at e))

opening_links : LinksHold opening_shard
opening_links d r e =
    let coming = coming_none opening_shard d refl in
    let root : links_in (Some root_rec) ≡ 2 = refl in
    let links = ap (λ z. links_in (Some z)) (root_only d.0 r e) in
    omega arith

pub opening_places : PlacesHold opening_stage opening_shard empty (λ place. 0)
opening_places = record {
  sums = opening-sums 0;
  links = opening_links;
  nodes = λ x. elim (same_or_not x (dir_at 0)) [
    | inl e ↦ subst (λ y. NodeIs opening_shard empty y (opening_stage y)) (sym e) (subst (NodeIs opening_shard empty (dir_at 0)) (sym at_root)
        (refl, record { r = root_rec; there = set_here_n (empty {X = DirRec} {R = nat_cmp}) 0 root_rec; mark = refl; back = refl }))
    | inr differ ↦ subst (NodeIs opening_shard empty x) (sym (elsewhere x differ)) (opening_node x differ)
  ];
  rows = λ k row e. absurd (no_row k row e);
  named = λ x k e. absurd (none_some (key_of (opening_stage x)) k (no_key x) e);
  debts = λ p x debt e. absurd (none_some _ debt (get-empty {X = Debt} (slice_cmp nat_cmp) (debt_key (place_at p) x)) e);
  owed = λ p x debt e. absurd (none_some (debt_of (opening_stage x)) (p, debt) (no_debt x) e);
  keyed = λ key debt e. absurd (none_some _ debt (get-empty {X = Debt} (slice_cmp nat_cmp) key) e);
  housed = λ d name row e. absurd (no_row (d ∷ name) row e);
  issued = λ x born. elim (same_or_not x (dir_at 0)) [
    | inl e ↦ subst (λ y. number_of y < 64 * suc 0) (sym e) (omega arith)
    | inr differ ↦ absurd (true_false (is_born (opening_stage x)) born (ap is_born (elsewhere x differ)))
  ];
  root = at_root;
}

pub opening_free : IsFree opening_shard
opening_free = record { locks = refl; recs = λ d r e. ap (λ (z : DirRec). z.lock) (sym (root_only d r e)) }
