-- A namespace stays whole where one name gets a node and another loses its own.
use Rattle.std.proofs.Common.{◌≡◌, ◌≢◌, ◌⊎◌, inl, inr, ℕ, suc, zero, List, true, refl, sym, ◌∙◌, subst}
use Rattle.std.specs.Prelude.{Option, Some, None}
use Rattle.std.specs.FinMap.{get}
use Rattle.next_ids.specs.declared.ids.DirId.{DirId}
use Rattle.next_ids.specs.declared.ids.FileId.{FileId}
use Rattle.next_ids.specs.declared.ids.Node.{Node}
use Rattle.next_ids.specs.declared.ids.Node.TheVariants.{Dir, File}
use Rattle.next_ids.specs.Maps.{Numbers}
use Rattle.next_ids.specs.Namespace.{Directory, Namespace, node_at, is_below, IsThere, IsWhole, IsNamedOnce}
use Rattle.next_laws_namespace.proofs.Chains.{Lists, Chain, Reaches, chain-last, reach-more, below-reached, reached-below}
use Rattle.next_laws_namespace.proofs.Slots.{IsSlot, slots, IsDirThere}

-- the name in `to` has this node now, or none; the name in `from`, another one, has none; each other name has what it had
pub record Rearranges (dirs dirs' : Numbers Directory) (from : ℕ) (name : List ℕ) (to : ℕ) (to_name : List ℕ) (node : Option Node) : Type 0 where
  pub here : node_at (get dirs' to) to_name ≡ node
  pub gone : ¬ (IsSlot from name to to_name) → node_at (get dirs' from) name ≡ None
  pub rest : (d : ℕ) (other : List ℕ) → ¬ (IsSlot d other to to_name) → ¬ (IsSlot d other from name) → node_at (get dirs' d) other ≡ node_at (get dirs d) other

-- the directory that had the name in `to`
abbrev pub IsReplaced : Numbers Directory → (to : ℕ) → (to_name : List ℕ) → ℕ → Type 0
IsReplaced dirs to to_name d = node_at (get dirs to) to_name ≡ Some (Dir (record { 0 = d }))

-- the node that is set has no name but the one that goes
abbrev pub IsAlone : Namespace → (from : ℕ) (name : List ℕ) → Node → Type 0
IsAlone n from name it = (d : ℕ) (other : List ℕ) → node_at (get n.dirs d) other ≡ Some it → IsSlot d other from name

-- the namespace is whole, and names each node once where the one before does
abbrev pub IsKept : (n n' : Namespace) → Type 0
IsKept n n' = IsWhole n' × (IsNamedOnce n → IsNamedOnce n')

-- which nodes are there then, that no directory gets a second name, that none that has names goes, and that none comes to lie below itself
pub record Allows (n n' : Namespace) (from : ℕ) (name : List ℕ) (to : ℕ) (to_name : List ℕ) (node : Option Node) : Type 0 where
  pub to_there : IsDirThere n.dirs to
  pub known : (d : ℕ) → IsDirThere n'.dirs d → (IsDirThere n.dirs d × ¬ (IsReplaced n.dirs to to_name d)) ⊎ (node ≡ Some (Dir (record { 0 = d })))
  pub stay : (d : ℕ) → IsDirThere n.dirs d → ¬ (IsReplaced n.dirs to to_name d) → IsDirThere n'.dirs d
  pub files : (f : FileId) → IsThere n (File f) → IsThere n' (File f)
  pub node_there : (it : Node) → node ≡ Some it → IsThere n' it
  pub not_root : (dir : DirId) → node ≡ Some (Dir dir) → dir.0 ≢ 0
  pub alone : (dir : DirId) → node ≡ Some (Dir dir) → IsAlone n from name (Dir dir)
  pub alone_too : IsNamedOnce n → (it : Node) → node ≡ Some it → IsAlone n from name it
  pub empty : (dir : DirId) → node_at (get n.dirs to) to_name ≡ Some (Dir dir) → (other : List ℕ) → node_at (get n.dirs dir.0) other ≡ None
  pub moves : (dir : DirId) → ¬ (IsSlot from name to to_name) → node_at (get n.dirs from) name ≡ Some (Dir dir) → (node ≡ Some (Dir dir)) × ¬ (Reaches n.dirs dir.0 to)

-- what each step of a chain carries over, the chain carries over
carried : (dirs dirs' : Numbers Directory) (from : ℕ) (Kept : ℕ → Type 0) → ((d c : ℕ) → Lists dirs d c → Kept c → Kept d × (Reaches dirs' from d → Reaches dirs' from c)) → (k to : ℕ) → Chain k dirs from to → Kept to → Reaches dirs' from to
carried dirs dirs' from Kept step zero to h kept = (0, h)
carried dirs dirs' from Kept step (suc k) to h kept =
    let last = chain-last k dirs from to h in
    let s = step last.0 to last.2 kept in
    s.1 (carried dirs dirs' from Kept step k last.0 last.1 s.0)

module _ (n n' : Namespace) (from : ℕ) (name : List ℕ) (to : ℕ) (to_name : List ℕ) (node : Option Node) (re : Rearranges n.dirs n'.dirs from name to to_name node) (may : Allows n n' from name to to_name node) where
  -- what stands under a name now was set there, or stood there
  abbrev Stood : (d : ℕ) (other : List ℕ) (it : Node) → Type 0
  Stood d other it = ¬ (IsSlot d other to to_name) × ¬ (IsSlot d other from name) × (node_at (get n.dirs d) other ≡ Some it)

  came : (d : ℕ) (other : List ℕ) (it : Node) → node_at (get n'.dirs d) other ≡ Some it → (IsSlot d other to to_name × (node ≡ Some it)) ⊎ Stood d other it
  came d other it is = by_slot (slots d other to to_name) (slots d other from name)
    where
      at_slot : (e : ℕ) (another : List ℕ) → IsSlot d other e another → node_at (get n'.dirs e) another ≡ Some it
      at_slot e another s = subst (λ x. node_at (get n'.dirs x) another ≡ Some it) s.0 (subst (λ x. node_at (get n'.dirs d) x ≡ Some it) s.1 is)

      by_slot : IsSlot d other to to_name ⊎ ¬ (IsSlot d other to to_name) → IsSlot d other from name ⊎ ¬ (IsSlot d other from name) → (IsSlot d other to to_name × (node ≡ Some it)) ⊎ Stood d other it
      by_slot (inl s) either = inl (s, sym re.here ∙ at_slot to to_name s)
      by_slot (inr apart) (inl s) = absurd (let none = re.gone (λ (t : IsSlot from name to to_name). apart (s.0 ∙ t.0, s.1 ∙ t.1)) in let found = at_slot from name s in cc)
      by_slot (inr apart) (inr other_slot) = inr (apart, other_slot, sym (re.rest d other apart other_slot) ∙ is)

  -- no directory that lists another is replaced
  lists-kept : (d c : ℕ) → Lists n.dirs d c → ¬ (IsReplaced n.dirs to to_name d)
  lists-kept d c h replaced = let none = may.empty (record { 0 = d }) replaced h.0 in let found = h.1 in cc

  to-kept : ¬ (IsReplaced n.dirs to to_name to)
  to-kept replaced = let none = may.empty (record { 0 = to }) replaced to_name in cc

  stays : (d c : ℕ) (h : Lists n.dirs d c) → ¬ (IsSlot d h.0 to to_name) → ¬ (IsSlot d h.0 from name) → Lists n'.dirs d c
  stays d c h apart other_slot = (h.0, re.rest d h.0 apart other_slot ∙ h.1)

  at_to : (d c : ℕ) (h : Lists n.dirs d c) → IsSlot d h.0 to to_name → IsReplaced n.dirs to to_name c
  at_to d c h s = subst (λ x. node_at (get n.dirs x) to_name ≡ Some (Dir (record { 0 = c }))) s.0 (subst (λ x. node_at (get n.dirs d) x ≡ Some (Dir (record { 0 = c }))) s.1 h.1)

  at_from : (d c : ℕ) (h : Lists n.dirs d c) → IsSlot d h.0 from name → node_at (get n.dirs from) name ≡ Some (Dir (record { 0 = c }))
  at_from d c h s = subst (λ x. node_at (get n.dirs x) name ≡ Some (Dir (record { 0 = c }))) s.0 (subst (λ x. node_at (get n.dirs d) x ≡ Some (Dir (record { 0 = c }))) s.1 h.1)

  otherwise : (d c : ℕ) (h : Lists n.dirs d c) → ¬ (IsSlot d h.0 to to_name) → IsSlot d h.0 from name → ¬ (IsSlot from name to to_name)
  otherwise d c h apart s = λ t. apart (s.0 ∙ t.0, s.1 ∙ t.1)

  -- ---- what isn't below the directory that moves is reached as before, and so is then all that stays
  abbrev Aside : ℕ → Type 0
  Aside c = ¬ (IsReplaced n.dirs to to_name c) × ((dir : DirId) → ¬ (IsSlot from name to to_name) → node_at (get n.dirs from) name ≡ Some (Dir dir) → ¬ (Reaches n.dirs dir.0 c))

  step_aside : (d c : ℕ) → Lists n.dirs d c → Aside c → Aside d × (Reaches n'.dirs 0 d → Reaches n'.dirs 0 c)
  step_aside d c h aside = ((lists-kept d c h, λ dir apart is way. aside.1 dir apart is (reach-more n.dirs dir.0 d c way h)), λ way. reach-more n'.dirs 0 d c way (by_slot (slots d h.0 to to_name) (slots d h.0 from name)))
    where
      by_slot : IsSlot d h.0 to to_name ⊎ ¬ (IsSlot d h.0 to to_name) → IsSlot d h.0 from name ⊎ ¬ (IsSlot d h.0 from name) → Lists n'.dirs d c
      by_slot (inl s) either = absurd (aside.0 (at_to d c h s))
      by_slot (inr apart) (inl s) = absurd (aside.1 (record { 0 = c }) (otherwise d c h apart s) (at_from d c h s) (0, refl))
      by_slot (inr apart) (inr other_slot) = stays d c h apart other_slot

  to_aside : Aside to
  to_aside = (to-kept, λ dir apart is. (may.moves dir apart is).1)

  reach-to : Reaches n.dirs 0 to → Reaches n'.dirs 0 to
  reach-to way = carried n.dirs n'.dirs 0 Aside step_aside way.0 to way.1 to_aside

  to_lists : (c : ℕ) → node ≡ Some (Dir (record { 0 = c })) → Lists n'.dirs to c
  to_lists c is = (to_name, re.here ∙ is)

  step_kept : Reaches n.dirs 0 to → (d c : ℕ) → Lists n.dirs d c → ¬ (IsReplaced n.dirs to to_name c) → ¬ (IsReplaced n.dirs to to_name d) × (Reaches n'.dirs 0 d → Reaches n'.dirs 0 c)
  step_kept to_way d c h kept = (lists-kept d c h, λ way. by_slot way (slots d h.0 to to_name) (slots d h.0 from name))
    where
      by_slot : Reaches n'.dirs 0 d → IsSlot d h.0 to to_name ⊎ ¬ (IsSlot d h.0 to to_name) → IsSlot d h.0 from name ⊎ ¬ (IsSlot d h.0 from name) → Reaches n'.dirs 0 c
      by_slot way (inl s) either = absurd (kept (at_to d c h s))
      by_slot way (inr apart) (inl s) = reach-more n'.dirs 0 to c (reach-to to_way) (to_lists c (may.moves (record { 0 = c }) (otherwise d c h apart s) (at_from d c h s)).0)
      by_slot way (inr apart) (inr other_slot) = reach-more n'.dirs 0 d c way (stays d c h apart other_slot)

  -- a node that had one name has one, if none but that was its own where it is set
  one-name : (it : Node) → (node ≡ Some it → IsAlone n from name it) → ((d e : ℕ) (one other : List ℕ) → node_at (get n.dirs d) one ≡ Some it → node_at (get n.dirs e) other ≡ Some it → IsSlot d one e other)
      → (d e : ℕ) (one other : List ℕ) → node_at (get n'.dirs d) one ≡ Some it → node_at (get n'.dirs e) other ≡ Some it → IsSlot d one e other
  one-name it alone once d e one other first second = by_case (came d one it first) (came e other it second)
    where
      by_case : (IsSlot d one to to_name × (node ≡ Some it)) ⊎ Stood d one it → (IsSlot e other to to_name × (node ≡ Some it)) ⊎ Stood e other it → IsSlot d one e other
      by_case (inl s) (inl t) = (s.0.0 ∙ sym t.0.0, s.0.1 ∙ sym t.0.1)
      by_case (inl s) (inr h) = absurd (h.1 (alone s.1 e other h.2))
      by_case (inr h) (inl t) = absurd (h.1 (alone t.1 d one h.2))
      by_case (inr h) (inr g) = once d e one other h.2 g.2

  once-rearranged : IsNamedOnce n → IsNamedOnce n'
  once-rearranged once d e one other it = one-name it (may.alone_too once it) (λ a b some another. once a b some another it) d e one other

  module _ (whole : IsWhole n) where
    reached : (d : ℕ) → IsDirThere n.dirs d → Reaches n.dirs 0 d
    reached d there = reached-below n 0 d (whole.below d there.0 there.1)

    still_reached : (d : ℕ) → IsDirThere n.dirs d → ¬ (IsReplaced n.dirs to to_name d) → Reaches n'.dirs 0 d
    still_reached d there kept =
        let way = reached d there in
        carried n.dirs n'.dirs 0 (λ c. ¬ (IsReplaced n.dirs to to_name c)) (step_kept (reached to may.to_there)) way.0 d way.1 kept

    below' : (d : ℕ) (it : Directory) → get n'.dirs d ≡ Some it → is_below n' 0 d ≡ true
    below' d it is = below-reached n' 0 d (by_case (may.known d (it, is)))
      where
        by_case : (IsDirThere n.dirs d × ¬ (IsReplaced n.dirs to to_name d)) ⊎ (node ≡ Some (Dir (record { 0 = d }))) → Reaches n'.dirs 0 d
        by_case (inl old) = still_reached d old.0 old.1
        by_case (inr new) = reach-more n'.dirs 0 to d (still_reached to may.to_there to-kept) (to_lists d new)

    there' : (d : ℕ) (other : List ℕ) (it : Node) → node_at (get n'.dirs d) other ≡ Some it → IsThere n' it
    there' d other it is = by_case (came d other it is)
      where
        stood : (it : Node) → Stood d other it → IsThere n' it
        stood (File f) h = may.files f (whole.there d other (File f) h.2)
        stood (Dir dir) h = may.stay dir.0 (whole.there d other (Dir dir) h.2) (λ replaced. h.0 (whole.once d to other to_name dir h.2 replaced))

        by_case : (IsSlot d other to to_name × (node ≡ Some it)) ⊎ Stood d other it → IsThere n' it
        by_case (inl set) = may.node_there it set.1
        by_case (inr h) = stood it h

    unnamed' : (d : ℕ) (other : List ℕ) (dir : DirId) → node_at (get n'.dirs d) other ≡ Some (Dir dir) → dir.0 ≢ 0
    unnamed' d other dir is = by_case (came d other (Dir dir) is)
      where
        by_case : (IsSlot d other to to_name × (node ≡ Some (Dir dir))) ⊎ Stood d other (Dir dir) → dir.0 ≢ 0
        by_case (inl set) = may.not_root dir set.1
        by_case (inr h) = whole.unnamed d other dir h.2

    root' : IsDirThere n'.dirs 0
    root' = may.stay 0 whole.root (λ replaced. whole.unnamed to to_name (record { 0 = 0 }) replaced refl)

    once' : (d e : ℕ) (one other : List ℕ) (dir : DirId) → node_at (get n'.dirs d) one ≡ Some (Dir dir) → node_at (get n'.dirs e) other ≡ Some (Dir dir) → IsSlot d one e other
    once' d e one other dir = one-name (Dir dir) (may.alone dir) (λ a b some another. whole.once a b some another dir) d e one other

    pub kept-rearranged : IsKept n n'
    kept-rearranged = (record { root = root'; there = there'; unnamed = unnamed'; once = once'; below = below' }, once-rearranged)
