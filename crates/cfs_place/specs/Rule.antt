-- The cell's rule: what the queue holds and what each pass knows are parts of one story.
use Rattle.std.specs.Prelude.{◌≡◌, ◌≢◌, ◌⊎◌, ℕ, true, false, List, [], ◌∷◌, Option, Some, None, if◌then◌else◌, ◌==◌}
use mathlib.Core.Option.{some}
use lib.ListN.{get_elem?}
use Rattle.cfs_place.specs.declared.views.Stage.TheVariants.{Fresh, Live}
use Rattle.cfs_place.specs.declared.views.View.{View}
use Rattle.cfs_place.specs.Logs.{StartsWith, is_in, list_of, entries_by}
use Rattle.cfs_place.specs.Views.{fresh, HasFixed, IsOther, list_by}

-- what is true of the cell at one moment
pub record Story (T E : Type 0) : Type 0 where
  -- the one value, as it was last in the queue
  pub value : T
  -- the value that the cell was made with
  pub start : T
  -- the pass that has taken the value, if one has
  pub holder : Option ℕ
  -- the number of the first pass
  pub own : ℕ
  -- the numbers given out and not joined in
  pub out : List ℕ
  -- the numbers joined in, with their entries
  pub kept : List (ℕ × List E)
  -- which pass has a number
  pub seat : ℕ → ℕ

-- the queue holds the value where no pass does
abbrev pub content : {T : Type 0} → Option ℕ → T → List T
content None x = x ∷ []
content (Some holder) x = []

-- what a pass has taken: the value, where it is the holder
abbrev pub taken_by : {T : Type 0} → Option ℕ → T → ℕ → Option T
taken_by None x pass = None
taken_by (Some holder) x pass = if holder == pass then Some x else None

module _ {T E F : Type 0} (log : T → List E) (maker : E → ℕ) (fixed : T → F) where
  -- a pass in use fits the story
  pub record Fits (s : Story T E) (pass : ℕ) (v : View T E) : Type 0 where
    pub alone : s.seat v.by ≡ pass
    pub origin : v.start ≡ Some s.start
    pub holds : v.taken ≡ taken_by s.holder s.value pass
    pub whole : (x : T) → v.taken ≡ Some x → v.seen ≡ log x
    pub beginning : StartsWith (log s.value) v.seen
    pub own_list : entries_by maker v.by (log s.value) ≡ v.made
    pub as_first : v.leads ≡ true → (v.by ≡ s.own) × (v.out ≡ s.out) × (v.kept ≡ s.kept)
    pub as_other : v.leads ≡ false → is_in v.by s.out ≡ true

  -- no pass waits for the cell to be made, and each that is in use fits the story
  abbrev pub Sits : Story T E → ℕ → View T E → Type 0
  Sits s pass v = (v.stage ≢ Fresh) × (v.stage ≡ Live → Fits s pass v)

  -- the queue and the passes are as the story says
  pub record Tells (s : Story T E) (items : List T) (views : List (View T E)) : Type 0 where
    pub there : items ≡ content s.holder s.value
    pub same_fixed : fixed s.value ≡ fixed s.start
    pub back : (n : ℕ) → is_in n s.out ≡ false → n ≢ s.own → entries_by maker n (log s.value) ≡ list_of n s.kept
    pub held : (h : ℕ) → s.holder ≡ Some h → (w : View T E) × (get_elem? views h ≡ some w) × (w.stage ≡ Live)
    pub sits : (pass : ℕ) (v : View T E) → get_elem? views pass ≡ some v → Sits s pass v

  -- before the cell has its value there is one pass; from then on there is a story
  abbrev pub Kept : List T → List (View T E) → Type 0
  Kept items views = ((items ≡ []) × (views ≡ fresh ∷ [])) ⊎ ((s : Story T E) × Tells s items views)

module _ {T E F : Type 0} (log : T → List E) (fixed : T → F) where
  -- some pass has taken the value, whose log begins with all that this pass has seen; where this one holds nothing it is another
  abbrev pub IsOut : View T E → Type 0
  IsOut v = (x : T) × (w : View T E) × (w.stage ≡ Live) × (w.taken ≡ Some x) × StartsWith (log x) v.seen × HasFixed fixed v x × (v.taken ≡ None → IsOther v w)

module _ {T E : Type 0} (log : T → List E) (maker : E → ℕ) where
  -- the value has, for each number, exactly the entries that its passes made, in their order
  abbrev pub IsWhole : View T E → T → Type 0
  IsWhole v x = (n : ℕ) → entries_by maker n (log x) ≡ list_by n v
