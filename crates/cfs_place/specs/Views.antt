-- What a pass knows, before and after each kind of step.
use Rattle.std.specs.Prelude.{◌≡◌, ◌≢◌, ℕ, true, false, List, [], ◌∷◌, ◌++◌, ◌+◌, length, drop, Some, None, if◌then◌else◌, nat_lt, ◌==◌}
use Rattle.std.specs.Option.{IfSome}
use Rattle.cfs_place.specs.declared.views.Stage.TheVariants.{Fresh, Live, Spent}
use Rattle.cfs_place.specs.declared.views.View.{View}
use Rattle.cfs_place.specs.Logs.{is_in, without, list_of, has_list}

-- the longer of two logs that were seen
abbrev pub longer : {E : Type 0} → List E → List E → List E
longer xs ys = if nat_lt (length xs) (length ys) then ys else xs

module _ {T E : Type 0} where
  -- the first pass before its cell has the value
  abbrev pub fresh : View T E
  fresh = record { stage = Fresh; leads = true; by = 0; seen = []; made = []; taken = None; takes = 0; start = None; out = []; kept = [] }

  -- a pass that was joined into another
  abbrev pub spent : View T E
  spent = record { stage = Spent; leads = false; by = 0; seen = []; made = []; taken = None; takes = 0; start = None; out = []; kept = [] }

  -- the first pass of a cell that was made with this value
  abbrev pub begun : ℕ → T → View T E
  begun by x = record { stage = Live; leads = true; by = by; seen = []; made = []; taken = None; takes = 0; start = Some x; out = []; kept = [] }

  -- the first pass after it gave out a number
  abbrev pub gave_out : ℕ → View T E → View T E
  gave_out by v = record v { out = by ∷ v.out }

  -- a new pass, which has seen what its giver had seen
  abbrev pub newcomer : ℕ → View T E → View T E
  newcomer by v = record { stage = Live; leads = false; by = by; seen = v.seen; made = []; taken = None; takes = 0; start = v.start; out = []; kept = [] }

  -- the first pass after another was joined in: it keeps that one's list
  abbrev pub joined : View T E → View T E → View T E
  joined v w = record v { seen = longer v.seen w.seen; out = without w.by v.out; kept = (w.by, w.made) ∷ v.kept }

  -- the entries that the passes of a number made, as the first pass keeps them
  abbrev pub list_by : ℕ → View T E → List E
  list_by n v = if v.by == n then v.made else list_of n v.kept

  -- no pass of the cell has had the number
  abbrev pub IsNew : ℕ → View T E → Type 0
  IsNew n v = (n ≢ v.by) × (is_in n v.out ≡ false) × (has_list n v.kept ≡ false)

  -- w is another pass than v; where v is the first pass, w has a number that is out
  abbrev pub IsOther : View T E → View T E → Type 0
  IsOther v w = (w.by ≢ v.by) × (v.leads ≡ true → is_in w.by v.out ≡ true)

module _ {T E : Type 0} (log : T → List E) where
  -- a pass that has taken the value
  abbrev pub took : View T E → T → View T E
  took v x = record v { seen = log x; taken = Some x; takes = v.takes + 1 }

  -- a pass that has given the value back: the entries that were added are its own
  abbrev pub gave : View T E → T → View T E
  gave v x = record v { seen = log x; made = v.made ++ drop (length v.seen) (log x); taken = None }

module _ {T F : Type 0} (fixed : T → F) where
  -- the value has the fixed part that the cell was made with
  abbrev pub HasFixed : {E : Type 0} → View T E → T → Type 0
  HasFixed v x = IfSome v.start (λ s. fixed x ≡ fixed s)
