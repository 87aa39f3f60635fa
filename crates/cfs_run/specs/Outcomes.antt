-- What each status says of the source and the sink.
use Rattle.std.specs.Prelude.{◌≡◌, ℕ, if◌then◌else◌, List, [], ◌∷◌, codes, Result, Err, IsOk, Some, None}
use Rattle.std.specs.declared.option.Option.{Option}
use Rattle.std.specs.Str.{bytes_eq}
use Rattle.std.specs.Io.KnownBytes.{Appends}
use Rattle.cfs_io.specs.Output.{AppendsFront}
use Rattle.cfs_grammar.specs.declared.fault.Fault.{Fault}
use Rattle.cfs_setup.specs.declared.script.Script.{Script}
use Rattle.cfs_script.specs.Outcomes.{HasRead}
use Rattle.cfs_print.specs.declared.printed.Printed.{Printed}
use Rattle.cfs_run.specs.declared.status.Status.{Status}
use Rattle.cfs_run.specs.declared.status.Status.TheVariants as status
use Rattle.cfs_run.specs.Runs.{IsReplayOf}
use Rattle.cfs_print.specs.Texts.{text}

-- the exit status
abbrev pub code_of : Status → ℕ
code_of status.Done = 0
code_of (status.No line) = 1
code_of (status.Usage word) = 2
code_of (status.Script line fault) = 3
code_of status.ReadFault = 4
code_of status.WriteFault = 5
code_of status.NoMemory = 6
code_of (status.LogFull place) = 7

-- The text of the script's run was taken, all of it.
pub record Prints (script : Script) (old new : Option (List ℕ)) : Type 0 where
  pub printed : Printed
  pub run : IsReplayOf script printed
  pub taken : Appends old new (text printed)

-- A front of the text of the script's run was taken.
pub record PrintsFront (script : Script) (old new : Option (List ℕ)) : Type 0 where
  pub printed : Printed
  pub run : IsReplayOf script printed
  pub taken : AppendsFront old new (text printed)

-- The bytes read were those of a script, to the last of them, and the text of its run was taken.
pub record Replayed (left_old left_new taken_old taken_new : Option (List ℕ)) : Type 0 where
  pub script : Script
  pub read : HasRead left_old left_new script
  pub written : Prints script taken_old taken_new

-- The bytes read were those of a script, to the last of them, and a front of the text of its run was taken.
pub record CutOff (left_old left_new taken_old taken_new : Option (List ℕ)) : Type 0 where
  pub script : Script
  pub read : HasRead left_old left_new script
  pub written : PrintsFront script taken_old taken_new

-- a status that comes before the first byte is written
abbrev pub ComesBeforeWriting : Status → Type 0
ComesBeforeWriting status.Done = ⊥
ComesBeforeWriting (status.No line) = Unit {0}
ComesBeforeWriting (status.Usage word) = Unit {0}
ComesBeforeWriting (status.Script line fault) = Unit {0}
ComesBeforeWriting status.ReadFault = Unit {0}
ComesBeforeWriting status.WriteFault = ⊥
ComesBeforeWriting status.NoMemory = Unit {0}
ComesBeforeWriting (status.LogFull place) = Unit {0}

-- the status where the source told what it had left, and that says this: which of them it is, but for faults and
-- want of memory
abbrev pub Answers : Status → Result Script (ℕ × Fault) → Type 0
Answers status.Done said = IsOk said
Answers (status.No line) said = ⊥
Answers (status.Usage word) said = ⊥
Answers (status.Script line fault) said = said ≡ Err (line, fault)
Answers status.ReadFault said = Unit {0}
Answers status.WriteFault said = IsOk said
Answers status.NoMemory said = Unit {0}
Answers (status.LogFull place) said = ⊥

-- the index of the first word that is not expected
unfoldable pub usage_of : List (List ℕ) → Option ℕ
usage_of [] = Some 0
usage_of (word ∷ []) = if bytes_eq word (codes "replay") then None else Some 0
usage_of (word ∷ next ∷ more) = if bytes_eq word (codes "replay") then Some 1 else Some 0
