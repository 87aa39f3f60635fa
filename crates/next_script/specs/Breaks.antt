-- The line at which bytes break the form, said with no reader.
use Rattle.std.specs.Prelude.{◌≡◌, ◌≢◌, ℕ, ◌+◌, ◌≤◌, List, ◌∷◌, [], ◌++◌, length, Result, Ok, Err, ◌⊎◌}
use Rattle.std.specs.List.{All, flat_map}
use Rattle.next_grammar.specs.declared.fault.Fault.{Fault}
use Rattle.next_setup.specs.declared.script.Script.{Script}
use Rattle.next_script.specs.Forms.{IsScript, IsSilent, all_lines, texts}

-- each line ends with LF
abbrev pub ended : List ℕ → List ℕ
ended line = line ++ 10 ∷ []

-- a line, without its end
abbrev pub IsLine : List ℕ → Type 0
IsLine line = All (λ byte. byte ≢ 10) line

-- some text of the form begins with these bytes
pub record Begins (front : List ℕ) : Type 0 where
  pub after : List ℕ
  pub script : Script
  pub form : IsScript (front ++ after) script

-- within the limits, and no line says anything
pub record IsAllSilent (bytes : List ℕ) : Type 0 where
  pub silent : All IsSilent (texts bytes)
  pub short_lines : All (λ line. length line ≤ 4096) (all_lines bytes)
  pub few_bytes : length bytes ≤ 4194304

-- nothing breaks the form in these bytes: some text of the form begins with them, or no line of them says anything
-- (lines that say nothing may leave no room for `places` within the limit on bytes)
abbrev pub IsFront : List ℕ → Type 0
IsFront front = Begins front ⊎ IsAllSilent front

-- the bytes are no text of the form, and this line, counted from 1, is the first that breaks it
pub record BreaksAt (bytes : List ℕ) (line : ℕ) : Type 0 where
  -- the lines before it, and what stands behind these
  pub before : List (List ℕ)
  pub rest : List ℕ
  pub whole : bytes ≡ flat_map ended before ++ rest
  pub each : All IsLine before
  pub number : line ≡ length before + 1
  -- nothing breaks the form in the lines before it
  pub begins : IsFront (flat_map ended before)
  -- where the line has its end, something does in those and it
  pub breaks : (next more : List ℕ) → IsLine next → rest ≡ ended next ++ more → IsFront (flat_map ended before ++ ended next) → ⊥
  pub refused : (script : Script) → IsScript bytes script → ⊥
  pub some : IsAllSilent bytes → ⊥

-- where no line says anything, it is the line behind the last
abbrev pub Breaks : List ℕ → ℕ → Type 0
Breaks bytes line = (IsAllSilent bytes × (line ≡ length (all_lines bytes) + 1)) ⊎ BreaksAt bytes line

-- the line is refused
abbrev pub IsRefusedAt : ℕ → Result Script (ℕ × Fault) → Type 0
IsRefusedAt line (Ok script) = ⊥
IsRefusedAt line (Err refused) = refused.0 ≡ line
