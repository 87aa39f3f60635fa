-- What was read of a source, from what its bytes give.
use Rattle.std.proofs.Common.{◌≡◌, ℕ, List, sym, ap, ◌∙◌, Some, Ok, Err, Result}
use Rattle.std.specs.Prelude.{IfOk, IfErr}
use Rattle.std.specs.declared.option.Option.{Option}
use Rattle.next_io.specs.Input.{ReadsWithin}
use Rattle.next_io.proofs.Told.{ReadsWithin-told}
use Rattle.next_setup.specs.declared.script.Script.{Script}
use Rattle.next_script.specs.declared.refusal.ScriptRefusal.{ScriptRefusal}
use Rattle.next_script.specs.declared.refusal.ScriptRefusal.TheVariants.{ReadFault, Bad, NoMemory}
use Rattle.next_script.specs.Forms.{IsScript}
use Rattle.next_script.specs.Scripts.{script_of, most_bytes}
use Rattle.next_script.specs.Outcomes.{IsInForm, Reads, Gives, Answers}
use Rattle.next_script.proofs.Limits.{script_of-take}
use Rattle.next_script.proofs.Accepted.{script_of-accepted}
use Rattle.next_script.proofs.Broken.{script_of-breaks}
use Rattle.next_script.proofs.FormRead.{script_of-form}
use Rattle.next_script.proofs.InForm.{script_of-in_form}

pub Reads-from_bytes : (old new : Option (List ℕ)) (bytes : List ℕ) (result : Result Script ScriptRefusal) → ReadsWithin most_bytes old new bytes → Gives result (script_of bytes) → Reads old new result
Reads-from_bytes old new bytes (Ok script) read said = record { bytes = bytes; read = read; said = said; form = script_of-accepted bytes script said }
Reads-from_bytes old new bytes (Err (Bad line fault)) read said = record { bytes = bytes; read = read; said = said; breaks = script_of-breaks bytes line fault said }
Reads-from_bytes old new bytes (Err ReadFault) read said = tt
Reads-from_bytes old new bytes (Err NoMemory) read said = tt

pub in_form-from_bytes : (bytes : List ℕ) (result : Result Script ScriptRefusal) → Gives result (script_of bytes) → IfOk result IsInForm
in_form-from_bytes bytes (Ok script) said = script_of-in_form bytes script said
in_form-from_bytes bytes (Err refusal) said = tt

-- what was read within the limit says the same as all that was left
pub script_of-told : (old new : Option (List ℕ)) (left bytes : List ℕ) → old ≡ Some left → ReadsWithin most_bytes old new bytes → script_of bytes ≡ script_of left
script_of-told old new left bytes e read = ap script_of (sym (ReadsWithin-told most_bytes old new left bytes e read)) ∙ script_of-take left

pub Answers-from_bytes : (old new : Option (List ℕ)) (bytes : List ℕ) (result : Result Script ScriptRefusal) → ReadsWithin most_bytes old new bytes → Gives result (script_of bytes) →
    (left : List ℕ) → old ≡ Some left → Answers result (script_of left)
Answers-from_bytes old new bytes (Ok script) read said left e = sym (script_of-told old new left bytes e read) ∙ said
Answers-from_bytes old new bytes (Err (Bad line fault)) read said left e = sym (script_of-told old new left bytes e read) ∙ said
Answers-from_bytes old new bytes (Err ReadFault) read said left e = tt
Answers-from_bytes old new bytes (Err NoMemory) read said left e = tt

-- a text of the form gives its script
pub Answers-from_form : (old new : Option (List ℕ)) (bytes : List ℕ) (result : Result Script ScriptRefusal) → ReadsWithin most_bytes old new bytes → Gives result (script_of bytes) →
    (left : List ℕ) (script : Script) → old ≡ Some left → IsScript left script → Answers result (Ok script)
Answers-from_form old new bytes result read said left script e form = rw (script_of-form left script form) at (Answers-from_bytes old new bytes result read said left e)

-- bytes at hand do not fail
pub no_fault-from_bytes : (X : Type 0) (bytes : List ℕ) (result : Result Script ScriptRefusal) → Gives result (script_of bytes) → IfErr result (λ refusal. refusal ≡ ReadFault → X)
no_fault-from_bytes X bytes (Ok script) said = tt
no_fault-from_bytes X bytes (Err (Bad line fault)) said = λ same. cc
no_fault-from_bytes X bytes (Err ReadFault) said = absurd said
no_fault-from_bytes X bytes (Err NoMemory) said = λ same. cc

pub ruleset telling = (Reads-from_bytes, in_form-from_bytes, Answers-from_bytes, Answers-from_form, no_fault-from_bytes)
