-- What a reading that takes memory gives.
use Rattle.std.specs.Prelude.{◌≡◌, ◌≢◌, Result, Ok, Err}
use Rattle.next_grammar.specs.declared.fault.Fault.{Fault}
use Rattle.next_grammar.specs.declared.fault.Fault.TheVariants.{BadCommand, BadNumber}
use Rattle.next_grammar.specs.declared.fault.Refusal.{Refusal}
use Rattle.next_grammar.specs.declared.fault.Refusal.TheVariants.{Fault as FaultRefusal, NoMemory}

-- what the words say, unless memory runs out
abbrev pub Gives : {A : Type 0} → Result A Refusal → Result A Fault → Type 0
Gives (Ok x) said = said ≡ Ok x
Gives (Err (FaultRefusal fault)) said = said ≡ Err fault
Gives (Err NoMemory) said = Unit {0}

-- what the words of a command say, unless memory runs out: these two faults take none
abbrev pub GivesCommand : {A : Type 0} → Result A Refusal → Result A Fault → Type 0
GivesCommand (Ok x) said = said ≡ Ok x
GivesCommand (Err (FaultRefusal fault)) said = said ≡ Err fault
GivesCommand (Err NoMemory) said = (said ≢ Err BadCommand) × (said ≢ Err BadNumber)
