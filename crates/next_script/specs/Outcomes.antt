-- What the reading of a script says of its source and of the script.
use Rattle.std.specs.Prelude.{◌≡◌, ℕ, ◌≤◌, Bool, true, List, IsTrue, Result, Ok, Err}
use Rattle.std.specs.List.{list_all}
use Rattle.std.specs.declared.option.Option.{Option}
use Rattle.next_io.specs.Input.{ReadsWithin}
use Rattle.next_ids.specs.declared.ids.Client.{Client}
use Rattle.next_ids.specs.declared.ids.Actor.{Actor}
use Rattle.next_ids.specs.declared.ids.Actor.TheVariants.{Client as ClientTurn}
use Rattle.next_walk.specs.declared.command.Command.{Command}
use Rattle.next_grammar.specs.declared.fault.Fault.{Fault}
use Rattle.next_grammar.specs.declared.fault.Refusal.{Refusal}
use Rattle.next_grammar.specs.declared.fault.Refusal.TheVariants.{Fault as LineFault, NoMemory as LineNoMemory}
use Rattle.next_setup.specs.declared.script.Script.{Script}
use Rattle.next_script.specs.declared.refusal.ScriptRefusal.{ScriptRefusal}
use Rattle.next_script.specs.declared.refusal.ScriptRefusal.TheVariants.{ReadFault, Bad, NoMemory}
use Rattle.next_script.specs.Breaks.{Breaks}
use Rattle.next_setup.specs.Built.{are_built}
use Rattle.next_script.specs.Forms.{IsCount, IsScript}
use Rattle.next_setup.specs.Lists.{rises_from, is_in, count_in}
use Rattle.next_script.specs.Scripts.{script_of, most_bytes}

-- the turn is of a client that has commands, of the Renamer or of the collector
abbrev pub is_turn_of : List (Client × List Command) → Actor → Bool
is_turn_of lists (ClientTurn client) = is_in lists client
is_turn_of lists actor = true

abbrev pub are_turns_of : List (Client × List Command) → Actor × ℕ → Bool
are_turns_of lists listed = is_turn_of lists listed.0

-- what holds of each script that is read
pub record IsInForm (script : Script) : Type 0 where
  pub shards : IsCount script.shards
  pub stores : IsCount script.stores
  -- the clients rise strictly, from 1 to 32
  pub rising : IsTrue (rises_from 0 script.commands)
  pub built : IsTrue (list_all are_built script.commands)
  -- each turn is of a client that has commands
  pub members : IsTrue (list_all (are_turns_of script.commands) script.turns)
  pub few : count_in script.turns ≤ 1000000

-- the bytes read are those of the script, and in the form
pub record HasRead (old new : Option (List ℕ)) (script : Script) : Type 0 where
  pub bytes : List ℕ
  pub read : ReadsWithin most_bytes old new bytes
  pub said : script_of bytes ≡ Ok script
  pub form : IsScript bytes script

-- the bytes read break the form first at this line, whose first fault is this one
pub record HasRefused (old new : Option (List ℕ)) (line : ℕ) (fault : Fault) : Type 0 where
  pub bytes : List ℕ
  pub read : ReadsWithin most_bytes old new bytes
  pub said : script_of bytes ≡ Err (line, fault)
  pub breaks : Breaks bytes line

-- what was read of the source, whatever it told
abbrev pub Reads : Option (List ℕ) → Option (List ℕ) → Result Script ScriptRefusal → Type 0
Reads old new (Ok script) = HasRead old new script
Reads old new (Err (Bad line fault)) = HasRefused old new line fault
Reads old new (Err ReadFault) = Unit {0}
Reads old new (Err NoMemory) = Unit {0}

-- what bytes at hand give, unless memory runs out
abbrev pub Gives : Result Script ScriptRefusal → Result Script (ℕ × Fault) → Type 0
Gives (Ok script) said = said ≡ Ok script
Gives (Err (Bad line fault)) said = said ≡ Err (line, fault)
Gives (Err ReadFault) said = ⊥
Gives (Err NoMemory) said = Unit {0}

-- what a source that tells its bytes gives, unless it fails or memory runs out
abbrev pub Answers : Result Script ScriptRefusal → Result Script (ℕ × Fault) → Type 0
Answers (Ok script) said = said ≡ Ok script
Answers (Err (Bad line fault)) said = said ≡ Err (line, fault)
Answers (Err ReadFault) said = Unit {0}
Answers (Err NoMemory) said = Unit {0}

-- the refusal of a line
abbrev pub refusal_of : ℕ → Refusal → ScriptRefusal
refusal_of line (LineFault fault) = Bad line fault
refusal_of line LineNoMemory = NoMemory
