-- What is done about a stray, as phases of the round.
use Rattle.std.specs.Prelude.{List, Bool, true, false, Option, Some, None}
use Rattle.next_steps.specs.declared.answer.Answer.{Answer}
use Rattle.next_steps.specs.declared.answer.Answer.TheVariants.{Yes, No}
use Rattle.next_steps.specs.declared.strays.Stray.{Stray}
use Rattle.next_steps.specs.declared.strays.Stray.TheVariants.{Owed, Marked, Debt}
use Rattle.next_steps.specs.Rounds as round
use Rattle.next_steps.specs.Rounds.{RoundPhase, Visit}
use Rattle.next_collector.specs.declared.work.Work.{Work}
use Rattle.next_collector.specs.declared.work.Work.TheVariants.{Naming, OwnerSettling, OwedDropping, MarkRemoving, MarkDropping, MarkClearing, DebtDropping, DebtClearing}

-- whether the work is one about such a stray
abbrev pub suits : Option Stray → Work → Bool
suits (Some (Owed node owner home)) Naming = true
suits (Some (Owed node owner home)) OwnerSettling = true
suits (Some (Owed node owner home)) OwedDropping = true
suits (Some (Marked note)) MarkRemoving = true
suits (Some (Marked note)) MarkDropping = true
suits (Some (Marked note)) MarkClearing = true
suits (Some (Debt node owner)) DebtDropping = true
suits (Some (Debt node owner)) DebtClearing = true
suits stray work = false

-- the phase of the work about the stray; `rest` are those after it. Work that does not suit the stray never is
abbrev pub working : Visit → Option Stray → Work → (rest : List Stray) → RoundPhase
working v (Some (Owed node owner home)) Naming rest = round.Naming v node owner home rest
working v (Some (Owed node owner home)) OwnerSettling rest = round.OwnerSettling v node rest
working v (Some (Owed node owner home)) OwedDropping rest = round.OwedDropping v node owner rest
working v (Some (Marked note)) MarkRemoving rest = round.MarkRemoving v note rest
working v (Some (Marked note)) MarkDropping rest = round.MarkDropping v note rest
working v (Some (Marked note)) MarkClearing rest = round.MarkClearing v note rest
working v (Some (Debt node owner)) DebtDropping rest = round.DebtDropping v node rest
working v (Some (Debt node owner)) DebtClearing rest = round.DebtClearing v node rest
working v stray work rest = round.Listing v

-- the work that a stray begins with
abbrev pub begun : Stray → Work
begun (Owed node owner home) = Naming
begun (Marked note) = MarkRemoving
begun (Debt node owner) = DebtDropping

-- the work after the answer, where the stray is not done
abbrev pub named : Answer → Work
named Yes = OwnerSettling
named No = OwedDropping
named a = Naming

abbrev pub work_after : Work → Answer → Option Work
work_after Naming a = Some (named a)
work_after OwnerSettling a = None
work_after OwedDropping a = None
work_after MarkRemoving a = Some MarkDropping
work_after MarkDropping a = Some MarkClearing
work_after MarkClearing a = None
work_after DebtDropping a = Some DebtClearing
work_after DebtClearing a = None
