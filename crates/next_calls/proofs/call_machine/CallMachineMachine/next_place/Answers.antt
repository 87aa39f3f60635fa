use Rattle.next_calls.proofs.call_machine.CallMachineMachine.next_place.Goals as goal

pub returns-in-Reader : goal.returns-in-Reader
returns-in-Reader c = λ last. rw c.in-Reader.is (c.next_place.ensures last)

pub returns-in-Writer : goal.returns-in-Writer
returns-in-Writer c = λ last. rw c.in-Writer.is (c.next_place-in-Writer.ensures last)

pub returns-in-Remover : goal.returns-in-Remover
returns-in-Remover c = λ last. rw c.in-Remover.is (c.next_place-in-Remover.ensures last)
