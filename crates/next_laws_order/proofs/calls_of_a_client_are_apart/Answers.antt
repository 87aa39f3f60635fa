use Rattle.next_laws_order.proofs.Apart.{calls_apart}
use Rattle.next_laws_order.proofs.calls_of_a_client_are_apart.Goals as goal

pub returns : goal.returns
returns c = calls_apart
