use Rattle.std.proofs.Common.{◌≡◌, drop}
use Rattle.next_setup.specs.Stops.{stop_in}
use Rattle.next_setup.proofs.stops.steps_in.Given as goal

abbrev pub invariant-loop-stop : goal.invariant-loop-stop
invariant-loop-stop l = stop_in l.stops l.client.0 ≡ stop_in (drop l.stop-index l.stops) l.client.0
