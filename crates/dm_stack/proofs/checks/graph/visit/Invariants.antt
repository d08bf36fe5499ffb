-- the devices named so far are visited
use Rattle.dm_stack.proofs.Prelude.{take, Visits}
use Rattle.dm_stack.proofs.checks.graph.visit.Given as goal

abbrev pub invariant-loop-device : goal.invariant-loop-device
invariant-loop-device l = Visits (take l.device-index l.named) l.initial.visited l.visited l.initial.waiting.items l.waiting.items
