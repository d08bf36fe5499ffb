-- no device so far is on a cycle
use Rattle.dm_stack.proofs.Prelude.{ℕ, links_in, Reaches}
use Rattle.dm_stack.proofs.checks.graph.first_cycle.Given as goal
use Rattle.std.specs.Prelude.{◌<◌}

abbrev pub invariant-loop-device : goal.invariant-loop-device
invariant-loop-device l = (e : ℕ) → e < l.device → Reaches (links_in l.links) e e → ⊥
