-- after each round, `depths` has the depths for one level more
use Rattle.dm_stack.proofs.Prelude.{depths_to, links_in}
use Rattle.dm_stack.proofs.checks.graph.depths.Given as goal
use Rattle.std.specs.Prelude.{◌≡◌}

abbrev pub invariant-loop-level : goal.invariant-loop-level
invariant-loop-level l = l.depths.items ≡ depths_to (links_in l.links) l._level
