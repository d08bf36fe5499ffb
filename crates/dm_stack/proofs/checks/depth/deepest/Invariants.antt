use Rattle.dm_stack.proofs.Prelude.{drop, max, greatest}
use Rattle.dm_stack.proofs.checks.depth.deepest.Given as goal
use Rattle.std.specs.Prelude.{◌≡◌}

abbrev pub invariant-loop-depth : goal.invariant-loop-depth
invariant-loop-depth l = max l.deepest (greatest (drop l.depth-index l.depths)) ≡ greatest l.depths
