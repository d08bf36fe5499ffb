use Rattle.dm_stack.proofs.names.name_index.space_ahead.Given as goal
use Rattle.std.specs.Prelude.{◌-◌}

abbrev pub invariant-steps : goal.invariant-steps
invariant-steps l = Unit {0}

abbrev pub decreases-steps : goal.decreases-steps
decreases-steps l = 128 - l.from
