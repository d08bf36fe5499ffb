use Rattle.dm_stack.proofs.Prelude.{drop, slice_get, all_lines}
use Rattle.dm_stack.proofs.checks.limits.line_at.Given as goal
use Rattle.std.specs.Prelude.{◌≡◌}

abbrev pub invariant-loop-device : goal.invariant-loop-device
invariant-loop-device l = slice_get (all_lines (drop l.device-index l.devices)) l.left ≡ slice_get (all_lines l.devices) l.index
