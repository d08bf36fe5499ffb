-- the faults noted so far, with those of the devices left, are the faults of all devices
use Rattle.dm_stack.proofs.Prelude.{drop, no_bad_lines, noted_devices}
use Rattle.dm_stack.proofs.checks.lines.bad_lines.Given as goal
use Rattle.std.specs.Prelude.{◌≡◌}

abbrev pub invariant-loop-id : goal.invariant-loop-id
invariant-loop-id l = noted_devices l.stack l.found (drop l.id l.stack.devices) ≡ noted_devices l.stack no_bad_lines l.stack.devices
