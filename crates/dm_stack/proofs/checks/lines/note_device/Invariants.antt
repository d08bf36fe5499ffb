-- the faults noted so far, with those of the lines left, are the faults after the whole device
use Rattle.dm_stack.proofs.Prelude.{drop, length, noted_device, noted_lines}
use Rattle.dm_stack.proofs.checks.lines.note_device.Given as goal
use Rattle.std.specs.Prelude.{◌≡◌}

abbrev pub invariant-loop-index : goal.invariant-loop-index
invariant-loop-index l = noted_lines l.stack (length l.device.lines) l.end l.found (drop l.index l.device.lines) ≡ noted_device l.stack l.fn.found l.device
