use Rattle.dm_stack.proofs.Prelude.{map, take, resolved_device}
use Rattle.dm_stack.proofs.lines.resolve.resolved_devices.Given as goal
use Rattle.std.specs.Prelude.{◌≡◌}

abbrev pub invariant-loop-id : goal.invariant-loop-id
invariant-loop-id l = l.found.items ≡ map (resolved_device l.stack) (take l.id l.stack.devices)
