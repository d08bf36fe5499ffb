use Rattle.dm_stack.proofs.Prelude.{None, [], drop, Limit, first_or, described, device_faults, is_large, line_faults}
use Rattle.dm_stack.proofs.checks.limits.check_line_numbers.Given as goal
use Rattle.std.specs.Prelude.{◌≡◌}

abbrev pub invariant-loop-device : goal.invariant-loop-device
invariant-loop-device l = first_or (device_faults Limit (λ count. is_large) (described (drop l.device-index l.devices) [])) None ≡ first_or (line_faults Limit is_large (described l.devices [])) None
