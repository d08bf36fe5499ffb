use Rattle.dm_stack.proofs.Prelude.{map, take, flat_map, resolved_device, links_in}
use Rattle.dm_stack.specs.lines.Span.{line_links}
use Rattle.dm_stack.proofs.checks.links.links.Given as goal
use Rattle.std.specs.Prelude.{◌≡◌}

abbrev pub invariant-loop-device : goal.invariant-loop-device
invariant-loop-device l = links_in l.links.items ≡ map (λ device. flat_map line_links device.table) (take l.device-index (map (resolved_device l.stack) l.stack.devices))
