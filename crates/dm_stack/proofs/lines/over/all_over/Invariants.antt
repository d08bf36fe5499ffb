-- the snapshots so far are those of the devices so far
use Rattle.dm_stack.proofs.Prelude.{flat_map, range_with_len, device_over}
use Rattle.dm_stack.proofs.lines.over.all_over.Given as goal
use Rattle.std.specs.Prelude.{◌≡◌}

abbrev pub invariant-loop-id : goal.invariant-loop-id
invariant-loop-id l = l.over.items ≡ flat_map (device_over l.stack) (range_with_len 0 l.id)
