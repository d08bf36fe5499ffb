-- the ids so far are those of the snapshots among the devices so far
use Rattle.dm_stack.proofs.Prelude.{filter, range_with_len}
use Rattle.dm_stack.proofs.checks.SnapshotIds.{is_over}
use Rattle.dm_stack.proofs.checks.snapshots.snapshots.Given as goal
use Rattle.std.specs.Prelude.{◌≡◌}

abbrev pub invariant-loop-id : goal.invariant-loop-id
invariant-loop-id l = l.ids.items ≡ filter (is_over l.devices) (range_with_len 0 l.id)
