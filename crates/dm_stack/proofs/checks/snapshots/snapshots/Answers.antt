use Rattle.dm_stack.proofs.checks.SnapshotIds.{ids_next}
use Rattle.dm_stack.proofs.checks.snapshots.snapshots.Goals as goal

pub loop-id-preserved : goal.loop-id-preserved
loop-id-preserved c =
    rw (c.in_ok-add_snapshot.ensures, c.as_slice.ensures, c.loop-id.invariant, ← ids_next c.args.devices.now c.loop-id.id c.index-devices-id.result c.loop-id-test.true c.index-devices-id.is)
