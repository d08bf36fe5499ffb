use Rattle.dm_stack.proofs.Prelude.{◌∙◌, ap, arith, get_or, length, refl, IfSome_then, slice_get_read}
use Rattle.dm_stack.proofs.lines.OwnSnapshot.{own_is}
use Rattle.dm_stack.proofs.lines.resolve.resolved_devices.Goals as goal
use Rattle.std.specs.Prelude.{◌≡◌, ◌<◌}

pub table-requires-clause-own : goal.table-requires-clause-own
table-requires-clause-own c =
    let stack = c.args.stack.now in
    let id = c.loop-id.id in
    let device = c.index-devices-id.result in
    let devices = c.devices-devices.ensures.devices in
    let within : id < length stack.devices = omega (arith, c.loop-id-test.true, ap length devices) in
    let is : device ≡ get_or stack.devices id device = cc in
    let at = slice_get_read stack.devices (length stack.devices) id device refl within is in
    let over = c.deref.ensures.value ∙ c.in_ok-over.ensures in
    IfSome_then c.snapshot_of_next-own.result c.snapshot_of_next-own.ensures (λ found named. own_is stack _ id device _ found.now over at c.as_slice-lines.ensures (rw c.new.ensures at named))
