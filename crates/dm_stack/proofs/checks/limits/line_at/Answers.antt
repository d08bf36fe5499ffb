use Rattle.dm_stack.proofs.Prelude.{Some, sym, ap, refl, ◌∙◌, length, slice_get, slice_get_read}
use Rattle.dm_stack.proofs.checks.FirstFaults.{line_in, line_later}
use Rattle.dm_stack.proofs.checks.limits.line_at.Goals as goal
use Rattle.std.specs.Prelude.{◌≡◌, ◌<◌, ◌≤◌}

pub returns-then-left-lines : goal.returns-then-left-lines
returns-then-left-lines c =
    let lines = ap length c.as_slice-lines.ensures in
    let within : c.loop-device.device-index < length c.args.devices.now = c.loop-device-test.true in
    let inside : c.loop-device.left < length c.device-item.result.lines = rw (← c.as_slice-lines.ensures) c.if-left-lines.true in
    let here : slice_get c.device-item.result.lines c.loop-device.left ≡ Some c.index-lines-left.result = rw (← c.as_slice-lines.ensures) (slice_get_read _ _ _ _ refl c.if-left-lines.true c.index-lines-left.is) in
    sym (sym c.loop-device.invariant ∙ line_in _ _ _ _ within c.device-item.is inside ∙ here)

pub loop-device-preserved : goal.loop-device-preserved
loop-device-preserved c =
    let within : c.loop-device.device-index < length c.args.devices.now = c.loop-device-test.true in
    let after : length c.device-item.result.lines ≤ c.loop-device.left = rw (← c.as_slice-lines.ensures) c.if-left-lines.false in
    rw c.as_slice-lines.ensures (line_later _ _ _ _ within c.device-item.is after ∙ c.loop-device.invariant)
