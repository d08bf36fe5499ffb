use Rattle.dm_stack.proofs.Prelude.{ap, arith, get_or, length, Line, over_of}
use Rattle.dm_stack.proofs.lines.ByDevice.{device_next}
use Rattle.dm_stack.proofs.lines.OverLemmas.{all_is}
use Rattle.dm_stack.proofs.lines.over.all_over.Goals as goal
use Rattle.std.specs.Prelude.{◌≡◌, ◌<◌}

pub returns : goal.returns
returns c =
    let stack = c.args.stack.now in
    let end : c.loop-id.id ≡ length stack.devices = omega (arith, c.loop-id-test.false, c.loop-id.auto.id-end, ap length c.devices-device-items.ensures.devices) in
    cc (all_is stack)

pub loop-id-preserved : goal.loop-id-preserved
loop-id-preserved c =
    let stack = c.args.stack.now in
    let id = c.loop-id.id in
    let device = c.device-item.result in
    let before = c.loop-id.over.items in
    let devices = c.devices-device-items.ensures.devices in
    let within : id < length stack.devices = omega (arith, c.loop-id-test.true, ap length devices) in
    let is : device ≡ get_or stack.devices id device = cc in
    device_next (λ d (line : Line). over_of stack d line.target) stack id device before c.add_lines.new.over.items within is c.loop-id.invariant
    (rw (c.in_ok-add_lines.ensures, c.new.ensures, c.as_slice.ensures))
