use Rattle.dm_stack.proofs.Prelude.{[], ap, arith, drop, drop_all, length, no_bad_lines, noted_devices}
use Rattle.dm_stack.proofs.checks.BadLineLemmas.{are_first}
use Rattle.dm_stack.proofs.checks.lines.bad_lines.Goals as goal
use Rattle.std.specs.Prelude.{◌≡◌, ◌≤◌}

pub returns : goal.returns
returns c =
    let stack = c.args.stack.now in
    let past : length stack.devices ≤ c.loop-id.id = omega (arith, c.loop-id-test.false, ap length c.devices-device-items.ensures) in
    let none : drop c.loop-id.id stack.devices ≡ [] = drop_all c.loop-id.id stack.devices past in
    let is : c.loop-id.found ≡ noted_devices stack no_bad_lines stack.devices = rw none at c.loop-id.invariant in
    rw is (are_first stack)
