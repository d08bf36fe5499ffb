use Rattle.dm_stack.proofs.Prelude.{[], Limit, described, is_large}
use Rattle.dm_stack.proofs.checks.PlacedLemmas.{first_devices}
use Rattle.dm_stack.proofs.checks.limits.check_line_numbers.Goals as goal

pub loop-device-init : goal.loop-device-init
loop-device-init c = first_devices Limit is_large (described c.args.devices.now [])
