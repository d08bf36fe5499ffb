use Rattle.dm_table.proofs.Prelude.{concise_device, DeviceSpec}
use Rattle.dm_table.proofs.io.WriteLemmas.{each_stopped, each_further}
use Rattle.dm_table.proofs.tables.canonical_text.write_more_devices.Goals as goal
use Rattle.std.specs.Prelude.{◌∷◌}

pub returns-in_err-write_device : goal.returns-in_err-write_device
returns-in_err-write_device g c =
    each_stopped (λ (device : DeviceSpec). 59 ∷ concise_device device) c.args.devices.now c.loop-device.device-index c.device-item.result c.from_residual.result c.loop-device-test.true c.device-item.is c.from_residual.ensures.1 c.loop-device.invariant c.in_err-write_device.ensures

pub loop-device-preserved : goal.loop-device-preserved
loop-device-preserved g c = each_further (λ (device : DeviceSpec). 59 ∷ concise_device device) c.args.devices.now c.loop-device.device-index c.device-item.result c.loop-device-test.true c.device-item.is c.loop-device.invariant c.in_ok-write_device.ensures
