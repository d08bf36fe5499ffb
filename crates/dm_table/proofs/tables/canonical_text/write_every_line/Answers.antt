use Rattle.dm_table.proofs.Prelude.{DeviceSpec, lines_text}
use Rattle.dm_table.proofs.io.WriteLemmas.{each_stopped}
use Rattle.dm_table.proofs.tables.canonical_text.write_every_line.Goals as goal

pub returns-in_err-write_lines : goal.returns-in_err-write_lines
returns-in_err-write_lines g c =
    each_stopped (λ (device : DeviceSpec). lines_text device.name device.lines) c.args.devices.now c.loop-device.device-index c.device-item.result c.from_residual.result c.loop-device-test.true c.device-item.is c.from_residual.ensures.1 c.loop-device.invariant
    (rw (c.as_bytes.ensures.value, c.as_str.ensures.text, c.as_slice.ensures) at c.in_err-write_lines.ensures)
