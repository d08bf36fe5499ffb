use Rattle.dm_table.proofs.Prelude.{err_from_is_err_and, device_in, fault_of_device, entries}
use Rattle.dm_table.proofs.load.RowFaultLemmas.{said_read}
use Rattle.dm_table.proofs.tables.ConciseFaults.{device_refused}
use Rattle.dm_table.proofs.tables.concise_text.read_part.Goals as goal

pub returns-in_err-read_device-clause-fault : goal.returns-in_err-read_device-clause-fault
returns-in_err-read_device-clause-fault c =
    let p = err_from_is_err_and c.from_residual.result c.from_residual.ensures.1 in
    rw (p.1, p.2) (λ other. device_refused c.args.number c.args.part.now c.in_err-read_device.field-0.0 (c.in_err-read_device.ensures other))

pub returns-clause-devices : goal.returns-clause-devices
returns-clause-devices c = rw (c.in_ok-push.ensures.items, (said_read (fault_of_device c.args.part.now) (device_in c.args.number (entries c.args.part.now)) _ c.in_ok-read_device.ensures).1)
