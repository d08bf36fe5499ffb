use Rattle.dm_table.proofs.Prelude.{texts}
use Rattle.dm_table.proofs.tables.ConciseFaults.{device_read}
use Rattle.dm_table.proofs.tables.concise_device.read_device.Goals as goal

pub returns : goal.returns
returns c =
    device_read c.read_entries.result c.args.number c.args.text.now (texts c.deref.result.now) c.lacks.result c.lacks.ensures (rw c.deref.ensures.value c.in_ok-cut_into.ensures) c.read_entries.ensures
