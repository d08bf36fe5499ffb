use Rattle.dm_table.proofs.Prelude.{Source, texts, is_device, has_values, has_names, devices_from, []}
use Rattle.dm_table.proofs.load.RowFaultLemmas.{rows_answer}
use Rattle.dm_table.proofs.tables.concise_text.read_parts.Goals as goal

pub returns-in-Ok : goal.returns-in-Ok
returns-in-Ok c =
    let parts = texts c.args.parts.now in
    rows_answer Source is_device has_values has_names parts [] c.in-Ok.reading.faults c.in-Ok.reading.values (devices_from 1 parts) c.finish.result c.finish.ensures c.in-Ok.ensures.faults c.in-Ok.ensures.devices
