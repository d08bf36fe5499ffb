-- the lines of the devices before this one have been written, and nothing failed
use Rattle.dm_table.proofs.Prelude.{take, Ok, table_text, Wrote, OutFault}
use Rattle.dm_table.proofs.tables.canonical_text.write_every_line.Given as goal

abbrev pub invariant-loop-device : goal.invariant-loop-device
invariant-loop-device g l =
    Wrote {E = OutFault} (g.W.Output.past l.fn.writer) (g.W.Output.past l.writer) (Ok tt) (table_text (take l.device-index l.devices))
