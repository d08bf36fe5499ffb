-- the columns before this one have been written, and nothing failed
use Rattle.dm_table.proofs.Prelude.{take, Ok, flat_map, column_text, Wrote, OutFault}
use Rattle.dm_table.proofs.tables.canonical_text.write_columns.Given as goal

abbrev pub invariant-loop-column : goal.invariant-loop-column
invariant-loop-column g l =
    Wrote {E = OutFault} (g.W.Output.past l.fn.writer) (g.W.Output.past l.writer) (Ok tt) (flat_map column_text (take l.column-index l.columns))
