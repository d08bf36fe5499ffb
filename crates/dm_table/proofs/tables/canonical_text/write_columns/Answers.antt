use Rattle.dm_table.proofs.Prelude.{column_text}
use Rattle.dm_table.proofs.io.WriteLemmas.{each_stopped, each_further}
use Rattle.dm_table.proofs.tables.canonical_text.write_columns.Goals as goal

pub returns-in_err-put : goal.returns-in_err-put
returns-in_err-put g c =
    each_stopped column_text c.args.columns.now c.loop-column.column-index c.column-item.result c.from_residual.result c.loop-column-test.true c.column-item.is c.from_residual.ensures.1 c.loop-column.invariant (rw c.new.ensures.text at c.in_err-put.ensures)

pub loop-column-preserved : goal.loop-column-preserved
loop-column-preserved g c =
    each_further column_text c.args.columns.now c.loop-column.column-index c.column-item.result c.loop-column-test.true c.column-item.is c.loop-column.invariant (rw c.new.ensures.text at c.in_ok-put.ensures)
