-- the columns so far, with the result for the fields left, give the result for all fields
use Rattle.dm_table.proofs.Prelude.{length, texts, columns_reading}
use Rattle.dm_table.proofs.tables.TargetRows.{after_columns}
use Rattle.dm_table.proofs.tables.line_body.read_columns.Given as goal
use Rattle.std.specs.Prelude.{◌≡◌}

abbrev pub invariant-loop-rest : goal.invariant-loop-rest
invariant-loop-rest l = after_columns l.columns.items (columns_reading (texts l.rest)) ≡ columns_reading (texts l.fields)

abbrev pub decreases-loop-rest : goal.decreases-loop-rest
decreases-loop-rest l = length l.rest
