use Rattle.dm_table.proofs.Prelude.{length, is_some, texts, columns_in}
use Rattle.dm_table.proofs.tables.line_body.are_columns.Given as goal
use Rattle.std.specs.Prelude.{◌≡◌}

abbrev pub invariant-loop-rest : goal.invariant-loop-rest
invariant-loop-rest l = is_some (columns_in (texts l.rest)) ≡ is_some (columns_in (texts l.fields))

abbrev pub decreases-loop-rest : goal.decreases-loop-rest
decreases-loop-rest l = length l.rest
