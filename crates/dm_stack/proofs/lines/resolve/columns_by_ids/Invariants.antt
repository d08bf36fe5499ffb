use Rattle.dm_stack.proofs.Prelude.{take, resolved_columns}
use Rattle.dm_stack.proofs.lines.resolve.columns_by_ids.Given as goal
use Rattle.std.specs.Prelude.{◌≡◌}

abbrev pub invariant-loop-column : goal.invariant-loop-column
invariant-loop-column l = l.by_ids.items ≡ resolved_columns l.stack (take l.column-index l.columns)
