use Rattle.dm_table.proofs.Prelude.{ap, not, ◌∙◌}
use Rattle.dm_table.proofs.tables.TargetRows.{columns_end, columns_known}
use Rattle.dm_table.proofs.tables.line_body.are_columns.Goals as goal

pub returns : goal.returns
returns c = c.is_empty.ensures ∙ columns_end c.loop-rest.rest.now c.in_default.len_below ∙ c.loop-rest.invariant

pub loop-rest-preserved : goal.loop-rest-preserved
loop-rest-preserved c =
    columns_known c.loop-rest.rest.now _ c.in-len2-up.len_at_least (rw c.number.ensures at (c.is_none.ensures ∙ ap not c.if-is_none.false)) ∙ c.loop-rest.invariant
