use Rattle.dm_table.proofs.Prelude.{sym, ◌∙◌, texts, columns_reading}
use Rattle.dm_table.specs.declared.load.row_faults.RowFault.TheVariants.{Memory}
use Rattle.dm_table.proofs.tables.TargetRows.{columns_first, column_further, column_unnamed, column_unknown, memory_before, columns_last, columns_odd, columns_fault}
use Rattle.dm_table.proofs.tables.line_body.read_columns.Goals as goal
use Rattle.std.specs.Prelude.{◌≢◌}

pub loop-rest-init : goal.loop-rest-init
loop-rest-init c = rw c.new-columns.ensures.items (columns_first (columns_reading (texts c.args.fields.now)))

pub returns-in_default-number : goal.returns-in_default-number
returns-in_default-number c = λ other.
    columns_fault c.loop-rest.columns.items (columns_reading (texts c.loop-rest.rest.now)) _ _ c.loop-rest.invariant
    (column_unknown c.loop-rest.rest.now _ c.in-len2-up.len_at_least (sym c.in_default-number.ensures))

pub returns : goal.returns
returns c = rw c.from_vec.ensures (sym c.loop-rest.invariant ∙ columns_last c.loop-rest.columns.items c.loop-rest.rest.now c.in_default.len_below (sym c.is_empty.ensures ∙ c.if-not-is_empty.false))

pub returns-in-Err : goal.returns-in-Err
returns-in-Err c = λ other.
    let known : c.in-Err.fault ≢ Memory = λ e. other (c.fault_before.ensures ∙ memory_before c.in-Err.fault _ e) in
    rw c.fault_before.ensures (columns_fault c.loop-rest.columns.items (columns_reading (texts c.loop-rest.rest.now)) _ _ c.loop-rest.invariant
    (column_unnamed c.loop-rest.rest.now _ _ c.in-Some.offset c.in-Err.fault c.in-len2-up.len_at_least (sym c.in-Some.ensures) (c.in-Err.ensures known)))

pub loop-rest-preserved : goal.loop-rest-preserved
loop-rest-preserved c =
    rw c.in-Ok-push.ensures.items (column_further c.loop-rest.columns.items c.loop-rest.rest.now _ _ c.in-Ok.to c.in-Some.offset c.in-len2-up.len_at_least (sym c.in-Some.ensures) c.in-Ok.ensures ∙ c.loop-rest.invariant)

pub returns-then-not-is_empty : goal.returns-then-not-is_empty
returns-then-not-is_empty c = λ other.
    columns_fault c.loop-rest.columns.items (columns_reading (texts c.loop-rest.rest.now)) _ _ c.loop-rest.invariant
    (columns_odd c.loop-rest.rest.now c.in_default.len_below (sym c.is_empty.ensures ∙ c.if-not-is_empty.true))
