-- The values and faults of the rows give the answer that their checks require.
use Rattle.dm_table.proofs.Prelude.{[], length, map, length-map, lines_of, rest_of, with_rows, no_faults, noted_rest, noted_rows, row_fault}
use Rattle.dm_table.proofs.load.RowFaultLemmas.{rows_answer}
use Rattle.dm_table.proofs.load.reading.read_rows.Goals as goal
use Rattle.std.specs.Prelude.{◌≡◌, ◌+◌}

pub returns-in-Ok : goal.returns-in-Ok
returns-in-Ok g c =
    let form = g.T.FromRows in
    let part = c.args.part in
    let text = c.args.text.now in
    let rows = map form.row_of (lines_of text) in
    let seen = c.in-Ok.reading.faults in
    let all = with_rows form.with_row [] 1 rows in
    let kept : seen ≡ noted_rest part (noted_rows part (row_fault form.is_row form.has_values form.has_names) no_faults 1 rows) (length rows + 1) (rest_of text) = rw length-map c.in-Ok.ensures.faults in
    rows_answer part form.is_row form.has_values form.has_names rows (rest_of text) seen c.in-Ok.reading.values all c.finish.result c.finish.ensures kept c.in-Ok.ensures.values
