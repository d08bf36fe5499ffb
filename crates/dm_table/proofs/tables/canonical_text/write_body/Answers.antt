use Rattle.dm_table.proofs.Prelude.{flat_map, err_from_is_err_and, column_text, body_head, columns_of}
use Rattle.dm_table.proofs.io.WriteLemmas.{stopped, and_then, line_split}
use Rattle.dm_table.proofs.tables.canonical_text.write_body.Goals as goal
use Rattle.std.specs.Prelude.{◌++◌}

pub returns-in_err-put : goal.returns-in_err-put
returns-in_err-put g c =
    let p = err_from_is_err_and c.from_residual.result c.from_residual.ensures.1 in
    let name = c.args.name.now in
    let mark = c.args.mark.now in
    let line = c.args.line.now in
    rw (p.1, p.2) (stopped (name ++ mark ++ body_head line) (flat_map column_text (columns_of line.target)) (line_split name mark line) (rw c.new.ensures.text at c.in_err-put.ensures))

pub returns : goal.returns
returns g c =
    let name = c.args.name.now in
    let mark = c.args.mark.now in
    let line = c.args.line.now in
    and_then (name ++ mark ++ body_head line) (flat_map column_text (columns_of line.target)) (line_split name mark line) (rw c.new.ensures.text at c.in_ok-put.ensures) c.write_columns_of.ensures
