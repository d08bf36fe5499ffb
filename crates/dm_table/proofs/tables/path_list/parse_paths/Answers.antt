use Rattle.dm_table.proofs.tables.PathLemmas.{read_as_promised, read_text, refused_text}
use Rattle.dm_table.proofs.tables.path_list.parse_paths.Goals as goal

pub returns-in-Err : goal.returns-in-Err
returns-in-Err c =
    let read = refused_text c.args.text.now c.in-Err.fault c.in-Err.ensures in
    record { parsed = read_as_promised c.args.text.now _ read; read = read }

pub returns : goal.returns
returns c =
    let read = read_text c.args.text.now c.read_rows.result c.in_default.field-0 c.in_default.ensures c.read_rows.ensures in
    record { parsed = read_as_promised c.args.text.now c.read_rows.result read; read = read }
