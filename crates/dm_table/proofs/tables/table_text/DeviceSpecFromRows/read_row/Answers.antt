use Rattle.dm_table.proofs.Prelude.{sym, ◌∙◌, texts}
use Rattle.dm_table.proofs.tables.TableFields.{row_made}
use Rattle.dm_table.proofs.tables.TableLines.{row_values, row_fault}
use Rattle.dm_table.proofs.tables.table_text.DeviceSpecFromRows.read_row.Goals as goal

pub returns-clause-values : goal.returns-clause-values
returns-clause-values c =
    let row = row_made c.args.number c.args.row.now _ c.in-len1-up.len_at_least (sym c.is_label.ensures ∙ c.if-not-is_label.false) (sym c.is_body_row.ensures ∙ c.if-not-is_body_row.false) in
    row_values c.read_line.result c.args.number (texts c.args.row.now) c.args.devices.now.items c.read_line.new.devices.items (rw (c.name_in.ensures, row) at c.read_line.ensures)

pub returns-clause-fault : goal.returns-clause-fault
returns-clause-fault c =
    let row = row_made c.args.number c.args.row.now _ c.in-len1-up.len_at_least (sym c.is_label.ensures ∙ c.if-not-is_label.false) (sym c.is_body_row.ensures ∙ c.if-not-is_body_row.false) in
    row_fault c.read_line.result c.args.number (texts c.args.row.now) c.args.devices.now.items c.read_line.new.devices.items (rw (c.name_in.ensures, row) at c.read_line.ensures)
