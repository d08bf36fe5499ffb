use Rattle.dm_table.proofs.tables.TableFields.{label_by_place}
use Rattle.dm_table.proofs.tables.table_row.is_label.Goals as goal

pub returns-in-len2-up : goal.returns-in-len2-up
returns-in-len2-up c = label_by_place c.args.field.now c.in-len2-up.len_at_least
