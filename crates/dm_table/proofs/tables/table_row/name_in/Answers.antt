use Rattle.dm_table.proofs.tables.TableFields.{take-all_but_last}
use Rattle.dm_table.proofs.tables.table_row.name_in.Goals as goal

pub returns-in-len1-up : goal.returns-in-len1-up
returns-in-len1-up c = take-all_but_last c.args.label.now
