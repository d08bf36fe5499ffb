use Rattle.dm_table.proofs.tables.TableDescribed.{read_as_promised}
use Rattle.dm_table.proofs.tables.table_text.parse_table.Goals as goal

pub returns : goal.returns
returns c = read_as_promised c.args.text.now c.read_lines.result c.read_lines.ensures
