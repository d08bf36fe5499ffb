use Rattle.dm_table.proofs.tables.DiskLemmas.{read_as_promised}
use Rattle.dm_table.proofs.tables.disk_list.parse_disks.Goals as goal

pub returns : goal.returns
returns c = read_as_promised c.args.text.now c.read_lines.result c.read_lines.ensures
