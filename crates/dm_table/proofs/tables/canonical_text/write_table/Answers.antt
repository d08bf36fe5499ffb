use Rattle.dm_table.proofs.tables.CanonicalTable.{table_reads_back}
use Rattle.dm_table.proofs.tables.canonical_text.write_table.Goals as goal

pub returns-clause-reads_back : goal.returns-clause-reads_back
returns-clause-reads_back g c = table_reads_back c.args.devices.now
