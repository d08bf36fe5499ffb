use Rattle.dm_table.proofs.tables.CanonicalConcise.{concise_reads_back}
use Rattle.dm_table.proofs.tables.canonical_text.write_concise.Goals as goal

pub returns-clause-reads_back : goal.returns-clause-reads_back
returns-clause-reads_back g c = concise_reads_back c.args.devices.now
