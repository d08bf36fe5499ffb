use Rattle.dm_table.proofs.Prelude.{sym}
use Rattle.dm_table.proofs.words.FieldLemmas.{lacks-searched}
use Rattle.dm_table.proofs.tables.concise_device.lacks.Goals as goal

pub returns : goal.returns
returns c = lacks-searched c.args.of c.args.text.now c.memchr.result c.is_none.result c.memchr.ensures (sym c.is_none.ensures)
