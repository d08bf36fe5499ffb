use Rattle.dm_table.proofs.words.MarkLemmas.{joined_marks}
use Rattle.dm_table.proofs.words.marks.joined.Goals as goal

pub returns : goal.returns
returns g c = λ marks long front back. joined_marks g.row.HALF c.args.len c.args.first c.args.last marks c.requires.half c.requires.enough c.requires.all long front back
