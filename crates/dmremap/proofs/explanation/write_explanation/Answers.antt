use Rattle.dmremap.proofs.Prelude.{explanation}
use Rattle.dmremap.proofs.explanation.write_explanation.Goals as goal

pub returns : goal.returns
unfolding explanation
returns g c = rw (c.part_meant.ensures, c.table_of-entries.ensures, c.word_in-word.ensures) at c.write_entries.ensures
