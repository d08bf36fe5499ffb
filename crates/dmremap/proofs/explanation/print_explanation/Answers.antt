use Rattle.dmremap.proofs.PrintLemmas.{text_done}
use Rattle.dmremap.proofs.explanation.print_explanation.Goals as goal

pub returns : goal.returns
returns g c = text_done c.write_explanation.result _ c.after.result c.after.ensures c.write_explanation.ensures
