use Rattle.dmremap.proofs.PrintLemmas.{text_done}
use Rattle.dmremap.proofs.printing.print_line.Goals as goal

pub returns : goal.returns
returns g c = text_done c.write_both.result _ c.after.result c.after.ensures c.write_both.ensures
