use Rattle.dmremap.proofs.Prelude.{refl, sym, ◌∙◌, subst, IsReport, ReportSays}
use Rattle.dmremap.proofs.PrintLemmas.{says_done}
use Rattle.dmremap.proofs.printing.print_report.Goals as goal

pub returns-in-Ok : goal.returns-in-Ok
returns-in-Ok g c =
    let text = c.as_bytes.result.now in
    let is : IsReport c.args.stack.now text = subst (IsReport c.args.stack.now) (sym (c.as_bytes.ensures.value ∙ c.as_str.ensures.value)) c.in-Ok.ensures.text in
    says_done (ReportSays c.args.stack.now) text c.print_text.result (text, is, refl) c.print_text.ensures
