use Rattle.dm_stack.proofs.Prelude.{Some, sym, ◌∙◌, decimal, string_bytes, IfOk-weaker, SaysTidiness, lower_text}
use Rattle.dm_stack.proofs.ReportLemmas.{clash_line}
use Rattle.dm_stack.proofs.report.tidiness_text.Goals as goal

pub returns : goal.returns
returns c =
    let stack = c.args.stack.now in
    let clash = c.in-Some.clash in
    let words = c.lower_words-lower.result in
    IfOk-weaker c.format.result _ (λ text. SaysTidiness stack (string_bytes text))
    (λ text is. record {
      found = Some clash;
      clash = rw c.in-Some.is at c.in_ok-clash.ensures.clash;
      is =
          rw (← c.name.ensures.name, ← c.name-2.ensures.name) (clash_line words.0.now words.1.now (lower_text stack clash.lower) (decimal clash.sector) c.name.result.now c.name-2.result.now c.lower_words-lower.ensures) ∙ sym is;
    }) c.format.ensures.ok
