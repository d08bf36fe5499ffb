use Rattle.dm_stack.proofs.Prelude.{sym, ◌∙◌, string_bytes, IfOk-weaker, IsReport}
use Rattle.dm_stack.proofs.ReportLemmas.{report_lines}
use Rattle.dm_stack.proofs.claims.TopLemmas.{one_report}
use Rattle.dm_stack.proofs.report.check_report.Goals as goal

pub returns-clause-text : goal.returns-clause-text
returns-clause-text c =
    let stack = c.args.stack.now in
    let last = c.in_ok-tidiness.ensures in
    IfOk-weaker c.format.result _ (λ text. IsReport stack (string_bytes text))
    (λ text is. record {
      found = last.found;
      clash = last.clash;
      is =
          report_lines stack last.found c.device_count.result c.disk_count.result c.depth.result c.as_str.result.now c.device_count.ensures c.disk_count.ensures c.depth.ensures.depth (last.is ∙ sym c.as_str.ensures.value) ∙ sym is;
    }) c.format.ensures.ok

pub returns-clause-one : goal.returns-clause-one
returns-clause-one c = one_report

pub returns-in_err-tidiness-clause-one : goal.returns-in_err-tidiness-clause-one
returns-in_err-tidiness-clause-one c = one_report
