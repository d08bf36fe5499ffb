use Rattle.dm_stack.proofs.Prelude.{sym}
use Rattle.dm_stack.proofs.checks.FirstFaults.{end_of_last}
use Rattle.dm_stack.proofs.checks.layout.end_of.Goals as goal

pub returns-in-Some : goal.returns-in-Some
returns-in-Some c = sym (end_of_last c.args.lines.now c.in-Some.line.now (sym c.in-Some.ensures.value))
