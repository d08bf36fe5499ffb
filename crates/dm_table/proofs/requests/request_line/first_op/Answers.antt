-- A line with the form of a request begins with an operation and a space.
use Rattle.dm_table.proofs.Prelude.{drop, length, ap, arith}
use Rattle.dm_table.proofs.requests.RequestLemmas.{no_op, op_first}
use Rattle.dm_table.proofs.requests.request_line.first_op.Goals as goal

pub returns-then-line-lt2-clause-other : goal.returns-then-line-lt2-clause-other
returns-then-line-lt2-clause-other c = no_op c.args.line.now (λ op rest e. absurd (omega (arith, ap length e)))

pub returns-in_err-op-clause-other : goal.returns-in_err-op-clause-other
returns-in_err-op-clause-other c =
    rw c.from_residual.ensures (no_op c.args.line.now (λ op rest e. c.in_err-op.ensures.other op (rw e)))

pub returns-in_err-rest-clause-other : goal.returns-in_err-rest-clause-other
returns-in_err-rest-clause-other c =
    rw c.from_residual-in_err-rest.ensures (no_op c.args.line.now (λ op rest e. c.in_err-rest.ensures.other rest (ap (drop 1) e)))

pub returns-clause-cut : goal.returns-clause-cut
returns-clause-cut c = op_first c.args.line.now c.in_ok-rest.rest.now c.in_ok-op.op (omega arith) c.in_ok-op.ensures.named c.in_ok-rest.ensures.cut
