use Rattle.dm_stack.proofs.Prelude.{arith, ap, length}
use Rattle.dm_stack.specs.lines.Span.{spans}
use Rattle.dm_stack.proofs.lines.SpanLemmas.{drop_at, drop_past}
use Rattle.dm_stack.proofs.lines.span.SpansIterator.next.Goals as goal

pub returns-clause-steps : goal.returns-clause-steps
returns-clause-steps c = drop_at (spans c.args.self.now.line.now) c.args.self.now.index c.in_ok-span.span c.in_ok-span.ensures.span

pub returns-in_err-span-clause-steps : goal.returns-in_err-span-clause-steps
returns-in_err-span-clause-steps c =
    let none = drop_past (spans c.args.self.now.line.now) c.args.self.now.index c.in_err-span.ensures.span in
    rw c.from_residual.ensures (none, none)

pub returns-clause-goes : goal.returns-clause-goes
returns-clause-goes c =
    let left = ap length (drop_at (spans c.args.self.now.line.now) c.args.self.now.index c.in_ok-span.span c.in_ok-span.ensures.span) in
    record { on = λ ends. (tt, tt, omega (arith, left)); keeps = tt; rests = λ ends. tt }
