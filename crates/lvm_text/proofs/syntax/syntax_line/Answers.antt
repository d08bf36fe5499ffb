use Rattle.lvm_text.proofs.Prelude.{sym, arith}
use Rattle.lvm_text.proofs.Steps.{refused, stepped, unended}
use Rattle.lvm_text.proofs.syntax.syntax_line.Goals as goal

pub returns-in_default : goal.returns-in_default
returns-in_default c =
    refused c.args.tokens.now c.loop-at_line.at_line-index _ c.loop-at_line.depth c.loop-at_line.stage _ c.loop-at_line-test.true c.loop-at_line.invariant.reached c.in_default.ensures

pub loop-at_line-preserved : goal.loop-at_line-preserved
loop-at_line-preserved c =
    let s = stepped c.args.tokens.now c.loop-at_line.at_line-index _ c.loop-at_line.depth c.loop-at_line.stage (c.in-Some.next_depth, c.in-Some.next_stage) c.loop-at_line-test.true c.loop-at_line.invariant.reached c.in-Some.ensures in
    record { reached = s.0; shallow = omega (arith, s.1, c.loop-at_line.invariant.shallow) }

pub returns-else-is_over : goal.returns-else-is_over
returns-else-is_over c =
    rw (c.end_line.ensures, c.as_bytes.ensures.value) (unended c.args.tokens.now c.loop-at_line.at_line-index c.loop-at_line.depth c.loop-at_line.stage _ c.loop-at_line-test.false c.loop-at_line.invariant.reached (sym c.if-is_over.ensures))
