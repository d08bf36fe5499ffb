use Rattle.dm_map.proofs.Prelude.{sym, arith}
use Rattle.dm_map.proofs.state.Numbers.{number_here, number_later}
use Rattle.dm_map.proofs.state.plain_taken.number_of.Goals as goal

pub returns-then-chunks-number : goal.returns-then-chunks-number
returns-then-chunks-number c =
    let l = c.loop-number in sym (number_here c.args.chunk c.args.chunks.now l.number _ l.invariant.passed c.loop-number-test.true c.if-chunks-number.true)

pub loop-number-preserved : goal.loop-number-preserved
loop-number-preserved c =
    let l = c.loop-number in
    record { passed = number_later c.args.chunk c.args.chunks.now l.number _ l.invariant.passed c.loop-number-test.true c.if-chunks-number.false; within = omega (arith, c.loop-number-test.true) }
