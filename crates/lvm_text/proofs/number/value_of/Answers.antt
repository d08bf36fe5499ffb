use Rattle.lvm_text.proofs.Prelude.{arith}
use Rattle.lvm_text.proofs.Digits.{value_more, value_fits}
use Rattle.lvm_text.proofs.number.value_of.Goals as goal
use Rattle.std.specs.Prelude.{◌+◌}

pub overflow_mul-value : goal.overflow_mul-value
overflow_mul-value c =
    omega (arith, value_more c.args.word.now c.loop-byte.byte-index c.requires.digits c.loop-byte-test.true, value_fits c.args.word.now (c.loop-byte.byte-index + 1) c.requires.digits c.requires.short, c.loop-byte.invariant)

pub overflow_add-value : goal.overflow_add-value
overflow_add-value c =
    omega (arith, value_more c.args.word.now c.loop-byte.byte-index c.requires.digits c.loop-byte-test.true, value_fits c.args.word.now (c.loop-byte.byte-index + 1) c.requires.digits c.requires.short, c.loop-byte.invariant, c.from.ensures)

pub loop-byte-preserved : goal.loop-byte-preserved
loop-byte-preserved c = rw (c.from.ensures, c.loop-byte.invariant) (value_more c.args.word.now c.loop-byte.byte-index c.requires.digits c.loop-byte-test.true)
