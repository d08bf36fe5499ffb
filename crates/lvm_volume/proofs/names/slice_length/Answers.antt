use Rattle.lvm_volume.proofs.Prelude.{arith}
use Rattle.lvm_volume.proofs.Splits.{length_plain}
use Rattle.lvm_volume.proofs.names.slice_length.Goals as goal

pub loop-at-preserved-then-bytes-at-ne45 : goal.loop-at-preserved-then-bytes-at-ne45
loop-at-preserved-then-bytes-at-ne45 c = record {
  same = length_plain c.args.bytes.now c.loop-at.at c.loop-at-test.true c.if-bytes-at-ne45.true c.loop-at.invariant.same;
  within = omega (arith, c.loop-at-test.true);
}
