use Rattle.lvm_head.proofs.SumLemmas.{sum_byte_by_table}
use Rattle.lvm_head.proofs.sums.sum_byte.Goals as goal

pub returns : goal.returns
returns c = rw c.from.ensures (sum_byte_by_table c.args.sum c.args.byte c.ranges.byte.fits)
