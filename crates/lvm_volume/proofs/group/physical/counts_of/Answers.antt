use Rattle.lvm_volume.proofs.Prelude.{arith, text_counts}
use Rattle.lvm_volume.proofs.group.physical.counts_of.Goals as goal

pub overflow_add-counts : goal.overflow_add-counts
overflow_add-counts c = grind (arith, text_counts)

pub loop-fields-preserved : goal.loop-fields-preserved
loop-fields-preserved c = grind (arith, text_counts)
