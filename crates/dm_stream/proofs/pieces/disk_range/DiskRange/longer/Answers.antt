use Rattle.dm_stream.proofs.Prelude.{arith}
use Rattle.dm_stream.proofs.pieces.FitsLemmas.{fits_few}
use Rattle.dm_stream.proofs.pieces.disk_range.DiskRange.longer.Goals as goal

pub overflow_add-result : goal.overflow_add-result
overflow_add-result c = omega (arith, fits_few c.args.disks.now _ _ c.recall_soundness.ensures c.requires)
