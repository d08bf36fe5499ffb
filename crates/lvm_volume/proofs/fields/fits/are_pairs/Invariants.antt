use Rattle.lvm_volume.proofs.Prelude.{length, scalar_views, are_pairs}
use Rattle.lvm_volume.proofs.fields.fits.are_pairs.Given as goal
use Rattle.std.specs.Prelude.{◌≡◌}

abbrev pub invariant-loop-rest : goal.invariant-loop-rest
invariant-loop-rest l = are_pairs (scalar_views l.rest) ≡ are_pairs (scalar_views l.items)

abbrev pub decreases-loop-rest : goal.decreases-loop-rest
decreases-loop-rest l = length l.rest
