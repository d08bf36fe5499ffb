use Rattle.lvm_volume.proofs.Prelude.{length, scalar_views, stripes_in}
use Rattle.lvm_volume.proofs.group.segment.stripes_of.Given as goal
use Rattle.std.specs.Prelude.{◌≡◌, ◌++◌}

abbrev pub invariant-loop-rest : goal.invariant-loop-rest
invariant-loop-rest l = l.stripes.items ++ stripes_in l.positions (scalar_views l.rest) ≡ stripes_in l.positions (scalar_views l.items)

abbrev pub decreases-loop-rest : goal.decreases-loop-rest
decreases-loop-rest l = length l.rest
