use Rattle.lvm_volume.proofs.Prelude.{None, drop, first_or, size_faults}
use Rattle.lvm_volume.proofs.checks.extents.check_sizes.Given as goal
use Rattle.std.specs.Prelude.{◌≡◌}

abbrev pub invariant-loop-physical : goal.invariant-loop-physical
invariant-loop-physical l = first_or (size_faults l.extent_size (drop l.physical-index l.physicals)) None ≡ first_or (size_faults l.extent_size l.physicals) None
