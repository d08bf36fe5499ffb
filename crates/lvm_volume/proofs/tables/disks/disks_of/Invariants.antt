use Rattle.lvm_volume.proofs.Prelude.{drop, map, physical_disk}
use Rattle.lvm_volume.proofs.tables.disks.disks_of.Given as goal
use Rattle.std.specs.Prelude.{◌≡◌, ◌++◌}

abbrev pub invariant-loop-physical : goal.invariant-loop-physical
invariant-loop-physical l = l.disks.items ++ map (physical_disk) (drop l.physical-index l.physicals) ≡ map (physical_disk) l.physicals
