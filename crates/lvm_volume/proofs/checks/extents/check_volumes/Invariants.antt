-- the maps contain the ranges in use, and the first fault among the volumes left is that among all volumes
use Rattle.lvm_volume.proofs.Prelude.{List, [], None, drop, length, first_or, Claim, Holds}
use Rattle.lvm_volume.specs.checks.Extents.{volume_faults}
use Rattle.lvm_volume.proofs.checks.extents.check_volumes.Given as goal
use Rattle.std.specs.Prelude.{◌≡◌}

abbrev pub invariant-loop-volume : goal.invariant-loop-volume
invariant-loop-volume l = record {
  now : (used : List Claim) × Holds l.maps used
      × (first_or (volume_faults l.physicals used (drop l.volume-index l.volumes)) None ≡ first_or (volume_faults l.physicals [] l.volumes) None);
  len : length l.maps ≡ length l.physicals;
}
