-- the roles so far are those by the snapshots from volume `at` on, since the loop goes from last to first
use Rattle.lvm_volume.proofs.Prelude.{drop, length, records_of, roles_among}
use Rattle.lvm_volume.proofs.group.roles.roles_of.Given as goal
use Rattle.std.specs.Prelude.{◌≡◌, ◌≤◌}

abbrev pub invariant-loop-at : goal.invariant-loop-at
invariant-loop-at l = record {
  made : l.roles.items ≡ roles_among (records_of (drop l.at l.volumes)) l.volumes;
  within : l.at ≤ length l.volumes;
}

abbrev pub decreases-loop-at : goal.decreases-loop-at
decreases-loop-at l = l.at
