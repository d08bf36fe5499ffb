use Rattle.lvm_volume.proofs.Prelude.{length, drop, slice_length}
use Rattle.lvm_volume.proofs.names.slice_length.Given as goal
use Rattle.std.specs.Prelude.{◌≡◌, ◌+◌, ◌-◌, ◌≤◌}

abbrev pub invariant-loop-at : goal.invariant-loop-at
invariant-loop-at l = record {
  same : slice_length l.bytes ≡ l.at + slice_length (drop l.at l.bytes);
  within : l.at ≤ length l.bytes;
}

abbrev pub decreases-loop-at : goal.decreases-loop-at
decreases-loop-at l = length l.bytes - l.at
