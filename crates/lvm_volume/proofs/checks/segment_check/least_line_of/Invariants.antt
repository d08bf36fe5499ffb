use Rattle.lvm_volume.proofs.Prelude.{drop, length, least_line_of, test_of}
use Rattle.lvm_volume.proofs.checks.segment_check.least_line_of.Given as goal
use Rattle.std.specs.Prelude.{◌≡◌, ◌≤◌}

abbrev pub invariant-loop-at : goal.invariant-loop-at
invariant-loop-at l = record {
  least : l.least ≡ least_line_of (test_of l.check) (drop l.at l.volumes);
  within : l.at ≤ length l.volumes;
}

abbrev pub decreases-loop-at : goal.decreases-loop-at
decreases-loop-at l = l.at
