use Rattle.lvm_volume.proofs.Prelude.{drop, length, least_line, test_of}
use Rattle.lvm_volume.proofs.checks.segment_check.least_line.Given as goal
use Rattle.std.specs.Prelude.{◌≡◌, ◌≤◌, ◌==◌}

abbrev pub invariant-loop-at : goal.invariant-loop-at
invariant-loop-at l = record {
  least : l.least ≡ least_line (test_of l.check (length l.segments == 1)) (drop l.at l.segments) l.fn.others;
  within : l.at ≤ length l.segments;
}

abbrev pub decreases-loop-at : goal.decreases-loop-at
decreases-loop-at l = l.at
