-- the maps contain the ranges of the segments so far, and the first fault among the segments left is that among all segments
use Rattle.lvm_volume.proofs.Prelude.{List, None, drop, length, first_or, Claim, segment_faults, used_after, Holds}
use Rattle.lvm_volume.proofs.checks.extents.check_segments.Given as goal
use Rattle.std.specs.Prelude.{◌≡◌}

abbrev pub invariant-loop-segment : goal.invariant-loop-segment
invariant-loop-segment l = record {
  now : (used : List Claim) → Holds l.fn.maps used → (now : List Claim) × Holds l.maps now
      × (first_or (segment_faults l.physicals now l.end (drop l.segment-index l.segments)) None ≡ first_or (segment_faults l.physicals used 0 l.segments) None)
      × (used_after now (drop l.segment-index l.segments) ≡ used_after used l.segments);
  len : length l.maps ≡ length l.fn.maps;
}
