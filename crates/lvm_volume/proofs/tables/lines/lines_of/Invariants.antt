use Rattle.lvm_volume.proofs.Prelude.{drop, map, AllByRecursion, IsSegmentIn, line_of}
use Rattle.lvm_volume.proofs.tables.lines.lines_of.Given as goal
use Rattle.std.specs.Prelude.{◌≡◌, ◌++◌}

abbrev pub invariant-loop-segment : goal.invariant-loop-segment
invariant-loop-segment l = record {
  made : l.lines.items ++ map (line_of l.extent_size l.physicals) (drop l.segment-index l.segments) ≡ map (line_of l.extent_size l.physicals) l.segments;
  left : AllByRecursion (IsSegmentIn l.extent_size l.physicals) (drop l.segment-index l.segments);
}
