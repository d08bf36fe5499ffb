-- the segments so far, with those of the sections left, are all segments, and the faults in the sections left are the faults in all sections
use Rattle.lvm_volume.proofs.Prelude.{Option, drop, map, LoadFault, FieldReader, section_view, IsStep, segments_faults, segment_of}
use Rattle.lvm_volume.proofs.group.segment.segments_in.Given as goal
use Rattle.std.specs.Prelude.{◌≡◌, ◌++◌}

abbrev pub invariant-loop-section : goal.invariant-loop-section
invariant-loop-section l = record {
  made : l.segments.items ++ map (segment_of l.positions) (map section_view (drop l.section-index l.sections)) ≡ map (segment_of l.positions) (map section_view l.sections);
  step : (new : FieldReader) (failed : Option LoadFault) → IsStep (segments_faults (map section_view (drop l.section-index l.sections))) l.reader new failed → IsStep (segments_faults (map section_view l.sections)) l.fn.reader new failed;
}
