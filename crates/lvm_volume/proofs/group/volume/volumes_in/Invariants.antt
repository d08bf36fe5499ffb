-- the volumes so far, with those of the sections left, are all volumes, and the faults in the sections left are the faults in all sections
use Rattle.lvm_volume.proofs.Prelude.{Option, drop, map, item_view, LoadFault, FieldReader, volumes_faults, IsStep, volume_of}
use Rattle.lvm_volume.proofs.group.volume.volumes_in.Given as goal
use Rattle.std.specs.Prelude.{◌≡◌, ◌++◌}

abbrev pub invariant-loop-section : goal.invariant-loop-section
invariant-loop-section l = record {
  made : l.volumes.items ++ map (volume_of l.positions) (map item_view (drop l.section-index l.sections)) ≡ map (volume_of l.positions) (map item_view l.sections);
  step : (new : FieldReader) (failed : Option LoadFault) → IsStep (λ check. volumes_faults check (map item_view (drop l.section-index l.sections))) l.reader new failed → IsStep (λ check. volumes_faults check (map item_view l.sections)) l.fn.reader new failed;
}
