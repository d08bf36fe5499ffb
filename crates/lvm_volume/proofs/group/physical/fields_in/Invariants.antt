-- the fields so far, with those of the sections left, are all fields, and the faults in the sections left are the faults in all sections
use Rattle.lvm_volume.proofs.Prelude.{Option, drop, map, item_view, LoadFault, FieldReader, physicals_faults, IsStep, fields_of, fields_view}
use Rattle.lvm_volume.proofs.group.physical.fields_in.Given as goal
use Rattle.std.specs.Prelude.{◌≡◌, ◌++◌}

abbrev pub invariant-loop-section : goal.invariant-loop-section
invariant-loop-section l = record {
  made : map fields_view l.all.items ++ map fields_of (map item_view (drop l.section-index l.sections)) ≡ map fields_of (map item_view l.sections);
  step : (new : FieldReader) (failed : Option LoadFault) → IsStep (λ check. physicals_faults check (map item_view (drop l.section-index l.sections))) l.reader new failed → IsStep (λ check. physicals_faults check (map item_view l.sections)) l.fn.reader new failed;
}
