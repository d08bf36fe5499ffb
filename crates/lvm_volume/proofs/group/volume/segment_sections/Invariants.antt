-- the sections so far, with those of the numbers left, are all sections, and the faults at the numbers left are the faults at all numbers
use Rattle.lvm_volume.proofs.Prelude.{Option, codes, decimal, map, flat_map, range_with_len, LoadFault, field_faults, section_at, section_view, segment_field, IsPlainStep, numbers_faults}
use Rattle.lvm_volume.proofs.group.volume.segment_sections.Given as goal
use Rattle.std.specs.Prelude.{◌≡◌, ◌+◌, ◌-◌, ◌++◌}

abbrev pub invariant-loop-i : goal.invariant-loop-i
invariant-loop-i l = record {
  made : map section_view l.sections.items ++ flat_map (λ i. section_at (codes "segment" ++ decimal i) l.volume) (range_with_len (l.i + 1) (l.count - l.i))
      ≡ flat_map (λ i. section_at (codes "segment" ++ decimal i) l.volume) (range_with_len 1 l.count);
  step : (failed : Option LoadFault) → IsPlainStep (λ check. flat_map (λ i. field_faults check l.volume (segment_field i)) (range_with_len (l.i + 1) (l.count - l.i))) failed → IsPlainStep (numbers_faults l.volume l.count) failed;
}
