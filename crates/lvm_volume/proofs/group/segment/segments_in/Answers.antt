use Rattle.lvm_volume.proofs.Prelude.{◌∙◌, List, Tree, LoadFault, Check, fields_faults, section_view, segment_fields, segment_of}
use Rattle.lvm_volume.proofs.fields.Steps.{exits, goes_on, made_next, stops_here}
use Rattle.lvm_volume.proofs.group.segment.segments_in.Goals as goal

abbrev of_segment : Check → Tree → List LoadFault
of_segment check segment = fields_faults check segment segment_fields

pub returns-in_err-segment-clause-step : goal.returns-in_err-segment-clause-step
returns-in_err-segment-clause-step c = exits c.from_residual.result c.from_residual.ensures.1 (c.loop-section.invariant.step _ _ (stops_here of_segment section_view c.args.sections.now c.loop-section.section-index c.section-item.result c.loop-section-test.true c.section-item.is c.in_err-segment.ensures.step))

pub loop-section-preserved : goal.loop-section-preserved
loop-section-preserved c =
    let sections = c.args.sections.now in
    let item = c.section-item.result in
    record {
      made = made_next (segment_of c.args.positions.now) section_view sections c.loop-section.section-index item c.in_ok-segment.segment c.loop-section.segments.items _ c.loop-section-test.true c.section-item.is c.in_ok-segment.ensures.value c.in-Ok-push.ensures.items ∙ c.loop-section.invariant.made;
      step = λ new failed left. c.loop-section.invariant.step new failed (goes_on of_segment section_view sections c.loop-section.section-index item c.loop-section-test.true c.section-item.is c.in_ok-segment.ensures.step left);
    }
