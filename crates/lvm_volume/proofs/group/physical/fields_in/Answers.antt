use Rattle.lvm_volume.proofs.Prelude.{◌∙◌, List, map, map_push, item_view, LoadFault, Check, fields_faults, physical_fields, Keyed, fields_of, fields_view}
use Rattle.lvm_volume.proofs.fields.Steps.{exits, goes_on, made_next, none_left, stops_here}
use Rattle.lvm_volume.proofs.group.physical.fields_in.Goals as goal

abbrev of_physical : Check → Keyed → List LoadFault
of_physical check physical = fields_faults check physical.1 physical_fields

pub returns-in_err-fields-clause-step : goal.returns-in_err-fields-clause-step
returns-in_err-fields-clause-step c = exits c.from_residual.result c.from_residual.ensures.1 (c.loop-section.invariant.step _ _ (stops_here of_physical item_view c.args.sections.now c.loop-section.section-index c.section-item.result c.loop-section-test.true c.section-item.is c.in_err-fields.ensures.step))

pub loop-section-preserved : goal.loop-section-preserved
loop-section-preserved c =
    let sections = c.args.sections.now in
    let item = c.section-item.result in
    record {
      made = made_next fields_of item_view sections c.loop-section.section-index item (fields_view c.in_ok-fields.fields) (map fields_view c.loop-section.all.items) _ c.loop-section-test.true c.section-item.is c.in_ok-fields.ensures.value (rw c.in-Ok-push.ensures.items (map_push fields_view c.loop-section.all.items c.in_ok-fields.fields)) ∙ c.loop-section.invariant.made;
      step = λ new failed left. c.loop-section.invariant.step new failed (goes_on of_physical item_view sections c.loop-section.section-index item c.loop-section-test.true c.section-item.is c.in_ok-fields.ensures.step left);
    }

pub returns-clause-step : goal.returns-clause-step
returns-clause-step c = c.loop-section.invariant.step _ _ (none_left of_physical item_view c.args.sections.now c.loop-section.section-index c.loop-section.reader c.loop-section-test.false)
