use Rattle.lvm_volume.proofs.Prelude.{◌∙◌, List, item_view, LoadFault, Check, volume_faults, Keyed, volume_of}
use Rattle.lvm_volume.proofs.fields.Steps.{exits, goes_on, made_next, none_left, stops_here}
use Rattle.lvm_volume.proofs.group.volume.volumes_in.Goals as goal

abbrev of_volume : Check → Keyed → List LoadFault
of_volume check volume = volume_faults check volume.1

pub returns-in_err-volume-clause-step : goal.returns-in_err-volume-clause-step
returns-in_err-volume-clause-step c = exits c.from_residual.result c.from_residual.ensures.1 (c.loop-section.invariant.step _ _ (stops_here of_volume item_view c.args.sections.now c.loop-section.section-index c.section-item.result c.loop-section-test.true c.section-item.is c.in_err-volume.ensures.step))

pub loop-section-preserved : goal.loop-section-preserved
loop-section-preserved c =
    let sections = c.args.sections.now in
    let item = c.section-item.result in
    record {
      made = made_next (volume_of c.args.positions.now) item_view sections c.loop-section.section-index item c.in_ok-volume.volume c.loop-section.volumes.items _ c.loop-section-test.true c.section-item.is c.in_ok-volume.ensures.value c.in-Ok-push.ensures.items ∙ c.loop-section.invariant.made;
      step = λ new failed left. c.loop-section.invariant.step new failed (goes_on of_volume item_view sections c.loop-section.section-index item c.loop-section-test.true c.section-item.is c.in_ok-volume.ensures.step left);
    }

pub returns-clause-step : goal.returns-clause-step
returns-clause-step c = c.loop-section.invariant.step _ _ (none_left of_volume item_view c.args.sections.now c.loop-section.section-index c.loop-section.reader c.loop-section-test.false)
