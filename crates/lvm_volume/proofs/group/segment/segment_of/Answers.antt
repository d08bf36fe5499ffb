use Rattle.lvm_volume.proofs.Prelude.{field_faults, segment_of}
use Rattle.lvm_volume.proofs.fields.Steps.{exits, then_fails, then_goes}
use Rattle.lvm_volume.proofs.group.segment.segment_of.Goals as goal

pub returns-in_err-start-clause-step : goal.returns-in_err-start-clause-step
unfolding field_faults
returns-in_err-start-clause-step c = exits c.from_residual.result c.from_residual.ensures.1 (then_fails _ c.in_err-start.ensures.step)

pub returns-in_err-count-clause-step : goal.returns-in_err-count-clause-step
unfolding field_faults
returns-in_err-count-clause-step c = exits c.from_residual-in_err-count.result c.from_residual-in_err-count.ensures.1 (then_goes c.in_ok-start.ensures.step (then_fails _ c.in_err-count.ensures.step))

pub returns-in_err-target-clause-step : goal.returns-in_err-target-clause-step
unfolding field_faults
returns-in_err-target-clause-step c = exits c.from_residual-in_err-target.result c.from_residual-in_err-target.ensures.1 (then_goes c.in_ok-start.ensures.step (then_goes c.in_ok-count.ensures.step c.in_err-target.ensures.step))

pub returns-clause-step : goal.returns-clause-step
unfolding field_faults
returns-clause-step c = then_goes c.in_ok-start.ensures.step (then_goes c.in_ok-count.ensures.step c.in_ok-target.ensures.step)

pub returns-clause-value : goal.returns-clause-value
unfolding segment_of
returns-clause-value c = rw (c.in_ok-start.ensures.value, c.in_ok-count.ensures.value, c.in_ok-target.ensures.value, c.line.ensures)
