use Rattle.lvm_volume.proofs.Prelude.{field_faults}
use Rattle.lvm_volume.proofs.fields.Steps.{at_last, exits, then_fails, then_goes}
use Rattle.lvm_volume.proofs.group.physical.fields_of.Goals as goal

pub returns-in_err-device-clause-step : goal.returns-in_err-device-clause-step
unfolding field_faults
returns-in_err-device-clause-step c = exits c.from_residual.result c.from_residual.ensures.1 (then_fails _ (c.in_err-device.ensures.step c.args.reader.now))

pub returns-in_err-size-clause-step : goal.returns-in_err-size-clause-step
unfolding field_faults
returns-in_err-size-clause-step c = exits c.from_residual-in_err-size.result c.from_residual-in_err-size.ensures.1 (then_goes (c.in_ok-device.ensures.step c.args.reader.now) (then_fails _ c.in_err-size.ensures.step))

pub returns-in_err-start-clause-step : goal.returns-in_err-start-clause-step
unfolding field_faults
returns-in_err-start-clause-step c = exits c.from_residual-in_err-start.result c.from_residual-in_err-start.ensures.1 (then_goes (c.in_ok-device.ensures.step c.args.reader.now) (then_goes c.in_ok-size.ensures.step (then_fails _ c.in_err-start.ensures.step)))

pub returns-in_err-count-clause-step : goal.returns-in_err-count-clause-step
unfolding field_faults
returns-in_err-count-clause-step c = exits c.from_residual-in_err-count.result c.from_residual-in_err-count.ensures.1 (then_goes (c.in_ok-device.ensures.step c.args.reader.now) (then_goes c.in_ok-size.ensures.step (then_goes c.in_ok-start.ensures.step (then_fails _ c.in_err-count.ensures.step))))

pub returns-clause-step : goal.returns-clause-step
unfolding field_faults
returns-clause-step c = then_goes (c.in_ok-device.ensures.step c.args.reader.now) (then_goes c.in_ok-size.ensures.step (then_goes c.in_ok-start.ensures.step (at_last c.in_ok-count.ensures.step)))
