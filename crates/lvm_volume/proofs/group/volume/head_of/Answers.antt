use Rattle.lvm_volume.proofs.Prelude.{field_faults}
use Rattle.lvm_volume.proofs.fields.Steps.{at_last, exits, then_fails, then_goes}
use Rattle.lvm_volume.proofs.group.volume.head_of.Goals as goal

pub returns-in_err-status-clause-step : goal.returns-in_err-status-clause-step
unfolding field_faults
returns-in_err-status-clause-step c = exits c.from_residual.result c.from_residual.ensures.1 (then_fails _ (c.in_err-status.ensures.step c.args.reader.now))

pub returns-in_err-segment_count-clause-step : goal.returns-in_err-segment_count-clause-step
unfolding field_faults
returns-in_err-segment_count-clause-step c = exits c.from_residual-in_err-segment_count.result c.from_residual-in_err-segment_count.ensures.1 (then_goes (c.in_ok-status.ensures.step c.args.reader.now) (then_fails _ c.in_err-segment_count.ensures.step))

pub returns-clause-step : goal.returns-clause-step
unfolding field_faults
returns-clause-step c = then_goes (c.in_ok-status.ensures.step c.args.reader.now) (at_last c.in_ok-segment_count.ensures.step)
