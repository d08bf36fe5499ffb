use Rattle.lvm_volume.proofs.Prelude.{err_from_is_err_and, field_faults}
use Rattle.lvm_volume.proofs.fields.Steps.{any_new, at_last, then_fails, then_goes}
use Rattle.lvm_volume.proofs.group.group_fields.head_of.Goals as goal

pub returns-in_err-reader-clause-step : goal.returns-in_err-reader-clause-step
unfolding field_faults
returns-in_err-reader-clause-step c = λ old new.
    let p = err_from_is_err_and c.from_residual.result c.from_residual.ensures.1 in
    rw (p.1, p.2) (then_fails _ (c.in_err-reader.ensures.failed old new))

pub returns-in_err-physicals-clause-step : goal.returns-in_err-physicals-clause-step
unfolding field_faults
returns-in_err-physicals-clause-step c = λ old new.
    let reader = c.in_ok-reader.reader in
    let p = err_from_is_err_and c.from_residual-in_err-physicals.result c.from_residual-in_err-physicals.ensures.1 in
    rw (p.1, p.2) (any_new (then_goes c.in_ok-reader.ensures.passed.1 (then_fails _ {other = reader} (c.in_err-physicals.ensures.step reader))))

pub returns-in_err-volumes-clause-step : goal.returns-in_err-volumes-clause-step
unfolding field_faults
returns-in_err-volumes-clause-step c = λ old new.
    let reader = c.in_ok-reader.reader in
    let p = err_from_is_err_and c.from_residual-in_err-volumes.result c.from_residual-in_err-volumes.ensures.1 in
    rw (p.1, p.2) (any_new (then_goes c.in_ok-reader.ensures.passed.1 (then_goes (c.in_ok-physicals.ensures.step reader) (then_fails _ {other = reader} (c.in_err-volumes.ensures.step reader)))))

pub returns-clause-step : goal.returns-clause-step
unfolding field_faults
returns-clause-step c = λ old new.
    let reader = c.in_ok-reader.reader in
    then_goes c.in_ok-reader.ensures.passed.1 (then_goes (c.in_ok-physicals.ensures.step reader) (at_last (c.in_ok-volumes.ensures.step reader)))
