use Rattle.lvm_volume.proofs.Prelude.{field_faults}
use Rattle.lvm_volume.proofs.fields.Steps.{at_last, exits, then_fails, then_goes}
use Rattle.lvm_volume.proofs.group.group_fields.check_head.Goals as goal

pub returns-in_err-check_title_field : goal.returns-in_err-check_title_field
unfolding field_faults
returns-in_err-check_title_field c = λ reader. exits c.from_residual.result c.from_residual.ensures.1 (then_fails _ (c.in_err-check_title_field.ensures reader))

pub returns : goal.returns
unfolding field_faults
returns c = λ reader. then_goes (c.in_ok-check_title_field.ensures reader) (at_last (c.check_version.ensures reader))
