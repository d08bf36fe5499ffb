use Rattle.lvm_volume.proofs.Prelude.{ap, sym, ◌∙◌, field_faults, type_text}
use Rattle.lvm_volume.proofs.fields.Steps.{exits, in_words, nothing_left, then_fails, then_goes}
use Rattle.lvm_volume.proofs.group.SegmentLemmas.{of_error, of_zero}
use Rattle.lvm_volume.proofs.group.segment.target_at.Goals as goal

pub returns-in_err-type_at-clause-step : goal.returns-in_err-type_at-clause-step
unfolding field_faults
returns-in_err-type_at-clause-step c = exits c.from_residual.result c.from_residual.ensures.1 (then_fails _ (c.in_err-type_at.ensures.step c.args.reader.now))

pub returns-in-Striped-clause-step : goal.returns-in-Striped-clause-step
unfolding field_faults
returns-in-Striped-clause-step c = then_goes (c.in_ok-type_at.ensures.step c.args.reader.now) c.striped.ensures.step

pub returns-in-Snapshot-clause-step : goal.returns-in-Snapshot-clause-step
unfolding field_faults
returns-in-Snapshot-clause-step c = then_goes (c.in_ok-type_at.ensures.step c.args.reader.now) c.snapshot.ensures.step

pub returns-in-Zero-clause-step : goal.returns-in-Zero-clause-step
unfolding field_faults
returns-in-Zero-clause-step c = then_goes (c.in_ok-type_at.ensures.step c.args.reader.now) (in_words (λ check. sym (of_zero c.args.segment.now check (c.in_ok-type_at.ensures.name ∙ ap type_text c.in-Zero.is))) (nothing_left c.args.reader.now))

pub returns-in-Error-clause-step : goal.returns-in-Error-clause-step
unfolding field_faults
returns-in-Error-clause-step c = then_goes (c.in_ok-type_at.ensures.step c.args.reader.now) (in_words (λ check. sym (of_error c.args.segment.now check (c.in_ok-type_at.ensures.name ∙ ap type_text c.in-Error.is))) (nothing_left c.args.reader.now))
