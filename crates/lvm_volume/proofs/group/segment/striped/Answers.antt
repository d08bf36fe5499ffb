use Rattle.lvm_volume.proofs.group.SegmentLemmas.{of_striped}
use Rattle.lvm_volume.proofs.fields.Steps.{at_last, exits, in_words, then_fails, then_goes}
use Rattle.lvm_volume.proofs.group.segment.striped.Goals as goal

pub returns-in_err-parts-clause-step : goal.returns-in_err-parts-clause-step
returns-in_err-parts-clause-step c = exits c.from_residual.result c.from_residual.ensures.1 (in_words (λ check. of_striped c.args.segment.now check c.requires) (then_fails _ c.in_err-parts.ensures.step))

pub returns-in_err-stripes-clause-step : goal.returns-in_err-stripes-clause-step
returns-in_err-stripes-clause-step c = exits c.from_residual-in_err-stripes.result c.from_residual-in_err-stripes.ensures.1 (in_words (λ check. of_striped c.args.segment.now check c.requires) (then_goes c.in_ok-parts.ensures.step (then_fails _ c.in_err-stripes.ensures.step)))

pub returns-in_err-stripe_size-clause-step : goal.returns-in_err-stripe_size-clause-step
returns-in_err-stripe_size-clause-step c = exits c.from_residual-in_err-stripe_size.result c.from_residual-in_err-stripe_size.ensures.1 (in_words (λ check. of_striped c.args.segment.now check c.requires) (then_goes c.in_ok-parts.ensures.step (then_goes c.in_ok-stripes.ensures.step (then_fails _ c.in_err-stripe_size.ensures.step))))

pub returns-clause-step : goal.returns-clause-step
returns-clause-step c = in_words (λ check. of_striped c.args.segment.now check c.requires) (then_goes c.in_ok-parts.ensures.step (then_goes c.in_ok-stripes.ensures.step (at_last c.in_ok-stripe_size.ensures.step)))
