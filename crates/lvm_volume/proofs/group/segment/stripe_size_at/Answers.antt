use Rattle.lvm_volume.proofs.group.SegmentLemmas.{of_one, of_several}
use Rattle.lvm_volume.proofs.fields.Steps.{in_words, nothing_left}
use Rattle.lvm_volume.proofs.group.segment.stripe_size_at.Goals as goal

pub returns-then-parts-gt1-clause-step : goal.returns-then-parts-gt1-clause-step
returns-then-parts-gt1-clause-step c = in_words (λ check. of_several c.args.segment.now check c.args.parts c.requires.striped c.requires.parts c.if-parts-gt1.true) c.number.ensures.step

pub returns-else-parts-gt1-clause-step : goal.returns-else-parts-gt1-clause-step
returns-else-parts-gt1-clause-step c = in_words (λ check. of_one c.args.segment.now check c.args.parts c.requires.striped c.requires.parts c.if-parts-gt1.false) (nothing_left c.args.reader.now)
