use Rattle.lvm_volume.proofs.group.SegmentLemmas.{of_snapshot}
use Rattle.lvm_volume.proofs.fields.Steps.{at_last, exits, in_words, then_fails, then_goes}
use Rattle.lvm_volume.proofs.group.segment.snapshot.Goals as goal

pub returns-in_err-chunk_size-clause-step : goal.returns-in_err-chunk_size-clause-step
returns-in_err-chunk_size-clause-step c = exits c.from_residual.result c.from_residual.ensures.1 (in_words (λ check. of_snapshot c.args.segment.now check c.requires) (then_fails _ c.in_err-chunk_size.ensures.step))

pub returns-in_err-origin-clause-step : goal.returns-in_err-origin-clause-step
returns-in_err-origin-clause-step c = exits c.from_residual-in_err-origin.result c.from_residual-in_err-origin.ensures.1 (in_words (λ check. of_snapshot c.args.segment.now check c.requires) (then_goes c.in_ok-chunk_size.ensures.step (then_fails _ (c.in_err-origin.ensures.step c.number.new.self))))

pub returns-in_err-store-clause-step : goal.returns-in_err-store-clause-step
returns-in_err-store-clause-step c = exits c.from_residual-in_err-store.result c.from_residual-in_err-store.ensures.1 (in_words (λ check. of_snapshot c.args.segment.now check c.requires) (then_goes c.in_ok-chunk_size.ensures.step (then_goes (c.in_ok-origin.ensures.step c.number.new.self) (then_fails _ (c.in_err-store.ensures.step c.number.new.self)))))

pub returns-clause-step : goal.returns-clause-step
returns-clause-step c =
    let reader = c.number.new.self in
    in_words (λ check. of_snapshot c.args.segment.now check c.requires) (then_goes c.in_ok-chunk_size.ensures.step (then_goes (c.in_ok-origin.ensures.step reader) (at_last (c.in_ok-store.ensures.step reader))))
