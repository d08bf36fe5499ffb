use Rattle.lvm_volume.proofs.Prelude.{◌∙◌, ℕ, ap, map, section_view, segments_of, volume_faults, numbers_faults, segment_of, volume_of}
use Rattle.lvm_volume.proofs.fields.Steps.{exits, in_words, then_fails, then_goes}
use Rattle.lvm_volume.proofs.group.volume.volume_of.Goals as goal
use Rattle.std.specs.Prelude.{◌≡◌}

pub returns-in_err-head-clause-step : goal.returns-in_err-head-clause-step
unfolding volume_faults
returns-in_err-head-clause-step c = exits c.from_residual.result c.from_residual.ensures.1 (then_fails _ c.in_err-head.ensures.step)

pub returns-in_err-sections-clause-step : goal.returns-in_err-sections-clause-step
unfolding volume_faults
returns-in_err-sections-clause-step c =
    let volume = c.args.section.1.now in
    let reader = c.head_of.new.reader in
    let count = c.in_ok-head.ensures.count in
    exits c.from_residual-in_err-sections.result c.from_residual-in_err-sections.ensures.1 (then_goes c.in_ok-head.ensures.step (then_fails _ (in_words (λ check. ap (λ (n : ℕ). numbers_faults volume n check) count) (c.in_err-sections.ensures.step reader))))

pub returns-in_err-segments-clause-step : goal.returns-in_err-segments-clause-step
unfolding volume_faults
returns-in_err-segments-clause-step c =
    let volume = c.args.section.1.now in
    let reader = c.head_of.new.reader in
    let count = c.in_ok-head.ensures.count in
    let all : map section_view c.deref.result.now ≡ segments_of volume = rw (← count) (ap (map section_view) c.deref.ensures.value ∙ c.in_ok-sections.ensures.value) in
    exits c.from_residual-in_err-segments.result c.from_residual-in_err-segments.ensures.1 (then_goes c.in_ok-head.ensures.step (then_goes (in_words (λ check. ap (λ (n : ℕ). numbers_faults volume n check) count) (c.in_ok-sections.ensures.step reader)) (in_words (λ check. rw all) c.in_err-segments.ensures.step)))

pub returns-clause-step : goal.returns-clause-step
unfolding volume_faults
returns-clause-step c =
    let volume = c.args.section.1.now in
    let reader = c.head_of.new.reader in
    let count = c.in_ok-head.ensures.count in
    let all : map section_view c.deref.result.now ≡ segments_of volume = rw (← count) (ap (map section_view) c.deref.ensures.value ∙ c.in_ok-sections.ensures.value) in
    then_goes c.in_ok-head.ensures.step (then_goes (in_words (λ check. ap (λ (n : ℕ). numbers_faults volume n check) count) (c.in_ok-sections.ensures.step reader)) (in_words (λ check. rw all) c.in_ok-segments.ensures.step))

pub returns-clause-value : goal.returns-clause-value
unfolding volume_of
returns-clause-value c =
    let volume = c.args.section.1.now in
    let reader = c.head_of.new.reader in
    let count = c.in_ok-head.ensures.count in
    let all : map section_view c.deref.result.now ≡ segments_of volume = rw (← count) (ap (map section_view) c.deref.ensures.value ∙ c.in_ok-sections.ensures.value) in
    let made = c.in_ok-segments.ensures.value ∙ ap (map (segment_of c.args.positions.now)) all in
    rw (c.in-Ok.ensures, c.in_ok-head.ensures.ro, made, c.line.ensures)
