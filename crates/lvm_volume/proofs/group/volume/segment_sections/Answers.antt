use Rattle.lvm_volume.proofs.Prelude.{◌∙◌, List, ℕ, ap, arith, codes, decimal, map, sym, map_push, err_from_is_err_and, Tree, LoadFault, Check, field_faults, section_at, section_view, segment_field}
use Rattle.lvm_volume.proofs.fields.Faults.{made_more}
use Rattle.lvm_volume.proofs.fields.Steps.{in_words, no_number, number_fails, number_goes}
use Rattle.lvm_volume.proofs.group.volume.segment_sections.Goals as goal
use Rattle.std.specs.Prelude.{◌≡◌, ◌++◌, ◌-◌}

-- the faults that a check finds at the key of segment number i
abbrev at_number : Tree → Check → ℕ → List LoadFault
at_number volume check i = field_faults check volume (segment_field i)

-- the section of segment number i
abbrev section_of : Tree → ℕ → List Tree
section_of volume i = section_at (codes "segment" ++ decimal i) volume

pub loop-i-init : goal.loop-i-init
loop-i-init c =
    let volume = c.args.volume.now in
    let all : c.args.count - 0 ≡ c.args.count = omega arith in
    record {
      made = rw (c.new-sections.ensures.items, all);
      step = λ failed left reader. in_words (λ check. rw all) (left reader);
    }

pub returns-in_err-section-clause-step : goal.returns-in_err-section-clause-step
unfolding field_faults
returns-in_err-section-clause-step c =
    let volume = c.args.volume.now in
    let key = c.as_str.ensures.value ∙ c.in-Ok.ensures in
    let p = err_from_is_err_and c.from_residual.result c.from_residual.ensures.1 in
    rw (p.1, p.2)
    (c.loop-i.invariant.step _
    (λ reader. number_fails (at_number volume) c.loop-i.i c.args.count c.loop-i-test.true (in_words (λ check. rw key) (c.in_err-section.ensures.step reader))))

pub loop-i-preserved : goal.loop-i-preserved
unfolding field_faults
loop-i-preserved c =
    let volume = c.args.volume.now in
    let key = c.as_str.ensures.value ∙ c.in-Ok.ensures in
    let more = ap (map section_view) c.in-Ok-push.ensures.items ∙ map_push section_view c.loop-i.sections.items c.in_ok-section.section
    ∙ ap (λ (one : List Tree). map section_view c.loop-i.sections.items ++ one) (sym c.in_ok-section.ensures.one ∙ ap (λ (text : List ℕ). section_at text volume) key) in
    record {
      made = made_more (section_of volume) _ _ c.loop-i.i c.args.count c.loop-i-test.true more ∙ c.loop-i.invariant.made;
      step = λ failed left.
          c.loop-i.invariant.step failed (λ reader. number_goes (at_number volume) c.loop-i.i c.args.count c.loop-i-test.true (in_words (λ check. rw key) (c.in_ok-section.ensures.step reader)) (left reader));
    }

pub returns-clause-step : goal.returns-clause-step
returns-clause-step c = c.loop-i.invariant.step _ (λ reader. no_number (at_number c.args.volume.now) c.loop-i.i c.args.count reader c.loop-i-test.false)
