use Rattle.lvm_head.proofs.Prelude.{◌∙◌, ℕ, Ok, Err, sym, ap, refl, Label, Unread, label_in, or_no_label}
use Rattle.lvm_head.proofs.FoundLemmas.{found_at, found_none, none_more}
use Rattle.lvm_head.proofs.LabelLemmas.{label_found, label_none, label_unread, label_unsound}
use Rattle.lvm_head.proofs.label.Label.read.Goals as goal

pub loop-place-init : goal.loop-place-init
loop-place-init g c = record {
  listed = refl;
  still = λ held seen. seen;
  none = λ held seen. found_none (λ place. label_in place (held c.args.disk place));
}

pub returns-in-Err-clause-is : goal.returns-in-Err-clause-is
returns-in-Err-clause-is g c = λ held seen some.
    let n : ℕ = c.loop-place.place in
    ap or_no_label (found_at (λ place. label_in place (held c.args.disk place)) n 4 (Err Unread) (c.loop-place.invariant.none held (c.read_sector.ensures.still held seen))
    (label_unread n (held c.args.disk n) c.in-Err.field-0 (c.in-Err.ensures.is held seen)) c.loop-place-test.true)

pub returns-then-is_sound-clause-is : goal.returns-then-is_sound-clause-is
returns-then-is_sound-clause-is g c = λ held seen.
    let n : ℕ = c.loop-place.place in
    ap or_no_label (found_at (λ place. label_in place (held c.args.disk place)) n 4 (Ok c.read_sector.new.into) (c.loop-place.invariant.none held (c.read_sector.ensures.still held seen))
    (label_found n (held c.args.disk n) c.read_sector.new.into (c.in-Ok.ensures.is held seen) (sym c.is_taken.ensures ∙ c.if-is_taken.true) (sym c.is_sound.ensures.is ∙ c.if-is_sound.true)) c.loop-place-test.true)

pub returns-then-is_taken-clause-is : goal.returns-then-is_taken-clause-is
returns-then-is_taken-clause-is g c = λ held seen some.
    let n : ℕ = c.loop-place.place in
    ap or_no_label (found_at (λ place. label_in place (held c.args.disk place)) n 4 (Err Label) (c.loop-place.invariant.none held (c.read_sector.ensures.still held seen))
    (label_unsound n (held c.args.disk n) c.read_sector.new.into (c.in-Ok.ensures.is held seen) (sym c.is_taken.ensures ∙ c.if-is_taken.true) (sym c.is_sound.ensures.is ∙ c.if-is_sound.false)) c.loop-place-test.true)

pub loop-place-preserved : goal.loop-place-preserved
loop-place-preserved g c =
    let n : ℕ = c.loop-place.place in
    record {
      listed = c.read_sector.ensures.listed ∙ c.loop-place.invariant.listed;
      still = λ held seen. c.loop-place.invariant.still held (c.read_sector.ensures.still held seen);
      none = λ held seen.
          none_more (λ place. label_in place (held c.args.disk place)) n (c.loop-place.invariant.none held (c.read_sector.ensures.still held seen))
          (label_none n (held c.args.disk n) c.read_sector.new.into (c.in-Ok.ensures.is held seen) (sym c.is_taken.ensures ∙ c.if-is_taken.false));
    }
