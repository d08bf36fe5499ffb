use Rattle.lvm_text.proofs.Prelude.{sym, ◌∙◌}
use Rattle.lvm_text.proofs.Elements.{element_white}
use Rattle.lvm_text.proofs.element.white_at.Goals as goal

pub returns : goal.returns
returns c =
    let item = rw c.as_bytes.ensures.value at c.in_ok-first.ensures.item in
    element_white c.args.text.now c.around.result.1.now c.in_ok-first.field-0.now item.3.0 (item.3.1 _) c.around.ensures.after (sym c.is_white.ensures ∙ c.if-not-is_white.false)
