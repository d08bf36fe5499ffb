use Rattle.lvm_text.proofs.Elements.{element_nil, element_beyond, element_cons, some_bytes}
use Rattle.lvm_text.proofs.element.element_at.Goals as goal

pub returns-then-is_empty : goal.returns-then-is_empty
returns-then-is_empty c = element_nil c.args.text.now (rw (← c.as_bytes-bytes.ensures.value) c.if-is_empty.ensures)

pub returns-then-first-ge128 : goal.returns-then-first-ge128
returns-then-first-ge128 c = element_beyond c.args.text.now (rw (← c.as_bytes-bytes.ensures.value) c.if-first-ge128.true)

pub returns : goal.returns
returns c =
    cc (element_cons c.args.text.now c.around.result.1.now (some_bytes c.args.text.now (rw (← c.as_bytes-bytes.ensures.value) c.if-is_empty.ensures)) c.around.ensures.after)
