use Rattle.dm_stack.proofs.Prelude.{ap, arith, refl, sym, ◌∙◌, list_any, eqb-true, nil_from_length, has_crowd}
use Rattle.dm_stack.proofs.lines.OverLemmas.{copied_is, none_copied}
use Rattle.dm_stack.proofs.lines.over.copied.Goals as goal
use Rattle.dm_stack.proofs.lines.over.copied.Goals.{else-not-is_empty-via-then-not-is_empty+else-has_crowds, else-not-is_empty-via-else-not-is_empty}

pub returns-then-has_crowds : goal.returns-then-has_crowds
returns-then-has_crowds c =
    let some = c.has_crowds.ensures ∙ ap (list_any has_crowd) c.devices.ensures.devices in
    c.new.ensures.items ∙ rw c.if-has_crowds.true at (copied_is c.args.stack.now c.has_crowds.result some)

pub returns : goal.returns
returns c = elim c.else-not-is_empty.branch [
  | else-not-is_empty-via-then-not-is_empty+else-has_crowds w ↦
      let some = w.has_crowds.ensures ∙ ap (list_any has_crowd) w.devices.ensures.devices in
      c.in_ok-over.ensures ∙ rw w.if-has_crowds.false at (copied_is c.args.stack.now w.has_crowds.result some)
  | else-not-is_empty-via-else-not-is_empty w ↦
      let zero = eqb-true _ _ (sym c.is_empty.ensures ∙ w.if-not-is_empty.false) in
      let none = nil_from_length c.in_ok-over.over.items (omega (arith, zero, c.in_ok-over.over.ok)) in
      none ∙ none_copied c.args.stack.now _ (sym c.in_ok-over.ensures ∙ none) refl
]
