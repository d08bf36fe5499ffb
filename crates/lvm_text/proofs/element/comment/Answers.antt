use Rattle.lvm_text.proofs.Prelude.{sym, ap, ◌∙◌, arith, nat_tests, newline_at}
use Rattle.lvm_text.proofs.Boundaries.{line_at}
use Rattle.lvm_text.proofs.element.comment.Goals as goal

pub around-requires-clause-within : goal.around-requires-clause-within
around-requires-clause-within c = (line_at c.args.rest.now c.in_ok-end.end (ap newline_at (sym c.as_bytes.ensures.value) ∙ sym c.in_ok-end.ensures)).within

pub around-requires-clause-ascii : goal.around-requires-clause-ascii
around-requires-clause-ascii c = grind (arith, nat_tests, (line_at c.args.rest.now c.in_ok-end.end (ap newline_at (sym c.as_bytes.ensures.value) ∙ sym c.in_ok-end.ensures)).is)
