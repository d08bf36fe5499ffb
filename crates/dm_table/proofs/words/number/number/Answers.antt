-- A text is a number if the number at its front is all of it.
use Rattle.dm_table.proofs.Prelude.{sym, ◌∙◌}
use Rattle.dm_table.proofs.words.NumberLemmas.{number_of-cut, number_of-first}
use Rattle.dm_table.proofs.words.number.number.Goals as goal

pub returns-in_err-number : goal.returns-in_err-number
returns-in_err-number c = c.from_residual.ensures ∙ sym (number_of-first c.args.text.now c.in_err-number.ensures.other)

pub returns-else-len-text : goal.returns-else-len-text
returns-else-len-text c = sym (number_of-cut c.args.text.now (λ whole. c.if-len-text.false (c.in_ok-number.ensures.len ∙ whole)))
