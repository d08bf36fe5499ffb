use Rattle.dm_table.proofs.Prelude.{eq-eqb, ne_eqb}
use Rattle.dm_table.proofs.tables.ConciseDescribed.{newline_cut, newline_missing}
use Rattle.dm_table.proofs.tables.concise_text.without_newline.Goals as goal

pub returns-then-last-eq10 : goal.returns-then-last-eq10
returns-then-last-eq10 c = newline_cut c.args.text.now c.in-len1-up.len_at_least (eq-eqb _ _ c.if-last-eq10.true)

pub returns-else-last-eq10 : goal.returns-else-last-eq10
returns-else-last-eq10 c = newline_missing c.args.text.now c.in-len1-up.len_at_least (ne_eqb _ _ c.if-last-eq10.false)
