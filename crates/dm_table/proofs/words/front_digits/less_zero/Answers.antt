use Rattle.dm_table.proofs.Prelude.{zip2_splat}
use Rattle.dm_table.proofs.words.front_digits.less_zero.Goals as goal

pub returns : goal.returns
returns c = zip2_splat _ c.args.text.now 16 48 c.told-text
