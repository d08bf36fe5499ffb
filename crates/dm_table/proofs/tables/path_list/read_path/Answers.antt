use Rattle.dm_table.proofs.Prelude.{refl, arith, nat_tests}
use Rattle.dm_table.proofs.tables.PairRows.{not_pair}
use Rattle.dm_table.proofs.tables.path_list.read_path.Goals as goal

pub returns-in_default : goal.returns-in_default
returns-in_default c = λ memory. rw (not_pair c.args.row.now (λ two. grind (arith, nat_tests))) refl
