use Rattle.dm_table.proofs.tables.PathPlaces.{cut_found, cut_nowhere}
use Rattle.dm_table.proofs.tables.path_list.cut_at.Goals as goal

pub returns-in-Some : goal.returns-in-Some
returns-in-Some c = cut_found c.args.at c.args.text.now c.split_at.result.0.now c.split_at.result.1.now c.in-Some.end c.in-Some.ensures c.split_at.ensures.front c.split_at.ensures.back

pub returns-in-None : goal.returns-in-None
returns-in-None c = cut_nowhere c.args.at c.args.text.now c.in-None.ensures
