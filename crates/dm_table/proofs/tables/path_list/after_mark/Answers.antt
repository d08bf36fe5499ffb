use Rattle.dm_table.proofs.Prelude.{◌∙◌, take_rest}
use Rattle.dm_table.proofs.tables.PathPlaces.{last_found, last_nowhere}
use Rattle.dm_table.proofs.tables.path_list.after_mark.Goals as goal
use Rattle.std.specs.Prelude.{◌+◌}

pub returns-in-Some-clause-is : goal.returns-in-Some-clause-is
returns-in-Some-clause-is c = take_rest c.args.text.now (c.in-Some.last + 1) ∙ last_found c.args.text.now c.in-Some.last c.in-Some.ensures

pub returns-in-None-clause-is : goal.returns-in-None-clause-is
returns-in-None-clause-is c = last_nowhere c.args.text.now c.in-None.ensures
