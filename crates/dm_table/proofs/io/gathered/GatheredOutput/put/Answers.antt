use Rattle.dm_table.proofs.Prelude.{err_from_is_err_and}
use Rattle.dm_table.proofs.io.Growth.{wrote_nothing}
use Rattle.dm_table.proofs.io.gathered.GatheredOutput.put.Goals as goal

pub returns-in_err-drain_if_full-clause-wrote : goal.returns-in_err-drain_if_full-clause-wrote
returns-in_err-drain_if_full-clause-wrote g c =
    let is = err_from_is_err_and c.from_residual.result c.from_residual.ensures.1 in
    rw (is.1, is.2) (wrote_nothing _ _ is.0 (g.T.Text.text c.args.text.now) c.requires c.in_err-drain_if_full.ensures.past)
