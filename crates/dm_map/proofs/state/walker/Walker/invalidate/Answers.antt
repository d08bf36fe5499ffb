use Rattle.dm_map.proofs.state.TableLemmas.{lost_put, table_got}
use Rattle.dm_map.proofs.state.walker.Walker.invalidate.Goals as goal

pub returns-clause-state : goal.returns-clause-state
returns-clause-state g c =
    let w = c.self.inside in let table = c.index_mut-table.result.now in
    let there = rw (← c.self.view_is) at c.requires.device in
    let got = table_got g.T.Taken.places w.looker.stack w.tables.items c.args.device c.index.result table c.self.invariant there c.index.ensures c.index_mut-table.ensures.value in
    rw (← c.self.view_is) (lost_put g.T.Taken.chunks g.T.Taken.valid w.tables.items c.args.device c.index.result table c.invalidate.new.self c.index.ensures got c.invalidate.ensures.chunks c.invalidate.ensures.valid)
