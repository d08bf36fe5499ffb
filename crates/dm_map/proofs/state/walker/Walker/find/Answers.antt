use Rattle.dm_map.proofs.Prelude.{sym}
use Rattle.dm_map.proofs.state.TableLemmas.{found_room, table_got}
use Rattle.dm_map.proofs.state.walker.Walker.find.Goals as goal

pub returns-clause-room : goal.returns-clause-room
returns-clause-room g c =
    let w = c.self.inside in let table = c.index-table.result.now in
    let there = rw (← c.self.view_is) at c.requires in
    let got = table_got g.T.Taken.places w.looker.stack w.tables.items c.args.device c.index.result table c.self.invariant there c.index.ensures c.index-table.ensures in
    rw (← c.self.view_is) (found_room g.T.Taken.chunks g.T.Taken.places w.looker.stack w.tables.items c.args.device c.args.chunk table c.find.result c.self.invariant (g.met.T.Taken.fits table) got (sym c.find.ensures))
