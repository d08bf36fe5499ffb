use Rattle.dm_map.proofs.Prelude.{sym, ◌∙◌, arith, lt-ltb}
use Rattle.dm_map.proofs.state.TableLemmas.{table_got}
use Rattle.dm_map.proofs.state.walker.Walker.count.Goals as goal

pub returns-clause-room : goal.returns-clause-room
returns-clause-room g c number within =
    let w = c.self.inside in let table = c.index-table.result.now in
    let there = rw (← c.self.view_is) at c.requires in
    let got = table_got g.T.Taken.places w.looker.stack w.tables.items c.args.device c.index.result table c.self.invariant there c.index.ensures c.index-table.ensures in
    let fits = g.met.T.Taken.fits table in
    rw (← c.self.view_is) (sym (c.self.invariant.room c.args.device number table got) ∙ lt-ltb number (g.T.Taken.places table) (omega (arith, within, fits, c.count.ensures)))
