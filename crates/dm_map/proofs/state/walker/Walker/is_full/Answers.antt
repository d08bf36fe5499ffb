use Rattle.dm_map.proofs.Prelude.{length, not, sym, ap, ◌∙◌, Taken, has_room}
use Rattle.dm_map.proofs.state.TableLemmas.{full_room, state_at, table_got}
use Rattle.dm_map.proofs.state.walker.Walker.is_full.Goals as goal

pub returns : goal.returns
returns g c =
    let w = c.self.inside in let table = c.index-table.result.now in
    let there = rw (← c.self.view_is) at c.requires in
    let got = table_got g.T.Taken.places w.looker.stack w.tables.items c.args.device c.index.result table c.self.invariant there c.index.ensures c.index-table.ensures in
    let kept = state_at g.T.Taken.chunks g.T.Taken.valid w.tables.items c.args.device table got in
    rw (← c.self.view_is) (c.is_full.ensures ∙ full_room g.T.Taken.chunks g.T.Taken.places w.looker.stack w.tables.items c.args.device table c.self.invariant (g.met.T.Taken.fits table) got ∙ ap (λ (taken : Taken). not (has_room w.looker.stack c.args.device (length taken.chunks))) (sym kept))
