use Rattle.dm_map.proofs.state.TableLemmas.{offered_put, table_got, tables_set, take_room}
use Rattle.dm_map.proofs.state.walker.Walker.offer.Goals as goal

pub offer-requires-clause-room : goal.offer-requires-clause-room
offer-requires-clause-room g c =
    let w = c.self.inside in let table = c.index_mut-table.result.now in let device = c.args.device in
    let there = rw (← c.self.view_is) at c.requires.device in
    let got = table_got g.T.Taken.places w.looker.stack w.tables.items device c.index.result table c.self.invariant there c.index.ensures c.index_mut-table.ensures.value in
    let room = rw (← c.self.view_is) at c.requires.room in
    take_room g.T.Taken.chunks g.T.Taken.valid g.T.Taken.places w.looker.stack w.tables.items device table c.self.invariant got room

pub invariant_of-self : goal.invariant_of-self
invariant_of-self g c =
    let w = c.self.inside in let table = c.index_mut-table.result.now in let device = c.args.device in
    let there = rw (← c.self.view_is) at c.requires.device in
    let got = table_got g.T.Taken.places w.looker.stack w.tables.items device c.index.result table c.self.invariant there c.index.ensures c.index_mut-table.ensures.value in
    tables_set g.T.Taken.places w.looker.stack w.tables.items device c.index.result table c.offer.new.self c.self.invariant c.index.ensures got c.offer.ensures.places

pub returns-clause-state : goal.returns-clause-state
returns-clause-state g c =
    let w = c.self.inside in let table = c.index_mut-table.result.now in let device = c.args.device in
    let there = rw (← c.self.view_is) at c.requires.device in
    let got = table_got g.T.Taken.places w.looker.stack w.tables.items device c.index.result table c.self.invariant there c.index.ensures c.index_mut-table.ensures.value in
    let good = rw (← c.self.view_is) at c.requires.valid in
    rw (← c.self.view_is) (offered_put g.T.Taken.chunks g.T.Taken.valid w.tables.items device c.index.result c.args.chunk table c.offer.new.self c.offer.result c.index.ensures got good c.offer.ensures.chunks c.offer.ensures.valid)
