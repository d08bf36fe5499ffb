use Rattle.dm_map.proofs.state.WithinPlaces.{fitting_tables, within_places}
use Rattle.dm_map.proofs.state.walker.Walker.recall_places.Goals as goal

pub returns-clause-within : goal.returns-clause-within
returns-clause-within g c =
    let w = c.self.inside in
    rw (← c.self.view_is) (within_places g.T.Taken.chunks g.T.Taken.valid g.T.Taken.places w.looker.stack w.tables.items c.depth.ensures.sound c.self.invariant g.met.T.Taken.fits)

pub returns-clause-fits : goal.returns-clause-fits
returns-clause-fits g c =
    let w = c.self.inside in
    rw (← c.self.view_is) (fitting_tables g.T.Taken.chunks g.T.Taken.valid g.T.Taken.places w.looker.stack w.tables.items c.depth.ensures.sound c.self.invariant g.met.T.Taken.fits)
