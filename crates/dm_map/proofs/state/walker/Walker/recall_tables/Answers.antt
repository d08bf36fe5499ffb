use Rattle.dm_map.proofs.Prelude.{◌∙◌, length-map}
use Rattle.dm_map.proofs.state.walker.Walker.recall_tables.Goals as goal

pub returns : goal.returns
returns g c =
    let w = c.self.inside in
    rw (← c.self.view_is) (length-map w.tables.items _ ∙ c.self.invariant.count)
