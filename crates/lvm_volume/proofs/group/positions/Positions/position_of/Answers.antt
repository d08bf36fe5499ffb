use Rattle.lvm_volume.proofs.Prelude.{◌∙◌, Some, None}
use Rattle.lvm_volume.proofs.group.PositionLemmas.{position_is}
use Rattle.lvm_volume.proofs.group.positions.Positions.position_of.Goals as goal

pub returns-in-Some : goal.returns-in-Some
returns-in-Some c =
    rw (← c.self.view_is) (position_is c.args.key.now c.self.inside.keys.keys (Some c.in-Some.position) c.in-Some.ensures.index)

pub returns-in-None : goal.returns-in-None
returns-in-None c =
    rw (← c.self.view_is) (c.len.ensures.len ∙ position_is c.args.key.now c.self.inside.keys.keys None c.in-None.ensures.index)
