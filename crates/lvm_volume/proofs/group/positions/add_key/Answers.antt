use Rattle.lvm_volume.proofs.group.PositionLemmas.{added}
use Rattle.lvm_volume.proofs.group.positions.add_key.Goals as goal

pub returns-in-Ok : goal.returns-in-Ok
returns-in-Ok c = added c.args.key c.args.keys.now.keys c.insert.new.self.keys c.in-Ok.ensures.keys c.requires
