use Rattle.dm_stack.proofs.SoundLines.{device_some, device_small}
use Rattle.dm_stack.proofs.stack.Stack.len.Goals as goal

pub returns-clause-size : goal.returns-clause-size
returns-clause-size c = record {
  some = rw c.found.ensures.end (device_some c.args.self.now c.args.device c.found.ensures.sound c.requires);
  small = rw c.found.ensures.end (device_small c.args.self.now c.args.device c.found.ensures.sound c.requires);
}
