use Rattle.dm_stack.proofs.Prelude.{sym, is_same}
use Rattle.dm_stack.proofs.SoundLines.{position-map}
use Rattle.dm_stack.proofs.stack.Stack.device.Goals as goal

pub returns-in-Some : goal.returns-in-Some
returns-in-Some c =
    rw (c.new.ensures, ← c.in-Some.is, c.find.ensures, c.self.invariant.device_names, ← c.self.view_is) (position-map (λ device. device.name) (λ other. is_same other c.args.name.now) c.self.inside.devices)

pub returns-in-None : goal.returns-in-None
returns-in-None c =
    rw (← c.self.view_is, ← position-map (λ device. device.name) (λ other. is_same other c.args.name.now) c.self.inside.devices, ← c.self.invariant.device_names, ← c.find.ensures) (sym c.in-None.is)
