-- the devices before this one have been written, each after a semicolon, and nothing failed
use Rattle.dm_table.proofs.Prelude.{take, Ok, flat_map, concise_device, Wrote, OutFault}
use Rattle.dm_table.proofs.tables.canonical_text.write_more_devices.Given as goal
use Rattle.std.specs.Prelude.{◌∷◌}

abbrev pub invariant-loop-device : goal.invariant-loop-device
invariant-loop-device g l =
    Wrote {E = OutFault} (g.W.Output.past l.fn.writer) (g.W.Output.past l.writer) (Ok tt) (flat_map (λ device. 59 ∷ concise_device device) (take l.device-index l.devices))
