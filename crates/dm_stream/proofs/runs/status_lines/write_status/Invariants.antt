-- the mapper is unchanged but for its looker's counts, the status lines so far are written, and no write failed
use Rattle.dm_stream.proofs.Prelude.{take, Ok, flat_map, Wrote, OutFault, with_looked, status_line}
use Rattle.dm_stream.proofs.runs.status_lines.write_status.Given as goal
use Rattle.std.specs.Prelude.{◌≡◌}

abbrev pub invariant-loop-device : goal.invariant-loop-device
invariant-loop-device g l = (l.mapper ≡ with_looked l.fn.mapper l.mapper.looked)
    × Wrote {E = OutFault} (g.W.Output.past l.fn.output) (g.W.Output.past l.output) (Ok tt) (flat_map (status_line l.stack l.fn.mapper.state) (take l.device-index l.device-items))
