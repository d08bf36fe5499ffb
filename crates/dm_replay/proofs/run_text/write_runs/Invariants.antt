-- the lines of the runs so far are written, and no write failed
use Rattle.dm_replay.proofs.Prelude.{take, Ok, Wrote, runs_text}
use Rattle.dm_table.specs.declared.io.device_io.OutFault.{OutFault}
use Rattle.dm_replay.proofs.run_text.write_runs.Given as goal

abbrev pub invariant-loop-run : goal.invariant-loop-run
invariant-loop-run g l =
    Wrote {E = OutFault} (g.W.Output.past l.fn.writer) (g.W.Output.past l.writer) (Ok tt) (runs_text l.stack l.number (take l.run-index l.runs))
