use Rattle.dm_table.proofs.Prelude.{length}
use Rattle.dm_table.proofs.io.Growth.{IsSent}
use Rattle.dm_table.proofs.io.writing.write_all.Given as goal

-- the bytes before `rest` have been written, and nothing failed
abbrev pub invariant-loop-rest : goal.invariant-loop-rest
invariant-loop-rest g l = IsSent (g.W.Output.past l.fn.writer) (g.W.Output.past l.writer) l.bytes l.rest

abbrev pub decreases-loop-rest : goal.decreases-loop-rest
decreases-loop-rest g l = length l.rest
