use Rattle.dm_table.proofs.Prelude.{length}
use Rattle.dm_table.proofs.io.Growth.{IsSent}
use Rattle.dm_table.proofs.io.device_io.Output.put.Given as goal

-- the bytes before `rest` have been written, and nothing failed
abbrev pub invariant-rest : goal.invariant-rest
invariant-rest g l = IsSent (g.Self.Output.past l.fn.self) (g.Self.Output.past l.self) (g.T.Text.text l.text) l.rest

abbrev pub decreases-rest : goal.decreases-rest
decreases-rest g l = length l.rest
