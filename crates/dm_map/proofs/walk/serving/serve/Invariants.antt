-- the snapshots before this one were served
use Rattle.dm_map.proofs.Prelude.{take, serve, IsWalked}
use Rattle.dm_map.proofs.walk.WalkedOn.{going_on}
use Rattle.dm_map.proofs.walk.serving.serve.Given as goal

abbrev pub invariant-loop-one : goal.invariant-loop-one
invariant-loop-one g l = IsWalked g.S.Sink.past going_on l.fn.sink l.sink l.fn.walker l.walker (serve l.fn.walker.stack (take l.one-index l.over) l.sector l.fn.walker.state) 0
