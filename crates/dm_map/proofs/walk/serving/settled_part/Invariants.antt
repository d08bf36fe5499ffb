-- `part` is how far the sectors are settled in the snapshots before this one
use Rattle.dm_map.proofs.Prelude.{take, AreSettled, IsLongest}
use Rattle.dm_map.proofs.walk.serving.settled_part.Given as goal
use Rattle.std.specs.Prelude.{◌+◌}

abbrev pub invariant-loop-one : goal.invariant-loop-one
invariant-loop-one g l = IsLongest (λ i. AreSettled l.walker.state (take l.one-index l.over) (l.sector + i)) l.most l.part
