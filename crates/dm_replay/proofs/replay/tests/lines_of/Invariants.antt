use Rattle.dm_replay.proofs.Prelude.{start_state}
use Rattle.dm_replay.proofs.replay.tests.lines_of.Given as goal
use Rattle.std.specs.Prelude.{◌≡◌}

abbrev pub invariant-loop-index : goal.invariant-loop-index
invariant-loop-index g l = (l.replay.stack ≡ l.stack) × (l.replay.start ≡ start_state l.stack)
