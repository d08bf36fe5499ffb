use Rattle.dm_replay.proofs.Prelude.{start_state}
use Rattle.dm_replay.proofs.replay.tests.lines_with_stops.Given as goal
use Rattle.std.specs.Prelude.{◌≡◌}

abbrev pub invariant-loop-step : goal.invariant-loop-step
invariant-loop-step g l = (l.replay.stack ≡ l.stack) × (l.replay.start ≡ start_state l.stack)
