use Rattle.dm_replay.proofs.Prelude.{ReadOf, units_in, HasPlayed}
use Rattle.dm_replay.proofs.playing.Playing.read.Given as goal
use Rattle.std.specs.Prelude.{◌≡◌, ◌+◌, ◌-◌, ◌≤◌}

abbrev pub invariant-loop-left : goal.invariant-loop-left
invariant-loop-left l = record {
  has_played : HasPlayed l.fn.self (units_in (ReadOf l.disk l.start) (l.len - l.left)) l.self;
  within : l.left ≤ l.len;
  at_is : l.at + l.left ≡ l.start + l.len;
}

abbrev pub decreases-loop-left : goal.decreases-loop-left
decreases-loop-left l = l.left
