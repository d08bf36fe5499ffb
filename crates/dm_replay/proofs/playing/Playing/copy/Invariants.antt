use Rattle.dm_replay.proofs.Prelude.{CopyOf, units_in, HasPlayed}
use Rattle.dm_replay.proofs.playing.Playing.copy.Given as goal
use Rattle.std.specs.Prelude.{◌≡◌, ◌+◌, ◌-◌, ◌≤◌}

abbrev pub invariant-loop-left : goal.invariant-loop-left
invariant-loop-left l = record {
  has_played : HasPlayed l.fn.self (units_in (CopyOf l.disk l.start l.to l.to_start) (l.len - l.left)) l.self;
  within : l.left ≤ l.len;
  at_is : l.at + l.left ≡ l.start + l.len;
  to_at_is : l.to_at + l.left ≡ l.to_start + l.len;
}

abbrev pub decreases-loop-left : goal.decreases-loop-left
decreases-loop-left l = l.left
