-- only ranges that begin from `start` to `end` were removed so far
use Rattle.dm_replay.proofs.Prelude.{length, AreApart, IsCleared}
use Rattle.dm_replay.proofs.disk_ranges.clear.Given as goal

abbrev pub invariant-loop-at : goal.invariant-loop-at
invariant-loop-at l = record {
  apart : AreApart l.ranges;
  cleared : IsCleared l.initial.ranges l.ranges l.start l.end;
}

abbrev pub decreases-loop-at : goal.decreases-loop-at
decreases-loop-at l = length l.ranges.entries
