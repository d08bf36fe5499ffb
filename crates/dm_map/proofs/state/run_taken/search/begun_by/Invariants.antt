-- runs before `low` start at the chunk or before it, runs from `high` on start after it, and each comparison halves what is between
use Rattle.dm_map.proofs.Prelude.{length, binary_digits, run_at}
use Rattle.dm_map.proofs.state.run_taken.search.begun_by.Given as goal
use Rattle.std.specs.Prelude.{◌+◌, ◌-◌, ◌*◌, ◌^◌, ◌<◌, ◌≤◌}

abbrev pub invariant-loop-low : goal.invariant-loop-low
invariant-loop-low l = record {
  within : l.low ≤ l.high;
  end : l.high ≤ length l.runs;
  from : 0 < l.low → (run_at l.runs (l.low - 1)).first ≤ l.chunk;
  next : l.high < length l.runs → l.chunk < (run_at l.runs l.high).first;
  small : l.comparisons + (l.high - l.low) < 2 ^ 64;
  halved : 2 ^ l.comparisons * (l.high - l.low) ≤ length l.runs;
  few : l.comparisons ≤ binary_digits (length l.runs);
}

abbrev pub decreases-loop-low : goal.decreases-loop-low
decreases-loop-low l = l.high - l.low
