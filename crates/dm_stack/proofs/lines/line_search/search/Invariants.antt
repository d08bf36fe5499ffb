-- the line of the sector is one of `count` lines from `index` on, and each comparison halves how many come after the first
use Rattle.dm_stack.proofs.Prelude.{length, StartsAfter, StartsBy}
use Rattle.dm_stack.proofs.lines.line_search.search.Given as goal
use Rattle.std.specs.Prelude.{◌+◌, ◌-◌, ◌*◌, ◌^◌, ◌<◌, ◌≤◌}

abbrev pub invariant-loop-count : goal.invariant-loop-count
invariant-loop-count l = record {
  some : 0 < l.count;
  within : l.index + l.count ≤ length l.lines;
  from : StartsBy l.lines l.index l.sector;
  next : StartsAfter l.lines (l.index + l.count) l.sector;
  small : l.comparisons + l.count < 2 ^ 64;
  halved : 2 ^ l.comparisons * (l.count - 1) < length l.lines;
  few : 2 ^ l.comparisons ≤ 2 * length l.lines;
}

abbrev pub decreases-loop-count : goal.decreases-loop-count
decreases-loop-count l = l.count
