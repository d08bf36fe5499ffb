-- the line at `index` starts at the next bucket's first sector or before, and the lines of the buckets so far come no later
use Rattle.dm_stack.proofs.Prelude.{ℕ, get_or, length, AreFirsts, IsStartOf, StartsBy}
use Rattle.dm_stack.proofs.lines.resolved_table.firsts_of.Given as goal
use Rattle.std.specs.Prelude.{◌+◌, ◌-◌, ◌*◌, ◌^◌, ◌<◌, ◌≤◌}

abbrev pub invariant-loop-next : goal.invariant-loop-next
invariant-loop-next l = record {
  within : l.index < length l.lines;
  from : StartsBy l.lines l.index l.from;
  next : IsStartOf l.lines (l.index + 1) l.next;
  earlier : (bucket : ℕ) → bucket < length l.firsts.items → get_or l.firsts.items bucket 0 ≤ l.index;
}

abbrev pub decreases-loop-next : goal.decreases-loop-next
decreases-loop-next l = length l.lines - l.index

abbrev pub invariant-loop-firsts : goal.invariant-loop-firsts
invariant-loop-firsts l = record {
  room : l.buckets ≤ l.firsts.room;
  within : l.index < length l.lines;
  from : StartsBy l.lines l.index (length l.firsts.items * 2 ^ l.shift);
  next : IsStartOf l.lines (l.index + 1) l.next;
  firsts : AreFirsts l.lines l.firsts.items l.shift;
  earlier : (bucket : ℕ) → bucket < length l.firsts.items → get_or l.firsts.items bucket 0 ≤ l.index;
}

abbrev pub decreases-loop-firsts : goal.decreases-loop-firsts
decreases-loop-firsts l = l.buckets - length l.firsts.items
