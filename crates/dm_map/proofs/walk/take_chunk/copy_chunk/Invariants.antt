use Rattle.dm_map.proofs.Prelude.{true, store_sector, IsFirstHomes, copies, reads_all, IsFirstOf, MOST_DEPTH}
use Rattle.dm_map.proofs.walk.ChunkCopies.{IsGoingOn}
use Rattle.dm_map.proofs.walk.take_chunk.copy_chunk.Given as goal
use Rattle.std.specs.Prelude.{◌≡◌, ◌+◌, ◌-◌, ◌≤◌}

abbrev pub invariant-copies : goal.invariant-copies
invariant-copies g l = record {
  taken : g.S.Sink.past.took l.fn.sink (copies l.fn.walker.stack l.fn.walker.state l.snapshot l.number l.sector (l.len - l.left)) l.sink;
  within : l.left ≤ l.len;
  from : l.from + l.left ≡ l.sector + l.len;
  to : l.to + l.left ≡ store_sector l.snapshot l.number l.sector + l.len;
  reads : reads_all l.fn.walker.stack l.fn.walker.state l.snapshot.origin l.from l.left ≡ true;
  source : IsFirstOf l.fn.walker l.fn.walker MOST_DEPTH l.snapshot.origin l.from l.left l.source;
  target : IsFirstHomes l.fn.walker.stack l.snapshot.store l.to l.left l.target;
  going_on : IsGoingOn g.S.Sink.past l.fn.sink l.sink l.fn.walker l.walker;
}

abbrev pub decreases-copies : goal.decreases-copies
decreases-copies g l = l.left
