use Rattle.dm_map.proofs.Prelude.{store_writes}
use Rattle.dm_map.proofs.walk.ChunkCopies.{IsGoingOn}
use Rattle.dm_map.proofs.walk.write_chunk.write_store.Given as goal
use Rattle.std.specs.Prelude.{◌≡◌, ◌+◌, ◌-◌, ◌≤◌}

abbrev pub invariant-loop-left : goal.invariant-loop-left
invariant-loop-left g l = record {
  taken : g.S.Sink.past.took l.fn.sink (store_writes l.fn.walker.stack l.store l.sector (l.len - l.left)) l.sink;
  within : l.left ≤ l.len;
  position : l.at + l.left ≡ l.sector + l.len;
  going_on : IsGoingOn g.S.Sink.past l.fn.sink l.sink l.fn.walker l.walker;
}

abbrev pub decreases-loop-left : goal.decreases-loop-left
decreases-loop-left g l = l.left
