use Rattle.dm_map.proofs.Prelude.{Write, Snapshot, target_mapping}
use Rattle.dm_map.proofs.walk.WalkedOn.{IsMappedTo}
use Rattle.dm_map.proofs.walk.write_chunk.write_snapshot.Given as goal

abbrev pub invariant-chunks : goal.invariant-chunks
invariant-chunks g l =
    IsMappedTo g.S.Sink.past l.fn.sink l.sink l.fn.walker l.walker (target_mapping Write 0 l.device 0 (Snapshot l.snapshot)) l.sector l.len l.from l.left

abbrev pub decreases-chunks : goal.decreases-chunks
decreases-chunks g l = l.left
