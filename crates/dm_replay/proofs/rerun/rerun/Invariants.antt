-- the mapper is in the state after the writes so far
use Rattle.dm_replay.proofs.Prelude.{take}
use Rattle.dm_replay.proofs.RerunLemmas.{IsRerun}
use Rattle.dm_replay.proofs.rerun.rerun.Given as goal

abbrev pub invariant-loop-kept : goal.invariant-loop-kept
invariant-loop-kept g l = IsRerun l.stack l.discard.stack.now l.mapper (take l.kept-index l.writes)
