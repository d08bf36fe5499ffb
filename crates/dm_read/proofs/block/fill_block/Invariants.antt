use Rattle.dm_read.proofs.Prelude.{length, with_looked, Contents, disk_contents, device_bytes}
use Rattle.dm_read.proofs.FilledLemmas.{AreIn}
use Rattle.dm_read.proofs.block.fill_block.Given as goal
use Rattle.std.specs.Prelude.{◌≡◌, ◌+◌, ◌-◌, ◌≤◌}

abbrev pub invariant-loop-done : goal.invariant-loop-done
invariant-loop-done g l = record {
  within : l.done ≤ l.count;
  len : length l.block ≡ length l.fn.block;
  same : l.mapper ≡ with_looked l.fn.mapper l.mapper.looked;
  still : (held : Contents) → g.I.Images.IsSeen l.images held → g.I.Images.IsSeen l.fn.images held;
  each : (held : Contents) → g.I.Images.IsSeen l.images held → AreIn (λ i. device_bytes l.fn.mapper.stack l.fn.mapper.state (disk_contents l.places held) l.device (l.sector + i)) 0 l.done l.block;
}

abbrev pub decreases-loop-done : goal.decreases-loop-done
decreases-loop-done g l = l.count - l.done
