use Rattle.dm_read.proofs.Prelude.{length, with_looked, Contents, disk_contents, written_since, HasWritten, after, bytes_of, device_bytes}
use Rattle.dm_read.proofs.sectors.write_sectors.Given as goal
use Rattle.std.specs.Prelude.{◌≡◌, ◌+◌}

abbrev pub invariant-loop-left : goal.invariant-loop-left
invariant-loop-left g l = record {
  place : l.sector + l.left ≡ l.start + l.len;
  len : length l.block ≡ 65536;
  same : l.mapper ≡ with_looked l.fn.mapper l.mapper.looked;
  still : (held : Contents) → g.I.Images.IsSeen l.images held → g.I.Images.IsSeen l.fn.images held;
  moved : HasWritten (g.W.Output.past l.fn.output) (g.W.Output.past l.output) 0;
  parts : (held : Contents) → g.I.Images.IsSeen l.images held
      → bytes_of (device_bytes l.fn.mapper.stack l.fn.mapper.state (disk_contents l.places held) l.device) l.start l.len
      ≡ after (written_since (g.W.Output.past l.fn.output) (g.W.Output.past l.output)) (bytes_of (device_bytes l.fn.mapper.stack l.fn.mapper.state (disk_contents l.places held) l.device) l.sector l.left);
}

abbrev pub decreases-loop-left : goal.decreases-loop-left
decreases-loop-left g l = l.left
