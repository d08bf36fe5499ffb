use Rattle.dm_read.proofs.Prelude.{ℕ, Ok, ReadOf, Contents, disk_contents, sector_in, unit_bytes, AreKept}
use Rattle.dm_read.proofs.part.read_one_by_one.Given as goal
use Rattle.std.specs.Prelude.{◌≡◌, ◌+◌, ◌-◌, ◌<◌, ◌≤◌}

abbrev pub invariant-loop-done : goal.invariant-loop-done
invariant-loop-done g l = record {
  within : l.done ≤ l.count;
  kept : AreKept l.at l.fn.block l.block;
  still : (held : Contents) → g.I.Images.IsSeen l.images held → g.I.Images.IsSeen l.fn.images held;
  each : (held : Contents) → g.I.Images.IsSeen l.images held → (i : ℕ) → i < l.done → unit_bytes (disk_contents l.places held) (ReadOf l.disk (l.start + i)) ≡ Ok (sector_in l.block (l.at + i));
}

abbrev pub decreases-loop-done : goal.decreases-loop-done
decreases-loop-done g l = l.count - l.done
