use Rattle.lvm_head.proofs.Prelude.{Ok, length, Contents, ring_bytes}
use Rattle.lvm_head.proofs.text.read_ring.Given as goal
use Rattle.std.specs.Prelude.{◌≡◌, ◌-◌, ◌≤◌}

abbrev pub invariant-loop-number : goal.invariant-loop-number
invariant-loop-number g l = record {
  block : length l.block ≡ 65536;
  count : length l.bytes.items ≡ l.number;
  inside : l.number ≤ l.location.size;
  listed : g.D.Disks.listed l.disks ≡ g.D.Disks.listed l.fn.disks;
  still : (held : Contents) → g.D.Disks.IsSeen l.disks held → g.D.Disks.IsSeen l.fn.disks held;
  bytes : (held : Contents) → g.D.Disks.IsSeen l.disks held → ring_bytes (held l.disk) l.start l.location l.number ≡ Ok l.bytes.items;
}

abbrev pub decreases-loop-number : goal.decreases-loop-number
decreases-loop-number g l = l.location.size - l.number
