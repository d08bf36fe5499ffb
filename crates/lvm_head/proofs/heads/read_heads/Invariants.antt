use Rattle.lvm_head.proofs.Prelude.{Contents, heads_from, heads_of}
use Rattle.lvm_head.proofs.heads.read_heads.Given as goal
use Rattle.std.specs.Prelude.{◌≡◌, ◌-◌}

abbrev pub invariant-loop-disk : goal.invariant-loop-disk
invariant-loop-disk g l = record {
  listed : g.D.Disks.listed l.disks ≡ g.D.Disks.listed l.fn.disks;
  still : (held : Contents) → g.D.Disks.IsSeen l.disks held → g.D.Disks.IsSeen l.fn.disks held;
  heads : (held : Contents) → g.D.Disks.IsSeen l.disks held → heads_of held l.count ≡ heads_from held l.heads l.disk (l.count - l.disk);
}
