use Rattle.dmremap.proofs.Prelude.{drop, length, AreSeen, short_of}
use Rattle.lvm_head.specs.Disks.{Contents as DiskContents}
use Rattle.dmremap.proofs.images_load.first_short.Given as goal
use Rattle.std.specs.Prelude.{◌≡◌}

abbrev pub invariant-loop-disk : goal.invariant-loop-disk
invariant-loop-disk g l = record {
  sector : length l.sector ≡ 512;
  paths : l.disks.paths.items ≡ l.fn.disks.paths.items;
  still : (held : DiskContents) → AreSeen (g.I.Images.IsSeen l.disks.images) l.disks.paths.items held → AreSeen (g.I.Images.IsSeen l.fn.disks.images) l.fn.disks.paths.items held;
  short : (held : DiskContents) → AreSeen (g.I.Images.IsSeen l.disks.images) l.disks.paths.items held → short_of l.stack held 0 l.fn.disks.paths.items ≡ short_of l.stack held l.disk (drop l.disk l.fn.disks.paths.items);
}
