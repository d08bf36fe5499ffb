use Rattle.lvm_head.proofs.Prelude.{[], drop, Contents, areas_text}
use Rattle.lvm_head.proofs.head.read_areas.Given as goal
use Rattle.std.specs.Prelude.{◌≡◌}

abbrev pub invariant-loop-area : goal.invariant-loop-area
invariant-loop-area g l = record {
  listed : g.D.Disks.listed l.disks ≡ g.D.Disks.listed l.fn.disks;
  still : (held : Contents) → g.D.Disks.IsSeen l.disks held → g.D.Disks.IsSeen l.fn.disks held;
  text : (held : Contents) → g.D.Disks.IsSeen l.disks held → areas_text (held l.disk) [] l.areas ≡ areas_text (held l.disk) l.text.items (drop l.area-index l.areas);
}
