use Rattle.lvm_head.proofs.Prelude.{None, Contents, first_found, label_in}
use Rattle.lvm_head.proofs.label.Label.read.Given as goal
use Rattle.std.specs.Prelude.{◌≡◌}

abbrev pub invariant-loop-place : goal.invariant-loop-place
invariant-loop-place g l = record {
  listed : g.D.Disks.listed l.disks ≡ g.D.Disks.listed l.fn.disks;
  still : (held : Contents) → g.D.Disks.IsSeen l.disks held → g.D.Disks.IsSeen l.fn.disks held;
  none : (held : Contents) → g.D.Disks.IsSeen l.disks held → first_found (λ place. label_in place (held l.disk place)) l.place ≡ None;
}
