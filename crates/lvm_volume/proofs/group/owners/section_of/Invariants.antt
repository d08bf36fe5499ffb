use Rattle.lvm_volume.proofs.Prelude.{drop, map, item_view, section_of}
use Rattle.lvm_volume.proofs.group.owners.section_of.Given as goal
use Rattle.std.specs.Prelude.{◌≡◌}

abbrev pub invariant-loop-physical : goal.invariant-loop-physical
invariant-loop-physical l = section_of (map item_view l.physicals) l.id ≡ section_of (map item_view (drop l.physical-index l.physicals)) l.id
