use Rattle.lvm_volume.proofs.Prelude.{map, take, item_view, id_in, ids_view}
use Rattle.lvm_volume.proofs.group.owners.ids_of.Given as goal
use Rattle.std.specs.Prelude.{◌≡◌}

abbrev pub invariant-loop-physical : goal.invariant-loop-physical
invariant-loop-physical l = ids_view l.ids.items ≡ map id_in (map item_view (take l.physical-index l.physicals))
