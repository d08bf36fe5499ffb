-- the devices so far, with those of the volumes left, are the devices of all volumes
use Rattle.lvm_volume.proofs.Prelude.{zip_first, zip_second, AllByRecursion, flat_map, zip, iter_rest, group_view, IsMadeIn}
use Rattle.lvm_volume.specs.tables.Tables.{devices_in}
use Rattle.lvm_volume.proofs.tables.devices.devices_of.Given as goal
use Rattle.std.specs.Prelude.{◌≡◌, ◌++◌}

abbrev pub invariant-loop-role : goal.invariant-loop-role
invariant-loop-role l =
    let left = zip (iter_rest (zip_first l.role-iterator)) (iter_rest (zip_second l.role-iterator)) in
    record {
      made : l.devices.items ++ flat_map (devices_in (group_view l.group)) left ≡ flat_map (devices_in (group_view l.group)) (zip l.roles l.group.volumes.now);
      all : AllByRecursion (IsMadeIn (group_view l.group)) left;
    }
