-- the physical volumes so far, with those left, are all physical volumes, and each disk so far got a name
use Rattle.lvm_volume.proofs.Prelude.{None, drop, map, first_or, name_faults, all_named, fields_view, with_disk_name, devices_in}
use Rattle.lvm_volume.proofs.group.physical.named_physicals.Given as goal
use Rattle.std.specs.Prelude.{◌≡◌, ◌++◌}

abbrev pub invariant-loop-fields : goal.invariant-loop-fields
invariant-loop-fields l =
    let devices = devices_in (map fields_view l.all) in
    record {
      made : l.physicals.items ++ map (with_disk_name devices) (map fields_view (drop l.fields-index l.all)) ≡ all_named (map fields_view l.all);
      left : first_or (name_faults (map (with_disk_name devices) (map fields_view (drop l.fields-index l.all)))) None ≡ first_or (name_faults (all_named (map fields_view l.all))) None;
    }
