-- the first fault among the volumes left is the first fault among all volumes
use Rattle.lvm_volume.proofs.Prelude.{None, zip_first, zip_second, flat_map, zip, iter_rest, first_or, unnamed_volume}
use Rattle.lvm_volume.proofs.tables.device_names.check_names.Given as goal
use Rattle.std.specs.Prelude.{◌≡◌}

abbrev pub invariant-loop-role : goal.invariant-loop-role
invariant-loop-role l =
    first_or (flat_map (unnamed_volume l.group) (zip (iter_rest (zip_first l.role-iterator)) (iter_rest (zip_second l.role-iterator)))) None
    ≡ first_or (flat_map (unnamed_volume l.group) (zip l.roles l.volumes)) None
