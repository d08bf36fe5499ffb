use Rattle.lvm_volume.proofs.Prelude.{[], drop, map, enumerate_from, role_of, roles_among}
use Rattle.lvm_volume.proofs.group.roles.first_roles.Given as goal
use Rattle.std.specs.Prelude.{◌≡◌, ◌++◌}

abbrev pub invariant-loop-volume : goal.invariant-loop-volume
invariant-loop-volume l = l.roles.items ++ map (role_of []) (enumerate_from l.volume-index (drop l.volume-index l.volumes)) ≡ roles_among [] l.volumes
