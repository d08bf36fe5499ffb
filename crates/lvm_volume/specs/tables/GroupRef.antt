-- The group from which devices are made.
use Rattle.lvm_volume.specs.declared.tables.devices.GroupRef.{GroupRef}
use Rattle.lvm_volume.specs.group.Group.{Group}

-- the group to whose parts these references point
abbrev pub group_view : GroupRef → Group
group_view group = record { name = group.name.now; extent_size = group.extent_size; physicals = group.physicals.now; volumes = group.volumes.now }
