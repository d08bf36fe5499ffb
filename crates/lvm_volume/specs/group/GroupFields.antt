-- The fields of a group as the code reads them, before the disks have names.
use Rattle.lvm_volume.specs.Base.{List, codes, map}
use Rattle.lvm_volume.specs.declared.group.group_fields.GroupFields as code
use Rattle.lvm_volume.specs.declared.group.volume.Volume.{Volume}
use Rattle.lvm_volume.specs.fields.Fields.{number_at, sections_at}
use Rattle.lvm_volume.specs.group.Group.{Keyed, keys_in, volume_of, volumes_in}
use Rattle.lvm_volume.specs.group.PhysicalFields.{fields_of, fields_view}
use Rattle.std.specs.Prelude.{◌≡◌}

-- the logical volumes that sections describe, in a group with the given physical volumes
abbrev pub volumes_said : (physicals volumes : List Keyed) → List Volume
volumes_said physicals volumes = map (volume_of (record { physicals = keys_in physicals; volumes = keys_in volumes })) volumes

-- the fields are those that the group's section describes
pub record IsSaid (group : Keyed) (fields : code.GroupFields) : Type 0 where
  pub name : fields.name.now ≡ group.0
  pub extent_size : fields.extent_size ≡ number_at (codes "extent_size") group.1
  pub physicals : map fields_view fields.physicals.items ≡ map fields_of (sections_at (codes "physical_volumes") group.1)
  pub volumes : fields.volumes.items ≡ volumes_in group.1
