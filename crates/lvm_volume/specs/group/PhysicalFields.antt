-- The fields of a physical volume as its section describes them, before its disk has a name.
use Rattle.lvm_volume.specs.Base.{ℕ, List, codes, map, Physical}
use Rattle.lvm_volume.specs.declared.group.physical.PhysicalFields as code
use Rattle.lvm_volume.specs.fields.Fields.{number_at}
use Rattle.lvm_volume.specs.group.Group.{Keyed, chosen, device_of, is_shared}

-- the fields of a physical volume, before its disk has a name
pub record Fields : Type 0 where
  pub key : List ℕ
  pub device : List ℕ
  pub size : ℕ
  pub start : ℕ
  pub count : ℕ
  pub line : ℕ

-- the fields that a physical volume's section describes
abbrev pub fields_of : Keyed → Fields
fields_of physical = record {
  key = physical.0;
  device = device_of physical;
  size = number_at (codes "dev_size") physical.1;
  start = number_at (codes "pe_start") physical.1;
  count = number_at (codes "pe_count") physical.1;
  line = physical.1.line;
}

-- the fields of a physical volume, as contracts see them
abbrev pub fields_view : code.PhysicalFields → Fields
fields_view fields = record { key = fields.key.now; device = fields.device.now; size = fields.size; start = fields.start; count = fields.count; line = fields.line }

-- the physical volume with these fields and a name for its disk; `devices` are the devices of all physical volumes
abbrev pub with_disk_name : List (List ℕ) → Fields → Physical
with_disk_name devices fields = record { disk = chosen (is_shared devices fields.device) fields.key fields.device; size = fields.size; start = fields.start; count = fields.count; line = fields.line }

-- the devices of all physical volumes, in order
abbrev pub devices_in : List Fields → List (List ℕ)
devices_in = map (λ fields. fields.device)

-- all physical volumes of a group, with names for their disks
abbrev pub all_named : List Fields → List Physical
all_named all = map (with_disk_name (devices_in all)) all
