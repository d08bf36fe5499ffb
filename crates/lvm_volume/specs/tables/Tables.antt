-- The checks of a group in order, and the devices and disks that a group becomes.
use Rattle.lvm_volume.specs.Base.{ℕ, Bool, false, List, [], Option, None, Some, ⊤, codes, is_some, length, map, option_map, slice_index_or, flat_map, zip, AllByRecursion, TextFault, Source, Deep, Field, Memory, Name, Syntax, Twice, LoadFault, DeviceSpec, Disk, Tree, fault_at, Stripe, SegmentType, Zero, Error, Striped, Snapshot, Segment, Physical, Record, Role}
use Rattle.dm_table.specs.declared.tables.table.Column.{Column}
use Rattle.dm_table.specs.declared.tables.table.Target.{Target}
use Rattle.dm_table.specs.declared.tables.table.StoreKind.TheVariants.{Persistent}
use Rattle.dm_table.specs.declared.tables.table.Line.{Line}
use Rattle.dm_table.specs.declared.tables.table.DevRef.TheVariants as refs
use Rattle.dm_table.specs.declared.tables.table.Target.TheVariants as targets
use Rattle.lvm_text.specs.declared.fault.TextFault.TheVariants as texts
use Rattle.lvm_volume.specs.declared.group.volume.Volume.{Volume}
use Rattle.lvm_volume.specs.declared.tables.device_names.Layer.{Layer}
use Rattle.lvm_volume.specs.declared.tables.device_names.Layer.TheVariants.{Real, Cow}
use Rattle.lvm_volume.specs.declared.group.roles.Role.TheVariants as roles
use Rattle.lvm_volume.specs.fields.Checks.{Fields, Limits}
use Rattle.lvm_volume.specs.Names.{NameParts, fault_of, joined}
use Rattle.lvm_volume.specs.fields.Fields.{faults_of_fields}
use Rattle.lvm_volume.specs.group.Group.{Group, group_of}
use Rattle.lvm_volume.specs.group.Roles.{extents_of, name_at, records_of, role_at, roles_of, segments_at}
use Rattle.lvm_volume.specs.checks.Extents.{hit, name_faults, size_faults, snapshot_faults, source_line, stripes_of, unknown_faults, volume_faults}
use Rattle.std.specs.Prelude.{◌≡◌, ◌+◌, ◌*◌, ◌^◌, ◌<◌, ◌∷◌, ◌++◌}

-- ---- the checks of a group, in order

-- the faults in how extents are used: first those of physical volumes, and then those of segments
abbrev pub extent_faults : Group → List LoadFault
extent_faults group = size_faults group.extent_size group.physicals ++ volume_faults group.physicals [] group.volumes

-- the checks of what segments refer to, of how extents are used, and of snapshots, in this order
abbrev pub checks_of_parts : Group → List (List LoadFault)
checks_of_parts group = unknown_faults group ∷ extent_faults group ∷ snapshot_faults group ∷ []

-- all checks of a group before those of its device names, in order
abbrev pub group_checks : Tree → List (List LoadFault)
group_checks top =
    let group = group_of top in
    faults_of_fields Fields top ∷ faults_of_fields (Limits group.extent_size) top ∷ name_faults group.physicals ∷ checks_of_parts group

-- ---- the lines of a volume's table

-- the physical volume at a position, or an empty one if there is no such position
abbrev pub physical_at : List Physical → ℕ → Physical
physical_at physicals i = slice_index_or physicals i (record { disk = []; size = 0; start = 0; count = 0; line = 0 })

-- the column for a stripe: its disk, and the sector of that disk at which the stripe begins
abbrev pub column_of : ℕ → List Physical → Stripe → Column
column_of extent_size physicals stripe =
    let physical = physical_at physicals stripe.physical in
    record { to = refs.Disk physical.disk; offset = physical.start + stripe.extent * extent_size }

-- a linear target for a single column, or else a striped target
abbrev pub columns_target : ℕ → List Column → Target
columns_target stripe_size (column ∷ []) = targets.Linear column.to column.offset
columns_target stripe_size columns = targets.Striped stripe_size columns

-- the target for a segment
abbrev pub line_target : ℕ → List Physical → SegmentType → Target
line_target extent_size physicals (Striped stripe_size stripes) = columns_target stripe_size (map (column_of extent_size physicals) stripes)
line_target extent_size physicals Zero = targets.Zero
line_target extent_size physicals Error = targets.Error
-- never used, because no device gets a line for a snapshot segment
line_target extent_size physicals (Snapshot chunk_size origin store) = targets.Error

-- the line for a segment, in sectors
unfoldable pub line_of : ℕ → List Physical → Segment → Line
line_of extent_size physicals segment = record {
  start = segment.start * extent_size;
  len = segment.count * extent_size;
  target = line_target extent_size physicals segment.target;
  at = source_line segment.line;
}

-- the lines for the segments of a volume, in sectors
abbrev pub lines_of : Group → List Segment → List Line
lines_of group segments = map (line_of group.extent_size group.physicals) segments

-- ---- the devices of a volume

-- the word for a layer of an origin or of a store, which ends the layer's device name
abbrev pub layer_text : Layer → List ℕ
layer_text Real = codes "real"
layer_text Cow = codes "cow"

-- the parts of the device name of a volume, or of its layer
abbrev pub device_parts : List ℕ → List ℕ → Option Layer → NameParts
device_parts group volume layer = record { vg = group; lv = volume; layer = option_map layer_text layer }

-- the device name of a volume, or of its layer
abbrev pub device_name : List ℕ → List ℕ → Option Layer → List ℕ
device_name group volume layer = joined (device_parts group volume layer)

-- a device name can be built from these parts
abbrev pub IsNamed : List ℕ → List ℕ → Option Layer → Type 0
IsNamed group volume layer = fault_of (device_parts group volume layer) ≡ None

-- a device of this name, with a line for each segment of a volume
abbrev pub named_device : Group → Volume → (ro : Bool) → List ℕ → DeviceSpec
named_device group volume ro name = record {
  name = name;
  ro = ro;
  lines = lines_of group volume.segments;
  at = source_line volume.line;
}

-- the device with a line for each segment of a volume: the volume itself, or its layer
abbrev pub own_device : Group → Volume → (ro : Bool) → Option Layer → DeviceSpec
own_device group volume ro layer = named_device group volume ro (device_name group.name volume.name layer)

-- the visible device of an origin or snapshot, whose only line maps to the layers below it
abbrev pub over_device : Group → Volume → Line → DeviceSpec
over_device group volume line = record {
  name = device_name group.name volume.name None;
  ro = volume.ro;
  lines = line ∷ [];
  at = source_line volume.line;
}

-- the length of a volume in sectors
abbrev pub length_of : Group → List Segment → ℕ
length_of group segments = extents_of segments * group.extent_size

-- the only line of an origin's visible device, which maps to the layer below
abbrev pub origin_line : Group → Volume → Line
origin_line group volume = record {
  start = 0;
  len = length_of group volume.segments;
  target = targets.Origin (refs.Device (device_name group.name volume.name (Some Real)));
  at = source_line volume.line;
}

-- the only line of the visible device of a snapshot whose store is `volume`; it maps to the layers of its origin and of its store
abbrev pub snapshot_line : Group → Volume → Record → Line
snapshot_line group volume snapshot = record {
  start = 0;
  len = length_of group (segments_at group.volumes snapshot.origin);
  target = targets.Snapshot
      (refs.Device (device_name group.name (name_at group.volumes snapshot.origin) (Some Real)))
      (refs.Device (device_name group.name volume.name (Some Cow)))
      Persistent
      snapshot.chunk_size;
  at = source_line snapshot.line;
}

-- the devices of a volume that has this role
abbrev pub devices_by : Group → Volume → Role → List DeviceSpec
devices_by group volume roles.Plain = own_device group volume volume.ro None ∷ []
devices_by group volume roles.Origin = own_device group volume false (Some Real) ∷ over_device group volume (origin_line group volume) ∷ []
devices_by group volume (roles.Store snapshot) = own_device group volume false (Some Cow) ∷ over_device group volume (snapshot_line group volume snapshot) ∷ []
devices_by group volume roles.Record = []
devices_by group volume roles.Clashing = []

-- the devices of a volume, given as a pair of its role and the volume
unfoldable pub devices_in : Group → Role × Volume → List DeviceSpec
devices_in group member = devices_by group member.1 member.0

-- the disk of a physical volume
unfoldable pub physical_disk : Physical → Disk
physical_disk physical = record { name = physical.disk; len = physical.size; at = source_line physical.line }

-- the names that a volume of this role needs: one for each of its layers, and None for the volume itself
abbrev pub layers_of : Role → List (Option Layer)
layers_of roles.Plain = None ∷ []
layers_of roles.Origin = Some Real ∷ None ∷ []
layers_of (roles.Store snapshot) = Some Cow ∷ None ∷ []
layers_of roles.Record = []
layers_of roles.Clashing = []

-- one fault if no device name can be built for a volume, or for this layer of the volume
abbrev pub unnamed_layer : List ℕ → Volume → Option Layer → List LoadFault
unnamed_layer group volume layer = hit (is_some (fault_of (device_parts group volume.name layer))) Name volume.line

-- the faults of a volume for which a device name can't be built
unfoldable pub unnamed_volume : List ℕ → Role × Volume → List LoadFault
unnamed_volume group member = flat_map (unnamed_layer group member.1) (layers_of member.0)

-- the volumes of a group with their roles
abbrev pub members_of : Group → List (Role × Volume)
members_of group = zip (roles_of group.volumes) group.volumes

-- the faults of all volumes for which a device name can't be built, in order
abbrev pub unnamed : Group → List LoadFault
unnamed group = flat_map (unnamed_volume group.name) (members_of group)

-- the devices and the disks of a group
abbrev pub tables_of : Group → List DeviceSpec × List Disk
tables_of group = (flat_map (devices_in group) (members_of group), map physical_disk group.physicals)

-- What the checks ensure: numbers of sectors fit 64 bits, stripes are on physical volumes that exist, and the origins of snapshots have the role Origin

-- the stripe is on a physical volume that exists, and its first sector on the disk fits 64 bits
pub record IsStripeIn (extent_size : ℕ) (physicals : List Physical) (stripe : Stripe) : Type 0 where
  pub there : stripe.physical < length physicals
  pub offset : (physical_at physicals stripe.physical).start + stripe.extent * extent_size < 2 ^ 64

-- the start, length and end of the segment fit 64 bits when counted in sectors, and its stripes satisfy IsStripeIn
pub record IsSegmentIn (extent_size : ℕ) (physicals : List Physical) (segment : Segment) : Type 0 where
  pub start : segment.start * extent_size < 2 ^ 64
  pub len : segment.count * extent_size < 2 ^ 64
  pub end : (segment.start + segment.count) * extent_size < 2 ^ 64
  pub stripes : AllByRecursion (IsStripeIn extent_size physicals) (stripes_of segment.target)

-- IsSegmentIn holds for each of the segments
abbrev pub AreSegmentsIn : Group → List Segment → Type 0
AreSegmentsIn group segments = AllByRecursion (IsSegmentIn group.extent_size group.physicals) segments

-- IsSegmentIn holds for all segments of the group, and the origin of every snapshot has the role Origin
pub record IsSoundGroup (group : Group) : Type 0 where
  pub volumes : AllByRecursion (λ volume. AreSegmentsIn group volume.segments) group.volumes
  pub origins : AllByRecursion (λ snapshot. role_at (roles_of group.volumes) snapshot.origin ≡ roles.Origin) (records_of group.volumes)

-- ---- what the devices of a volume require: lengths that fit 64 bits, and valid names

-- if the volume is a store, the length of the snapshot's origin fits 64 bits, and a name can be built for the origin's layer
abbrev pub IsSnapshotIn : Group → Role → Type 0
IsSnapshotIn group (roles.Store snapshot) =
    (length_of group (segments_at group.volumes snapshot.origin) < 2 ^ 64) × IsNamed group.name (name_at group.volumes snapshot.origin) (Some Real)
IsSnapshotIn group role = ⊤

-- the devices of a volume that has this role can be made
pub record IsMadeIn (group : Group) (member : Role × Volume) : Type 0 where
  pub segments : AreSegmentsIn group member.1.segments
  pub length : length_of group member.1.segments < 2 ^ 64
  pub names : unnamed_volume group.name member ≡ []
  pub snapshot : IsSnapshotIn group member.0

-- the fault of a load for a fault of the metadata text
abbrev pub text_fault : TextFault → LoadFault
text_fault (texts.Token line) = fault_at Source Syntax line
text_fault (texts.Syntax line) = fault_at Source Syntax line
text_fault (texts.KeyTwice line) = fault_at Source Twice line
text_fault (texts.Deep line) = fault_at Source Deep line
text_fault (texts.Number line) = fault_at Source Field line
text_fault texts.Memory = fault_at Source Memory 0
