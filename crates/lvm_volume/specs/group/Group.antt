-- What a group's metadata describes: the group, its physical volumes, and its logical volumes with their segments.
use Rattle.lvm_volume.specs.Base.{ℕ, Bool, false, not, List, [], nat_lt, bytes_eq, codes, count_by, map, list_any, position_or_len, code, is_disk_name, Tree, Scalar, Int, Text, Nothing, sections_of, Stripe, SegmentType, Zero, Error, Striped, Snapshot, Segment, Physical}
use Rattle.lvm_volume.specs.declared.group.positions.GroupPositions.{GroupPositions}
use Rattle.lvm_volume.specs.declared.group.volume.Volume.{Volume}
use Rattle.lvm_volume.specs.fields.Fields.{number_at, text_at, items_at, sections_at, segments_of, is_snapshot, is_striped}
use Rattle.std.specs.Prelude.{◌&&◌, ◌||◌, ◌==◌, ◌∷◌, if◌then◌else◌}

-- a volume group: its name, the extent size in sectors, its physical volumes, and its logical volumes
pub record Group : Type 0 where
  pub name : List ℕ
  pub extent_size : ℕ
  pub physicals : List Physical
  pub volumes : List Volume

-- a volume group, given its four parts
abbrev pub group_with : (name : List ℕ) → (extent_size : ℕ) → List Physical → List Volume → Group
group_with name extent_size physicals volumes = record { name = name; extent_size = extent_size; physicals = physicals; volumes = volumes }

-- ---- physical volumes

-- a section with its key
abbrev pub Keyed : Type 0
Keyed = List ℕ × Tree

-- the path of a physical volume's device, according to its section
abbrev pub device_of : Keyed → List ℕ
device_of physical = text_at (codes "device") physical.1

-- the text begins with a slash, as an absolute path does
abbrev pub begins_with_slash : List ℕ → Bool
begins_with_slash [] = false
begins_with_slash (b ∷ bs) = b == code "/"

-- more than one physical volume has this device
abbrev pub is_shared : List (List ℕ) → List ℕ → Bool
is_shared devices device = nat_lt 1 (count_by (λ other. bytes_eq device other) devices)

-- the name for a disk: the device if it is an absolute path, valid as a disk name and not shared, or else the key
unfoldable pub chosen : Bool → (key device : List ℕ) → List ℕ
chosen shared key device = if begins_with_slash device && (not shared && is_disk_name device) then device else key

-- the name for the disk of a physical volume; `devices` are the devices of all physical volumes
abbrev pub disk_name : List (List ℕ) → Keyed → List ℕ
disk_name devices physical = chosen (is_shared devices (device_of physical)) physical.0 (device_of physical)

-- the physical volume that a section describes; `devices` are the devices of all physical volumes
unfoldable pub physical_of : List (List ℕ) → Keyed → Physical
physical_of devices physical = record {
  disk = disk_name devices physical;
  size = number_at (codes "dev_size") physical.1;
  start = number_at (codes "pe_start") physical.1;
  count = number_at (codes "pe_count") physical.1;
  line = physical.1.line;
}

-- the physical volumes that the sections describe
abbrev pub physicals_in : List Keyed → List Physical
physicals_in sections = map (physical_of (map device_of sections)) sections

-- ---- logical volumes

-- the keys of the sections, in order
abbrev pub keys_in : List Keyed → List (List ℕ)
keys_in = map (λ section. section.0)

-- the position of a key in a list, or the length of the list if the key isn't in the list
abbrev pub position_of : List (List ℕ) → List ℕ → ℕ
position_of keys key = position_or_len (bytes_eq key) keys

-- the stripes that a list of pairs describes: in each pair, a physical volume's key and the first extent of the stripe on that volume
abbrev pub stripes_in : List (List ℕ) → List Scalar → List Stripe
stripes_in keys (Text key ∷ Int extent ∷ items) = record { physical = position_of keys key; extent = extent } ∷ stripes_in keys items
stripes_in keys _ = []

-- the striped segment that a section describes; `keys` are the keys of the physical volumes
abbrev pub striped_in : List (List ℕ) → Tree → SegmentType
striped_in keys segment = Striped (number_at (codes "stripe_size") segment) (stripes_in keys (items_at (codes "stripes") segment))

-- the snapshot segment that a section describes; `keys` are the keys of the logical volumes
abbrev pub snapshot_in : List (List ℕ) → Tree → SegmentType
snapshot_in keys segment =
    Snapshot (number_at (codes "chunk_size") segment) (position_of keys (text_at (codes "origin") segment)) (position_of keys (text_at (codes "cow_store") segment))

-- the type of a segment, with the stripes or logical volumes that the segment refers to
abbrev pub target_of : GroupPositions → Tree → SegmentType
target_of keys segment =
    if is_striped segment then striped_in keys.physicals segment
    else (if is_snapshot segment then snapshot_in keys.volumes segment
    else (if bytes_eq (text_at (codes "type") segment) (codes "zero") then Zero else Error))

-- the segment that a section describes
unfoldable pub segment_of : GroupPositions → Tree → Segment
segment_of keys segment = record {
  start = number_at (codes "start_extent") segment;
  count = number_at (codes "extent_count") segment;
  target = target_of keys segment;
  line = segment.line;
}

-- the scalar is this string
abbrev pub is_text_of : List ℕ → Scalar → Bool
is_text_of word (Text text) = bytes_eq text word
is_text_of word (Int n) = false

-- the list under a key contains this string
abbrev pub lists : (key word : List ℕ) → Tree → Bool
lists key word section = list_any (is_text_of word) (items_at key section)

-- the volume may be written; lvm2 can write the permission as WRITE_LOCKED, among the status or the flags
abbrev pub is_writable : Tree → Bool
is_writable volume =
    lists (codes "status") (codes "WRITE") volume
    || (lists (codes "status") (codes "WRITE_LOCKED") volume
    || lists (codes "flags") (codes "WRITE_LOCKED") volume)

-- the logical volume that a section describes
unfoldable pub volume_of : GroupPositions → Keyed → Volume
volume_of keys volume = record {
  name = volume.0;
  ro = not (is_writable volume.1);
  segments = map (segment_of keys) (segments_of volume.1);
  line = volume.1.line;
}

-- ---- the volume group

-- the keys of a group's physical volumes and of its logical volumes, in order
abbrev pub positions_in : Tree → GroupPositions
positions_in group = record {
  physicals = keys_in (sections_at (codes "physical_volumes") group);
  volumes = keys_in (sections_at (codes "logical_volumes") group);
}

-- the logical volumes in a group's section
abbrev pub volumes_in : Tree → List Volume
volumes_in group = map (volume_of (positions_in group)) (sections_at (codes "logical_volumes") group)

-- the volume group that a section describes
abbrev pub group_in : Keyed → Group
group_in group = record {
  name = group.0;
  extent_size = number_at (codes "extent_size") group.1;
  physicals = physicals_in (sections_at (codes "physical_volumes") group.1);
  volumes = volumes_in group.1;
}

-- the first section, or an empty one if there is none
abbrev pub first_section : List Keyed → Keyed
first_section [] = ([], record { line = 0; values = Nothing })
first_section (section ∷ sections) = section

-- the volume group of a metadata text, from its tree
abbrev pub group_of : Tree → Group
group_of top = group_in (first_section (sections_of top.values))
