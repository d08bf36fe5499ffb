-- The roles that the volumes of a group have for its snapshots: record, origin or store (lvm(8), lvcreate(8) "--snapshot").
use Rattle.lvm_volume.specs.Base.{ℕ, Bool, true, false, not, List, [], Option, Some, None, filter, length, map, slice_get, slice_index_or, enumerate_from, flat_map, list_any, SegmentType, Zero, Error, Striped, Snapshot, Segment, Record, Role}
use Rattle.lvm_volume.specs.declared.group.volume.Volume.{Volume}
use Rattle.lvm_volume.specs.declared.group.roles.Role.TheVariants as roles
use Rattle.std.specs.Prelude.{◌+◌, ◌-◌, ◌||◌, ◌==◌, ◌∷◌}

-- ---- Records: volumes whose only segment is of type snapshot, and names the snapshot's origin and its store

-- the snapshot that a segment describes, or none if the segment isn't of type snapshot; `line` is the segment's line
abbrev pub snapshot_of : (line : ℕ) → SegmentType → List Record
snapshot_of line (Snapshot chunk_size origin store) = record { chunk_size = chunk_size; origin = origin; store = store; line = line } ∷ []
snapshot_of line (Striped stripe_size stripes) = []
snapshot_of line Zero = []
snapshot_of line Error = []

-- the snapshot of which a volume with these segments is the record, or none if the volume isn't a record
abbrev pub recorded : List Segment → List Record
recorded [] = []
recorded (segment ∷ []) = snapshot_of segment.line segment.target
recorded (segment ∷ second ∷ more) = []

-- the snapshots of which the volumes are records, in order
abbrev pub records_of : List Volume → List Record
records_of volumes = flat_map (λ volume. recorded volume.segments) volumes

-- ---- the roles of volumes

-- the role of a volume that isn't a record, given whether it is an origin, and the snapshots that have it as their store
abbrev pub role_by : (is_origin : Bool) → (stored : List Record) → Role
role_by false [] = roles.Plain
role_by true [] = roles.Origin
role_by false (snapshot ∷ []) = roles.Store snapshot
role_by true (snapshot ∷ []) = roles.Clashing
role_by is_origin (snapshot ∷ second ∷ more) = roles.Clashing

-- the role Record if the volume is a record, or else the given role
abbrev pub unless_recorded : List Record → Role → Role
unless_recorded [] role = role
unless_recorded (snapshot ∷ more) role = roles.Record

-- the role of a volume at a position, given all snapshots of the group
abbrev pub role_of : List Record → ℕ × Volume → Role
role_of snapshots at =
    unless_recorded (recorded at.1.segments) (role_by (list_any (λ snapshot. snapshot.origin == at.0) snapshots) (filter (λ snapshot. snapshot.store == at.0) snapshots))

-- the roles of all volumes, in order, given all snapshots of the group
abbrev pub roles_among : List Record → List Volume → List Role
roles_among snapshots volumes = map (role_of snapshots) (enumerate_from 0 volumes)

-- the roles of all volumes, in order
abbrev pub roles_of : List Volume → List Role
roles_of volumes = roles_among (records_of volumes) volumes

-- ---- look-ups by position

-- the role of the volume at a position; Plain if there is no such position
abbrev pub role_at : List Role → ℕ → Role
role_at all position = slice_index_or all position roles.Plain

-- the segments of the volume at a position; none if there is no such position
abbrev pub segments_at : List Volume → ℕ → List Segment
segments_at volumes position = slice_index_or (map (λ volume. volume.segments) volumes) position []

-- the name of the volume at a position; empty if there is no such position
abbrev pub name_at : List Volume → ℕ → List ℕ
name_at volumes position = slice_index_or (map (λ volume. volume.name) volumes) position []

-- the volume is the record of a snapshot
abbrev pub is_record : Role → Bool
is_record roles.Record = true
is_record _ = false

-- the volume is the exception store of exactly one snapshot, and nothing else
abbrev pub is_store : Role → Bool
is_store (roles.Store snapshot) = true
is_store _ = false

-- the extent after the last one of a segment, or 0 if there is no segment
abbrev pub end_of : Option Segment → ℕ
end_of None = 0
end_of (Some segment) = segment.start + segment.count

-- how many extents a volume has: where its last segment ends
abbrev pub extents_of : List Segment → ℕ
extents_of segments = end_of (slice_get segments (length segments - 1))

-- the snapshot isn't the only segment of its volume, or its origin is a record, or its store also has another role, or the snapshot has more or fewer extents
-- than its origin
abbrev pub is_bad_target : List Volume → List Role → (alone : Bool) → (count : ℕ) → SegmentType → Bool
is_bad_target volumes all alone count (Snapshot chunk_size origin store) =
    not alone
    || (is_record (role_at all origin)
    || (not (is_store (role_at all store)) || not (extents_of (segments_at volumes origin) == count)))
is_bad_target volumes all alone count (Striped stripe_size stripes) = false
is_bad_target volumes all alone count Zero = false
is_bad_target volumes all alone count Error = false

-- the segment is a snapshot that doesn't fit the other volumes; `alone` is true if the segment is the only one of its volume
abbrev pub is_bad_snapshot : List Volume → List Role → (alone : Bool) → Segment → Bool
is_bad_snapshot volumes all alone segment = is_bad_target volumes all alone segment.count segment.target
