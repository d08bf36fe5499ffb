-- The checks of a group that come after those of its fields: disk names, what segments refer to, snapshots, and how extents are used.
use Rattle.lvm_volume.specs.Base.{ℕ, Bool, false, not, List, [], Option, Some, None, nat_lt, length, map, min, slice_index, list_any, Source, LoadKind, Name, Unknown, Extents, LoadFault, faults_by, is_disk_name, Stripe, SegmentType, Zero, Error, Striped, Snapshot, Segment, Physical}
use Rattle.dm_table.specs.declared.load.place.Place.{Place}
use Rattle.dm_table.specs.declared.load.load_fault.LoadKind.TheVariants as loads
use Rattle.lvm_volume.specs.declared.group.volume.Volume.{Volume}
use Rattle.lvm_volume.specs.fields.Fields.{source_faults}
use Rattle.lvm_volume.specs.group.Group.{Group}
use Rattle.lvm_volume.specs.group.Roles.{is_bad_snapshot, roles_of}
use Rattle.std.specs.Prelude.{◌+◌, ◌*◌, ◌/◌, ◌%◌, ◌&&◌, ◌||◌, ◌==◌, ◌∷◌, ◌++◌, if◌then◌else◌}

-- the place of a line in the metadata text
abbrev pub source_line : ℕ → Place
source_line line = record { part = Source; number = line }

-- one fault of this kind on a line if the test is true, or else none
abbrev pub hit : Bool → LoadKind → ℕ → List LoadFault
hit bad kind line = if bad then source_faults kind line else []

-- the fault Name for each physical volume whose disk gets no valid name. The key of such a volume has more than 255 bytes, since any shorter key is valid
abbrev pub name_faults : List Physical → List LoadFault
name_faults physicals = faults_by Name (λ physical. source_line physical.line) (λ physical. not (is_disk_name physical.disk)) physicals

-- ---- the first segment of a text for which a test is true: the one on the least line, whatever the segment's number in its volume

-- the lesser of two lines, or the first one if there is no other
abbrev pub lesser : ℕ → Option ℕ → ℕ
lesser line None = line
lesser line (Some other) = min line other

-- the least line among `later`, if there is one, and the lines of the segments for which the test is true
abbrev pub least_line : (Segment → Bool) → List Segment → Option ℕ → Option ℕ
least_line test [] later = later
least_line test (segment ∷ segments) later = if test segment then Some (lesser segment.line (least_line test segments later)) else least_line test segments later

-- the least line of a segment, in any volume, for which the test is true; `alone` is true if the segment is the only one of its volume
abbrev pub least_line_of : ((alone : Bool) → Segment → Bool) → List Volume → Option ℕ
least_line_of test [] = None
least_line_of test (volume ∷ volumes) = least_line (test (length volume.segments == 1)) volume.segments (least_line_of test volumes)

-- one fault of this kind on the line if there is a line, or else none
abbrev pub at_line : LoadKind → Option ℕ → List LoadFault
at_line kind None = []
at_line kind (Some line) = source_faults kind line

-- ---- Unknown: a stripe is on an unknown physical volume, or the origin or store of a snapshot is an unknown logical volume

-- the stripes of a segment; a segment that isn't striped has none
abbrev pub stripes_of : SegmentType → List Stripe
stripes_of (Striped stripe_size stripes) = stripes
stripes_of Zero = []
stripes_of Error = []
stripes_of (Snapshot chunk_size origin store) = []

-- the positions of the volumes that a segment refers to: the origin and the store of a snapshot, and none for other segments
abbrev pub volumes_named : SegmentType → List ℕ
volumes_named (Snapshot chunk_size origin store) = origin ∷ store ∷ []
volumes_named (Striped stripe_size stripes) = []
volumes_named Zero = []
volumes_named Error = []

-- the segment refers to a physical or logical volume that doesn't exist; `physicals` and `volumes` count those that do
abbrev pub is_unknown : (physicals volumes : ℕ) → Segment → Bool
is_unknown physicals volumes segment =
    list_any (λ stripe. not (nat_lt stripe.physical physicals)) (stripes_of segment.target) || list_any (λ position. not (nat_lt position volumes)) (volumes_named segment.target)

-- the fault of the first segment in the text that refers to a physical or logical volume that doesn't exist
abbrev pub unknown_faults : Group → List LoadFault
unknown_faults group = at_line Unknown (least_line_of (λ alone. is_unknown (length group.physicals) (length group.volumes)) group.volumes)

-- ---- Snapshot: a snapshot doesn't fit the other volumes of its group

-- the fault of the first segment in the text that is a snapshot which doesn't fit the other volumes
abbrev pub snapshot_faults_in : List Volume → List LoadFault
snapshot_faults_in volumes = at_line loads.Snapshot (least_line_of (is_bad_snapshot volumes (roles_of volumes)) volumes)

-- the fault of the first segment in a group's text that is a snapshot which doesn't fit the other volumes
abbrev pub snapshot_faults : Group → List LoadFault
snapshot_faults group = snapshot_faults_in group.volumes

-- ---- Extents: a physical volume is longer than its device

-- the extents of a physical volume end beyond the last sector of its device
abbrev pub is_too_long : ℕ → Physical → Bool
is_too_long extent_size physical = nat_lt physical.size (physical.start + physical.count * extent_size)

-- one fault for each physical volume whose extents end beyond the last sector of its device
abbrev pub size_faults : ℕ → List Physical → List LoadFault
size_faults extent_size physicals = faults_by Extents (λ physical. source_line physical.line) (is_too_long extent_size) physicals

-- ---- Extents: a segment is misplaced, or extents are used twice

-- a range of extents on a physical volume: from `first` up to but not including `end`
pub record Claim : Type 0 where
  pub physical : ℕ
  pub first : ℕ
  pub end : ℕ

-- a range of extents on a physical volume, given its three fields
abbrev pub claim_on : (physical first end : ℕ) → Claim
claim_on physical first end = record { physical = physical; first = first; end = end }

-- the two ranges have an extent of the same physical volume in common
abbrev pub meets : Claim → Claim → Bool
meets a b = a.physical == b.physical && (nat_lt a.first b.end && nat_lt b.first a.end)

-- how many extents the physical volume at position i has
abbrev pub extents_at : List Physical → ℕ → ℕ
extents_at physicals i = slice_index (map (λ physical. physical.count) physicals) i

-- how many parts a segment's extents are divided into: the number of its stripes, or 1
abbrev pub parts_of : SegmentType → ℕ
parts_of (Striped stripe_size stripes) = length stripes
parts_of Zero = 1
parts_of Error = 1
parts_of (Snapshot chunk_size origin store) = 1

-- the ranges of extents that a segment uses: one for each stripe, all of the same length
abbrev pub claims_of : Segment → List Claim
claims_of segment =
    map (λ stripe. claim_on stripe.physical stripe.extent (stripe.extent + segment.count / parts_of segment.target)) (stripes_of segment.target)

-- one of the ranges in the list extends beyond its physical volume, or overlaps a range in `used` or an earlier range in the list
abbrev pub have_clash : List Physical → List Claim → List Claim → Bool
have_clash physicals used [] = false
have_clash physicals used (claim ∷ claims) =
    nat_lt (extents_at physicals claim.physical) claim.end || (list_any (meets claim) used || have_clash physicals (claim ∷ used) claims)

-- the ranges in use after the second list of ranges was added to those in `used`
abbrev pub used_by : List Claim → List Claim → List Claim
used_by used [] = used
used_by used (claim ∷ claims) = used_by (claim ∷ used) claims

-- the segment doesn't start at extent `end`, is empty, can't be divided evenly among its stripes, or uses an extent that is in use
abbrev pub is_misplaced : List Physical → List Claim → ℕ → Segment → Bool
is_misplaced physicals used end segment =
    not (segment.start == end)
    || (segment.count == 0
    || (parts_of segment.target == 0
    || (not (segment.count % parts_of segment.target == 0) || have_clash physicals used (claims_of segment))))

-- one fault for each misplaced segment of a volume; the first of the segments has to start at extent `end`
abbrev pub segment_faults : List Physical → List Claim → ℕ → List Segment → List LoadFault
segment_faults physicals used end [] = []
segment_faults physicals used end (segment ∷ segments) =
    hit (is_misplaced physicals used end segment) Extents segment.line
    ++ segment_faults physicals (used_by used (claims_of segment)) (segment.start + segment.count) segments

-- the ranges in use after those of the segments were added to `used`
abbrev pub used_after : List Claim → List Segment → List Claim
used_after used [] = used
used_after used (segment ∷ segments) = used_after (used_by used (claims_of segment)) segments

-- one fault for each misplaced segment of the volumes; the ranges `used` are in use before the first one
abbrev pub volume_faults : List Physical → List Claim → List Volume → List LoadFault
volume_faults physicals used [] = []
volume_faults physicals used (volume ∷ volumes) =
    segment_faults physicals used 0 volume.segments ++ volume_faults physicals (used_after used volume.segments) volumes
