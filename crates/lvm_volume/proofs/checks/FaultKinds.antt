-- No fault that a check of a group finds is one of memory.
use Rattle.lvm_volume.proofs.Prelude.{ℕ, Bool, true, false, List, [], length, codes, Option, Some, None, is_some, AllByRecursion, flat_map, range_with_len, Tree, Shown, node_of, sections_of, LoadKind, Memory, Name, Unknown, Extents, LoadFault, fault, faults_by, first_or, Check, Fields, Limits, Kind, Physical, Role, Segment, Volume, faults_of_fields, field_faults, fields_faults, group_faults, group_fields, is_asked, is_wrong, load_kind, missing, node_faults, number_at, one_group_faults, physical_fields, sections_at, segment_field, segment_fields, segments_of, source_faults, top_fields, volume_faults, volume_fields, Claim, at_line, claims_of, used_after, used_by, hit, is_misplaced, is_too_long, is_unknown, least_line_of, segment_faults, size_faults, snapshot_faults, source_line, unknown_faults, Group, Keyed, is_bad_snapshot, roles_of, fault_of, device_parts, layers_of, unnamed_layer, unnamed_volume}
use Rattle.dm_table.specs.declared.load.place.Place.{Place}
use Rattle.dm_table.specs.declared.load.load_fault.LoadKind.TheVariants as loads
use Rattle.lvm_volume.specs.fields.Fields.{Field}
use Rattle.lvm_volume.specs.checks.Extents as extents
use Rattle.std.specs.Prelude.{◌≡◌, ◌≢◌, ◌∷◌, ◌++◌, if◌then◌else◌, ◌+◌}

abbrev pub NoMemory : List LoadFault → Type 0
NoMemory = AllByRecursion (λ fault. fault.kind ≢ Memory)

pub first_kind : (faults : List LoadFault) (fault : LoadFault) → NoMemory faults → first_or faults None ≡ Some fault → fault.kind ≢ Memory
first_kind [] fault none e = absurd cc
first_kind (f ∷ faults) fault none e = let same : f ≡ fault = cc in λ memory. none.0 (rw same memory)

pub both : (xs ys : List LoadFault) → NoMemory xs → NoMemory ys → NoMemory (xs ++ ys)
both [] ys a b = b
both (x ∷ xs) ys a b = (a.0, both xs ys a.1 b)

pub each : {X : Type 0} (f : X → List LoadFault) → ((x : X) → NoMemory (f x)) → (xs : List X) → NoMemory (flat_map f xs)
each f h [] = tt
each f h (x ∷ xs) = both (f x) (flat_map f xs) (h x) (each f h xs)

-- a fault on a line if a test is true is not one of memory
if_hit : (b : Bool) (kind : LoadKind) (line : ℕ) → kind ≢ Memory → NoMemory (hit b kind line)
if_hit true kind line h = (h, tt)
if_hit false kind line h = tt

-- one fault in front of others, if a test is true: none is one of memory
if_bad : (b : Bool) (one : LoadFault) (more : List LoadFault) → one.kind ≢ Memory → NoMemory more → NoMemory (if b then one ∷ more else more)
if_bad true one more h left = (h, left)
if_bad false one more h left = left

by_kind : {X : Type 0} (kind : LoadKind) (at : X → Place) (bad : X → Bool) (xs : List X) → kind ≢ Memory → NoMemory (faults_by kind at bad xs)
by_kind kind at bad [] h = tt
by_kind kind at bad (x ∷ xs) h = if_bad (bad x) (fault kind (at x)) (faults_by kind at bad xs) h (by_kind kind at bad xs h)

check_kind : (check : Check) → load_kind check ≢ Memory
check_kind Fields = λ e. absurd cc
check_kind (Limits n) = λ e. absurd cc

of_missing : (check : Check) (line : ℕ) → NoMemory (missing check line)
of_missing Fields line = (λ e. absurd cc, tt)
of_missing (Limits n) line = tt

of_node : (check : Check) (kind : Kind) (tree : Tree) (node : Option Shown) → NoMemory (node_faults check kind tree node)
of_node check kind tree None = of_missing check tree.line
of_node check kind tree (Some shown) = by_test (is_wrong check kind tree shown.content) where
  by_test : (b : Bool) → NoMemory (if b then source_faults (load_kind check) shown.line else [])
  by_test true = (check_kind check, tt)
  by_test false = tt

of_field : (check : Check) (tree : Tree) (f : Field) → NoMemory (field_faults check tree f)
unfolding field_faults
of_field check tree f = by_test (is_asked f.when f.key tree) where
  by_test : (b : Bool) → NoMemory (if b then node_faults check f.kind tree (node_of f.key tree.values) else [])
  by_test true = of_node check f.kind tree (node_of f.key tree.values)
  by_test false = tt

of_fields : (check : Check) (tree : Tree) (fields : List Field) → NoMemory (fields_faults check tree fields)
of_fields check tree = each (field_faults check tree) (of_field check tree)

of_volume : (check : Check) (volume : Tree) → NoMemory (volume_faults check volume)
unfolding volume_faults
of_volume check volume =
    let numbers = range_with_len 1 (number_at (codes "segment_count") volume) in
    let keys = flat_map (λ i. field_faults check volume (segment_field i)) numbers in
    let inner = flat_map (λ segment. fields_faults check segment segment_fields) (segments_of volume) in
    both (fields_faults check volume volume_fields) (keys ++ inner) (of_fields check volume volume_fields)
    (both keys inner (each (λ i. field_faults check volume (segment_field i)) (λ i. of_field check volume (segment_field i)) numbers)
    (each (λ segment. fields_faults check segment segment_fields) (λ segment. of_fields check segment segment_fields) (segments_of volume)))

of_group : (check : Check) (group : Tree) → NoMemory (group_faults check group)
unfolding group_faults
of_group check group =
    let physicals = flat_map (λ (physical : Keyed). fields_faults check physical.1 physical_fields) (sections_at (codes "physical_volumes") group) in
    let volumes = flat_map (λ (volume : Keyed). volume_faults check volume.1) (sections_at (codes "logical_volumes") group) in
    both (fields_faults check group group_fields) (physicals ++ volumes) (of_fields check group group_fields)
    (both physicals volumes (each (λ (physical : Keyed). fields_faults check physical.1 physical_fields) (λ physical. of_fields check physical.1 physical_fields) (sections_at (codes "physical_volumes") group))
    (each (λ (volume : Keyed). volume_faults check volume.1) (λ volume. of_volume check volume.1) (sections_at (codes "logical_volumes") group)))

of_sections : (check : Check) (line : ℕ) (sections : List Keyed) → NoMemory (one_group_faults check line sections)
unfolding one_group_faults
of_sections check line [] = of_missing check line
of_sections check line (group ∷ []) = of_group check group.1
of_sections check line (group ∷ second ∷ more) = of_missing check second.1.line

pub of_walk : (check : Check) (top : Tree) → NoMemory (faults_of_fields check top)
of_walk check top = both (fields_faults check top top_fields) (one_group_faults check top.line (sections_of top.values)) (of_fields check top top_fields) (of_sections check top.line (sections_of top.values))

-- ---- the checks of the parts of a group

of_line : (kind : LoadKind) (line : Option ℕ) → kind ≢ Memory → NoMemory (at_line kind line)
of_line kind None other = tt
of_line kind (Some line) other = (other, tt)

of_segments : (physicals : List Physical) (used : List Claim) (end : ℕ) (segments : List Segment) → NoMemory (segment_faults physicals used end segments)
of_segments physicals used end [] = tt
of_segments physicals used end (segment ∷ segments) =
    both (hit (is_misplaced physicals used end segment) Extents segment.line) (segment_faults physicals (used_by used (claims_of segment)) (segment.start + segment.count) segments) (if_hit (is_misplaced physicals used end segment) Extents segment.line (λ e. absurd cc)) (of_segments physicals (used_by used (claims_of segment)) (segment.start + segment.count) segments)

of_volumes : (physicals : List Physical) (used : List Claim) (volumes : List Volume) → NoMemory (extents.volume_faults physicals used volumes)
of_volumes physicals used [] = tt
of_volumes physicals used (volume ∷ volumes) = both (segment_faults physicals used 0 volume.segments) (extents.volume_faults physicals (used_after used volume.segments) volumes) (of_segments physicals used 0 volume.segments) (of_volumes physicals (used_after used volume.segments) volumes)

pub of_unknown : (group : Group) → NoMemory (unknown_faults group)
of_unknown group = of_line Unknown (least_line_of (λ alone. is_unknown (length group.physicals) (length group.volumes)) group.volumes) (λ e. absurd cc)

pub of_snapshots : (group : Group) → NoMemory (snapshot_faults group)
of_snapshots group = of_line loads.Snapshot (least_line_of (is_bad_snapshot group.volumes (roles_of group.volumes)) group.volumes) (λ e. absurd cc)

pub of_extents : (group : Group) → NoMemory (size_faults group.extent_size group.physicals ++ extents.volume_faults group.physicals [] group.volumes)
of_extents group =
    both (size_faults group.extent_size group.physicals) (extents.volume_faults group.physicals [] group.volumes) (by_kind Extents (λ physical. source_line physical.line) (is_too_long group.extent_size) group.physicals (λ e. absurd cc)) (of_volumes group.physicals [] group.volumes)

-- ---- the check of device names

pub of_unnamed : (group : List ℕ) (members : List (Role × Volume)) → NoMemory (flat_map (unnamed_volume group) members)
unfolding unnamed_volume
of_unnamed group members = each (unnamed_volume group) one members where
  one : (member : Role × Volume) → NoMemory (unnamed_volume group member)
  one member = each (unnamed_layer group member.1) (λ layer. if_hit (is_some (fault_of (device_parts group member.1.name layer))) Name member.1.line (λ e. absurd cc)) (layers_of member.0)
