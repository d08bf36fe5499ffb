-- What is needed to make the devices of a sound group, volume by volume.
use Rattle.lvm_volume.proofs.Prelude.{ℕ, zero, suc, Bool, true, false, List, [], map, Option, Some, None, arith, IfSome, filter, slice_get, slice_index_or, AllByRecursion, enumerate_from, flat_map, list_any, zip, first_or, Real, Physical, Record, Role, Segment, Volume, Group, fault_of, end_of, name_at, recorded, records_of, role_at, role_by, role_of, roles_of, segments_at, unless_recorded, IsMadeIn, IsSegmentIn, IsSnapshotIn, IsSoundGroup, members_of, device_parts, length_of, unnamed, unnamed_volume, first_or-none, all_changed, append-nil_both}
use Rattle.lvm_volume.specs.declared.group.roles.Role.TheVariants as roles
use Rattle.lvm_volume.proofs.tables.NamedLemmas.{origin_named}
use Rattle.lvm_volume.proofs.checks.OriginLemmas.{all_filtered}
use Rattle.std.specs.Prelude.{◌≡◌, ◌+◌, ◌*◌, ◌^◌, ◌<◌, ◌==◌, ◌∷◌}

-- ---- the lengths of volumes

abbrev SegmentsFit : ℕ → List Physical → List Segment → Type 0
SegmentsFit size physicals = AllByRecursion (IsSegmentIn size physicals)

one_there : (size : ℕ) (physicals : List Physical) (segments : List Segment) (i : ℕ) → SegmentsFit size physicals segments → IfSome (slice_get segments i) (IsSegmentIn size physicals)
one_there size physicals [] i fit = tt
one_there size physicals (segment ∷ segments) zero fit = fit.0
one_there size physicals (segment ∷ segments) (suc i) fit = one_there size physicals segments i fit.1

end_fits : (size : ℕ) (physicals : List Physical) (last : Option Segment) → IfSome last (IsSegmentIn size physicals) → end_of last * size < 2 ^ 64
end_fits size physicals None fit = omega arith
end_fits size physicals (Some segment) fit = fit.end

length_fits : (group : Group) (segments : List Segment) → SegmentsFit group.extent_size group.physicals segments → length_of group segments < 2 ^ 64
length_fits group segments fit = end_fits group.extent_size group.physicals (slice_get segments _) (one_there group.extent_size group.physicals segments _ fit)

fit_at : (size : ℕ) (physicals : List Physical) (volumes : List Volume) (i : ℕ) → AllByRecursion (λ volume. SegmentsFit size physicals volume.segments) volumes → SegmentsFit size physicals (segments_at volumes i)
fit_at size physicals [] i fit = tt
fit_at size physicals (volume ∷ volumes) zero fit = fit.0
fit_at size physicals (volume ∷ volumes) (suc i) fit = fit_at size physicals volumes i fit.1

-- ---- the layer of an origin has a valid name

real_named : (group : List ℕ) (snapshots : List Record) (first i : ℕ) (volumes : List Volume) → flat_map (unnamed_volume group) (zip (map (role_of snapshots) (enumerate_from first volumes)) volumes) ≡ []
    → slice_index_or (map (role_of snapshots) (enumerate_from first volumes)) i roles.Plain ≡ roles.Origin → fault_of (device_parts group (name_at volumes i) (Some Real)) ≡ None
real_named group snapshots first i [] none is = absurd cc
real_named group snapshots first zero (volume ∷ volumes) none is =
    let here = (append-nil_both (unnamed_volume group (role_of snapshots (first, volume), volume)) _ none).0 in
    (origin_named group (role_of snapshots (first, volume)) volume here is).0
real_named group snapshots first (suc i) (volume ∷ volumes) none is =
    real_named group snapshots (first + 1) i volumes (append-nil_both (unnamed_volume group (role_of snapshots (first, volume), volume)) _ none).1 is

-- ---- the snapshot of a store is one of the group's snapshots

abbrev FitsIn : Group → Record → Type 0
FitsIn group snapshot = (length_of group (segments_at group.volumes snapshot.origin) < 2 ^ 64) × (fault_of (device_parts group.name (name_at group.volumes snapshot.origin) (Some Real)) ≡ None)

snapshot_by : (group : Group) (own : List Record) (is_origin : Bool) (stored : List Record) → AllByRecursion (FitsIn group) stored → IsSnapshotIn group (unless_recorded own (role_by is_origin stored))
snapshot_by group [] false (s ∷ []) fit = fit.0
snapshot_by group [] true (s ∷ t ∷ stored) fit = tt
snapshot_by group own is_origin stored fit = tt

snapshot_fits : (group : Group) (snapshots : List Record) (at : ℕ × Volume) → AllByRecursion (FitsIn group) snapshots → IsSnapshotIn group (role_of snapshots at)
snapshot_fits group snapshots at fit =
    let test : Record → Bool = λ snapshot. snapshot.store == at.0 in
    snapshot_by group (recorded at.1.segments) (list_any (λ snapshot. snapshot.origin == at.0) snapshots) (filter test snapshots)
    (all_changed (λ (s : Record). (test s ≡ true) × FitsIn group s) (FitsIn group) (filter test snapshots) (λ s h. h.1) (all_filtered (FitsIn group) test snapshots fit))

-- ---- all volumes of a group

made_from : (group : Group) (snapshots : List Record) (first : ℕ) (volumes : List Volume) → AllByRecursion (FitsIn group) snapshots → AllByRecursion (λ volume. SegmentsFit group.extent_size group.physicals volume.segments) volumes
    → flat_map (unnamed_volume group.name) (zip (map (role_of snapshots) (enumerate_from first volumes)) volumes) ≡ [] → AllByRecursion (IsMadeIn group) (zip (map (role_of snapshots) (enumerate_from first volumes)) volumes)
made_from group snapshots first [] fits segments none = tt
made_from group snapshots first (volume ∷ volumes) fits segments none =
    let names = append-nil_both (unnamed_volume group.name (role_of snapshots (first, volume), volume)) _ none in (
      record { segments = segments.0; length = length_fits group volume.segments segments.0; names = names.0; snapshot = snapshot_fits group snapshots (first, volume) fits },
      made_from group snapshots (first + 1) volumes fits segments.1 names.1,
    )

-- the devices of a sound group can be made if each of them gets a name
pub all_made : (group : Group) → IsSoundGroup group → first_or (unnamed group) None ≡ None → AllByRecursion (IsMadeIn group) (members_of group)
all_made group sound named =
    let none = (first_or-none (unnamed group) None named).0 in
    let snapshots = records_of group.volumes in
    let fits = all_changed (λ (s : Record). role_at (roles_of group.volumes) s.origin ≡ roles.Origin) (FitsIn group) snapshots
    (λ s is. (length_fits group (segments_at group.volumes s.origin) (fit_at group.extent_size group.physicals group.volumes s.origin sound.volumes), real_named group.name snapshots 0 s.origin group.volumes none is))
    sound.origins in
    made_from group snapshots 0 group.volumes fits sound.volumes none

-- ---- the parts of a group, one by one

pub names_of : (group : Group) (name : List ℕ) (all : List Role) (volumes : List Volume) → name ≡ group.name → all ≡ roles_of group.volumes → volumes ≡ group.volumes
    → first_or (flat_map (unnamed_volume name) (zip all volumes)) None ≡ first_or (unnamed group) None
names_of group name all volumes is_name are_roles are_volumes = rw (is_name, are_roles, are_volumes)

pub made_of : (group : Group) (name : List ℕ) (physicals : List Physical) (volumes : List Volume) (all : List Role) → name ≡ group.name → physicals ≡ group.physicals → volumes ≡ group.volumes → all ≡ roles_of group.volumes
    → AllByRecursion (IsMadeIn group) (members_of group) → AllByRecursion (IsMadeIn (record { name = name; extent_size = group.extent_size; physicals = physicals; volumes = volumes })) (zip all volumes)
made_of group name physicals volumes all is_name are_physicals are_volumes are_roles made = rw (is_name, are_physicals, are_volumes, are_roles) made
