-- If no check finds a fault, the origin of every snapshot has the role Origin.
use Rattle.lvm_volume.proofs.Prelude.{ℕ, zero, suc, Bool, true, false, cond, not, List, [], length, map, refl, sym, ap, subst, ◌∙◌, arith, filter, nat_lt, slice_index_or, AllByRecursion, enumerate_from, list_any, eq-eqb, eqb-true, ltb-true, not-false, or_parts, or_right, Record, Role, Segment, SegmentType, Volume, is_unknown, stripes_of, volumes_named, is_bad_snapshot, is_bad_target, is_record, is_store, recorded, records_of, role_at, role_by, role_of, roles_of, snapshot_of, unless_recorded, all_append, all_changed, Snapshot}
use Rattle.lvm_volume.specs.declared.group.roles.Role.TheVariants as roles
use Rattle.std.specs.Prelude.{◌≡◌, ◌+◌, ◌<◌, ◌==◌, ◌∷◌}

-- ---- lists of snapshots

pub all_paired : (P Q : Record → Type 0) (xs : List Record) → AllByRecursion P xs → AllByRecursion Q xs → AllByRecursion (λ snapshot. P snapshot × Q snapshot) xs
all_paired P Q [] a b = tt
all_paired P Q (x ∷ xs) a b = ((a.0, b.0), all_paired P Q xs a.1 b.1)

pub all_filtered : (P : Record → Type 0) (test : Record → Bool) (xs : List Record) → AllByRecursion P xs → AllByRecursion (λ snapshot. (test snapshot ≡ true) × P snapshot) (filter test xs)
all_filtered P test [] a = tt
all_filtered P test (x ∷ xs) a = by_test (test x) refl (all_filtered P test xs a.1) where
  by_test : (b : Bool) → test x ≡ b → AllByRecursion (λ snapshot. (test snapshot ≡ true) × P snapshot) (filter test xs) → AllByRecursion (λ snapshot. (test snapshot ≡ true) × P snapshot) (cond b (x ∷ filter test xs) (filter test xs))
  by_test true is more = ((is, a.0), more)
  by_test false is more = more

-- some snapshot in the list has the same origin
abbrev has_origin : List Record → Record → Type 0
has_origin snapshots snapshot = list_any (λ other. other.origin == snapshot.origin) snapshots ≡ true

all_among : (snapshots : List Record) → AllByRecursion (has_origin snapshots) snapshots
all_among [] = tt
all_among (snapshot ∷ snapshots) = (
  rw (eq-eqb snapshot.origin snapshot.origin refl),
  all_changed (has_origin snapshots) (has_origin (snapshot ∷ snapshots)) snapshots (λ other is. or_right (snapshot.origin == other.origin) _ is) (all_among snapshots),
)

-- ---- what the checks ensure about a snapshot

record IsAllowed (count : ℕ) (all : List Role) (snapshot : Record) : Type 0 where
  there : snapshot.origin < count
  no_record : is_record (role_at all snapshot.origin) ≡ false
  store : is_store (role_at all snapshot.store) ≡ true

allowed_target : (count : ℕ) (volumes : List Volume) (all : List Role) (extents line : ℕ) (target : SegmentType) → list_any (λ position. not (nat_lt position count)) (volumes_named target) ≡ false → is_bad_target volumes all true extents target ≡ false
    → AllByRecursion (IsAllowed count all) (snapshot_of line target)
allowed_target count volumes all extents line (Snapshot chunk_size origin store) known good =
    let a = or_parts (is_record (role_at all origin)) _ good in
    let b = or_parts (not (is_store (role_at all store))) _ a.1 in
    (record { there = ltb-true origin count (not-false (nat_lt origin count) (or_parts (not (nat_lt origin count)) _ known).0); no_record = a.0; store = not-false (is_store (role_at all store)) b.0 }, tt)
allowed_target count volumes all extents line target known good = tt

allowed_in : (physicals count : ℕ) (volumes : List Volume) (all : List Role) (segments : List Segment) → AllByRecursion (λ segment. is_unknown physicals count segment ≡ false) segments
    → AllByRecursion (λ segment. is_bad_snapshot volumes all (length segments == 1) segment ≡ false) segments → AllByRecursion (IsAllowed count all) (recorded segments)
allowed_in physicals count volumes all (segment ∷ []) known good =
    allowed_target count volumes all segment.count segment.line segment.target (or_parts (list_any (λ stripe. not (nat_lt stripe.physical physicals)) (stripes_of segment.target)) _ known.0).1 good.0
allowed_in physicals count volumes all segments known good = tt

all_allowed : (physicals count : ℕ) (volumes : List Volume) (all : List Role) (left : List Volume) → AllByRecursion (λ volume. AllByRecursion (λ segment. is_unknown physicals count segment ≡ false) volume.segments) left
    → AllByRecursion (λ volume. AllByRecursion (λ segment. is_bad_snapshot volumes all (length volume.segments == 1) segment ≡ false) volume.segments) left → AllByRecursion (IsAllowed count all) (records_of left)
all_allowed physicals count volumes all [] known good = tt
all_allowed physicals count volumes all (volume ∷ left) known good =
    all_append (IsAllowed count all) (recorded volume.segments) (records_of left) (allowed_in physicals count volumes all volume.segments known.0 good.0) (all_allowed physicals count volumes all left known.1 good.1)

-- ---- the role of an origin

role_there : (snapshots : List Record) (first i : ℕ) (volumes : List Volume) → i < length volumes → (volume : Volume) × (slice_index_or (map (role_of snapshots) (enumerate_from first volumes)) i roles.Plain ≡ role_of snapshots (first + i, volume))
role_there snapshots first i [] within = absurd (omega (arith, within))
role_there snapshots first zero (volume ∷ volumes) within = (volume, ap (λ (n : ℕ). role_of snapshots (n, volume)) (omega arith))
role_there snapshots first (suc i) (volume ∷ volumes) within =
    let more = role_there snapshots (first + 1) i volumes (omega (arith, within)) in
    (more.0, more.1 ∙ ap (λ (n : ℕ). role_of snapshots (n, more.0)) (omega arith))

origin_by : (own : List Record) (is_origin : Bool) (stored : List Record) → is_origin ≡ true → is_record (unless_recorded own (role_by is_origin stored)) ≡ false
    → AllByRecursion (λ snapshot. is_store (unless_recorded own (role_by is_origin stored)) ≡ true) stored → unless_recorded own (role_by is_origin stored) ≡ roles.Origin
origin_by (snapshot ∷ own) is_origin stored is none allowed = absurd cc
origin_by [] false stored is none allowed = absurd cc
origin_by [] true [] is none allowed = refl
origin_by [] true (s ∷ []) is none allowed = let wrong = allowed.0 in absurd cc
origin_by [] true (s ∷ t ∷ stored) is none allowed = let wrong = allowed.0 in absurd cc

is_origin : (volumes : List Volume) (snapshot : Record) → AllByRecursion (IsAllowed (length volumes) (roles_of volumes)) (records_of volumes) → IsAllowed (length volumes) (roles_of volumes) snapshot → has_origin (records_of volumes) snapshot
    → role_at (roles_of volumes) snapshot.origin ≡ roles.Origin
is_origin volumes snapshot all allowed among =
    let snapshots = records_of volumes in
    let position = snapshot.origin in
    let there = role_there snapshots 0 position volumes allowed.there in
    let volume = there.0 in
    let is : role_at (roles_of volumes) position ≡ role_of snapshots (position, volume) = there.1 ∙ ap (λ (n : ℕ). role_of snapshots (n, volume)) (omega arith) in
    let stored = all_changed (λ (s : Record). ((s.store == position) ≡ true) × IsAllowed (length volumes) (roles_of volumes) s) (λ (s : Record). is_store (role_of snapshots (position, volume)) ≡ true)
    (filter (λ s. s.store == position) snapshots)
    (λ s h. subst (λ (role : Role). is_store role ≡ true) is (subst (λ (n : ℕ). is_store (role_at (roles_of volumes) n) ≡ true) (eqb-true s.store position h.0) h.1.store))
    (all_filtered (IsAllowed (length volumes) (roles_of volumes)) (λ s. s.store == position) snapshots all) in
    is ∙ origin_by (recorded volume.segments) (list_any (λ s. s.origin == position) snapshots) (filter (λ s. s.store == position) snapshots) among (sym (ap is_record is) ∙ allowed.no_record) stored

pub all_origins : (physicals : ℕ) (volumes : List Volume) → AllByRecursion (λ volume. AllByRecursion (λ segment. is_unknown physicals (length volumes) segment ≡ false) volume.segments) volumes
    → AllByRecursion (λ volume. AllByRecursion (λ segment. is_bad_snapshot volumes (roles_of volumes) (length volume.segments == 1) segment ≡ false) volume.segments) volumes
    → AllByRecursion (λ snapshot. role_at (roles_of volumes) snapshot.origin ≡ roles.Origin) (records_of volumes)
all_origins physicals volumes known good =
    let allowed = all_allowed physicals (length volumes) volumes (roles_of volumes) volumes known good in
    all_changed (λ (s : Record). IsAllowed (length volumes) (roles_of volumes) s × has_origin (records_of volumes) s) (λ (s : Record). role_at (roles_of volumes) s.origin ≡ roles.Origin)
    (records_of volumes) (λ s h. is_origin volumes s allowed h.0 h.1) (all_paired (IsAllowed (length volumes) (roles_of volumes)) (has_origin (records_of volumes)) (records_of volumes) allowed (all_among (records_of volumes)))
