-- Roles as they are computed, one snapshot after the other.
use Rattle.lvm_volume.proofs.Prelude.{inl, inr, ℕ, zero, suc, Bool, true, false, cond, List, [], length, get_or, set, drop, map, refl, sym, ap, ◌∙◌, arith, filter, enumerate_from, list_any, zip, eq-eqb, ne_eqb, drop_more, Record, Role, Volume, changed, with_origin, with_store, recorded, records_of, role_by, role_of, unless_recorded}
use Rattle.std.specs.Prelude.{◌≡◌, ◌⊎◌, ◌+◌, ◌-◌, ◌<◌, ◌≤◌, ◌==◌, ◌∷◌, if◌then◌else◌, ◌||◌}

-- ---- the role of a volume after one more snapshot

more_origin : (own : List Record) (is_origin : Bool) (stored : List Record) → with_origin (unless_recorded own (role_by is_origin stored)) ≡ unless_recorded own (role_by true stored)
more_origin [] true (s ∷ t ∷ stored) = refl
more_origin [] false (s ∷ t ∷ stored) = refl
more_origin own is_origin stored = refl

more_store : (own : List Record) (is_origin : Bool) (stored : List Record) (snapshot : Record) → with_store snapshot (unless_recorded own (role_by is_origin stored)) ≡ unless_recorded own (role_by is_origin (snapshot ∷ stored))
more_store [] true (s ∷ t ∷ stored) snapshot = refl
more_store [] false (s ∷ t ∷ stored) snapshot = refl
more_store own is_origin stored snapshot = refl

-- the role after one more snapshot, by whether the volume is its origin and whether it is its store
by_tests : (own : List Record) (origin store is_origin : Bool) (stored : List Record) (snapshot : Record) (role : Role) → role ≡ unless_recorded own (role_by is_origin stored)
    → (if store then with_store snapshot (if origin then with_origin role else role) else (if origin then with_origin role else role)) ≡ unless_recorded own (role_by (origin || is_origin) (cond store (snapshot ∷ stored) stored))
by_tests own false false is_origin stored snapshot role is = is
by_tests own true false is_origin stored snapshot role is = ap with_origin is ∙ more_origin own is_origin stored
by_tests own false true is_origin stored snapshot role is = ap (with_store snapshot) is ∙ more_store own is_origin stored snapshot
by_tests own true true is_origin stored snapshot role is =
    rw is (ap (with_store snapshot) (more_origin own is_origin stored) ∙ more_store own true stored snapshot)

pub all_changed : (snapshot : Record) (snapshots : List Record) (first : ℕ) (volumes : List Volume)
    → changed (with_store snapshot) snapshot.store first (changed with_origin snapshot.origin first (map (role_of snapshots) (enumerate_from first volumes))) ≡ map (role_of (snapshot ∷ snapshots)) (enumerate_from first volumes)
all_changed snapshot snapshots first [] = refl
all_changed snapshot snapshots first (volume ∷ volumes) =
    let one = by_tests (recorded volume.segments) (snapshot.origin == first) (snapshot.store == first) (list_any (λ s. s.origin == first) snapshots) (filter (λ s. s.store == first) snapshots) snapshot (role_of snapshots (first, volume)) refl in
    rw (one, all_changed snapshot snapshots (first + 1) volumes)

-- ---- the role at a position

not_before : (change : Role → Role) (position first : ℕ) (all : List Role) → position < first → changed change position first all ≡ all
not_before change position first [] below = refl
not_before change position first (role ∷ all) below =
    let other : (position == first) ≡ false = ne_eqb position first (λ same. omega (arith, same, below)) in
    rw (other, not_before change position (first + 1) all (omega (arith, below)))

pub not_after : (change : Role → Role) (position first : ℕ) (all : List Role) → first + length all ≤ position → changed change position first all ≡ all
not_after change position first [] past = refl
not_after change position first (role ∷ all) past =
    let other : (position == first) ≡ false = ne_eqb position first (λ same. omega (arith, same, past)) in
    rw (other, not_after change position (first + 1) all (omega (arith, past)))

set_at : (change : Role → Role) (position first i : ℕ) (all : List Role) (d : Role) → position ≡ first + i → i < length all → changed change position first all ≡ set all i (change (get_or all i d))
set_at change position first i [] d is within = absurd (omega (arith, within))
set_at change position first zero (role ∷ all) d is within =
    let same : (position == first) ≡ true = eq-eqb position first (omega (arith, is)) in
    rw (same, not_before change position (first + 1) all (omega (arith, is)))
set_at change position first (suc i) (role ∷ all) d is within =
    let other : (position == first) ≡ false = ne_eqb position first (λ same. omega (arith, same, is)) in
    rw (other, set_at change position (first + 1) i all d (omega (arith, is)) (omega (arith, within)))

pub changed_one : (change : Role → Role) (position : ℕ) (all : List Role) (d : Role) → position < length all → changed change position 0 all ≡ set all position (change (get_or all position d))
changed_one change position all d within = set_at change position 0 position all d (omega arith) within

-- ---- the snapshots from a volume on

pub one_more : (volumes : List Volume) (at : ℕ) (volume : Volume) (snapshot : Record) → 0 < at → at ≤ length volumes → volume ≡ get_or volumes (at - 1) volume → recorded volume.segments ≡ snapshot ∷ []
    → snapshot ∷ records_of (drop at volumes) ≡ records_of (drop (at - 1) volumes)
one_more volumes at volume snapshot some within is one =
    let more : drop (at - 1) volumes ≡ volume ∷ drop at volumes =
    drop_more volumes (at - 1) volume (omega (arith, some, within)) ∙ ap (λ (v : Volume). v ∷ drop (at - 1 + 1) volumes) (sym is) ∙ ap (λ (n : ℕ). volume ∷ drop n volumes) (omega (arith, some)) in
    sym (rw (more, one))

-- ---- volumes with their roles, once one of the two lists is used up

pub none_left : (all : List Role) (volumes : List Volume) → (all ≡ []) ⊎ (volumes ≡ []) → zip all volumes ≡ []
none_left (role ∷ all) (volume ∷ volumes) (inl wrong) = absurd cc
none_left (role ∷ all) (volume ∷ volumes) (inr wrong) = absurd cc
none_left all volumes none = refl
