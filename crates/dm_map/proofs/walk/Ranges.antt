-- The steps of ranges and of lines, by what lies below their sectors.
use Rattle.dm_map.proofs.Prelude.{ℕ, zero, suc, true, false, [], Some, refl, ap, ◌∙◌, arith, Op, Lower, Device, Disk, ResolvedLine, ResolvedOrigin, ResolvedTarget, Beneath, Description, Below, Lies, IsZero, IsError, below_plain, found_at, has_state, IsBeneath, State, keep, Zeros, Fails, disk_unit, next_unit, units_in, by_below, read_unit, sector_step, write_step, zero_unit, below_step, refuses, range_step, target_step, line_step, origin_step, served_sector, Read, Write, Origin, Snapshot}
use Rattle.dm_stack.specs.Prelude.{GoesOn}
use Rattle.dm_map.proofs.walk.Rows.{steps_same, steps_still}
use Rattle.std.specs.Prelude.{◌≡◌, ◌+◌, ◌-◌, ◌<◌, ◌≤◌, ◌∷◌}

still_zeros : (op : Op) → next_unit (zero_unit op) ≡ zero_unit op
still_zeros Read = refl
still_zeros Write = refl

-- The step of one sector

sector_line : (stack : Description) (op : Op) (levels device sector : ℕ) (state : State) (line : ResolvedLine) → refuses stack op device ≡ false → found_at stack device sector ≡ Some line
    → sector_step stack op (suc levels) (Device device) state sector ≡ target_step stack op levels device line.target state (sector - line.start)
unfolding read_unit write_step
sector_line stack Read levels device sector state line passes is = rw is refl
sector_line stack Write levels device sector state line passes is = rw (passes, is) refl

sector_refused : (stack : Description) (op : Op) (levels device sector : ℕ) (state : State) → refuses stack op device ≡ true → sector_step stack op levels (Device device) state sector ≡ keep (Fails ∷ []) state
unfolding write_step
sector_refused stack Read levels device sector state shut = absurd cc
sector_refused stack Write zero device sector state shut = refl
sector_refused stack Write (suc levels) device sector state shut = rw shut refl

sector_deepest : (stack : Description) (op : Op) (device sector : ℕ) (state : State) → sector_step stack op 0 (Device device) state sector ≡ keep (Fails ∷ []) state
unfolding read_unit write_step
sector_deepest stack Read device sector state = refl
sector_deepest stack Write device sector state = refl

-- The step of a range

pub range_disk : (stack : Description) (op : Op) (levels disk sector n : ℕ) (state : State) → range_step stack op levels (Disk disk) state sector n ≡ keep (units_in (disk_unit op disk sector) n) state
unfolding read_unit write_step
range_disk stack Read levels disk sector zero state = refl
range_disk stack Read levels disk sector (suc n) state = cc (range_disk stack Read levels disk (suc sector) n state)
range_disk stack Write levels disk sector zero state = refl
range_disk stack Write levels disk sector (suc n) state = cc (range_disk stack Write levels disk (suc sector) n state)

pub range_deepest : (stack : Description) (op : Op) (levels device sector n : ℕ) (state : State) → levels ≡ 0 → range_step stack op levels (Device device) state sector n ≡ keep (units_in Fails n) state
range_deepest stack op levels device sector n state none =
    rw none (steps_still (sector_step stack op 0 (Device device)) state sector n Fails refl (λ i within. sector_deepest stack op device (sector + i) state))

pub range_refused : (stack : Description) (op : Op) (levels device sector n : ℕ) (state : State) → refuses stack op device ≡ true → range_step stack op levels (Device device) state sector n ≡ keep (units_in Fails n) state
range_refused stack op levels device sector n state shut =
    steps_still (sector_step stack op levels (Device device)) state sector n Fails refl (λ i within. sector_refused stack op levels device (sector + i) state shut)

-- the step of a range that lies in one line
pub range_line : (stack : Description) (op : Op) (levels fewer device sector n : ℕ) (state : State) (line : ResolvedLine) → levels ≡ suc fewer → refuses stack op device ≡ false → line.start ≤ sector
    → ((i : ℕ) → i < n → found_at stack device (sector + i) ≡ Some line) → range_step stack op levels (Device device) state sector n ≡ line_step stack op fewer device line.target state (sector - line.start) n
range_line stack op levels fewer device sector n state line more passes from each =
    rw more (steps_same (sector_step stack op (suc fewer) (Device device)) (target_step stack op fewer device line.target) state sector (sector - line.start) n
    (λ after i within.
    let on : sector + i - line.start ≡ sector - line.start + i = omega (arith, from) in
    sector_line stack op fewer device (sector + i) after line passes (each i within) ∙ ap (target_step stack op fewer device line.target after) on))

-- The steps of a line, by what lies below it

read_step : (stack : Description) (levels : ℕ) (b : Below) (state : State) → keep (by_below b Zeros Fails (λ to sector. read_unit stack state levels to sector) ∷ []) state ≡ below_step stack Read levels b state
read_step stack levels (Lies to sector) state = refl
read_step stack levels b state = refl

-- the step of one sector of a line without state
pub plain_step : (stack : Description) (op : Op) (levels device : ℕ) (target : ResolvedTarget) (distance : ℕ) (state : State) → has_state target ≡ false → target_step stack op levels device target state distance ≡ below_step stack op levels (below_plain target distance) state
plain_step stack op levels device (Snapshot snapshot) distance state plain = absurd cc
plain_step stack op levels device (Origin origin) distance state plain = absurd cc
plain_step stack Read levels device target distance state plain = read_step stack levels (below_plain target distance) state
plain_step stack Write levels device target distance state plain = refl

-- what lies below a leg, once a match has named it
pub beneath_as : (target : ResolvedTarget) (distance len : ℕ) (below other : Beneath) → below ≡ other → IsBeneath target distance len below → IsBeneath target distance len other
beneath_as target distance len below other is on = rw is at on

-- the step of a leg: sectors elsewhere, zeros, or errors
leg_sector : (stack : Description) (op : Op) (levels device : ℕ) (target : ResolvedTarget) (distance n i : ℕ) (state : State) (row : ℕ → Below) → GoesOn target distance n row → i < n → target_step stack op levels device target state (distance + i) ≡ below_step stack op levels (row i) state
leg_sector stack op levels device target distance n i state row on within =
    cc (plain_step stack op levels device target (distance + i) state on.plain, on.below i within)

pub leg_lies : (stack : Description) (op : Op) (levels device : ℕ) (target : ResolvedTarget) (to : Lower) (distance sector n : ℕ) (state : State) → GoesOn target distance n (λ i. Lies to (sector + i)) → line_step stack op levels device target state distance n ≡ range_step stack op levels to state sector n
leg_lies stack op levels device target to distance sector n state on =
    steps_same (target_step stack op levels device target) (sector_step stack op levels to) state distance sector n
    (λ after i within. leg_sector stack op levels device target distance n i after (λ k. Lies to (sector + k)) on within)

pub leg_zeros : (stack : Description) (op : Op) (levels device : ℕ) (target : ResolvedTarget) (distance n : ℕ) (state : State) → GoesOn target distance n (λ i. IsZero) → line_step stack op levels device target state distance n ≡ keep (units_in (zero_unit op) n) state
leg_zeros stack op levels device target distance n state on =
    steps_still (target_step stack op levels device target) state distance n (zero_unit op) (still_zeros op) (λ i within. leg_sector stack op levels device target distance n i state (λ k. IsZero) on within)

pub leg_errors : (stack : Description) (op : Op) (levels device : ℕ) (target : ResolvedTarget) (distance n : ℕ) (state : State) → GoesOn target distance n (λ i. IsError) → line_step stack op levels device target state distance n ≡ keep (units_in Fails n) state
leg_errors stack op levels device target distance n state on =
    steps_still (target_step stack op levels device target) state distance n Fails refl (λ i within. leg_sector stack op levels device target distance n i state (λ k. IsError) on within)

-- The step of an origin's line

origin_sector : (stack : Description) (op : Op) (levels device distance : ℕ) (origin : ResolvedOrigin) (state : State) → target_step stack op levels device (Origin origin) state distance ≡ served_sector stack op levels origin state distance
origin_sector stack Read levels device distance origin state = refl
origin_sector stack Write levels device distance origin state = refl

pub line_served : (stack : Description) (op : Op) (levels device : ℕ) (origin : ResolvedOrigin) (distance n : ℕ) (state : State) → line_step stack op levels device (Origin origin) state distance n ≡ origin_step stack op levels origin state distance n
line_served stack op levels device origin distance n state =
    steps_same (target_step stack op levels device (Origin origin)) (served_sector stack op levels origin) state distance distance n (λ after i within. origin_sector stack op levels device (distance + i) origin after)

pub origin_read : (stack : Description) (levels : ℕ) (origin : ResolvedOrigin) (sector n : ℕ) (state : State) → origin_step stack Read levels origin state sector n ≡ range_step stack Read levels origin.to state sector n
origin_read stack levels origin sector n state = steps_same (served_sector stack Read levels origin) (sector_step stack Read levels origin.to) state sector sector n (λ after i within. refl)
