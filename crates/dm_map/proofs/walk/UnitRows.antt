-- Units of consecutive sectors, and the stretches in which each continues the one before.
use Rattle.dm_map.proofs.Prelude.{ℕ, zero, suc, Bool, true, false, List, [], refl, sym, ap, ◌∙◌, arith, Lower, Description, Home, GoOn, read_unit, IsLawful, OfBeginning, SinkPast, row, read, is_error, any_error, copy_to, write_to, State, Step, keep, Ground, ground_unit, unit_at, BlockUnit, ReadOf, WriteOf, Zeros, Fails, next_unit, units_in, range_step, MOST_DEPTH, Read}
use Rattle.dm_map.specs.declared.walk.stretch.Ground.TheVariants as grounds
use Rattle.std.specs.Prelude.{◌≡◌, ◌+◌, ◌-◌, ◌<◌, ◌≤◌, ◌∷◌, ◌++◌, ◌||◌}

-- Lists of values for consecutive sectors

-- the list for two ranges in a row
pub row-append : {X : Type 0} (f : ℕ → X) (sector m n : ℕ) → row f sector (m + n) ≡ row f sector m ++ row f (sector + m) n
row-append f sector zero n = let e : 0 + n ≡ n = omega arith in let k : sector + 0 ≡ sector = omega arith in rw (e, k) refl
row-append {X} f sector (suc m) n =
    let e : suc m + n ≡ suc (m + n) = omega arith in let k : sector + suc m ≡ suc sector + m = omega arith in
    rw (e, k) (cc (row-append f (suc sector) m n))

-- two lists that are equal sector by sector
pub row_same : {X : Type 0} (f h : ℕ → X) (s t n : ℕ) → ((i : ℕ) → i < n → f (s + i) ≡ h (t + i)) → row f s n ≡ row h t n
row_same f h s t zero each = refl
row_same {X} f h s t (suc n) each =
    let here : f s ≡ h t = ap f (let e : s ≡ s + 0 = omega arith in e) ∙ each 0 (omega arith) ∙ ap h (let e : t + 0 ≡ t = omega arith in e) in
    let later : row f (suc s) n ≡ row h (suc t) n = row_same f h (suc s) (suc t) n (λ i within.
    ap f (let e : suc s + i ≡ s + suc i = omega arith in e) ∙ each (suc i) (omega (arith, within)) ∙ ap h (let e : t + suc i ≡ suc t + i = omega arith in e)) in
    cc

-- the step of a read is the list of its units
pub read_row : (stack : Description) (levels : ℕ) (lower : Lower) (state : State) (sector n : ℕ) → range_step stack Read levels lower state sector n ≡ keep (row (read_unit stack state levels lower) sector n) state
read_row stack levels lower state sector zero = refl
read_row stack levels lower state sector (suc n) =
    cc (read_row stack levels lower state (suc sector) n)

-- the units of a first stretch are those of its ground
pub first_reads : (stack : Description) (state : State) (lower : Lower) (sector n : ℕ) (unit : BlockUnit) → range_step stack Read MOST_DEPTH lower state sector n ≡ keep (units_in unit n) state → row (read stack state lower) sector n ≡ units_in unit n
first_reads stack state lower sector n unit is = ap (λ (step : Step). step.units) (sym (read_row stack MOST_DEPTH lower state sector n) ∙ is)

first_of_units : (us : List BlockUnit) (u v : BlockUnit) (vs : List BlockUnit) → u ∷ us ≡ v ∷ vs → (u ≡ v) × (us ≡ vs)
first_of_units us u v vs same = (cc, cc)

-- the units of the first sectors of a stretch are those of its ground
pub row_front : (f : ℕ → BlockUnit) (sector m n : ℕ) (unit : BlockUnit) → row f sector m ≡ units_in unit m → n ≤ m → row f sector n ≡ units_in unit n
row_front f sector m zero unit same few = refl
row_front f sector zero (suc n) unit same few = absurd (omega (arith, few))
row_front f sector (suc m) (suc n) unit same few =
    let parts = first_of_units (row f (suc sector) m) (f sector) unit (units_in (next_unit unit) m) same in
    cc (row_front f (suc sector) m n (next_unit unit) parts.1 (omega (arith, few)))

-- What a sink received of consecutive sectors, and what it failed at

pub took_row : {S : Type 0} {past : SinkPast S} → IsLawful past → (a b c : S) (f : ℕ → BlockUnit) (sector m n : ℕ) (units : List BlockUnit) → row f (sector + m) n ≡ units → past.took a (row f sector m) b → past.took b units c → past.took a (row f sector (m + n)) c
took_row {past} lawful a b c f sector m n units is first second =
    rw (row-append f sector m n, is) (lawful.took a b c (row f sector m) units first second)

pub left_row : {S : Type 0} {past : SinkPast S} → IsLawful past → (a b c : S) (f : ℕ → BlockUnit) (sector m n len : ℕ) (units : List BlockUnit) → m + n ≤ len → row f (sector + m) n ≡ units → past.took a (row f sector m) b → past.left b units c → OfBeginning past.left a (row f sector len) c
left_row lawful a b c f sector m n len units within is first second =
    let tail = row f (sector + (m + n)) (len - (m + n)) in
    record {
      front = row f sector m ++ units;
      rest = tail;
      whole = cc (row-append f sector m n, row-append f sector (m + n) (len - (m + n)), (let e : m + n + (len - (m + n)) ≡ len = omega arith in e));
      holds = lawful.left a b c (row f sector m) units first second;
    }

-- Errors among units

any_error-append : (us vs : List BlockUnit) → any_error (us ++ vs) ≡ (any_error us || any_error vs)
any_error-append [] vs = refl
any_error-append (u ∷ us) vs = rw (any_error-append us vs) (or_assoc (is_error u) (any_error us) (any_error vs))
  where
    or_assoc : (a b c : Bool) → (a || (b || c)) ≡ ((a || b) || c)
    or_assoc true b c = refl
    or_assoc false b c = refl

-- a run of units has errors exactly if its first unit is one
units_errors : (unit : BlockUnit) (n : ℕ) → any_error (units_in unit (suc n)) ≡ is_error unit
units_errors Fails n = refl
units_errors unit zero = refl
units_errors unit (suc n) = units_errors (next_unit unit) n

-- a list that starts with a run of units has an error if the first unit is one, or the rest has one
pub errors_on : (f : ℕ → BlockUnit) (sector n len : ℕ) (unit : BlockUnit) → 1 ≤ n → n ≤ len → row f sector n ≡ units_in unit n → any_error (row f sector len) ≡ (is_error unit || any_error (row f (sector + n) (len - n)))
errors_on f sector zero len unit some within is = absurd (omega (arith, some))
errors_on f sector (suc n) len unit some within is =
    let whole : len ≡ suc n + (len - suc n) = omega (arith, within) in let rest = row f (sector + suc n) (len - suc n) in
    cc (row-append f sector (suc n) (len - suc n), any_error-append (row f sector (suc n)) rest, units_errors unit n)

-- Copies and writes, by how far their units continue

go_on_here : (homes : ℕ → Home) (sector disk start n : ℕ) → GoOn homes sector disk start (suc n) → homes sector ≡ record { disk = disk; sector = start }
go_on_here homes sector disk start n each =
    cc ((let e : sector ≡ sector + 0 = omega arith in e), each 0 (omega arith), (let e : start + 0 ≡ start = omega arith in e))

go_on_later : (homes : ℕ → Home) (sector disk start n : ℕ) → GoOn homes sector disk start (suc n) → GoOn homes (suc sector) disk (suc start) n
go_on_later homes sector disk start n each i within =
    cc ((let e : suc sector + i ≡ sector + suc i = omega arith in e), each (suc i) (omega (arith, within)), (let e : start + suc i ≡ suc start + i = omega arith in e))

pub write_row : (homes : ℕ → Home) (sector disk start n : ℕ) → GoOn homes sector disk start n → row (λ s. write_to (homes s)) sector n ≡ units_in (WriteOf disk start) n
write_row homes sector disk start zero each = refl
write_row homes sector disk start (suc n) each =
    cc (go_on_here homes sector disk start n each, write_row homes (suc sector) disk (suc start) n (go_on_later homes sector disk start n each))

-- copies continue as long as both sides do
copy_goes_on : (unit : BlockUnit) (disk sector : ℕ) → copy_to (next_unit unit) (record { disk = disk; sector = suc sector }) ≡ next_unit (copy_to unit (record { disk = disk; sector = sector }))
copy_goes_on (ReadOf from at) disk sector = refl
copy_goes_on unit disk sector = refl

pub copy_row : (reads : ℕ → BlockUnit) (homes : ℕ → Home) (sector n : ℕ) (unit : BlockUnit) (disk start : ℕ) → row reads sector n ≡ units_in unit n → GoOn homes sector disk start n
    → row (λ s. copy_to (reads s) (homes s)) sector n ≡ units_in (copy_to unit (record { disk = disk; sector = start })) n
copy_row reads homes sector zero unit disk start same each = refl
copy_row reads homes sector (suc n) unit disk start same each =
    let parts = first_of_units (row reads (suc sector) n) (reads sector) unit (units_in (next_unit unit) n) same in
    cc (go_on_here homes sector disk start n each, copy_row reads homes (suc sector) n (next_unit unit) disk (suc start) parts.1 (go_on_later homes sector disk start n each), copy_goes_on unit disk start)

-- if the reads of homes continue on a disk, so do the homes
pub homes_go_on : (homes : ℕ → Home) (sector disk start n : ℕ) → row (λ s. ReadOf (homes s).disk (homes s).sector) sector n ≡ units_in (ReadOf disk start) n → GoOn homes sector disk start n
homes_go_on homes sector disk start zero same i within = absurd (omega (arith, within))
homes_go_on homes sector disk start (suc n) same zero within =
    let parts = first_of_units (row (λ s. ReadOf (homes s).disk (homes s).sector) (suc sector) n) (ReadOf (homes sector).disk (homes sector).sector) (ReadOf disk start) (units_in (ReadOf disk (suc start)) n) same in
    let on : (homes sector).disk ≡ disk = read_disk _ _ _ _ parts.0 in let at : (homes sector).sector ≡ start = read_sector _ _ _ _ parts.0 in
    rw ((let e : sector + 0 ≡ sector = omega arith in e), on, at, ← (let e : start ≡ start + 0 = omega arith in e))
  where
    read_disk : (d s e t : ℕ) → ReadOf d s ≡ ReadOf e t → d ≡ e
    read_disk d s e t same = cc

    read_sector : (d s e t : ℕ) → ReadOf d s ≡ ReadOf e t → s ≡ t
    read_sector d s e t same = cc
homes_go_on homes sector disk start (suc n) same (suc i) within =
    let parts = first_of_units (row (λ s. ReadOf (homes s).disk (homes s).sector) (suc sector) n) (ReadOf (homes sector).disk (homes sector).sector) (ReadOf disk start) (units_in (ReadOf disk (suc start)) n) same in
    cc ((let e : sector + suc i ≡ suc sector + i = omega arith in e), homes_go_on homes (suc sector) disk (suc start) n parts.1 i (omega (arith, within)), (let e : suc start + i ≡ start + suc i = omega arith in e))

-- the units of a stretch, sector by sector
pub reads_at : (f : ℕ → BlockUnit) (sector n : ℕ) (ground : Ground) → row f sector n ≡ units_in (ground_unit ground) n → (i : ℕ) → i < n → f (sector + i) ≡ unit_at ground i
reads_at f sector zero ground same i within = absurd (omega (arith, within))
reads_at f sector (suc n) (grounds.Disk disk start) same zero within =
    let parts = first_of_units (row f (suc sector) n) (f sector) (ReadOf disk start) (units_in (ReadOf disk (suc start)) n) same in
    cc ((let e : sector + 0 ≡ sector = omega arith in e), parts.0, (let e : start + 0 ≡ start = omega arith in e))
reads_at f sector (suc n) (grounds.Disk disk start) same (suc i) within =
    let parts = first_of_units (row f (suc sector) n) (f sector) (ReadOf disk start) (units_in (ReadOf disk (suc start)) n) same in
    cc ((let e : sector + suc i ≡ suc sector + i = omega arith in e), reads_at f (suc sector) n (grounds.Disk disk (suc start)) parts.1 i (omega (arith, within)), (let e : suc start + i ≡ start + suc i = omega arith in e))
reads_at f sector (suc n) grounds.Zeros same zero within =
    let parts = first_of_units (row f (suc sector) n) (f sector) Zeros (units_in Zeros n) same in
    cc ((let e : sector + 0 ≡ sector = omega arith in e), parts.0)
reads_at f sector (suc n) grounds.Zeros same (suc i) within =
    let parts = first_of_units (row f (suc sector) n) (f sector) Zeros (units_in Zeros n) same in
    cc ((let e : sector + suc i ≡ suc sector + i = omega arith in e), reads_at f (suc sector) n grounds.Zeros parts.1 i (omega (arith, within)))
reads_at f sector (suc n) grounds.Fails same zero within =
    let parts = first_of_units (row f (suc sector) n) (f sector) Fails (units_in Fails n) same in
    cc ((let e : sector + 0 ≡ sector = omega arith in e), parts.0)
reads_at f sector (suc n) grounds.Fails same (suc i) within =
    let parts = first_of_units (row f (suc sector) n) (f sector) Fails (units_in Fails n) same in
    cc ((let e : sector + suc i ≡ suc sector + i = omega arith in e), reads_at f (suc sector) n grounds.Fails parts.1 i (omega (arith, within)))
