-- Legs: what lies below a line without state continues for a whole leg, and lies inside what the line names.
use Rattle.dm_stack.proofs.Prelude.{ℕ, true, false, List, Option, Some, None, length, get_or, inl, inr, refl, sym, ap, subst, ◌∙◌, arith, min, slice_get, AllPass-from_list_all, slice_get_cases, ResolvedColumn, ResolvedTarget, Lower, Device, Disk, Beneath, Leg, StripePosition, Below, Lies, IsZero, IsError, below_column, below_plain, chunk_at, column_of, in_column, has_state, AreStripes, IsTargetSound, Description, disk_len, lower_len, is_disk, after_leg, has_disk_columns, AreInside, AreLeft, AreOnDisks, GoesOn, HasSectors, IsBeneath, IsLeg, LegsView, LiesOnDisk, IsStripePosition}
use Rattle.dm_stack.specs.declared.lines.resolved_line.ResolvedTarget.TheVariants as found
use Rattle.dm_stack.specs.declared.lines.leg.Beneath.TheVariants as beneath
use Rattle.dm_stack.proofs.InStack.{disk_there, lower_small}
use Rattle.dm_stack.proofs.lines.StripeLemmas.{below_chunk, column_got, column_inside, in_chunk, other_chunk}
use Rattle.std.specs.Prelude.{◌≡◌, ◌+◌, ◌-◌, ◌^◌, ◌<◌, ◌≤◌}

-- Sectors that a line has

pub shorter : (target : ResolvedTarget) (distance m n : ℕ) (row : ℕ → Below) → m ≤ n → GoesOn target distance n row → GoesOn target distance m row
shorter target distance m n row few on = record { plain = on.plain; below = λ i within. on.below i (omega (arith, few, within)); chunk = λ i within. on.chunk i (omega (arith, few, within)) }

-- Targets with one leg

-- a target that maps to consecutive sectors, without chunks, has one leg for all sectors
pub row_leg : (target : ResolvedTarget) (to : Lower) (offset distance most : ℕ) → 1 ≤ most → has_state target ≡ false → ((d : ℕ) → below_plain target d ≡ Lies to (offset + d)) → ((d : ℕ) → chunk_at target d ≡ None)
    → IsLeg target distance most (record { below = beneath.Lies to (offset + distance); len = most })
row_leg target to offset distance most some plain below chunk = record {
  some = some;
  within = omega arith;
  is = record {
    plain = plain;
    below = λ i within. below (distance + i) ∙ ap (Lies to) (omega arith);
    chunk = λ i within. chunk (distance + i) ∙ sym (chunk distance);
  };
  striped = λ less. absurd (omega (arith, less));
  next = λ less. absurd (omega (arith, less));
}

-- Legs of striped lines

pub column_small : (chunk_size distance n : ℕ) (columns : List ResolvedColumn) (position : StripePosition) (column : ResolvedColumn) → 1 ≤ n → HasSectors (found.Striped chunk_size columns) distance n → IsStripePosition chunk_size (length columns) distance position
    → column ≡ get_or columns position.column column → column.offset + (position.chunk_start + position.past) ≤ 2 ^ 50
column_small chunk_size distance n columns position column some has at read =
    let stripes : AreStripes has.stack has.line_len chunk_size columns = has.lies in
    let got = column_got chunk_size distance columns column stripes.some (rw at.column at read) in
    let inside = column_inside has.stack has.line_len chunk_size distance _ columns column stripes (omega (arith, some, has.inside)) got in
    let small = lower_small has.stack column.to has.sound in
    omega (arith, inside, small, at.chunk_start, at.past)

pub striped_leg : (chunk_size distance most n sector : ℕ) (columns : List ResolvedColumn) (position : StripePosition) (column : ResolvedColumn) → 1 ≤ most → HasSectors (found.Striped chunk_size columns) distance most → IsStripePosition chunk_size (length columns) distance position
    → column ≡ get_or columns position.column column → sector ≡ column.offset + (position.chunk_start + position.past) → n ≡ min most (chunk_size - position.past) → IsLeg (found.Striped chunk_size columns) distance most (record { below = beneath.Lies column.to sector; len = n })
striped_leg chunk_size distance most n sector columns position column some has at read sector_is len_is =
    let stripes : AreStripes has.stack has.line_len chunk_size columns = has.lies in
    let chunk_some = stripes.chunk_some in
    record {
      some = omega (arith, some, len_is, at.past, chunk_some);
      within = omega (arith, len_is);
      is = record {
        plain = refl;
        below = λ i within. rw sector_is (below_chunk chunk_size distance i columns column position stripes.some chunk_some at (omega (arith, within, len_is)) read);
        chunk = λ i within. rw (in_chunk chunk_size distance i chunk_some (omega (arith, within, len_is, at.past))).number;
      };
      striped = λ less. refl;
      next = λ less. other_chunk chunk_size distance n chunk_some (omega (arith, len_is, less, at.past));
    }

-- the sectors of a striped line that are left after a leg
pub striped_next : (chunk_size distance most n : ℕ) (columns : List ResolvedColumn) (position next : StripePosition) → n ≤ most → n ≡ min most (chunk_size - position.past) → HasSectors (found.Striped chunk_size columns) distance most
    → IsStripePosition chunk_size (length columns) (distance + (chunk_size - position.past)) next → AreLeft chunk_size columns next (distance + n) (most - n)
striped_next chunk_size distance most n columns position next within len_is has at = record {
  there = record { stack = has.stack; sound = has.sound; device = has.device; start = has.start; line_len = has.line_len; lies = has.lies; inside = omega (arith, within, has.inside); small = has.small };
  at = λ more. let e : chunk_size - position.past ≡ n = omega (arith, len_is, more) in rw e at at;
}

-- The device or disk that a leg lies on has all of its sectors

-- the device or disk below a linear line or a column has the leg's sectors
row_inside : (stack : Description) (len distance offset sector : ℕ) (lower to : Lower) → offset + len ≤ lower_len stack lower → distance < len → Lies lower (offset + distance) ≡ Lies to sector → sector < lower_len stack to
row_inside stack len distance offset sector lower to there inside is =
    let lower_is : lower ≡ to = cc in let at : offset + distance ≡ sector = cc in
    rw (← lower_is) (omega (arith, there, inside, at))

pub plain_inside : (stack : Description) (device start len distance : ℕ) (target : ResolvedTarget) (to : Lower) (sector : ℕ) → IsTargetSound stack device start len target → distance < len → has_state target ≡ false → below_plain target distance ≡ Lies to sector → sector < lower_len stack to
plain_inside stack device start len distance (found.Striped chunk_size columns) to sector sound inside plain is = column_of_sector (slice_get columns (column_of chunk_size (length columns) distance)) refl is
  where
    column_of_sector : (column : Option ResolvedColumn) → slice_get columns (column_of chunk_size (length columns) distance) ≡ column → below_column column (in_column chunk_size (length columns) distance) ≡ Lies to sector → sector < lower_len stack to
    column_of_sector None at e = absurd cc
    column_of_sector (Some column) at e =
        let lower_is : column.to ≡ to = cc in let sector_is : column.offset + in_column chunk_size (length columns) distance ≡ sector = cc in
        let room = column_inside stack len chunk_size distance _ columns column sound inside at in
        let some = sound.chunk_some in
        rw (← lower_is) (omega (arith, room, sector_is, some))
plain_inside stack device start len distance target to sector sound inside plain is = first_of (search row_inside, cc)

-- the sectors that a leg lies on are within the limit on lengths
pub lies_small : (target : ResolvedTarget) (to : Lower) (sector distance n : ℕ) → has_state target ≡ false → below_plain target distance ≡ Lies to sector → 1 ≤ n → HasSectors target distance n → sector ≤ 2 ^ 50
lies_small target to sector distance n plain is some has =
    let inside = plain_inside has.stack has.device has.start has.line_len distance target to sector has.lies (omega (arith, some, has.inside)) plain is in
    let small = lower_small has.stack to has.sound in
    omega (arith, inside, small)

leg_inside : (stack : Description) (device start len distance most n : ℕ) (target : ResolvedTarget) (below : Beneath) → 1 ≤ n → n ≤ most → IsBeneath target distance n below → IsTargetSound stack device start len target → distance + most ≤ len → AreInside stack n below
leg_inside stack device start len distance most n target (beneath.Lies to sector) some few is sound inside =
    let last = plain_inside stack device start len (distance + (n - 1)) target to (sector + (n - 1)) sound (omega (arith, some, few, inside)) is.plain (is.below (n - 1) (omega (arith, some))) in
    omega (arith, last, some)
leg_inside stack device start len distance most n target below some few is sound inside = tt

pub leg_lies_inside : (stack : Description) (device start len distance most : ℕ) (target : ResolvedTarget) (leg : Leg) → IsLeg target distance most leg → IsTargetSound stack device start len target → distance + most ≤ len → AreInside stack leg.len leg.below
leg_lies_inside stack device start len distance most target leg is sound inside = leg_inside stack device start len distance most leg.len target leg.below is.some is.within is.is sound inside

-- Legs on disks

-- a sector of a disk lies below
pub record IsOnADisk (below : Below) : Type 0 where
  pub disk : ℕ
  pub sector : ℕ
  pub is : below ≡ Lies (Disk disk) sector

on_a_disk : (to : Lower) (sector : ℕ) → is_disk to ≡ true → IsOnADisk (Lies to sector)
on_a_disk (Device device) sector is = absurd cc
on_a_disk (Disk disk) sector is = record { disk = disk; sector = sector; is = refl }

pub sector_on_disk : (stack : Description) (device start len distance : ℕ) (target : ResolvedTarget) → IsTargetSound stack device start len target → has_disk_columns target ≡ true → IsOnADisk (below_plain target distance)
sector_on_disk stack device start len distance (found.Striped chunk_size columns) sound each =
    let i = column_of chunk_size (length columns) distance in
    let some = sound.some in
    let within : i < length columns = omega (arith, some) in
    elim (slice_get_cases columns i).1 [
      | inl got ↦ let on = on_a_disk got.0.to (got.0.offset + in_column chunk_size (length columns) distance) (rw got.3 at (AllPass-from_list_all (λ (c : ResolvedColumn). is_disk c.to) columns each i got.0 got.1)) in rw got.2 on
      | inr past ↦ absurd (omega (arith, within, past.0))
    ]
sector_on_disk stack device start len distance target sound each = absurd cc

-- what lies below the first sector of a run
row_first : (target : ResolvedTarget) (distance n : ℕ) (row : ℕ → Below) → 1 ≤ n → GoesOn target distance n row → below_plain target distance ≡ row 0
row_first target distance n row some on = let e : distance ≡ distance + 0 = omega arith in ap (below_plain target) e ∙ on.below 0 (omega (arith, some))

-- if the first sector of a leg lies on a disk, the whole leg does
rows_on_disk : (target : ResolvedTarget) (distance n : ℕ) (below : Beneath) → 1 ≤ n → IsBeneath target distance n below → has_disk_columns target ≡ true → IsOnADisk (below_plain target distance) → LiesOnDisk below
rows_on_disk target distance n (beneath.Lies (Disk disk) sector) some is each first = tt
rows_on_disk target distance n (beneath.Lies (Device device) sector) some is each first = let here = row_first target distance n (λ i. Lies (Device device) (sector + i)) some is in absurd cc
rows_on_disk target distance n beneath.Zeros some is each first = let here = row_first target distance n (λ i. IsZero) some is in absurd cc
rows_on_disk target distance n beneath.Errors some is each first = let here = row_first target distance n (λ i. IsError) some is in absurd cc
rows_on_disk target distance n below some is each first = let other = ap has_disk_columns is in absurd cc

-- the next leg of a line striped over disks lies on a disk
pub leg_on_disk : (stack : Description) (legs : LegsView) (leg : Leg) → AreOnDisks stack legs → IsLeg legs.target legs.distance legs.left leg → LiesOnDisk leg.below
leg_on_disk stack legs leg row is =
    rows_on_disk legs.target legs.distance leg.len leg.below is.some is.is row.columns (sector_on_disk stack row.device row.start row.len legs.distance legs.target row.sound row.columns)

-- the leg lies on this disk from this sector on, and the disk has all of its sectors
pub record IsDiskLeg (stack : Description) (legs : LegsView) (leg : Leg) (disk sector : ℕ) : Type 0 where
  pub on : GoesOn legs.target legs.distance leg.len (λ i. Lies (Disk disk) (sector + i))
  pub there : disk < length stack.disks
  pub inside : sector + leg.len ≤ disk_len stack disk

pub leg_lies_on : (stack : Description) (legs : LegsView) (leg : Leg) (disk sector : ℕ) → AreOnDisks stack legs → IsLeg legs.target legs.distance legs.left leg → leg.below ≡ beneath.Lies (Disk disk) sector → IsDiskLeg stack legs leg disk sector
leg_lies_on stack legs leg disk sector row is below =
    let lies : AreInside stack leg.len leg.below = leg_lies_inside stack row.device row.start row.len legs.distance legs.left legs.target leg is row.sound row.inside in
    let inside : sector + leg.len ≤ disk_len stack disk = subst (λ (b : Beneath). AreInside stack leg.len b) below lies in
    record { on = subst (λ (b : Beneath). IsBeneath legs.target legs.distance leg.len b) below is.is; there = disk_there stack disk sector (let some = is.some in omega (arith, some, inside)); inside = inside }

-- the legs left after one that lies on disks also lie on disks
pub legs_after : (stack : Description) (legs : LegsView) (n : ℕ) → n ≤ legs.left → AreOnDisks stack legs → AreOnDisks stack (after_leg legs n)
legs_after stack legs n few row = record { device = row.device; start = row.start; len = row.len; sound = row.sound; inside = let inside = row.inside in omega (arith, few, inside); columns = row.columns }
