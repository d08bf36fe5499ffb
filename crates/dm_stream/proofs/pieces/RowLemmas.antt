-- A join that takes a row of legs: between two legs, the last range is in a local variable, as if the join held it.
use Rattle.dm_stream.proofs.Prelude.{ℕ, true, false, Bool, List, Some, refl, arith, Ok, Err, Op, OutputPast, HasWritten, IsSameReference, Description, AreOnDisks, IsLeg, LegsView, LiesOnDisk, leg_lies_on, leg_on_disk, IsDiskLeg, IsHanded, BlockUnit, IsOnDisk, disk_unit, diskless_len, units_in, units_of, DiskRange, HasLeft, HasTaken, join_past, IsHeld, held_diskless, holding, piece_of, range_piece}
use Rattle.dm_stack.specs.declared.id.Lower.TheVariants.{Disk}
use Rattle.dm_stack.specs.declared.lines.leg.Beneath.{Beneath}
use Rattle.dm_stack.specs.declared.lines.leg.Beneath.TheVariants as beneath
use Rattle.dm_stack.specs.declared.lines.leg.Leg.{Leg}
use Rattle.dm_stream.specs.declared.pieces.join.Join.{Join}
use Rattle.std.specs.Prelude.{◌≡◌, ◌≤◌}

-- the join as if it held this range
abbrev pub at_hand : {W : Type 0} → Join W → DiskRange → Join W
at_hand join range = record join { held = holding join.held range }

-- Legs on disks, as ranges

record IsAt (below : Beneath) : Type 0 where
  disk : ℕ
  sector : ℕ
  is : below ≡ beneath.Lies (Disk disk) sector

is_at : (below : Beneath) → LiesOnDisk below → IsAt below
is_at (beneath.Lies (Disk disk) sector) lies = record { disk = disk; sector = sector; is = refl }
is_at below lies = absurd lies

-- the range of the next leg of a row that lies on disks
pub record IsRangeOf (stack : Description) (op : Op) (legs : LegsView) (leg : Leg) (range : DiskRange) : Type 0 where
  pub disk : ℕ
  pub sector : ℕ
  pub on : IsDiskLeg stack legs leg disk sector
  pub units : units_of (piece_of range) ≡ units_in (disk_unit op disk sector) leg.len
  pub fits : IsHeld stack (Some (piece_of range))

pub range_of_leg : (stack : Description) (op : Op) (legs : LegsView) (leg : Leg) (range : DiskRange) → AreOnDisks stack legs → IsLeg legs.target legs.distance legs.left leg
    → ((disk sector : ℕ) → leg.below ≡ beneath.Lies (Disk disk) sector → units_of (piece_of range) ≡ units_in (disk_unit op disk sector) leg.len)
    → ((other : Description) (disk sector : ℕ) → leg.below ≡ beneath.Lies (Disk disk) sector → 1 ≤ leg.len → IsOnDisk other disk sector leg.len → IsHeld other (Some (piece_of range)))
    → IsRangeOf stack op legs leg range
range_of_leg stack op legs leg range row is units held =
    let at = is_at leg.below (leg_on_disk stack legs leg row is) in
    let on = leg_lies_on stack legs leg at.disk at.sector row is at.is in
    record { disk = at.disk; sector = at.sector; on = on; units = units at.disk at.sector at.is; fits = held stack at.disk at.sector at.is is.some (record { there = on.there; inside = on.inside }) }

-- One range of a row

diskless-range : (is_write : Bool) (disk start len : ℕ) → diskless_len (range_piece is_write disk start len) ≡ 0
diskless-range true disk start len = refl
diskless-range false disk start len = refl

pub took_range : {W F : Type 0} {past : W → OutputPast} {fine : Unit {0}} (old new : Join W) (range : DiskRange) (units : List BlockUnit) → new.held.piece ≡ Some (piece_of range)
    → HasTaken old.held new.held units (past old.writer.now).written (past new.writer.now).written → HasWritten (past old.writer.now) (past new.writer.now) 0 → IsSameReference old.writer new.writer → IsHanded {F = F} (join_past past) (Ok fine) old new units 0
took_range old new range units held taken moved same =
    let none : held_diskless new.held.piece ≡ 0 = rw held (diskless-range range.letter range.disk range.start range.len) in
    let fails = moved.fails in
    record { took = (taken, record { moved = moved; same_reference = same }); left = tt; faults = fails; stack = taken.stack; room = omega (arith, none) }

pub failed_at_range : {W F : Type 0} {past : W → OutputPast} {fault : F} (old new : Join W) (units : List BlockUnit)
    → HasLeft old.held new.held units (past old.writer.now).written (past new.writer.now).written → HasWritten (past old.writer.now) (past new.writer.now) 1 → IsSameReference old.writer new.writer → IsHanded {R = Unit {0}} (join_past past) (Err fault) old new units 0
failed_at_range old new units left moved same =
    let fails = moved.fails in
    record { took = tt; left = (left, record { moved = moved; same_reference = same }); faults = fails; stack = tt; room = tt }
