-- Grounds: what a stretch of sectors is read from, which is a disk, zeros, or errors.
use Rattle.dm_map.specs.Base.{ℕ, Read, Lower, Description, MOST_LENGTH}
use Rattle.dm_map.specs.declared.walk.stretch.Ground.{Ground}
use Rattle.dm_map.specs.declared.walk.stretch.Ground.TheVariants as grounds
use Rattle.dm_map.specs.declared.walk.stretch.Stretch.{Stretch}
use Rattle.dm_map.specs.state.Counts.{AreAdded}
use Rattle.dm_map.specs.walk.SnapshotWrites.{read}
use Rattle.dm_map.specs.walk.Steps.{Step, keep}
use Rattle.dm_map.specs.pieces.Units.{BlockUnit, ReadOf, Zeros, Fails, IsOnDisk, units_in}
use Rattle.dm_map.specs.state.State.{State}
use Rattle.dm_map.specs.state.Walker.{WalkerView, stack_state}
use Rattle.dm_map.specs.walk.Range.{range_step}
use Rattle.std.specs.Prelude.{◌≡◌, ◌+◌, ◌<◌, ◌≤◌}

-- the unit of the first sector that is read from a ground
abbrev pub ground_unit : Ground → BlockUnit
ground_unit (grounds.Disk disk start) = ReadOf disk start
ground_unit grounds.Zeros = Zeros
ground_unit grounds.Fails = Fails

-- if the ground is on a disk, the stack has that disk, and the disk has len sectors from the ground's start on
abbrev pub IsGroundInStack : Description → Ground → (len : ℕ) → Type 0
IsGroundInStack stack (grounds.Disk disk start) len = IsOnDisk stack disk start len
IsGroundInStack stack grounds.Zeros len = Unit {0}
IsGroundInStack stack grounds.Fails len = Unit {0}

-- the stretch is a prefix of a range of len sectors, all read from one ground; finding it changed only the counts. `reads n` is the step of the first n sectors
pub record IsFirst (before after : WalkerView) (reads : ℕ → Step) (len : ℕ) (stretch : Stretch) : Type 0 where
  pub some : 1 ≤ stretch.len
  pub most : stretch.len ≤ len
  pub read : reads stretch.len ≡ keep (units_in (ground_unit stretch.ground) stretch.len) before.state
  pub lies : IsGroundInStack before.stack stretch.ground stretch.len
  pub same : stack_state after ≡ stack_state before
  pub looked : AreAdded before.looked after.looked

-- the stretch is a prefix of a range of a device or a disk, read through at most this many levels of devices
abbrev pub IsFirstOf : (before after : WalkerView) (levels : ℕ) → Lower → (sector len : ℕ) → Stretch → Type 0
IsFirstOf before after levels lower sector len stretch = IsFirst before after (range_step before.stack Read levels lower before.state sector) len stretch

-- the unit of the sector at this distance from the first sector of a ground
abbrev pub unit_at : Ground → (distance : ℕ) → BlockUnit
unit_at (grounds.Disk disk start) distance = ReadOf disk (start + distance)
unit_at grounds.Zeros distance = Zeros
unit_at grounds.Fails distance = Fails

-- in this state, the first sectors of a range of a device or a disk are read from consecutive sectors of this ground
pub record IsFirstRead (stack : Description) (state : State) (lower : Lower) (sector len : ℕ) (first : Stretch) : Type 0 where
  pub some : 1 ≤ first.len
  pub most : first.len ≤ len
  pub units : (i : ℕ) → i < first.len → read stack state lower (sector + i) ≡ unit_at first.ground i
  pub lies : IsGroundInStack stack first.ground first.len

-- if the ground is on a disk, its len sectors end at the sector `MOST_LENGTH` or before
abbrev pub IsGroundNear : Ground → (len : ℕ) → Type 0
IsGroundNear (grounds.Disk disk start) len = start + len ≤ MOST_LENGTH
IsGroundNear grounds.Zeros len = Unit {0}
IsGroundNear grounds.Fails len = Unit {0}
