-- Where the sectors of an exception store lie on disks.
use Rattle.dm_map.specs.Base.{ℕ, zero, suc, length, Lower, Device, Disk, IsError, below, Description, depth_of, HomeStretch, MOST_DEPTH}
use Rattle.dm_map.specs.walk.Reads.{by_below}
use Rattle.dm_map.specs.pieces.Units.{IsOnDisk}
use Rattle.std.specs.Prelude.{◌≡◌, ◌+◌, ◌<◌, ◌≤◌}

-- a sector of a disk that holds a sector of a store
pub record Home : Type 0 where
  pub disk : ℕ
  pub sector : ℕ

-- the home of a sector that lies on no disk; a store has no sector without a disk, because its lines are all linear or striped
abbrev pub nowhere : Home
nowhere = record { disk = 0; sector = 0 }

-- the disk sector that holds a sector of a device or a disk, through at most this many levels of devices; `nowhere` if no disk sector does
unfoldable pub home_to : Description → ℕ → Lower → ℕ → Home
home_to stack levels (Disk disk) sector = record { disk = disk; sector = sector }
home_to stack zero (Device device) sector = nowhere
home_to stack (suc levels) (Device device) sector =
    by_below (below (λ snapshot sector. IsError) stack device sector) nowhere nowhere (λ to lower. home_to stack levels to lower)

-- the disk sector that holds a sector of a device or a disk; `MOST_DEPTH` levels are enough for any stack
abbrev pub home : Description → Lower → ℕ → Home
home stack lower sector = home_to stack MOST_DEPTH lower sector

-- a home is the same for every number of levels that is at least the depth of the device
pub record AreHomesFreeOfLevels (stack : Description) : Type 0 where
  pub same : (device levels sector : ℕ) → device < length stack.devices → depth_of stack device ≤ levels → home_to stack levels (Device device) sector ≡ home stack (Device device) sector

-- the homes of len sectors are consecutive sectors of this disk, from start on
abbrev pub GoOn : (homes : ℕ → Home) → (sector disk start len : ℕ) → Type 0
GoOn homes sector disk start len = (i : ℕ) → i < len → homes (sector + i) ≡ record { disk = disk; sector = start + i }

-- the first sectors of a range of len sectors of a store are consecutive sectors of a disk, which has all of them
pub record IsFirstHomes (stack : Description) (store : Lower) (sector len : ℕ) (first : HomeStretch) : Type 0 where
  pub some : 1 ≤ first.len
  pub most : first.len ≤ len
  pub homes : GoOn (home stack store) sector first.disk first.start first.len
  pub lies : IsOnDisk stack first.disk first.start first.len
