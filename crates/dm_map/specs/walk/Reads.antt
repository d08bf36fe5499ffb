-- The read of a sector (the kernel's admin guide, device-mapper/linear, striped, zero and snapshot).
use Rattle.dm_map.specs.Base.{ℕ, zero, suc, Lower, Device, Disk, Description, Below, Lies, IsZero, IsError, below}
use Rattle.dm_map.specs.state.Snapshots.{read_over}
use Rattle.dm_map.specs.state.State.{State, taken_at}
use Rattle.dm_map.specs.pieces.Units.{BlockUnit, ReadOf, Zeros, Fails}

-- the value for what lies below a sector: `zeros` or `fails`, or what `next` returns for the sector below
abbrev pub by_below : {X : Type 0} → Below → (zeros fails : X) → (Lower → ℕ → X) → X
by_below (Lies to sector) zeros fails next = next to sector
by_below IsZero zeros fails next = zeros
by_below IsError zeros fails next = fails

-- what lies below a sector of a device when it is read in this state
abbrev pub read_below : Description → State → (device sector : ℕ) → Below
read_below stack state device sector = below (read_over (taken_at state device)) stack device sector

-- the unit that the read of a sector becomes, through at most this many levels of devices
unfoldable pub read_unit : Description → State → ℕ → Lower → ℕ → BlockUnit
read_unit stack state levels (Disk disk) sector = ReadOf disk sector
read_unit stack state zero (Device device) sector = Fails
read_unit stack state (suc levels) (Device device) sector =
    by_below (read_below stack state device sector) Zeros Fails (λ to lower. read_unit stack state levels to lower)
