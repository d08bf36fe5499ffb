-- What a read or a write of each sector does (the kernel's admin guide, device-mapper/linear, striped, zero and snapshot).
use Rattle.dm_map.specs.Base.{ℕ, zero, suc, [], Option, Some, None, length, nat_lt, replicate, Op, Request, Lower, Device, Disk, ResolvedLine, ResolvedTarget, Description, device_len, is_ro_at, below_plain, found_at, depth_of, MOST_DEPTH, Read, Write, Origin, Snapshot}
use Rattle.dm_map.specs.walk.Reads.{by_below, read_unit}
use Rattle.dm_map.specs.walk.Serving.{served_step}
use Rattle.dm_map.specs.walk.SnapshotWrites.{write_snapshot}
use Rattle.dm_map.specs.state.State.{State}
use Rattle.dm_map.specs.walk.Steps.{Step, keep, steps}
use Rattle.dm_map.specs.pieces.Units.{WriteOf, Drops, Fails}
use Rattle.std.specs.Prelude.{◌+◌, ◌-◌, ◌≡◌, ◌≤◌, ◌<◌, ◌∷◌, if◌then◌else◌}

-- the write of a sector at a distance into a line with this target, given the write of a sector below: a zero target discards the write, and before a write to an origin its snapshots take their chunks
abbrev pub write_target : Description → State → (device : ℕ) → ResolvedTarget → (distance : ℕ) → (Lower → State → ℕ → Step) → Step
write_target stack state device (Snapshot snapshot) distance next = write_snapshot stack snapshot device state distance
write_target stack state device (Origin origin) distance next = served_step stack origin.over (next origin.to) state distance
write_target stack state device target distance next = by_below (below_plain target distance) (keep (Drops ∷ []) state) (keep (Fails ∷ []) state) (λ to sector. next to state sector)

-- the write of a sector of a device, given the line that holds the sector; the write fails if no line does
abbrev pub write_line : Description → State → (device : ℕ) → Option ResolvedLine → (sector : ℕ) → (Lower → State → ℕ → Step) → Step
write_line stack state device (Some line) sector next = write_target stack state device line.target (sector - line.start) next
write_line stack state device None sector next = keep (Fails ∷ []) state

-- the write of a sector, through at most this many levels of devices; every write to a read-only device fails
unfoldable pub write_step : Description → ℕ → Lower → State → ℕ → Step
write_step stack levels (Disk disk) state sector = keep (WriteOf disk sector ∷ []) state
write_step stack zero (Device device) state sector = keep (Fails ∷ []) state
write_step stack (suc levels) (Device device) state sector =
    if is_ro_at stack device then keep (Fails ∷ []) state
    else write_line stack state device (found_at stack device sector) sector (λ to after lower. write_step stack levels to after lower)

-- the step of a sector that is read or written; a read doesn't change the state
abbrev pub sector_step : Description → Op → ℕ → Lower → State → ℕ → Step
sector_step stack Read levels lower state sector = keep (read_unit stack state levels lower sector ∷ []) state
sector_step stack Write levels lower state sector = write_step stack levels lower state sector

-- the step of a request to a device: its sectors in rising order, or only errors if the request passes the device's end. `MOST_DEPTH` levels are enough for any stack
abbrev pub request_step : Description → Op → (device start len : ℕ) → State → Step
request_step stack op device start len state =
    if nat_lt (device_len stack device) (start + len) then keep (replicate len Fails) state
    else steps (sector_step stack op MOST_DEPTH (Device device)) state start len

-- `request_step` for the fields of a `Request`
abbrev pub step_for : Description → Request → (device : ℕ) → State → Step
step_for stack request device state = request_step stack request.op device request.start request.len state

-- the step of a sector is the same for every number of levels that is at least the depth of the device
pub record IsFreeOfLevels (stack : Description) (op : Op) : Type 0 where
  pub same : (device levels sector : ℕ) (state : State) → device < length stack.devices → depth_of stack device ≤ levels
      → sector_step stack op levels (Device device) state sector ≡ sector_step stack op MOST_DEPTH (Device device) state sector
