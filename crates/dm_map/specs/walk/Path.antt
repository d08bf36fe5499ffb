-- The path of a read sector down the stack, and stretches: longest runs of sectors with equal paths.
use Rattle.dm_map.specs.Base.{ℕ, zero, suc, Bool, List, [], Option, Some, None, nat_lt, pointwise, Lower, Device, Disk, ResolvedLine, Description, device_len, below_target, chunk_at, found_at, is_same_chunk, MOST_DEPTH}
use Rattle.dm_map.specs.walk.Reads.{by_below}
use Rattle.dm_map.specs.state.Snapshots.{read_over}
use Rattle.dm_map.specs.state.State.{State, taken_at}
use Rattle.std.specs.Prelude.{◌+◌, ◌-◌, ◌==◌, ◌&&◌, ◌∷◌, if◌then◌else◌}

-- The path of a sector

-- one step of a path: a device, the start of the line that holds the sector, and the sector's chunk if the line is striped or a snapshot
pub record PathStep : Type 0 where
  pub device : ℕ
  pub start : ℕ
  pub chunk : Option ℕ

-- the step on a line, and then the path of the sector below, which is empty for zeros, errors and an invalid snapshot
abbrev pub line_path : State → (device : ℕ) → ResolvedLine → (distance : ℕ) → (next : Lower → ℕ → List PathStep) → List PathStep
line_path state device line distance next =
    record { device = device; start = line.start; chunk = chunk_at line.target distance }
    ∷ by_below (below_target (read_over (taken_at state device)) line.target distance) [] [] next

-- the path of a sector, given the line that holds the sector; empty if no line does
abbrev pub found_path : State → (device : ℕ) → Option ResolvedLine → (sector : ℕ) → (next : Lower → ℕ → List PathStep) → List PathStep
found_path state device (Some line) sector next = line_path state device line (sector - line.start) next
found_path state device None sector next = []

-- the path of a sector from a device or a disk down to a disk, through at most this many levels of devices
unfoldable pub path : Description → State → ℕ → Lower → ℕ → List PathStep
path stack state levels (Disk disk) sector = []
path stack state zero (Device device) sector = []
path stack state (suc levels) (Device device) sector =
    found_path state device (found_at stack device sector) sector (λ to lower. path stack state levels to lower)

-- Stretches

-- two steps are on the same device, line and chunk
abbrev pub is_same_step : PathStep → PathStep → Bool
is_same_step step other = step.device == other.device && (step.start == other.start && is_same_chunk step.chunk other.chunk)

-- two paths have the same steps in the same order
abbrev pub is_same_path : List PathStep → List PathStep → Bool
is_same_path = pointwise is_same_step

-- how often the path changes from one sector to the next, among len + 1 sectors from `sector` on
abbrev pub changes : (ℕ → List PathStep) → (sector len : ℕ) → ℕ
changes paths sector zero = 0
changes paths sector (suc len) = (if is_same_path (paths sector) (paths (suc sector)) then 0 else 1) + changes paths (suc sector) len

-- the number of stretches in len sectors: one more than how often the path changes from one sector to the next
abbrev pub stretches : (ℕ → List PathStep) → (sector len : ℕ) → ℕ
stretches paths sector zero = 0
stretches paths sector (suc len) = suc (changes paths sector len)

-- the number of stretches in a read of a device's sectors; 0 if the read passes the device's end
abbrev pub read_stretches : Description → State → (device start len : ℕ) → ℕ
read_stretches stack state device start len =
    if nat_lt (device_len stack device) (start + len) then 0 else stretches (path stack state MOST_DEPTH (Device device)) start len
