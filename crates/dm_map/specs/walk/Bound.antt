-- A bound on the line searches of a read: one per level for each stretch of sectors with one path.
use Rattle.dm_map.specs.Base.{ℕ, List, [], Result, Op, Read, ResolvedOrigin, ResolvedTarget, Lower, Device, below_target, chunk_at, lower_depth, Description, IsSound, depth_of}
use Rattle.dm_map.specs.pieces.Sink.{SinkPast}
use Rattle.dm_map.specs.state.Snapshots.{read_over}
use Rattle.dm_map.specs.state.State.{State, taken_at}
use Rattle.dm_map.specs.state.Walker.{WalkerView}
use Rattle.dm_map.specs.walk.Mapping.{sector_step}
use Rattle.dm_map.specs.walk.Path.{PathStep, path, stretches}
use Rattle.dm_map.specs.walk.Range.{IsWalked, served_sector, target_step}
use Rattle.dm_map.specs.walk.Reads.{by_below}
use Rattle.dm_map.specs.walk.Steps.{Step, steps}
use Rattle.std.specs.Prelude.{◌≡◌, ◌+◌, ◌-◌, ◌*◌, ◌≤◌, ◌∷◌}

-- one of several ways to map sectors: the operation, the step and the path of each sector, the most levels of devices, and how many searches were made already
pub record Mapping : Type 0 where
  pub op : Op
  pub step : Description → State → ℕ → Step
  pub path : Description → State → ℕ → List PathStep
  pub depth : Description → ℕ
  pub found : ℕ

-- maps sectors of a device or a disk, through at most this many levels of devices
abbrev pub range_mapping : Op → ℕ → Lower → Mapping
range_mapping op levels lower = record { op = op; step = λ stack. sector_step stack op levels lower; path = λ stack state. path stack state levels lower; depth = λ stack. lower_depth stack lower; found = 0 }

-- maps sectors of a device whose first line was looked up already, so one search counts as made
abbrev pub found_mapping : Op → ℕ → (device : ℕ) → Mapping
found_mapping op levels device = record (range_mapping op levels (Device device)) { found = 1 }

-- maps sectors of an origin's device, through at most this many levels of devices below it
abbrev pub origin_mapping : Op → ℕ → ResolvedOrigin → Mapping
origin_mapping op levels origin = record (range_mapping op levels origin.to) { step = λ stack. served_sector stack op levels origin }

-- the path of a sector on a line with this target: the step on the line itself, and then the path of the sector below
abbrev pub target_path : Description → State → ℕ → (device start : ℕ) → ResolvedTarget → (distance : ℕ) → List PathStep
target_path stack state levels device start target distance =
    record { device = device; start = start; chunk = chunk_at target distance } ∷ by_below (below_target (read_over (taken_at state device)) target distance) [] [] (λ to lower. path stack state levels to lower)

-- maps sectors of a line with this start and target in a device, through at most this many levels of devices below the line
abbrev pub target_mapping : Op → ℕ → (device start : ℕ) → ResolvedTarget → Mapping
target_mapping op levels device start target =
    record { op = op; step = λ stack. target_step stack op levels device target; path = λ stack state. target_path stack state levels device start target; depth = λ stack. depth_of stack device - 1; found = 0 }

-- len sectors were mapped, and if they were read in a sound stack, there was at most one search per level for each stretch of sectors with one path, including the searches made already
pub record IsMapped {S R F : Type 0} (past : SinkPast S) (result : Result R F) (old new : S) (before after : WalkerView) (mapping : Mapping) (first len : ℕ) : Type 0 where
  pub walked : IsWalked past result old new before after (steps (mapping.step before.stack) before.state first len) len
  pub bounded : mapping.op ≡ Read → IsSound before.stack → after.looked.searches + mapping.found ≤ before.looked.searches + mapping.depth before.stack * stretches (mapping.path before.stack before.state) first len
