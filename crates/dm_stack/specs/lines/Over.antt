-- The snapshots of an origin (the kernel's admin guide, device-mapper/snapshot).
use Rattle.dm_stack.specs.Base.{ℕ, Bool, true, false, List, [], filter, length, not, flat_map, list_any, range_with_len, DevRef, DeviceSpec, StoreKind, Target}
use Rattle.dm_table.specs.declared.tables.table.Target.TheVariants as targets
use Rattle.dm_stack.specs.declared.lines.resolved_line.ResolvedOver.{ResolvedOver}
use Rattle.dm_stack.specs.declared.lines.resolved_line.ResolvedSnapshot.{ResolvedSnapshot}
use Rattle.dm_stack.specs.declared.id.Lower.{Lower}
use Rattle.dm_stack.specs.Description.{Description, is_same_lower, lines_at, lower_of}
use Rattle.dm_stack.specs.checks.Soundness.{is_bad_chunk}
use Rattle.std.specs.Prelude.{◌≡◌, ◌==◌, ◌&&◌, ◌∷◌, if◌then◌else◌}

-- the chunk size if it is permitted, or else 1, because a load refuses the snapshot anyway
abbrev pub fit_chunk : ℕ → ℕ
fit_chunk chunk = if is_bad_chunk chunk then 1 else chunk

-- the snapshot that a line describes, with ids in place of names
abbrev pub resolved_snapshot : Description → (origin store : DevRef) → StoreKind → (chunk : ℕ) → ResolvedSnapshot
resolved_snapshot stack origin store kind chunk = record { origin = lower_of stack origin; store = lower_of stack store; kind = kind; chunk = fit_chunk chunk }

-- if the target is a snapshot, `snapshot` is that snapshot with ids in place of names
abbrev pub IsSnapshotOf : Description → ResolvedSnapshot → Target → Type 0
IsSnapshotOf stack snapshot (targets.Snapshot origin store kind chunk) = snapshot ≡ resolved_snapshot stack origin store kind chunk
IsSnapshotOf stack snapshot _ = Unit {0}

-- the snapshot that a line of this device is, as a list of one, or an empty list for any other target
abbrev pub over_of : Description → (device : ℕ) → Target → List ResolvedOver
over_of stack device (targets.Snapshot origin store kind chunk) = record { device = device; snapshot = resolved_snapshot stack origin store kind chunk } ∷ []
over_of stack device _ = []

-- the snapshots among the lines of a device, each with the device's id
abbrev pub device_over : Description → (device : ℕ) → List ResolvedOver
device_over stack device = flat_map (λ line. over_of stack device line.target) (lines_at stack device)

-- all snapshots of the stack, each with its device's id, in the order of the tables
unfoldable pub all_over : Description → List ResolvedOver
all_over stack = flat_map (device_over stack) (range_with_len 0 (length stack.devices))

-- the snapshots whose origin is this device or disk
unfoldable pub snapshots_over : Description → Lower → List ResolvedOver
snapshots_over stack to = filter (λ one. is_same_lower one.snapshot.origin to) (all_over stack)

-- the target is a snapshot or an origin, so its line must be the only one of its table
abbrev pub is_whole : Target → Bool
is_whole (targets.Snapshot origin store kind chunk) = true
is_whole (targets.Origin origin) = true
is_whole _ = false

-- the device has a snapshot or an origin among several lines, which a load refuses
abbrev pub has_crowd : DeviceSpec → Bool
has_crowd device = not (length device.lines == 1) && list_any (λ line. is_whole line.target) device.lines

-- the snapshots from which origin lines copy; none if a table is crowded, which a load refuses, because there could be as many copies as the square of the number of lines
unfoldable pub copied : Description → List ResolvedOver
copied stack = if list_any has_crowd stack.devices then [] else all_over stack

-- the snapshots of an origin of which the origin's own line keeps a copy
unfoldable pub origin_over : Description → Lower → List ResolvedOver
origin_over stack to = filter (λ one. is_same_lower one.snapshot.origin to) (copied stack)
