-- The devices of a stack that are snapshots.
use Rattle.dm_stack.specs.Base.{ℕ, Bool, true, false, List, Some, filter, length, All, Contains, list_any, range_with_len, Line, Target}
use Rattle.dm_table.specs.declared.tables.table.Target.TheVariants as targets
use Rattle.dm_stack.specs.declared.lines.resolved_line.ResolvedLine.{ResolvedLine}
use Rattle.dm_stack.specs.declared.lines.resolved_line.ResolvedSnapshot.{ResolvedSnapshot}
use Rattle.dm_stack.specs.declared.lines.resolved_line.ResolvedTarget.TheVariants as found
use Rattle.dm_stack.specs.Description.{Description, device_len, lines_at}
use Rattle.dm_stack.specs.lines.Below.{found_at}
use Rattle.std.specs.Prelude.{◌≡◌, ◌<◌}

-- the target is a snapshot
abbrev pub is_snapshot : Target → Bool
is_snapshot (targets.Snapshot origin store kind chunk) = true
is_snapshot _ = false

-- at least one line of the list is a snapshot
abbrev pub has_snapshot : List Line → Bool
has_snapshot lines = list_any (λ line. is_snapshot line.target) lines

-- the ids of the devices that are snapshots, in rising order
abbrev pub snapshots : Description → List ℕ
snapshots stack = filter (λ device. has_snapshot (lines_at stack device)) (range_with_len 0 (length stack.devices))

-- the device is a snapshot: one snapshot line covers it from its first sector to its end
pub record IsSnapshot (stack : Description) (device : ℕ) : Type 0 where
  pub there : device < length stack.devices
  pub snapshot : ResolvedSnapshot
  pub line : found_at stack device 0 ≡ Some (record { start = 0; len = device_len stack device; target = found.Snapshot snapshot })

-- each device of the list is a snapshot, and the list contains every device whose sector 0 is on a snapshot line
pub record AreSnapshots (stack : Description) (devices : List ℕ) : Type 0 where
  pub each : All (IsSnapshot stack) devices
  pub among : (device : ℕ) (line : ResolvedLine) (snapshot : ResolvedSnapshot) → found_at stack device 0 ≡ Some line → line.target ≡ found.Snapshot snapshot → Contains devices device
