-- What a loaded stack keeps in addition to its description.
use Rattle.dm_stack.specs.Base.{ℕ, List, map, DeviceSpec}
use Rattle.dm_stack.specs.declared.lines.resolved_table.ResolvedDevice.{ResolvedDevice}
use Rattle.dm_stack.specs.Description.{Description, end_of}
use Rattle.dm_stack.specs.lines.Below.{resolved_line}
use Rattle.dm_stack.specs.checks.Soundness.{IsSound}
use Rattle.dm_stack.specs.checks.Snapshots.{snapshots}
use Rattle.dm_stack.specs.checks.Depth.{stack_depth}
use Rattle.std.specs.Prelude.{◌≡◌, ◌^◌, ◌≤◌}

-- a device with its end, its read-only flag, and its lines with ids in place of names
abbrev pub resolved_device : Description → DeviceSpec → ResolvedDevice
resolved_device stack device = record { end = end_of device.lines; ro = device.ro; table = map (resolved_line stack) device.lines }

-- a length of a device or a disk, which is from 1 to 2^50 sectors
pub record IsLength (len : ℕ) : Type 0 where
  pub some : 1 ≤ len
  pub small : len ≤ 2 ^ 50

-- the description is sound, and what a loaded stack keeps fits it: names, devices with ids, the depth, and the snapshots
pub record IsLoaded (stack : Description) (devices disks : List (List ℕ)) (by_ids : List ResolvedDevice) (deepest : ℕ) (over : List ℕ) : Type 0 where
  pub sound : IsSound stack
  pub device_names : devices ≡ map (λ device. device.name) stack.devices
  pub disk_names : disks ≡ map (λ disk. disk.name) stack.disks
  pub found : by_ids ≡ map (resolved_device stack) stack.devices
  pub depth : deepest ≡ stack_depth stack
  pub snapshots : over ≡ snapshots stack
