-- The depth of a stack, in levels of devices.
use Rattle.dm_stack.specs.Base.{ℕ, suc, List, length, map, flat_map, range_with_len, spans}
use Rattle.dm_stack.specs.declared.id.Lower.{Lower}
use Rattle.dm_stack.specs.declared.id.Lower.TheVariants as lowers
use Rattle.dm_stack.specs.Description.{Description, lines_at, lower_of}
use Rattle.dm_stack.specs.checks.Graph.{greatest}
use Rattle.dm_stack.specs.checks.Soundness.{depth_of}
use Rattle.std.specs.Prelude.{◌≡◌, ◌<◌}

-- the greatest depth of any device; 0 for a stack without devices
abbrev pub stack_depth : Description → ℕ
stack_depth stack = greatest (map (depth_of stack) (range_with_len 0 (length stack.devices)))

-- the devices and disks that the lines of a device name, in order
abbrev pub named_at : Description → ℕ → List Lower
named_at stack device = map (λ span. lower_of stack span.to) (flat_map spans (lines_at stack device))

-- the depth of a device, or 0 for a disk
abbrev pub lower_depth : Description → Lower → ℕ
lower_depth stack (lowers.Device device) = depth_of stack device
lower_depth stack (lowers.Disk disk) = 0

-- the depth of each device is one more than the greatest depth of the devices and disks that its lines name
abbrev pub IsDeeperByOne : Description → Type 0
IsDeeperByOne stack = (device : ℕ) → device < length stack.devices → depth_of stack device ≡ suc (greatest (map (lower_depth stack) (named_at stack device)))
