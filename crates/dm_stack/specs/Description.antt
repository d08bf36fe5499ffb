-- A stack's devices with their lines, and its disks. Definitions refer to a device or a disk by its id, which is its index in the list.
use Rattle.dm_stack.specs.Base.{ℕ, Bool, false, List, [], Option, Some, None, map, nat_eq, slice_get, flat_map, position_or_len, option_map_or, pointwise, DevRef, Line, DeviceSpec, spans}
use Rattle.dm_table.specs.declared.tables.disk.Disk.{Disk}
use Rattle.dm_table.specs.declared.tables.table.DevRef.TheVariants as refs
use Rattle.dm_stack.specs.declared.id.Lower.{Lower}
use Rattle.dm_stack.specs.declared.id.Lower.TheVariants as lowers
use Rattle.std.specs.Prelude.{◌+◌, ◌==◌, ◌∷◌}

-- the description of a stack: the list of its devices with their tables, and the list of its disks
pub record Description : Type 0 where
  pub devices : List DeviceSpec
  pub disks : List Disk

-- the description with these devices and disks
abbrev pub described : List DeviceSpec → List Disk → Description
described devices disks = record { devices = devices; disks = disks }

-- two names have equal bytes
abbrev pub is_same : List ℕ → List ℕ → Bool
is_same = pointwise nat_eq

-- the id of the first device with this name, or the number of devices if the name is unknown
abbrev pub device_id : Description → List ℕ → ℕ
device_id stack name = position_or_len (λ device. is_same device.name name) stack.devices

-- the id of the first disk with this name, or the number of disks if the name is unknown
abbrev pub disk_id : Description → List ℕ → ℕ
disk_id stack name = position_or_len (λ disk. is_same disk.name name) stack.disks

-- the device or disk that a line refers to, by its id
abbrev pub lower_of : Description → DevRef → Lower
lower_of stack (refs.Device name) = lowers.Device (device_id stack name)
lower_of stack (refs.Disk name) = lowers.Disk (disk_id stack name)

-- both are the same device, or both the same disk
abbrev pub is_same_lower : Lower → Lower → Bool
is_same_lower (lowers.Device one) (lowers.Device other) = one == other
is_same_lower (lowers.Device one) (lowers.Disk other) = false
is_same_lower (lowers.Disk one) (lowers.Device other) = false
is_same_lower (lowers.Disk one) (lowers.Disk other) = one == other

-- the end of the last line of a table, which is the sector after the device's last one
abbrev pub end_of : List Line → ℕ
end_of [] = 0
end_of (line ∷ []) = line.start + line.len
end_of (line ∷ next ∷ lines) = end_of (next ∷ lines)

-- the lines of a device, or an empty list for None
abbrev pub lines_or_none : Option DeviceSpec → List Line
lines_or_none (Some device) = device.lines
lines_or_none None = []

-- the name of the device with this id, or an empty name if the stack doesn't have the device
abbrev pub name_at : Description → ℕ → List ℕ
name_at stack device = option_map_or (λ it. it.name) (slice_get stack.devices device) []

abbrev pub disk_name_at : Description → ℕ → List ℕ
disk_name_at stack disk = option_map_or (λ it. it.name) (slice_get stack.disks disk) []

abbrev pub lines_at : Description → ℕ → List Line
lines_at stack device = lines_or_none (slice_get stack.devices device)

abbrev pub is_ro_at : Description → ℕ → Bool
is_ro_at stack device = option_map_or (λ it. it.ro) (slice_get stack.devices device) false

abbrev pub device_len : Description → ℕ → ℕ
device_len stack device = end_of (lines_at stack device)

abbrev pub disk_len : Description → ℕ → ℕ
disk_len stack disk = option_map_or (λ it. it.len) (slice_get stack.disks disk) 0

abbrev pub lower_len : Description → Lower → ℕ
lower_len stack (lowers.Device device) = device_len stack device
lower_len stack (lowers.Disk disk) = disk_len stack disk

-- the id of the device that a line refers to, as a list of one, or an empty list for a disk
abbrev pub lower_link : Lower → List ℕ
lower_link (lowers.Device id) = id ∷ []
lower_link (lowers.Disk id) = []

abbrev pub ref_link : Description → DevRef → List ℕ
ref_link stack to = lower_link (lower_of stack to)

-- the ids of the devices that a line names, in order
abbrev pub line_links : Description → Line → List ℕ
line_links stack line = flat_map (λ span. ref_link stack span.to) (spans line)

-- the ids of the devices that a device's lines name, in order; a device named twice is listed twice
abbrev pub device_links : Description → DeviceSpec → List ℕ
device_links stack device = flat_map (line_links stack) device.lines

-- for each device, in the order of ids, the ids of the devices that its lines name
abbrev pub links : Description → List (List ℕ)
links stack = map (device_links stack) stack.devices
