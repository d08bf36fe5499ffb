-- A device or disk with a sector is one of the stack, and no device or disk is longer than the limit.
use Rattle.dm_stack.proofs.Prelude.{ℕ, inl, inr, Option, Some, None, length, refl, arith, slice_get, cases_lt, option_map_or, slice_get_past, Lower, Description, device_len, disk_len, lower_len, IsSound}
use Rattle.dm_table.specs.declared.tables.disk.Disk.{Disk}
use Rattle.dm_stack.specs.declared.id.Lower.TheVariants as lowers
use Rattle.dm_stack.proofs.SoundLines.{device_small, disk_small}
use Rattle.std.specs.Prelude.{◌≡◌, ◌^◌, ◌<◌, ◌≤◌}

-- a device that has a sector is one of the stack's
pub device_there : (stack : Description) (device sector : ℕ) → sector < device_len stack device → device < length stack.devices
device_there stack device sector inside =
    elim (cases_lt device (length stack.devices)) [
      | inl there ↦ there
      | inr past ↦ absurd (let none : device_len stack device ≡ 0 = rw (slice_get_past stack.devices device past) in omega arith)
    ]

-- a disk that has a sector is one of the stack's
pub disk_there : (stack : Description) (disk sector : ℕ) → sector < disk_len stack disk → disk < length stack.disks
disk_there stack disk sector inside =
    elim (cases_lt disk (length stack.disks)) [
      | inl there ↦ there
      | inr past ↦ absurd (let none : disk_len stack disk ≡ 0 = rw slice_get_past in omega arith)
    ]

-- no device or disk is longer than the limit on lengths

disk_within : (stack : Description) (id : ℕ) (disk : Option Disk) → IsSound stack → slice_get stack.disks id ≡ disk → option_map_or (λ (it : Disk). it.len) disk 0 ≤ 2 ^ 50
disk_within stack id None sound at = omega arith
disk_within stack id (Some disk) sound at = disk_small stack id disk sound at

pub lower_small : (stack : Description) (lower : Lower) → IsSound stack → lower_len stack lower ≤ 2 ^ 50
lower_small stack (lowers.Device device) sound = elim (cases_lt device (length stack.devices)) [
  | inl there ↦ device_small stack device sound there
  | inr past ↦ let none : device_len stack device ≡ 0 = rw (slice_get_past stack.devices device past) in omega arith
]
lower_small stack (lowers.Disk disk) sound = disk_within stack disk (slice_get stack.disks disk) sound refl
