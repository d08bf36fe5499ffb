-- The bytes of a device's sectors, taken from the disks that reads of the device map to.
use Rattle.dm_read.specs.Base.{ℕ, zero, suc, List, [], replicate, Option, Some, None, Result, Ok, Err, IsCutShort, Description, BlockUnit, ReadOf, Zeros, State, read, DiskContents, ByteFault, Error, Unread, Stop}
use Rattle.dm_stack.specs.declared.id.Lower.TheVariants.{Device}
use Rattle.dm_store.specs.declared.fault.SectorFault.{SectorFault}
use Rattle.std.specs.Prelude.{◌≡◌, ◌++◌}

-- ---- one sector

-- the bytes of a sector that is all zeros
abbrev pub zeros : List ℕ
zeros = replicate 512 0

-- the result of reading a disk's sector, as the result of reading a device's sector
abbrev pub of_disk : Result (List ℕ) SectorFault → Result (List ℕ) ByteFault
of_disk (Ok bytes) = Ok bytes
of_disk (Err fault) = Err (Unread fault)

-- the bytes that a unit of a read returns, or why it returns none
abbrev pub unit_bytes : DiskContents → BlockUnit → Result (List ℕ) ByteFault
unit_bytes disks (ReadOf disk sector) = of_disk (disks disk sector)
unit_bytes disks Zeros = Ok zeros
unit_bytes disks unit = Err Error

-- the bytes of a device's sector while its stack is in this state, or why the sector has none
abbrev pub device_bytes : Description → State → DiskContents → (device sector : ℕ) → Result (List ℕ) ByteFault
device_bytes stack state disks device sector = unit_bytes disks (read stack state (Device device) sector)

-- ---- consecutive sectors

-- the bytes of consecutive sectors up to the first sector without bytes, and that sector if there is one
pub record Reading : Type 0 where
  pub bytes : List ℕ
  pub stop : Option Stop

-- the reading `later` with `bytes` put before its bytes
abbrev pub after : List ℕ → Reading → Reading
after bytes later = record { bytes = bytes ++ later.bytes; stop = later.stop }

-- the reading of one sector and, if that sector has bytes, of the later ones; it stops at a sector without bytes
abbrev pub and_then : Result (List ℕ) ByteFault → (sector : ℕ) → Reading → Reading
and_then (Ok bytes) sector later = after bytes later
and_then (Err fault) sector later = record { bytes = []; stop = Some (record { sector = sector; fault = fault }) }

-- the reading of the `len` sectors that begin at `sector`
unfoldable pub bytes_of : (ℕ → Result (List ℕ) ByteFault) → (sector len : ℕ) → Reading
bytes_of sectors sector zero = record { bytes = []; stop = None }
bytes_of sectors sector (suc len) = and_then (sectors sector) sector (bytes_of sectors (suc sector) len)

-- ---- writing a reading

-- `text` was written, with this result: all bytes of the reading, and the sector at which the reading stops; or, if the output failed, a proper prefix of these bytes
abbrev pub IsWritten : {F : Type 0} → Reading → (text : List ℕ) → Result (Option Stop) F → Type 0
IsWritten reading text (Ok stop) = (text ≡ reading.bytes) × (stop ≡ reading.stop)
IsWritten reading text (Err fault) = IsCutShort reading.bytes text
