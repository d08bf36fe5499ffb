-- What `read` answers: the bytes of a device's sectors, given the delivered inputs and the contents of images.
use Rattle.dmremap.specs.Base.{ℕ, List, length, Option, Some, None, Result, Ok, Err, nat_le, position, unwrap_or, option_map_or, LoadFault, Memory, Read, Paths, Delivery, fault_at, part_read, Description, device_len, is_same, Contents, DiskContents, disk_contents, Place, stored_state, Reading, bytes_of, device_bytes, Exit, Refusal, Done, WriteFault, Ended, Refused, Stopped}
use Rattle.dm_stack.specs.declared.checks.limits.TheConstants.{MOST_LENGTH}
use Rattle.dm_read.specs.declared.fault.Stop.{Stop}
use Rattle.dmremap.specs.Answers.{Answer, Tells, Writes, end_of, refused_by}
use Rattle.dmremap.specs.declared.exit.Refusal.TheVariants as refusals
use Rattle.dmremap.specs.declared.read_run.Extent.{Extent}
use Rattle.dmremap.specs.Job.{RangeWords}
use Rattle.dmremap.specs.StoredStart.{images_in, start_at}
use Rattle.dmremap.specs.Whole.{Begins, Refuses, Start, Unsettled}
use Rattle.std.specs.Prelude.{◌≡◌, ◌≢◌, ◌+◌, ◌-◌, ◌<◌, ◌≤◌, if◌then◌else◌}

-- ---- the range of sectors to read

-- `count`, if `count` sectors from sector `from` on lie in a device of `len` sectors, or else None
abbrev pub within : (from count len : ℕ) → Option ℕ
within from count len = if nat_le (from + count) len then Some count else None

-- how many sectors to read: the given count, or all up to the end of the device; None if a sector to read is past the end
abbrev pub count_in : (from : ℕ) → (count : Option ℕ) → (len : ℕ) → Option ℕ
count_in from count len = within from (unwrap_or count (len - from)) len

-- the extent of `count` sectors, or a refusal if there is no count because the sectors go past the end of the device
abbrev pub extent_at : (device from : ℕ) → (count : Option ℕ) → Result Extent Refusal
extent_at device from (Some count) = Ok (record { device = device; start = from; len = count })
extent_at device from None = Err refusals.PastEnd

-- the extent of a stack that a range names, or a refusal if the device is unknown or the sectors go past its end
abbrev pub extent_of : Description → RangeWords → Result Extent Refusal
extent_of stack range =
    option_map_or (λ device. extent_at device range.from (count_in range.from range.count (device_len stack device))) (position (λ device. is_same device.name range.device) stack.devices) (Err refusals.Device)

-- the extent lies in a device of the stack
pub record IsExtentOf (stack : Description) (extent : Extent) : Type 0 where
  pub device : extent.device < length stack.devices
  pub inside : extent.start + extent.len ≤ device_len stack extent.device
  pub small : extent.start + extent.len ≤ MOST_LENGTH

-- ---- reading an extent

-- the exit of a command that wrote sectors: done, or stopped at a sector that can't be read
abbrev pub stop_exit : Option Stop → Exit
stop_exit None = Ended Done
stop_exit (Some stop) = Stopped stop

-- the exit of a command that wrote sectors: that of `stop_exit`, or a write fault if a write failed
abbrev pub written_exit : {F : Type 0} → Result (Option Stop) F → Exit
written_exit (Ok stop) = stop_exit stop
written_exit (Err fault) = Ended WriteFault

-- the answer that writes the bytes that were read, and then ends like the reading
abbrev pub reading_answer : Reading → Answer
reading_answer reading = Writes reading.bytes (Some (end_of (stop_exit reading.stop)))

-- the answer of reading an extent of a stack that has this start; None if the delivered inputs don't determine the start
abbrev pub answer_from : Start → Description → DiskContents → Extent → Option Answer
answer_from (Begins state) stack disks extent = Some (reading_answer (bytes_of (device_bytes stack state disks extent.device) extent.start extent.len))
answer_from (Refuses message) stack disks extent = Some (Tells (refused_by message))
answer_from Unsettled stack disks extent = None

-- ---- reading a range of a stack

-- the answer of reading an extent of a stack in the state that its exception stores hold, or the refusal if there is no extent
abbrev pub extent_answer : Description → DiskContents → Result Extent Refusal → Option Answer
extent_answer stack disks (Ok extent) = answer_from (start_at stack (stored_state stack disks)) stack disks extent
extent_answer stack disks (Err refusal) = Some (Tells (end_of (Refused refusal)))

-- the answer of reading a range, given the places of the stack's disks in images; None if PATHS doesn't determine the places
abbrev pub range_answer : Contents → Description → RangeWords → Option (Result (List (Option Place)) LoadFault) → Option Answer
range_answer held stack range (Some (Ok places)) = extent_answer stack (disk_contents places held) (extent_of stack range)
range_answer held stack range (Some (Err fault)) = Some (Tells (end_of (Refused (refusals.Load fault))))
range_answer held stack range None = None

-- the places of a stack's disks in images, as PATHS gives them, or the fault of PATHS; a missing PATHS is a fault
abbrev pub places_in : (paths : Option Delivery) → Description → Option (Result (List (Option Place)) LoadFault)
places_in (Some paths) stack = images_in stack (part_read Paths paths)
places_in None stack = Some (Err (fault_at Paths Read 0))

-- the result is the places or the fault that PATHS determines; running out of memory is always allowed
abbrev pub AreSettled : Option (Result (List (Option Place)) LoadFault) → Result (List (Option Place)) LoadFault → Type 0
AreSettled at (Ok places) = at ≡ Some (Ok places)
AreSettled at (Err fault) = fault.kind ≢ Memory → at ≡ Some (Err fault)
