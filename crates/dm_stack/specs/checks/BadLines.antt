-- The first fault of each check of lines, gathered in one walk over all lines.
use Rattle.dm_stack.specs.Base.{ℕ, Bool, not, List, [], Option, Some, None, length, nat_lt, flat_map, DeviceSpec, Line, Place, LoadFault, LoadKind, Empty, Gap, Overlap, Unknown, Stripe, Range, Snapshot, either, fault, first_or}
use Rattle.dm_stack.specs.declared.checks.lines.BadLines.{BadLines}
use Rattle.dm_stack.specs.Description.{Description}
use Rattle.dm_stack.specs.checks.Soundness.{empty_in, has_bad_stripes, is_bad_snapshot, is_unknown, misplaced, passes_end, range, snapshot, stripe, unknown}
use Rattle.std.specs.Prelude.{◌≡◌, ◌+◌, ◌==◌, ◌∷◌, if◌then◌else◌}

-- the first fault of a check: the fault found earlier if there is one, else the fault of this element if the element is bad
abbrev pub or_bad : Option LoadFault → LoadKind → Place → (bad : Bool) → Option LoadFault
or_bad first kind at bad = either first (if bad then Some (fault kind at) else None)

-- no check of lines has found a fault
abbrev pub no_bad_lines : BadLines
no_bad_lines = record { empty = None; misplaced = None; unknown = None; stripe = None; range = None; snapshot = None }

-- the first faults after the check of a line of a device with count lines, where the line before ends at `end`
abbrev pub noted_line : Description → (count end : ℕ) → BadLines → Line → BadLines
noted_line stack count end seen line = record {
  empty = or_bad seen.empty Empty line.at (line.len == 0);
  misplaced = or_bad seen.misplaced (if nat_lt end line.start then Gap else Overlap) line.at (not (line.start == end));
  unknown = or_bad seen.unknown Unknown line.at (is_unknown stack line);
  stripe = or_bad seen.stripe Stripe line.at (has_bad_stripes line line.target);
  range = or_bad seen.range Range line.at (passes_end stack line);
  snapshot = or_bad seen.snapshot Snapshot line.at (is_bad_snapshot stack count line.len line.target);
}

-- the first faults after the checks of these lines of a device with count lines
abbrev pub noted_lines : Description → (count end : ℕ) → BadLines → List Line → BadLines
noted_lines stack count end seen [] = seen
noted_lines stack count end seen (line ∷ lines) = noted_lines stack count (line.start + line.len) (noted_line stack count end seen line) lines

-- the first faults after the checks of a device: a fault if the device has no lines, and the faults of its lines
abbrev pub noted_device : Description → BadLines → DeviceSpec → BadLines
noted_device stack seen device =
    noted_lines stack (length device.lines) 0 (record seen { empty = or_bad seen.empty Empty device.at (length device.lines == 0) }) device.lines

-- the first faults after the checks of these devices
abbrev pub noted_devices : Description → BadLines → List DeviceSpec → BadLines
noted_devices stack seen [] = seen
noted_devices stack seen (device ∷ devices) = noted_devices stack (noted_device stack seen device) devices

-- each fault is the first that its check finds in the lines of the stack; the check for empty elements finds empty disks later, so these are left out
pub record AreFirst (stack : Description) (found : BadLines) : Type 0 where
  pub empty : found.empty ≡ first_or (flat_map empty_in stack.devices) None
  pub misplaced : found.misplaced ≡ first_or (misplaced stack) None
  pub unknown : found.unknown ≡ first_or (unknown stack) None
  pub stripe : found.stripe ≡ first_or (stripe stack) None
  pub range : found.range ≡ first_or (range stack) None
  pub snapshot : found.snapshot ≡ first_or (snapshot stack) None
