-- The checks of a load, each as the list of the faults that it finds in the devices and disks.
use Rattle.dm_stack.specs.Base.{ℕ, suc, Bool, true, false, not, List, [], Option, Some, None, drop, filter, find, length, map, is_none, nat_lt, is_power_of_two, All, flat_map, list_any, sum_by, DevRef, Target, Line, DeviceSpec, Place, LoadKind, Limit, Twice, Empty, Gap, Overlap, Unknown, Cycle, Deep, Stripe, Range, Snapshot, Store, LoadFault, fault, faults_by, first_fault, Span, spans}
use Rattle.dm_table.specs.declared.tables.table.DevRef.TheVariants as refs
use Rattle.dm_table.specs.declared.tables.table.Target.TheVariants as targets
use Rattle.dm_stack.specs.Description.{Description, is_same, end_of, lower_of, lower_len, links}
use Rattle.dm_stack.specs.checks.Graph.{Reaches, depth_to}
use Rattle.dm_stack.specs.lines.StoreLayout.{place_count}
use Rattle.dm_stack.specs.checks.Store.{is_store_to}
use Rattle.dm_stack.specs.declared.checks.graph.TheConstants.{MOST_DEPTH}
use Rattle.dm_stack.specs.declared.checks.limits.TheConstants.{MOST_DEVICES, MOST_DISKS, MOST_LINES, MOST_LENGTH, MOST_STRIPES, MOST_CHUNK, MOST_SNAPSHOT_CHUNK, MOST_PLACES}
use Rattle.std.specs.Prelude.{◌≡◌, ◌+◌, ◌/◌, ◌%◌, ◌≤◌, ◌<◌, ◌||◌, ◌==◌, ◌∷◌, ◌++◌, if◌then◌else◌}

-- the lines of all devices, in order
abbrev pub all_lines : List DeviceSpec → List Line
all_lines devices = flat_map (λ device. device.lines) devices

-- a fault of this kind for each line of the stack that is bad
abbrev pub line_faults : LoadKind → (Line → Bool) → Description → List LoadFault
line_faults kind bad stack = faults_by kind (λ line. line.at) bad (all_lines stack.devices)

-- a fault of this kind for each bad line, where `bad` is also given the number of lines in the line's device
abbrev pub device_faults : LoadKind → (ℕ → Line → Bool) → Description → List LoadFault
device_faults kind bad stack = flat_map (λ device. faults_by kind (λ line. line.at) (bad (length device.lines)) device.lines) stack.devices

-- a limit fault for each element after the first `most`
abbrev pub past : {X : Type 0} → ℕ → (X → Place) → List X → List LoadFault
past most place xs = faults_by Limit place (λ x. true) (drop most xs)

-- a fault for each device after the first `MOST_DEVICES`, then each disk after the first `MOST_DISKS`, then each line after the first `MOST_LINES`
abbrev pub too_many : Description → List LoadFault
too_many stack =
    past MOST_DEVICES (λ device. device.at) stack.devices ++ past MOST_DISKS (λ disk. disk.at) stack.disks
    ++ past MOST_LINES (λ line. line.at) (all_lines stack.devices)

-- the span's offset is above the limit on lengths
abbrev pub is_far : Span → Bool
is_far span = nat_lt MOST_LENGTH span.offset

-- the line's start, length, end, or the offset of one of its spans is above the limit on lengths
abbrev pub is_large : Line → Bool
is_large line =
    nat_lt MOST_LENGTH line.start || (nat_lt MOST_LENGTH line.len || (nat_lt MOST_LENGTH (line.start + line.len) || list_any is_far (spans line)))

-- each line ends within the limit on lengths, so computing an end never overflows
abbrev pub HaveSmallEnds : List Line → Type 0
HaveSmallEnds lines = All (λ line. line.start + line.len ≤ MOST_LENGTH) lines

-- a fault for each line with a number above the limit, then for each disk longer than the limit
abbrev pub too_large : Description → List LoadFault
too_large stack = line_faults Limit is_large stack ++ faults_by Limit (λ disk. disk.at) (λ disk. nat_lt MOST_LENGTH disk.len) stack.disks

-- an element of a list, with all elements before it
pub record WithBefore (X : Type 0) : Type 0 where
  pub before : List X
  pub it : X

-- each element of a list, with all elements before it
abbrev pub with_before : {X : Type 0} → List X → List (WithBefore X)
with_before [] = []
with_before (x ∷ xs) = record { before = []; it = x } ∷ map (λ later. record { before = x ∷ later.before; it = later.it }) (with_before xs)

-- an element's name is also that of an earlier element of the list
abbrev pub is_repeated : {X : Type 0} → (X → List ℕ) → WithBefore X → Bool
is_repeated name x = list_any (λ other. is_same (name other) (name x.it)) x.before

-- a fault for each element that has the name of an earlier element
abbrev pub twice_in : {X : Type 0} → (X → List ℕ) → (X → Place) → List X → List LoadFault
twice_in name place xs = faults_by Twice (λ x. place x.it) (is_repeated name) (with_before xs)

-- a fault for each device with the name of an earlier device, then for each disk with the name of an earlier disk
abbrev pub twice : Description → List LoadFault
twice stack =
    twice_in (λ device. device.name) (λ device. device.at) stack.devices
    ++ twice_in (λ disk. disk.name) (λ disk. disk.at) stack.disks

-- a fault for a device without lines
abbrev pub without_lines : DeviceSpec → List Line → List LoadFault
without_lines device [] = fault Empty device.at ∷ []
without_lines device (line ∷ lines) = []

-- a fault if the device has no lines, else a fault for each of its lines of length 0
abbrev pub empty_in : DeviceSpec → List LoadFault
empty_in device = without_lines device device.lines ++ faults_by Empty (λ line. line.at) (λ line. line.len == 0) device.lines

-- a fault for each device without lines and each line of length 0, then for each disk of length 0
abbrev pub empty : Description → List LoadFault
empty stack = flat_map empty_in stack.devices ++ faults_by Empty (λ disk. disk.at) (λ disk. disk.len == 0) stack.disks

-- the line doesn't start where the line before it ends or, if it is the first, at sector 0
abbrev pub is_misplaced : WithBefore Line → Bool
is_misplaced line = not (line.it.start == end_of line.before)

-- the kind of fault of a misplaced line: a gap if it starts after the end of the line before, else an overlap
abbrev pub misplaced_kind : WithBefore Line → LoadKind
misplaced_kind line = if nat_lt (end_of line.before) line.it.start then Gap else Overlap

-- a fault for each gap or overlap among the lines of one device
abbrev pub misplaced_in : List Line → List LoadFault
misplaced_in lines = map (λ line. fault (misplaced_kind line) line.it.at) (filter is_misplaced (with_before lines))

-- a fault for each gap or overlap in the tables of all devices
abbrev pub misplaced : Description → List LoadFault
misplaced stack = flat_map (λ device. misplaced_in device.lines) stack.devices

-- no device or disk of the stack has this name
abbrev pub is_unknown_ref : Description → DevRef → Bool
is_unknown_ref stack (refs.Device name) = is_none (find (λ device. is_same device.name name) stack.devices)
is_unknown_ref stack (refs.Disk name) = is_none (find (λ disk. is_same disk.name name) stack.disks)

-- the line names a device or disk that the stack doesn't have
abbrev pub is_unknown : Description → Line → Bool
is_unknown stack line = list_any (λ span. is_unknown_ref stack span.to) (spans line)

-- a fault for each line that names an unknown device or disk
abbrev pub unknown : Description → List LoadFault
unknown stack = line_faults Unknown (is_unknown stack) stack

-- a fault for each of these devices whose id is bad; the first device has the given id, the next ones follow
abbrev pub faults_by_id : LoadKind → (ℕ → Bool) → ℕ → List DeviceSpec → List LoadFault
faults_by_id kind bad id [] = []
faults_by_id kind bad id (device ∷ devices) =
    if bad id then fault kind device.at ∷ faults_by_id kind bad (suc id) devices else faults_by_id kind bad (suc id) devices

-- the depth of a device, which is 1 plus the greatest depth of the devices that it names; a depth above the limit is cut off at one more than the limit
abbrev pub depth_of : Description → ℕ → ℕ
depth_of stack device = depth_to (links stack) (suc MOST_DEPTH) device

-- a fault for each device that is deeper than the limit
abbrev pub deep : Description → List LoadFault
deep stack = faults_by_id Deep (λ id. nat_lt MOST_DEPTH (depth_of stack id)) 0 stack.devices

-- the number of stripes or the chunk size is out of range, or the line's length isn't a multiple of stripes times chunk
abbrev pub is_bad_stripe : (len chunk count : ℕ) → Bool
is_bad_stripe len chunk count =
    count == 0 || (nat_lt MOST_STRIPES count || (chunk == 0 || (nat_lt MOST_CHUNK chunk || (not (len % count == 0) || not ((len / count) % chunk == 0)))))

-- the line is striped, with a bad number of stripes, chunk size or length
abbrev pub has_bad_stripes : Line → Target → Bool
has_bad_stripes line (targets.Striped chunk columns) = is_bad_stripe line.len chunk (length columns)
has_bad_stripes line _ = false

-- a fault for each badly striped line
abbrev pub stripe : Description → List LoadFault
stripe stack = line_faults Stripe (λ line. has_bad_stripes line line.target) stack

-- a range of len sectors from the offset on passes the end; a range without a length never does
abbrev pub passes : (end offset : ℕ) → (len : Option ℕ) → Bool
passes end offset (Some len) = nat_lt end (offset + len)
passes end offset None = false

-- the span passes the end of the device or disk that it names
abbrev pub is_past : Description → Span → Bool
is_past stack span = passes (lower_len stack (lower_of stack span.to)) span.offset span.len

-- a span of the line passes the end of the device or disk that it names
abbrev pub passes_end : Description → Line → Bool
passes_end stack line = list_any (is_past stack) (spans line)

-- a fault for each line that passes the end of a device or disk
abbrev pub range : Description → List LoadFault
range stack = line_faults Range (passes_end stack) stack

-- the chunk size of a snapshot is above the limit or not a power of two
abbrev pub is_bad_chunk : ℕ → Bool
is_bad_chunk chunk = nat_lt MOST_SNAPSHOT_CHUNK chunk || not (is_power_of_two chunk)

-- the target is a snapshot or an origin, and its line isn't the only one of the device or isn't as long as the named origin; or the target is a snapshot with a bad chunk size
abbrev pub is_bad_snapshot : Description → (lines len : ℕ) → Target → Bool
is_bad_snapshot stack lines len (targets.Snapshot origin store kind chunk) =
    not (lines == 1) || (is_bad_chunk chunk || not (len == lower_len stack (lower_of stack origin)))
is_bad_snapshot stack lines len (targets.Origin origin) = not (lines == 1) || not (len == lower_len stack (lower_of stack origin))
is_bad_snapshot stack lines len _ = false

-- a fault for each bad snapshot or origin among the lines of one device
abbrev pub bad_snapshots_in : Description → List Line → List LoadFault
bad_snapshots_in stack lines = faults_by Snapshot (λ line. line.at) (λ line. is_bad_snapshot stack (length lines) line.len line.target) lines

-- a fault for each bad snapshot or origin in the stack
abbrev pub snapshot : Description → List LoadFault
snapshot stack = flat_map (λ device. bad_snapshots_in stack device.lines) stack.devices

-- the target is not a snapshot, or its chunk size is a power of two within the limit
abbrev pub HasGoodChunk : Target → Type 0
HasGoodChunk (targets.Snapshot origin store kind chunk) = is_bad_chunk chunk ≡ false
HasGoodChunk _ = Unit {0}

-- every snapshot line of the list has a chunk size that is a power of two within the limit
abbrev pub HaveGoodChunks : List Line → Type 0
HaveGoodChunks lines = All (λ line. HasGoodChunk line.target) lines

-- the number of chunks that the store of a snapshot has room for; 0 for any other target
abbrev pub target_places : Description → Target → ℕ
target_places stack (targets.Snapshot origin store kind chunk) = place_count kind chunk (lower_len stack (lower_of stack store))
target_places stack _ = 0

-- the target is a snapshot whose store is not of a permitted form
abbrev pub has_bad_store : Description → Target → Bool
has_bad_store stack (targets.Snapshot origin store kind chunk) = not (is_store_to stack MOST_DEPTH (lower_of stack store))
has_bad_store stack _ = false

-- a fault for each snapshot whose store is not of a permitted form
abbrev pub store : Description → List LoadFault
store stack = line_faults Store (λ line. has_bad_store stack line.target) stack

-- a fault for each line whose store, together with the stores of all earlier lines, has room for more chunks than the limit
abbrev pub crowded : Description → List LoadFault
crowded stack =
    faults_by Limit (λ line. line.it.at)
    (λ line. nat_lt MOST_PLACES (sum_by (λ other. target_places stack other.target) line.before + target_places stack line.it.target))
    (with_before (all_lines stack.devices))

-- the checks of a load before the check for cycles, in order
abbrev pub checks_before : Description → List (List LoadFault)
checks_before stack = too_many stack ∷ too_large stack ∷ twice stack ∷ empty stack ∷ misplaced stack ∷ unknown stack ∷ []

-- the checks of a load after the check for cycles, in order
abbrev pub checks_after : Description → List (List LoadFault)
checks_after stack = deep stack ∷ stripe stack ∷ range stack ∷ snapshot stack ∷ store stack ∷ crowded stack ∷ []

-- the device names itself, directly or through other devices
abbrev pub IsOnCycle : Description → ℕ → Type 0
IsOnCycle stack device = Reaches (links stack) device device

-- no device names itself, directly or through others
abbrev pub HasNoCycle : Description → Type 0
HasNoCycle stack = (device : ℕ) → device < length stack.devices → IsOnCycle stack device → ⊥

-- the fault is a cycle, at the first device that is on a cycle
pub record IsFirstCycle (stack : Description) (found : LoadFault) : Type 0 where
  pub before : List DeviceSpec
  pub device : DeviceSpec
  pub after : List DeviceSpec
  pub split : stack.devices ≡ before ++ device ∷ after
  pub none_before : (earlier : ℕ) → earlier < length before → IsOnCycle stack earlier → ⊥
  pub cycle : IsOnCycle stack (length before)
  pub is : found ≡ fault Cycle device.at

-- no check of a load finds a fault
pub record IsSound (stack : Description) : Type 0 where
  pub before : first_fault (checks_before stack) ≡ None
  pub acyclic : HasNoCycle stack
  pub after : first_fault (checks_after stack) ≡ None

-- a load refuses the stack with this fault, which is the first fault of the first check that finds any
pub data IsRefusedBy (stack : Description) (found : LoadFault) : Type 0 where
  Early : first_fault (checks_before stack) ≡ Some found → IsRefusedBy stack found
  OnCycle : first_fault (checks_before stack) ≡ None → IsFirstCycle stack found → IsRefusedBy stack found
  Late : first_fault (checks_before stack) ≡ None → HasNoCycle stack → first_fault (checks_after stack) ≡ Some found → IsRefusedBy stack found
