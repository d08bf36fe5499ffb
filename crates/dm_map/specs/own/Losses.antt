-- Writes that make a snapshot lost: those that must copy a chunk to its store but cannot (the kernel's admin guide, device-mapper/snapshot).
use Rattle.dm_map.specs.Base.{ℕ, zero, suc, true, false, List, [], None, Option, Some, length, map, Op, Write, Lower, Device, Disk, ResolvedLine, ResolvedOver, ResolvedSnapshot, ResolvedTarget, Description, device_len, is_ro_at, below_plain, found_at, MOST_DEPTH, Origin, Snapshot}
use Rattle.dm_map.specs.own.Halts.{state_past}
use Rattle.dm_map.specs.walk.Reads.{by_below}
use Rattle.dm_map.specs.walk.Serving.{serve}
use Rattle.dm_map.specs.state.Snapshots.{has_place, number_in}
use Rattle.dm_map.specs.walk.SnapshotWrites.{count_of, first_of, is_refused, read, take_chunk}
use Rattle.dm_map.specs.state.State.{State, taken_at}
use Rattle.dm_map.specs.pieces.Units.{Fails}
use Rattle.std.specs.Prelude.{◌≡◌, ◌⊎◌, ◌+◌, ◌-◌, ◌/◌, ◌<◌, ◌≤◌, ◌∷◌, ◌++◌, if◌then◌else◌}

-- Due chunks: those that a write takes before it writes, unless they are settled

-- a chunk that a write takes before it writes: the device id of its snapshot, the snapshot, and the number of the chunk
pub record Due : Type 0 where
  pub device : ℕ
  pub snapshot : ResolvedSnapshot
  pub chunk : ℕ

-- the chunks that contain this sector of an origin, one for each of the origin's snapshots
abbrev pub due_over : List ResolvedOver → (sector : ℕ) → List Due
due_over over sector = map (λ one. record { device = one.device; snapshot = one.snapshot; chunk = sector / one.snapshot.chunk }) over

-- the due chunks of a write at a distance into a line with this target: for a snapshot its own chunk, unless the write is refused; for an origin the chunks of its snapshots, and then the due chunks of the write below
abbrev pub due_at_target : Description → State → (device : ℕ) → ResolvedTarget → (distance : ℕ) → (Lower → State → ℕ → List Due) → List Due
due_at_target stack state device (Snapshot snapshot) distance next =
    if is_refused stack snapshot (taken_at state device) (distance / snapshot.chunk) then [] else record { device = device; snapshot = snapshot; chunk = distance / snapshot.chunk } ∷ []
due_at_target stack state device (Origin origin) distance next = due_over origin.over distance ++ next origin.to (serve stack origin.over distance state).state distance
due_at_target stack state device target distance next = by_below (below_plain target distance) [] [] (λ to sector. next to state sector)

-- the due chunks of a write to a sector of a device, given the line that holds the sector
abbrev pub due_at_line : Description → State → (device : ℕ) → Option ResolvedLine → (sector : ℕ) → (Lower → State → ℕ → List Due) → List Due
due_at_line stack state device (Some line) sector next = due_at_target stack state device line.target (sector - line.start) next
due_at_line stack state device None sector next = []

-- the due chunks of a write, through at most this many levels of devices; a write to a read-only device has none
unfoldable pub due_in : Description → ℕ → Lower → State → ℕ → List Due
due_in stack levels (Disk disk) state sector = []
due_in stack zero (Device device) state sector = []
due_in stack (suc levels) (Device device) state sector =
    if is_ro_at stack device then [] else due_at_line stack state device (found_at stack device sector) sector (λ to after lower. due_in stack levels to after lower)

-- the due chunks of a write to a sector, in the order in which they are taken
abbrev pub due : Description → State → Lower → (sector : ℕ) → List Due
due stack state lower sector = due_in stack MOST_DEPTH lower state sector

-- Snapshots that are lost

-- a read of the origin fails in one of the chunk's sectors
pub record HasError (stack : Description) (state : State) (one : Due) : Type 0 where
  pub sector : ℕ
  pub from : first_of one.snapshot one.chunk ≤ sector
  pub before : sector < first_of one.snapshot one.chunk + count_of stack one.snapshot one.device one.chunk
  pub fails : read stack state one.snapshot.origin sector ≡ Fails

-- taking the due chunk makes this snapshot lost: the snapshot is valid and hasn't taken the chunk yet, and its store is full or a read of the origin fails in the chunk
pub record IsLosing (stack : Description) (state : State) (device : ℕ) (one : Due) : Type 0 where
  pub of : one.device ≡ device
  pub valid : (taken_at state device).valid ≡ true
  pub fresh : number_in one.chunk (taken_at state device).chunks ≡ None
  pub why : (has_place stack one.snapshot (length (taken_at state device).chunks) ≡ false) ⊎ HasError stack state one

-- taking these due chunks in this order loses the snapshot at one of them
abbrev pub AreLosing : Description → State → (device : ℕ) → List Due → Type 0
AreLosing stack state device [] = ⊥
AreLosing stack state device (one ∷ later) = IsLosing stack state device one ⊎ AreLosing stack (take_chunk stack one.snapshot one.device one.chunk state).state device later

-- the request lies within its device, and the write of one of its first sectors makes the snapshot lost
pub record IsLostIn (stack : Description) (state : State) (device : ℕ) (op : Op) (asked start len sectors : ℕ) : Type 0 where
  pub inside : start + len ≤ device_len stack asked
  pub at : ℕ
  pub within : at < sectors
  pub writes : op ≡ Write
  pub loses : AreLosing stack (state_past stack op asked start len at state) device (due stack (state_past stack op asked start len at state) (Device asked) (start + at))
