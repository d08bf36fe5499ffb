-- A table of taken chunks for each device of a stack, and the state that these tables hold.
use Rattle.dm_map.specs.Base.{ℕ, Bool, false, List, Option, Some, None, length, map, nat_lt, slice_get, option_and_then, ResolvedOrigin, ResolvedSnapshot, ResolvedTarget, Description, device_len, found_at, Origin, Snapshot}
use Rattle.dm_map.specs.state.Snapshots.{has_place}
use Rattle.dm_map.specs.state.State.{State}
use Rattle.std.specs.Prelude.{◌≡◌, ◌+◌, ◌-◌, ◌/◌}

-- the state that tables hold, given functions that return the chunks and the validity of one table
abbrev pub state_of : {T : Type 0} → (T → List ℕ) → (T → Bool) → List T → State
state_of chunks valid tables = map (λ table. record { chunks = chunks table; valid = valid table }) tables

-- the snapshot that a target is, or None for a target not listed here
abbrev pub snapshot_of : ResolvedTarget → Option ResolvedSnapshot
snapshot_of (Snapshot snapshot) = Some snapshot
snapshot_of _ = None

-- the snapshot that a device is, if the line that holds its sector 0 is a snapshot line
abbrev pub snapshot_at : Description → (device : ℕ) → Option ResolvedSnapshot
snapshot_at stack device = option_and_then (λ line. snapshot_of line.target) (found_at stack device 0)

-- the origin that a target is, or None for a target not listed here
abbrev pub origin_of : ResolvedTarget → Option ResolvedOrigin
origin_of (Origin origin) = Some origin
origin_of _ = None

-- the origin that a device is, if the line that holds its sector 0 is an origin line
abbrev pub origin_at : Description → (device : ℕ) → Option ResolvedOrigin
origin_at stack device = option_and_then (λ line. origin_of line.target) (found_at stack device 0)

-- there is a snapshot, and its store has room for the taken chunk with this number
abbrev pub room_of : Description → Option ResolvedSnapshot → (number : ℕ) → Bool
room_of stack (Some snapshot) number = has_place stack snapshot number
room_of stack None number = false

-- this device is a snapshot whose store has room for the taken chunk with this number
abbrev pub has_room : Description → (device number : ℕ) → Bool
has_room stack device number = room_of stack (snapshot_at stack device) number

-- the number of chunks of a snapshot's device, of which the last may be shorter
abbrev pub device_chunks : Description → ResolvedSnapshot → (device : ℕ) → ℕ
device_chunks stack snapshot device = (device_len stack device - 1) / snapshot.chunk + 1

-- the tables of a stack: one for each device, with as many places as the store of the device's snapshot has room for, or none if the device isn't a snapshot
pub record AreTables {T : Type 0} (places : T → ℕ) (stack : Description) (tables : List T) : Type 0 where
  pub count : length tables ≡ length stack.devices
  pub room : (device number : ℕ) (table : T) → slice_get tables device ≡ Some table → nat_lt number (places table) ≡ has_room stack device number
