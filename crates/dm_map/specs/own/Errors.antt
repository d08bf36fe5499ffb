-- Why a read fails, and what makes a snapshot lost.
use Rattle.dm_map.specs.Base.{ℕ, true, false, Some, Op, Lower, Device, ResolvedLine, ResolvedSnapshot, found_at, Description, device_len, Error}
use Rattle.dm_map.specs.own.Halts.{state_past}
use Rattle.dm_map.specs.own.Losses.{AreLosing, IsLostIn, due}
use Rattle.dm_map.specs.own.Tops.{write}
use Rattle.dm_map.specs.own.Ways.{Node, Touches, node}
use Rattle.dm_map.specs.state.Fitting.{IsFitting}
use Rattle.dm_map.specs.walk.Mapping.{request_step}
use Rattle.dm_map.specs.walk.SnapshotWrites.{read}
use Rattle.dm_map.specs.state.State.{State, taken_at}
use Rattle.dm_map.specs.state.Tables.{snapshot_at}
use Rattle.dm_map.specs.pieces.Units.{Fails}
use Rattle.std.specs.Prelude.{◌≡◌, ◌↔◌, ◌<◌}

-- a read that reaches this sector of a device fails, because the sector is on an `error` line or the device is a lost snapshot
pub data EndsHere (stack : Description) (state : State) (device sector : ℕ) : Type 0 where
  AtError : (line : ResolvedLine) → found_at stack device sector ≡ Some line → line.target ≡ Error → EndsHere stack state device sector
  AtLost : (snapshot : ResolvedSnapshot) → snapshot_at stack device ≡ Some snapshot → (taken_at state device).valid ≡ false → EndsHere stack state device sector

-- the path of a read reaches a sector at which reads fail
pub record MeetsError (stack : Description) (state : State) (from : Node) : Type 0 where
  pub device : ℕ
  pub sector : ℕ
  pub way : Touches stack state from (node (Device device) sector)
  pub ends : EndsHere stack state device sector

-- reads fail and snapshots are lost exactly for the causes that these fields state
pub record HaveCauses (stack : Description) : Type 0 where
  -- a read within its device fails exactly if its path reaches an `error` line or a lost snapshot
  pub reads : (state : State) (device sector : ℕ) → IsFitting stack state → sector < device_len stack device → (read stack state (Device device) sector ≡ Fails) ↔ MeetsError stack state (node (Device device) sector)
  -- a write makes a valid snapshot lost exactly if taking one of the chunks due for the write does
  pub writes : (state : State) (lower : Lower) (sector device : ℕ) → IsFitting stack state → (taken_at state device).valid ≡ true
      → ((taken_at (write stack state lower sector).state device).valid ≡ false) ↔ AreLosing stack state device (due stack state lower sector)
  -- the first sectors of a request make a valid snapshot lost exactly if the write of one of these sectors does
  pub requests : (state : State) (op : Op) (asked start len sectors device : ℕ) → IsFitting stack state → (taken_at state device).valid ≡ true
      → ((taken_at (state_past stack op asked start len sectors state) device).valid ≡ false) ↔ IsLostIn stack state device op asked start len sectors
  -- the state after a request is the state after all of its sectors
  pub whole : (state : State) (op : Op) (asked start len : ℕ) → (request_step stack op asked start len state).state ≡ state_past stack op asked start len len state
  -- a lost snapshot stays lost
  pub stays : (state : State) (op : Op) (asked start len sectors device : ℕ) → (taken_at state device).valid ≡ false → (taken_at (state_past stack op asked start len sectors state) device).valid ≡ false
  -- if the stack can be in a state, it can also be in the state after any number of a request's first sectors
  pub fits : (state : State) (op : Op) (asked start len sectors : ℕ) → IsFitting stack state → IsFitting stack (state_past stack op asked start len sectors state)
