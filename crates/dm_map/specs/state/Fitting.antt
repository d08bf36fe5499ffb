-- States that the devices of a stack can be in.
use Rattle.dm_map.specs.Base.{ℕ, true, Some, length, ResolvedSnapshot, Description, lower_len, place_count}
use Rattle.dm_map.specs.state.Snapshots.{has_place}
use Rattle.dm_map.specs.state.State.{State, taken_at}
use Rattle.dm_map.specs.state.Tables.{snapshot_at}
use Rattle.std.specs.Prelude.{◌≡◌, ◌<◌, ◌≤◌}

-- the state has one entry for each device, and no snapshot holds more chunks than its store has room for
pub record IsFitting (stack : Description) (state : State) : Type 0 where
  pub count : length state ≡ length stack.devices
  pub places : (device number : ℕ) (snapshot : ResolvedSnapshot) → snapshot_at stack device ≡ Some snapshot → number < length (taken_at state device).chunks → has_place stack snapshot number ≡ true

-- no snapshot took more chunks than its store has room for
abbrev pub IsWithinPlaces : Description → State → Type 0
IsWithinPlaces stack state =
    (device : ℕ) (snapshot : ResolvedSnapshot) → snapshot_at stack device ≡ Some snapshot → length (taken_at state device).chunks ≤ place_count snapshot.kind snapshot.chunk (lower_len stack snapshot.store)
