-- A request that is halted after some of its units: the units done before the halt, and the state after it.
use Rattle.dm_map.specs.Base.{ℕ, List, nat_lt, take, Op, Device, Description, device_len, MOST_DEPTH}
use Rattle.dm_map.specs.own.Contents.{sector_past}
use Rattle.dm_map.specs.walk.Mapping.{request_step, sector_step}
use Rattle.dm_map.specs.state.State.{State}
use Rattle.dm_map.specs.walk.Steps.{steps}
use Rattle.dm_map.specs.pieces.Units.{BlockUnit}
use Rattle.std.specs.Prelude.{◌+◌, if◌then◌else◌}

-- the state after the first sectors of a request; a request that passes the device's end changes nothing
abbrev pub state_past : Description → Op → (device start len sectors : ℕ) → State → State
state_past stack op device start len sectors state =
    if nat_lt (device_len stack device) (start + len) then state
    else (steps (sector_step stack op MOST_DEPTH (Device device)) state start sectors).state

-- the first count units of a request, after which it is halted
abbrev pub halted_units : Description → Op → (device start len count : ℕ) → State → List BlockUnit
halted_units stack op device start len count state = take count (request_step stack op device start len state).units

-- the state after the sectors of which all units were done; only the last unit of a sector answers the sector (clause `own` of `tops_are_alone`, `IsOwnWrite`, states this for writes, and a read has one unit)
abbrev pub halted_state : Description → Op → (device start len count : ℕ) → State → State
halted_state stack op device start len count state =
    state_past stack op device start len (sector_past (halted_units stack op device start len count state) 0) state
