-- Requests to devices one after the other, each completed or halted, and the disks, state and rows after them, for any type of values.
use Rattle.dm_map.specs.Base.{ℕ, List, Option, None, Some, take, Op, Description}
use Rattle.dm_map.specs.own.Contents.{Values, played}
use Rattle.dm_map.specs.own.Halts.{halted_state}
use Rattle.dm_map.specs.own.Rows.{AreOwn, Rows, rows_played}
use Rattle.dm_map.specs.pieces.Units.{BlockUnit}
use Rattle.dm_map.specs.state.State.{State}
use Rattle.dm_map.specs.walk.Mapping.{request_step}
use Rattle.dm_map.specs.walk.Steps.{Step}

-- a request to a device, the value that it writes to each sector, and, if the request is halted, the number of units done before
pub record Asked (V : Type 0) : Type 0 where
  pub op : Op
  pub device : ℕ
  pub start : ℕ
  pub len : ℕ
  pub written : ℕ → V
  pub halted_after : Option ℕ

-- the units that a request becomes in a state, and the state after them
abbrev pub asked_step : {V : Type 0} → Description → Asked V → State → Step
asked_step stack asked state = request_step stack asked.op asked.device asked.start asked.len state

-- the units that are done: all of them or, for a halted request, the first `count`
abbrev pub played_of : Option ℕ → List BlockUnit → List BlockUnit
played_of None units = units
played_of (Some count) units = take count units

-- the units of a request that are done before it completes or is halted
abbrev pub asked_units : {V : Type 0} → Description → Asked V → State → List BlockUnit
asked_units stack asked state = played_of asked.halted_after (asked_step stack asked state).units

-- the state after a request: after all its sectors or, if it is halted, after the sectors of which all units were done
abbrev pub left_state : {V : Type 0} → Description → Option ℕ → Asked V → State → State
left_state stack None asked state = (asked_step stack asked state).state
left_state stack (Some count) asked state = halted_state stack asked.op asked.device asked.start asked.len count state

-- a moment between requests: what the disks hold, the snapshots' state, and what each device would hold if it were alone
pub record Moment (V : Type 0) : Type 0 where
  pub values : Values V
  pub state : State
  pub rows : Rows V

-- each sector of a top device reads as the value in its row, or as an error
abbrev pub IsOwnAt : {V : Type 0} → (zeros : V) → Description → Moment V → Type 0
IsOwnAt zeros stack moment = AreOwn zeros stack moment.state moment.values moment.rows

-- the moment after a request that is completed, or halted after some of its units
abbrev pub after_played : {V : Type 0} → (zeros : V) → Description → Option ℕ → Asked V → Moment V → Moment V
after_played zeros stack stop asked moment = record {
  values = played zeros asked.written asked.start (played_of stop (asked_step stack asked moment.state).units) moment.values;
  state = left_state stack stop asked moment.state;
  rows = rows_played asked.written asked.device asked.start (played_of stop (asked_step stack asked moment.state).units) moment.rows;
}

abbrev pub after_asked : {V : Type 0} → (zeros : V) → Description → Moment V → Asked V → Moment V
after_asked zeros stack moment asked = after_played zeros stack asked.halted_after asked moment
