-- Requests to other devices never change the data of a top device.
use Rattle.dm_map.specs.Base.{ℕ, Op, IsTidy, IsTop, Description}
use Rattle.dm_map.specs.own.Contents.{Values, played, sector_past}
use Rattle.dm_map.specs.own.Halts.{halted_state, halted_units}
use Rattle.dm_map.specs.own.Rows.{AreOwn, Rows, first_rows, rows_played}
use Rattle.dm_map.specs.state.State.{State, start_state}
use Rattle.dm_map.specs.walk.Mapping.{request_step}
use Rattle.std.specs.Prelude.{◌≤◌}

-- if no claims clash, each sector of a top device reads as last written through it, or as an error: at the start, after a request, and after a request's first units, which answer no more sectors than the request has
pub record AreAlone (V : Type 0) (stack : Description) : Type 0 where
  pub start : (zeros : V) (values : Values V) → AreOwn zeros stack (start_state stack) values (first_rows zeros stack values)
  pub request : (zeros : V) (written : ℕ → V) (op : Op) (state : State) (top start len : ℕ) (values : Values V) (rows : Rows V) → IsTidy stack → IsTop stack top → AreOwn zeros stack state values rows
      → AreOwn zeros stack (request_step stack op top start len state).state
      (played zeros written start (request_step stack op top start len state).units values)
      (rows_played written top start (request_step stack op top start len state).units rows)
  pub halted : (zeros : V) (written : ℕ → V) (op : Op) (state : State) (top start len count : ℕ) (values : Values V) (rows : Rows V) → IsTidy stack → IsTop stack top → AreOwn zeros stack state values rows
      → AreOwn zeros stack (halted_state stack op top start len count state)
      (played zeros written start (halted_units stack op top start len count state) values)
      (rows_played written top start (halted_units stack op top start len count state) rows)
  pub few : (zeros : V) (op : Op) (state : State) (top start len count : ℕ) (values : Values V) (rows : Rows V) → IsTidy stack → IsTop stack top → AreOwn zeros stack state values rows
      → sector_past (halted_units stack op top start len count state) 0 ≤ len
