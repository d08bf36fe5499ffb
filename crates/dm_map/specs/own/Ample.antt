-- Stacks that can lose no data: no line is an `error` line, and each store has room for all chunks of its snapshot.
use Rattle.dm_map.specs.Base.{ℕ, nat_eq, true, Some, List, AllByRecursion, IsDistinct, Op, Device, ResolvedSnapshot, IsTidy, IsTop, place_count, Description, device_len, lower_len, lower_of, all_lines}
use Rattle.dm_table.specs.declared.tables.table.Target.{Target}
use Rattle.dm_table.specs.declared.tables.table.Target.TheVariants as targets
use Rattle.dm_map.specs.own.Contents.{Values, content, played}
use Rattle.dm_map.specs.own.Halts.{halted_state, halted_units, state_past}
use Rattle.dm_map.specs.own.Rows.{AreOwn, Rows, first_rows, rows_played}
use Rattle.dm_map.specs.state.Fitting.{IsFitting}
use Rattle.dm_map.specs.state.State.{State, start_state, taken_at}
use Rattle.dm_map.specs.state.Tables.{snapshot_at}
use Rattle.dm_map.specs.walk.Mapping.{request_step}
use Rattle.dm_map.specs.walk.SnapshotWrites.{read}
use Rattle.dm_map.specs.pieces.Units.{Fails}
use Rattle.std.specs.Prelude.{◌≡◌, ◌+◌, ◌-◌, ◌/◌, ◌<◌, ◌≤◌}

-- The premise: a stack that can lose no data

-- the number of chunks in a device of this length, of which the last may be shorter
abbrev pub chunk_count : (chunk len : ℕ) → ℕ
chunk_count chunk len = (len + (chunk - 1)) / chunk

-- a line with this length and target can lose no data, because it is neither an `error` line nor a snapshot with more chunks than its store has room for; any target not listed here can lose none
abbrev pub IsAmpleTarget : Description → (len : ℕ) → Target → Type 0
IsAmpleTarget stack len targets.Error = ⊥
IsAmpleTarget stack len (targets.Snapshot origin store kind chunk) = chunk_count chunk len ≤ place_count kind chunk (lower_len stack (lower_of stack store))
IsAmpleTarget stack len _ = Unit {0}

-- no line of the stack can lose data
abbrev pub IsAmple : Description → Type 0
IsAmple stack = AllByRecursion (λ line. IsAmpleTarget stack line.len line.target) (all_lines stack.devices)

-- What holds in every state of an ample stack

-- a snapshot took only chunks that its device, of this length, has, and none of them twice
pub record AreOwnChunks (chunk len : ℕ) (chunks : List ℕ) : Type 0 where
  pub once : IsDistinct nat_eq chunks
  pub own : AllByRecursion (λ taken. taken < chunk_count chunk len) chunks

-- every snapshot of the stack took only chunks that its device has, and none of them twice
abbrev pub TookOwn : Description → State → Type 0
TookOwn stack state = (device : ℕ) (snapshot : ResolvedSnapshot) → snapshot_at stack device ≡ Some snapshot → AreOwnChunks snapshot.chunk (device_len stack device) (taken_at state device).chunks

-- no snapshot of the stack is lost, and each took only chunks that its device has, and none of them twice
pub record IsIntact (stack : Description) (state : State) : Type 0 where
  pub fits : IsFitting stack state
  pub valid : (device : ℕ) → (taken_at state device).valid ≡ true
  pub chunks : TookOwn stack state

-- every sector of each top device reads without an error, as the value last written to it through that device
pub record AreExact {V : Type 0} (zeros : V) (stack : Description) (state : State) (values : Values V) (rows : Rows V) : Type 0 where
  pub own : AreOwn zeros stack state values rows
  pub intact : IsIntact stack state
  pub tops : (top sector : ℕ) → IsTop stack top → sector < device_len stack top
      → (value : V) × (content zeros stack state values (Device top) sector ≡ Some value) × (rows top sector ≡ Some value)

-- The theorem: an ample stack loses no data

-- on an ample stack, no snapshot is ever lost and no read within its device fails, at the start and after any number of a request's first sectors, whichever devices are accessed
pub record AreNeverLost (stack : Description) : Type 0 where
  pub start : IsIntact stack (start_state stack)
  pub request : (op : Op) (state : State) (asked start len sectors : ℕ) → IsAmple stack → IsIntact stack state → IsIntact stack (state_past stack op asked start len sectors state)
  pub reads : (state : State) (device sector : ℕ) → IsAmple stack → IsIntact stack state → sector < device_len stack device → read stack state (Device device) sector ≡ Fails → ⊥

-- on an ample stack without clashing claims, every sector of each top device reads as last written through it: at the start, after a request to a top device, and after the first units of a halted request
pub record AreAlwaysExact (V : Type 0) (stack : Description) : Type 0 where
  pub start : (zeros : V) (values : Values V) → IsAmple stack → AreExact zeros stack (start_state stack) values (first_rows zeros stack values)
  pub request : (zeros : V) (written : ℕ → V) (op : Op) (state : State) (top start len : ℕ) (values : Values V) (rows : Rows V) → IsAmple stack → IsTidy stack → IsTop stack top → AreExact zeros stack state values rows
      → AreExact zeros stack (request_step stack op top start len state).state
      (played zeros written start (request_step stack op top start len state).units values)
      (rows_played written top start (request_step stack op top start len state).units rows)
  pub halted : (zeros : V) (written : ℕ → V) (op : Op) (state : State) (top start len count : ℕ) (values : Values V) (rows : Rows V) → IsAmple stack → IsTidy stack → IsTop stack top → AreExact zeros stack state values rows
      → AreExact zeros stack (halted_state stack op top start len count state)
      (played zeros written start (halted_units stack op top start len count state) values)
      (rows_played written top start (halted_units stack op top start len count state) rows)
