-- The state of a stack and the values of its disks after the requests of a replay, and what each request answers.
use Rattle.dm_replay.specs.Base.{ℕ, List, [], Option, Op, Description, Moment, after_asked, asked_units, rows_in, State, Value}
use Rattle.dm_map.specs.own.Histories as history
use Rattle.dm_replay.specs.declared.value.Value.TheVariants as value
use Rattle.dm_replay.specs.Values.{Answer, old_values, played_answers}
use Rattle.std.specs.Prelude.{◌∷◌}

-- an accepted request with its device's id; `halted_after` is the number of its units that were played, or None if all were
pub record Asked : Type 0 where
  pub number : ℕ
  pub op : Op
  pub device : ℕ
  pub start : ℕ
  pub len : ℕ
  pub halted_after : Option ℕ

-- the request together with the value that it writes to each sector: `Wrote` with the request's number
abbrev pub with_values : Asked → history.Asked Value
with_values asked = record { op = asked.op; device = asked.device; start = asked.start; len = asked.len; written = value.Wrote asked.number; halted_after = asked.halted_after }

-- the state of a stack, the values of its disks' sectors, and for each device its row: what it reads as
abbrev pub World : Type 0
World = Moment Value

-- the world at the start: the given state, the old value in each sector, and what each device reads as in that state
abbrev pub first_world : Description → (start : State) → World
first_world stack start = record { values = old_values; state = start; rows = rows_in value.Zero stack start old_values }

-- the world after one more request
abbrev pub next_world : Description → World → Asked → World
next_world stack world asked = after_asked value.Zero stack world (with_values asked)

-- what the sectors of a request answer if it is played in this world
abbrev pub asked_answers : Description → World → Asked → List Answer
asked_answers stack world asked = played_answers asked.number asked.start (asked_units stack (with_values asked) world.state) world.values

-- the world after these requests, played one after the other
unfoldable pub world_from : Description → World → List Asked → World
world_from stack world [] = world
world_from stack world (asked ∷ later) = world_from stack (next_world stack world asked) later

-- the world after these requests, played from the world at the start in state `start`
abbrev pub world_after : Description → (start : State) → List Asked → World
world_after stack start all = world_from stack (first_world stack start) all
