-- The requests that a replay accepted, and the state after its kept writes are mapped again.
use Rattle.dm_replay.specs.Base.{ℕ, List, [], Option, map, Op, Request, Description, MapperView, request_step, State, KeptWrite}
use Rattle.dm_table.specs.declared.requests.request.Op.TheVariants as ops
use Rattle.dm_replay.specs.declared.asked_request.AskedRequest.{AskedRequest}
use Rattle.dm_replay.specs.Histories.{Asked}
use Rattle.std.specs.Prelude.{◌∷◌, ◌++◌}

-- a request to the device with this id: played to its end, or halted after `halt` units
abbrev pub kept_request : Request → (id : ℕ) → Option ℕ → Asked
kept_request request id halt = record { number = request.number; op = request.op; device = id; start = request.start; len = request.len; halted_after = halt }

-- an accepted request of the code, as the definitions use it
abbrev pub asked_of : AskedRequest → Asked
asked_of kept = record { number = kept.number; op = kept.op; device = kept.device; start = kept.start; len = kept.len; halted_after = kept.halted_after }

-- the accepted requests of the code, as the definitions use them, in the same order
abbrev pub all_asked : List AskedRequest → List Asked
all_asked kept = map asked_of kept

-- the kept writes after one more request; a read isn't kept, because it changes no state
abbrev pub with_request : Op → KeptWrite → List KeptWrite → List KeptWrite
with_request ops.Read write writes = writes
with_request ops.Write write writes = writes ++ write ∷ []

-- the state of the first mapper in the list
abbrev pub first_state : List MapperView → State
first_state [] = []
first_state (mapper ∷ later) = mapper.state

-- the state after the whole sectors of one kept write are mapped again
abbrev pub rerun_step : Description → KeptWrite → State → State
rerun_step stack kept state = (request_step stack ops.Write kept.device kept.start kept.whole state).state

-- the state after the whole sectors of all kept writes are mapped again, one write after the other
unfoldable pub rerun_from : Description → State → List KeptWrite → State
rerun_from stack state [] = state
rerun_from stack state (kept ∷ later) = rerun_from stack (rerun_step stack kept state) later
