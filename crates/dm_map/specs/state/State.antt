-- The state of a stack: which chunks the exception store of each snapshot holds.
use Rattle.dm_map.specs.Base.{ℕ, Bool, true, false, List, [], length, replicate, slice_index_or, slice_set, Description}
use Rattle.std.specs.Prelude.{◌∷◌, ◌++◌}

-- the chunks that a snapshot's store holds, in the order in which they were taken, and whether the snapshot is still valid
pub record Taken : Type 0 where
  pub chunks : List ℕ
  pub valid : Bool

-- a valid snapshot whose store holds no chunks
abbrev pub none_taken : Taken
none_taken = record { chunks = []; valid = true }

-- one entry for each device, at the index of its id; the entry of a device that is not a snapshot never changes
abbrev pub State : Type 0
State = List Taken

-- the chunks that the snapshot with this device id took, and whether it is valid; `none_taken` for an id past the end
abbrev pub taken_at : State → ℕ → Taken
taken_at state device = slice_index_or state device none_taken

-- the state before the first request: no snapshot holds a chunk
abbrev pub start_state : Description → State
start_state stack = replicate (length stack.devices) none_taken

-- Changes of the state

-- the state after this device's entry is replaced
abbrev pub put : State → (device : ℕ) → Taken → State
put = slice_set

-- one more chunk is added at the end of the list, under the next number
abbrev pub with_chunk : Taken → (chunk : ℕ) → Taken
with_chunk taken chunk = record { chunks = taken.chunks ++ chunk ∷ []; valid = taken.valid }

-- the snapshot becomes invalid, and keeps the list of its chunks
abbrev pub lost : Taken → Taken
lost taken = record { chunks = taken.chunks; valid = false }
