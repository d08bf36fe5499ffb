-- The history of an input or output, what each call adds to the history, and what an input delivered between two states.
use Rattle.dm_table.specs.Base.{ℕ, List, [], length, take, drop, Result, Ok, Err, nat_lt}
use Rattle.std.specs.Prelude.{◌+◌, ◌++◌, ◌==◌, ◌&&◌, if◌then◌else◌}

-- the history of an input: the bytes it handed out, how many reads failed, and how many reads met an end, by returning 0 for a nonempty slice
pub record InputPast : Type 0 where
  pub handed : List ℕ
  pub faults : ℕ
  pub ends : ℕ

-- the history of an output: the bytes it accepted, those of them that no flush has passed on yet, how many writes and flushes failed,
-- and how many flushes were requested, including failed ones
pub record OutputPast : Type 0 where
  pub written : List ℕ
  pub waiting : List ℕ
  pub faults : ℕ
  pub flushes : ℕ

-- the bytes that a read stored at the front of a slice, or that a write accepted from the front of a slice; none if the call failed
abbrev pub given : {E : Type 0} → Result ℕ E → List ℕ → List ℕ
given (Ok n) slice = take n slice
given (Err e) slice = []

-- how many faults a call's result adds to the history: 1 for an error, else 0
abbrev pub fault_of : {T E : Type 0} → Result T E → ℕ
fault_of (Ok x) = 0
fault_of (Err e) = 1

-- how many ends a read's result adds to the history: 1 if the read returned 0 although the slice had room, else 0
abbrev pub ends_added : {E : Type 0} → Result ℕ E → ℕ → ℕ
ends_added (Ok n) room = if n == 0 && nat_lt 0 room then 1 else 0
ends_added (Err e) room = 0

-- the bytes still unflushed after a flush: none if the flush succeeded, or all that were waiting if it failed
abbrev pub unflushed : {T E : Type 0} → Result T E → List ℕ → List ℕ
unflushed (Ok x) waiting = []
unflushed (Err e) waiting = waiting

-- an input's history after one read; `slice` is the content of the buffer after the read
abbrev pub after_read : {E : Type 0} → InputPast → Result ℕ E → (slice : List ℕ) → InputPast
after_read past result slice = record {
  handed = past.handed ++ given result slice;
  faults = past.faults + fault_of result;
  ends = past.ends + ends_added result (length slice);
}

-- an output's history after one write; the result is how many bytes of the slice were accepted
abbrev pub after_write : {E : Type 0} → OutputPast → Result ℕ E → (slice : List ℕ) → OutputPast
after_write past result slice = record {
  written = past.written ++ given result slice;
  waiting = past.waiting ++ given result slice;
  faults = past.faults + fault_of result;
  flushes = past.flushes;
}

-- an output's history after a call that accepted no bytes and may have failed
abbrev pub with_fault : {T E : Type 0} → OutputPast → Result T E → OutputPast
with_fault past result = record past { faults = past.faults + fault_of result }

-- an output's history after one flush
abbrev pub after_flush : {E : Type 0} → OutputPast → Result (Unit {0}) E → OutputPast
after_flush past result = record {
  written = past.written;
  waiting = unflushed result past.waiting;
  faults = past.faults + fault_of result;
  flushes = past.flushes + 1;
}

-- how a series of reads of an input stopped: at the input's end (Clean), at a fault (Failed), or at neither (Open)
pub data Stand : Type 0 where
  Clean : Stand
  Failed : Stand
  Open : Stand

-- the bytes that a series of reads delivered, and how the reads stopped
pub record Delivery : Type 0 where
  pub bytes : List ℕ
  pub stand : Stand

-- the elements that a list gained when it grew from `old` to `new`: `new` without its first `length old` elements
abbrev pub since : List ℕ → List ℕ → List ℕ
since old new = drop (length old) new

-- the bytes that an output accepted between two of its states
abbrev pub written_since : (old new : OutputPast) → List ℕ
written_since old new = since old.written new.written

-- how the reads between two states of an input stopped; a fault takes precedence over an end
abbrev pub stand_of : (old new : InputPast) → Stand
stand_of old new = if nat_lt old.faults new.faults then Failed else (if nat_lt old.ends new.ends then Clean else Open)

-- the bytes that an input handed out between two of its states, and how the reads stopped
abbrev pub delivery : (old new : InputPast) → Delivery
delivery old new = record { bytes = since old.handed new.handed; stand = stand_of old new }
