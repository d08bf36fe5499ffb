-- How calls may change the histories of inputs and outputs, stated once for all contracts.
use Rattle.dm_table.specs.Base.{ℕ, List, [], Result, OnOk, OnErr, MutBor}
use Rattle.dm_table.specs.io.DeviceIo.{InputPast, OutputPast, ends_added, fault_of, since, written_since}
use Rattle.dm_table.specs.io.WriteAll.{IsCutShort}
use Rattle.std.specs.Prelude.{◌≡◌, ◌⊎◌, ◌≤◌, ◌<◌, ◌↔◌, ◌+◌, ◌++◌}

-- `new` is `old` with bytes appended, or `old` itself
abbrev pub HasGrown : (old new : List ℕ) → Type 0
HasGrown old new = new ≡ old ++ since old new

-- ---- inputs

-- how an input's history changes by reads alone: it may have handed out more bytes, and met at most one end or fault
pub record IsReadOn (old new : InputPast) : Type 0 where
  pub grows : HasGrown old.handed new.handed
  pub no_more : new.faults + new.ends ≤ old.faults + old.ends + 1

-- one read into a nonempty slice: the input handed out the bytes `got`, and counts a fault for an error and an end for a 0
pub record HasRead {E : Type 0} (old new : InputPast) (result : Result ℕ E) (got : List ℕ) : Type 0 where
  pub hands : new.handed ≡ old.handed ++ got
  pub fails : new.faults ≡ old.faults + fault_of result
  pub ends_as : new.ends ≡ old.ends + ends_added result 1

-- an input met neither a fault nor an end between two states
abbrev pub MetNothing : (old new : InputPast) → Type 0
MetNothing old new = (new.faults ≡ old.faults) × (new.ends ≡ old.ends)

-- ---- outputs that were written to and not flushed

-- a mutable reference is the same one in both states, whatever was written through it
abbrev pub IsSameReference : {X : Type 0} → (old new : MutBor X) → Type 0
IsSameReference old new = new.ghost_name ≡ old.ghost_name

-- an output accepted bytes that all still wait for a flush, because none was requested; `failed` writes failed
pub record HasWritten (old new : OutputPast) (failed : ℕ) : Type 0 where
  pub appends : HasGrown old.written new.written
  pub waits : new.waiting ≡ old.waiting ++ written_since old new
  pub fails : new.faults ≡ old.faults + failed
  pub unflushed : new.flushes ≡ old.flushes

-- HasWritten for an output behind a mutable reference, which stays the same reference
pub record HasWrittenTo {X : Type 0} (past : X → OutputPast) (old new : MutBor X) (failed : ℕ) : Type 0 where
  pub moved : HasWritten (past old.now) (past new.now) failed
  pub same_reference : IsSameReference old new

-- an output was given a text, and accepted all of the text if the result is Ok, or a proper prefix of it if a write failed
pub record Wrote {E : Type 0} (old new : OutputPast) (result : Result (Unit {0}) E) (text : List ℕ) : Type 0 where
  pub moved : HasWritten old new (fault_of result)
  pub ok : OnOk result (written_since old new ≡ text)
  pub left : OnErr result (IsCutShort text (written_since old new))

-- ---- outputs that are finished, with a flush or a fault

-- an output was flushed once, and no bytes wait for a flush
abbrev pub IsFlushed : (old new : OutputPast) → Type 0
IsFlushed old new = (new.waiting ≡ []) × (new.flushes ≡ old.flushes + 1)

-- an output accepted bytes and was flushed at most once; one write or flush failed if HasFailed holds, and else none
pub record IsFinished (old new : OutputPast) (HasFailed : Type 0) : Type 0 where
  pub appends : HasGrown old.written new.written
  pub write_fault : old.faults < new.faults ↔ HasFailed
  pub grows : old.faults ≤ new.faults
  pub fails_once : new.faults ≤ old.faults + 1
  pub once : new.flushes ≤ old.flushes + 1
  -- if the flush failed, all bytes that were written still wait for a flush
  pub still_waiting : HasFailed → old.flushes < new.flushes → new.waiting ≡ old.waiting ++ written_since old new

-- an output failed either at a write, so that the text is cut short and no flush was requested, or at the flush, after all of the text was written
abbrev pub FailedWhere : (IsCut IsWhole : Type 0) → (flushes_old flushes_new : ℕ) → Type 0
FailedWhere IsCut IsWhole old new = ((new ≡ old) × IsCut) ⊎ ((new ≡ old + 1) × IsWhole)

-- an output failed at a write, after it had accepted a proper prefix of the text, or at the flush, after it had accepted all of the text
abbrev pub FailedOutput : (text : List ℕ) → (old new : OutputPast) → Type 0
FailedOutput text old new = FailedWhere (IsCutShort text (written_since old new)) (text ≡ written_since old new) old.flushes new.flushes

-- an output accepted a text and was then flushed, unless a write or the flush failed
pub record IsClosedAfter (old new : OutputPast) (HasFailed : Type 0) (text : List ℕ) : Type 0 where
  pub finished : IsFinished old new HasFailed
  pub whole : (HasFailed → ⊥) → (text ≡ written_since old new) × IsFlushed old new
  pub failed : HasFailed → FailedOutput text old new
