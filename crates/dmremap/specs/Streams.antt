-- What a command did with its streams by the time it exited.
use Rattle.dmremap.specs.Base.{ℕ, true, false, List, InputPast, OutputPast, memory_message, HasWritten, IsFinished, IsFlushed, IsReadOn, MetNothing, WriteFault, HasMet, HasTold, IsTold, write_message, Exit, Ended, NotTop}
use Rattle.dmremap.specs.declared.status.TheConstants.{STATUS_BAD_REQUEST, STATUS_DONE, STATUS_MEMORY, STATUS_READ_FAULT, STATUS_REFUSED, STATUS_WRITE_FAULT}
use Rattle.dmremap.specs.Exit.{exit_message, exit_status, failed_writes, is_flushed, is_refused}
use Rattle.std.specs.Prelude.{◌≡◌, ◌≢◌, ◌⊎◌, ◌+◌, ◌<◌, ◌≤◌}

-- what was done with a stream by the time a command began, and by the time it ended
pub record Moved (Past : Type 0) : Type 0 where
  pub old : Past
  pub new : Past

abbrev pub moved : {X Past : Type 0} → (past : X → Past) → (old new : X) → Moved Past
moved past old new = record { old = past old; new = past new }

-- nothing was read from the stream, or written to it
abbrev pub IsUnmoved : {Past : Type 0} → Moved Past → Type 0
IsUnmoved stream = stream.new ≡ stream.old

-- ---- what the exit status implies for streams

-- what the command's exit status implies about how requests were read
pub record RequestsRead (status : ℕ) (old new : InputPast) : Type 0 where
  -- requests are not read after their end or after a fault
  pub read_on : IsReadOn old new
  -- the status STATUS_READ_FAULT implies that a read of the requests failed; STATUS_DONE implies that none failed
  pub read_fault : status ≡ STATUS_READ_FAULT → old.faults < new.faults
  pub no_fault : status ≡ STATUS_DONE → new.faults ≤ old.faults
  -- the status STATUS_BAD_REQUEST implies that no read failed
  pub bad_line : status ≡ STATUS_BAD_REQUEST → new.faults ≤ old.faults
  -- a refused command reads no requests
  pub unasked : status ≡ STATUS_REFUSED → new ≡ old

-- what the command's exit status implies about what was written and flushed
pub record OutputWritten (status : ℕ) (old new : OutputPast) : Type 0 where
  -- the output only grew, and failed exactly if the status is STATUS_WRITE_FAULT, which takes precedence over all other statuses
  pub finished : IsFinished old new (status ≡ STATUS_WRITE_FAULT)
  -- the output is flushed once, at the end, unless the command was refused, the output failed or memory ran out
  pub flushed : status ≢ STATUS_REFUSED → status ≢ STATUS_WRITE_FAULT → status ≢ STATUS_MEMORY → IsFlushed old new
  pub refused : status ≡ STATUS_REFUSED → new.flushes ≡ old.flushes

-- what the command's exit status implies about what was reported on standard error
pub record MessagesTold (status : ℕ) (old new : OutputPast) : Type 0 where
  -- some message was reported; other clauses determine which one
  pub message : List ℕ
  pub told : HasTold message old new
  -- if the output failed, the message is the one for a write fault
  pub write_message : status ≡ STATUS_WRITE_FAULT → message ≡ write_message

-- what the exit status of a command implies about its streams
pub record StreamsLeft (status : ℕ) (requests : Moved InputPast) (output messages : Moved OutputPast) : Type 0 where
  pub read : RequestsRead status requests.old requests.new
  pub written : OutputWritten status output.old output.new
  pub told : MessagesTold status messages.old messages.new

-- memory ran out, and this was reported, before anything was written or any request was read
abbrev pub IsOut : (requests : Moved InputPast) → (output messages : Moved OutputPast) → Type 0
IsOut requests output messages = IsUnmoved output × IsUnmoved requests × IsTold memory_message messages.old messages.new

-- ---- what the exit implies for streams

-- the command exits with the status and the message of `exit`
pub record Exits (exit : Exit) (result : ℕ) (old new : OutputPast) : Type 0 where
  pub is : result ≡ exit_status exit
  pub told : HasTold (exit_message exit) old new

-- how reading the requests ended, as this exit implies
abbrev pub HasMetBy : Exit → (old new : InputPast) → Type 0
HasMetBy (Ended ending) old new = HasMet ending old new
HasMetBy (NotTop number) old new = MetNothing old new
HasMetBy _ old new = Unit {0}

-- how requests were read before this exit: not after their end or after a fault, and not at all if the command was refused
pub record AskedBy (old new : InputPast) (exit : Exit) : Type 0 where
  pub read_on : IsReadOn old new
  pub met : HasMetBy exit old new
  pub unasked : is_refused exit ≡ true → new ≡ old

-- closing the output either keeps the exit, so that `after` is `before`, or turns it into a write fault because the flush failed
abbrev pub EndsAs : (before : Exit) → (flushes_old flushes_new : ℕ) → (after : Exit) → Type 0
EndsAs before old new after =
    ((after ≡ before) × (is_flushed before ≡ false → new ≡ old))
    ⊎ ((after ≡ Ended WriteFault) × (is_flushed before ≡ true) × (new ≡ old + 1))

-- closing the output wrote nothing, and the exit before closing it, `before`, became `after`
pub record IsClosedAs (before : Exit) (old new : OutputPast) (after : Exit) : Type 0 where
  pub bytes : new.written ≡ old.written
  pub ends : EndsAs before old.flushes new.flushes after
  pub untouched : is_refused before ≡ true → new ≡ old
  -- the status of `after` fits all that was written and flushed since `start`, a state of the output from which the writes fit `before`
  pub output : (start : OutputPast) → HasWritten start old (failed_writes before) → OutputWritten (exit_status after) start new
  pub flushed : is_flushed after ≡ true → (start : OutputPast) → HasWritten start old (failed_writes before) → IsFlushed start new
