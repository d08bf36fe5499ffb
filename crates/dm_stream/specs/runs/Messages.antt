-- The message of each ending, and how messages are written.
use Rattle.dm_stream.specs.Base.{ℕ, List, [], Result, Ok, Err, codes, decimal, OutputPast, written_since, IsBeginning, HasGrown, EarlierFault}
use Rattle.dm_stream.specs.declared.runs.earlier.EarlierFault.TheVariants as earlier
use Rattle.dm_stream.specs.declared.runs.ending.Ending.{Ending}
use Rattle.dm_stream.specs.declared.runs.ending.Ending.TheVariants as endings
use Rattle.dm_stream.specs.declared.runs.ending.RequestWord.{RequestWord}
use Rattle.dm_stream.specs.declared.runs.ending.RequestWord.TheVariants as words
use Rattle.std.specs.Prelude.{◌≡◌, ◌≤◌, ◌+◌, ◌++◌}

-- the word in a message for what is wrong with a request
abbrev pub request_word : RequestWord → List ℕ
request_word words.Long = codes "long"
request_word words.Unended = codes "unended"
request_word words.Many = codes "many"
request_word words.Form = codes "form"
request_word words.Number = codes "number"
request_word words.Length = codes "length"
request_word words.Unknown = codes "unknown"

-- the message for a request that is refused; the word is the reason
abbrev pub refused_request : ℕ → List ℕ → List ℕ
refused_request number word = codes "dmremap: request " ++ decimal number ++ codes ": " ++ word ++ codes "\n"

-- the message for earlier requests that are refused
abbrev pub earlier_message : EarlierFault → List ℕ
earlier_message (earlier.BadRequest number word) = codes "dmremap: before: " ++ request_word word ++ codes " at " ++ decimal number ++ codes "\n"
earlier_message earlier.Read = codes "dmremap: before: read\n"

-- the message for an output that failed
abbrev pub write_message : List ℕ
write_message = codes "dmremap: output: write\n"

-- the message of an ending; empty if all requests were answered
abbrev pub ending_message : Ending → List ℕ
ending_message endings.Done = []
ending_message (endings.BadRequest number word) = refused_request number (request_word word)
ending_message endings.ReadFault = codes "dmremap: requests: read\n"
ending_message endings.WriteFault = write_message

-- the message after an output was closed: a failed output takes precedence over any other message
abbrev pub told_at_close : {E : Type 0} → Result (Unit {0}) E → List ℕ → List ℕ
told_at_close (Ok closed) message = message
told_at_close (Err fault) message = write_message

-- the whole message was written or, if its stream failed, a prefix of the message
pub record IsTold (message : List ℕ) (old new : OutputPast) : Type 0 where
  pub beginning : IsBeginning message (written_since old new)
  pub whole : new.faults ≡ old.faults → written_since old new ≡ message

-- the message was written to a stream, which was not flushed; at most one write to the stream failed
pub record HasTold (message : List ℕ) (old new : OutputPast) : Type 0 where
  pub appends : HasGrown old.written new.written
  pub told : IsTold message old new
  pub grows : old.faults ≤ new.faults
  pub fails_once : new.faults ≤ old.faults + 1
  pub unflushed : new.flushes ≡ old.flushes
