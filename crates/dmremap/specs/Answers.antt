-- What a command answers for its input: the text that it writes, its message and its exit status.
use Rattle.dmremap.specs.Base.{ℕ, List, [], Option, None, Some, Delivery, InputPast, OutputPast, delivery, written_since, FailedWhere, IsFlushed, IsCutShort, IsTold, Exit}
use Rattle.dmremap.specs.declared.status.TheConstants.{STATUS_MEMORY, STATUS_REFUSED, STATUS_WRITE_FAULT}
use Rattle.dmremap.specs.Exit.{exit_message, exit_status}
use Rattle.dmremap.specs.Streams.{IsOut, IsUnmoved, Moved}
use Rattle.std.specs.Prelude.{◌≡◌, ◌≢◌}

-- how a command ends: the message that it reports on standard error, and its exit status
pub record End : Type 0 where
  pub message : List ℕ
  pub status : ℕ

abbrev pub end_of : Exit → End
end_of exit = record { message = exit_message exit; status = exit_status exit }

-- the end of a command that is refused with this message
abbrev pub refused_by : List ℕ → End
refused_by message = record { message = message; status = STATUS_REFUSED }

-- the command exited with the status of `end`, and reported its message
abbrev pub EndsSo : End → (messages : Moved OutputPast) → (status : ℕ) → Type 0
EndsSo end messages status = (status ≡ end.status) × IsTold end.message messages.old messages.new

-- what a command answers: either a message and a status alone, or a text and then an end, which is None if the input doesn't determine how the command ends
pub data Answer : Type 0 where
  Tells : End → Answer
  Writes : (text : List ℕ) → Option End → Answer

-- the output failed either at a write, after a proper prefix of `text`, or at the flush, after all of `text`, which happens only if the end is known
abbrev pub FailedAfter : (text : List ℕ) → Option End → (output : Moved OutputPast) → Type 0
FailedAfter text end output =
    FailedWhere (IsCutShort text (written_since output.old output.new)) ((text ≡ written_since output.old output.new) × (last : End) × (end ≡ Some last)) output.old.flushes output.new.flushes

-- what a command did, for an answer that `Gives` allows for the delivered requests. Told: it reported its end, wrote nothing and read no requests. Wrote: it
-- wrote and flushed the text, and reported its end. Failed: a write or the flush failed. OutOfMemory: memory ran out before anything was written or any request
-- was read
pub data Answers (Gives : (requests : Delivery) → Answer → Type 0) (requests : Moved InputPast) (output messages : Moved OutputPast) (status : ℕ) : Type 0 where
  Told : (end : End) → Gives (delivery requests.old requests.new) (Tells end) → EndsSo end messages status → IsUnmoved output → IsUnmoved requests
      → Answers Gives requests output messages status
  Wrote : (text : List ℕ) (end : End) → Gives (delivery requests.old requests.new) (Writes text (Some end)) → EndsSo end messages status → status ≢ STATUS_WRITE_FAULT
      → text ≡ written_since output.old output.new → IsFlushed output.old output.new → Answers Gives requests output messages status
  Failed : (text : List ℕ) (end : Option End) → Gives (delivery requests.old requests.new) (Writes text end) → status ≡ STATUS_WRITE_FAULT
      → FailedAfter text end output → Answers Gives requests output messages status
  OutOfMemory : status ≡ STATUS_MEMORY → IsOut requests output messages → Answers Gives requests output messages status

-- at most one answer satisfies `Is`
abbrev pub IsOne : (Answer → Type 0) → Type 0
IsOne Is = (a b : Answer) → Is a → Is b → a ≡ b

-- the answer determines how the command ends, and that isn't running out of memory after a text
abbrev pub IsSettled : Answer → Type 0
IsSettled (Tells end) = Unit {0}
IsSettled (Writes text (Some end)) = end.status ≢ STATUS_MEMORY
IsSettled (Writes text None) = ⊥

-- at most one settled answer satisfies `Is`
abbrev pub IsOneSettled : (Answer → Type 0) → Type 0
IsOneSettled Is = (a b : Answer) → IsSettled a → IsSettled b → Is a → Is b → a ≡ b

-- the input of requests for a command that reads none
abbrev pub unread : Moved InputPast
unread = let past : InputPast = record { handed = []; faults = 0; ends = 0 } in record { old = past; new = past }
