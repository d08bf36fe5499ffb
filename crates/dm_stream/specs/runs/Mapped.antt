-- What a request mapper answered to its requests, and why it stopped.
use Rattle.dm_stream.specs.Base.{ℕ, List, Option, None, Some, false, since, IsCutShort, Description, MapperView, State, NotMapped, Ending, BadRequest, Unknown}
use Rattle.dm_stream.specs.pieces.Pending.{Pending}
use Rattle.dm_stream.specs.runs.Outcome.{after_text, outcome_from}
use Rattle.dm_stream.specs.requests.Requests.{NumberedRequest}
use Rattle.dm_stream.specs.runs.Run.{ending_for, write_faults}
use Rattle.dm_stream.specs.declared.runs.ending.NotMapped.TheVariants as causes
use Rattle.std.specs.Prelude.{◌≡◌, ◌++◌}

-- the mapper and the join belong to this stack and can take a request: the mapper has not failed, and the join holds no piece
pub record IsReady (stack : Description) (mapper : MapperView) (held : Pending) : Type 0 where
  pub mapped : mapper.stack ≡ stack
  pub going : mapper.failed ≡ false
  pub joined : held.stack ≡ stack
  pub nothing : held.piece ≡ None

-- whatever requests follow, the outcome is the text written for these requests, followed by the outcome of the others from state `new`
pub record HasAnswered (stack : Description) (old new : State) (requests : List NumberedRequest) (before after : List ℕ) : Type 0 where
  pub told : (rest : List NumberedRequest) (e : Option Ending) → outcome_from stack old (requests ++ rest) e ≡ after_text (since before after) (outcome_from stack new rest e)

-- how many writes failed, given why a request was not mapped: 1 if the output failed, or else 0
abbrev pub failed_writes : NotMapped → ℕ
failed_writes cause = write_faults (ending_for cause)

-- why the mapper stopped at the last of these requests: its device is unknown, so the outcome ends there; or a write failed, so the output was cut short
abbrev pub HasStopped : Description → NotMapped → State → MapperView → List NumberedRequest → (before after : List ℕ) → Type 0
HasStopped stack (causes.Unknown number) old new requests before after = (new.failed ≡ false) × ((rest : List NumberedRequest) (e : Option Ending) → outcome_from stack old (requests ++ rest) e
    ≡ record { output = since before after; state = new.state; ending = Some (BadRequest number Unknown) })
HasStopped stack causes.Output old new requests before after =
    (rest : List NumberedRequest) (e : Option Ending) → IsCutShort (outcome_from stack old (requests ++ rest) e).output (since before after)
