-- What a run did, compared with the outcome of the delivered requests.
use Rattle.dm_stream.specs.Base.{ℕ, List, Some, false, InputPast, OutputPast, delivery, written_since, HasWritten, IsClosedAfter, IsReadOn, IsCutShort, NotMapped, MapperView, State, Description, Ending, BadRequest, Done, ReadFault, WriteFault, Unknown}
use Rattle.dm_stream.specs.declared.runs.ending.NotMapped.TheVariants as causes
use Rattle.dm_stream.specs.runs.Outcome.{Outcome, requests_outcome}
use Rattle.dm_stream.specs.requests.Requests.{HasMet}
use Rattle.std.specs.Prelude.{◌≡◌, ◌≢◌, ◌<◌}

-- the ending of a run that stopped at a request which was not mapped
abbrev pub ending_for : NotMapped → Ending
ending_for (causes.Unknown number) = BadRequest number Unknown
ending_for causes.Output = WriteFault

-- how many writes failed in a run with this ending
abbrev pub write_faults : Ending → ℕ
write_faults Done = 0
write_faults (BadRequest number w) = 0
write_faults ReadFault = 0
write_faults WriteFault = 1

-- the mapper belongs to this stack and has not failed, so it can map requests
pub record CanMap (of : Description) (mapper : MapperView) : Type 0 where
  pub stack : mapper.stack ≡ of
  pub going : mapper.failed ≡ false

-- how a run that ended with `e` leaves its mapper and its requests
pub record IsLeft (mapper_old mapper_new : MapperView) (requests_old requests_new : InputPast) (e : Ending) : Type 0 where
  -- the mapper still belongs to the same stack, and can map more requests unless the output failed
  pub stack : mapper_new.stack ≡ mapper_old.stack
  pub going : e ≢ WriteFault → mapper_new.failed ≡ false
  -- requests are not read again after their end or after a fault
  pub reads : IsReadOn requests_old requests_new
  -- a read failed if the run ended with a read fault, but not if it ended with `Done`. At a bad line no read failed, and the end was met only if the line is unterminated
  pub met : HasMet e requests_old requests_new

-- what was done before the flush: the whole outcome or, if a write failed, only a proper prefix of its output
pub record IsMapped (outcome : Outcome) (text : List ℕ) (left : State) (e : Ending) : Type 0 where
  pub whole : e ≢ WriteFault → (outcome.output ≡ text) × (outcome.ending ≡ Some e) × (left ≡ outcome.state)
  pub cut : e ≡ WriteFault → IsCutShort outcome.output text

-- what the run did for all delivered requests, before the flush
pub record HasMappedAll (stack : Description) (mapper_old mapper_new : MapperView) (requests_old requests_new : InputPast) (output_old output_new : OutputPast) (e : Ending) : Type 0 where
  pub left : IsLeft mapper_old mapper_new requests_old requests_new e
  pub writes : HasWritten output_old output_new (write_faults e)
  pub mapped : IsMapped (requests_outcome stack mapper_old.state (delivery requests_old requests_new)) (written_since output_old output_new) mapper_new.state e

-- what a run did, flush included: the output was closed after the outcome's output and, unless the output failed, the run ends as the outcome does, in the same state
pub record HasRun (old new : OutputPast) (outcome : Outcome) (left : State) (e : Ending) : Type 0 where
  pub output : IsClosedAfter old new (e ≡ WriteFault) outcome.output
  pub ends : e ≢ WriteFault → (outcome.ending ≡ Some e) × (left ≡ outcome.state)
  -- the output is flushed, even if that fails, only after all of it is written, so the outcome's ending is settled then
  pub settled : old.flushes < new.flushes → (last : Ending) × (outcome.ending ≡ Some last)
