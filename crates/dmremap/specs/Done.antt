-- What a command has written by the time its output is closed.
use Rattle.dmremap.specs.Base.{ℕ, List, [], Option, Some, OutputPast, written_since, HasWritten, IsCutShort, WriteFault, Exit, Ended, Refused}
use Rattle.dmremap.specs.Answers.{Answer, End, Tells, Writes, end_of}
use Rattle.dmremap.specs.declared.status.TheConstants.{STATUS_MEMORY}
use Rattle.dmremap.specs.Exit.{failed_writes, refusal_status}
use Rattle.std.specs.Prelude.{◌≡◌, ◌≢◌}

-- what a command has written before it exits, if its answer satisfies `Is`: the whole text, a proper prefix of the text if a write failed, or nothing if the
-- command is refused. If it is refused because memory ran out, the answer may be anything
abbrev pub Does : (Is : Answer → Type 0) → List ℕ → Exit → Type 0
Does Is text (Refused refusal) = (text ≡ []) × (refusal_status refusal ≢ STATUS_MEMORY → Is (Tells (end_of (Refused refusal))))
Does Is text (Ended WriteFault) = (whole : List ℕ) × (end : Option End) × Is (Writes whole end) × IsCutShort whole text
Does Is text exit = Is (Writes text (Some (end_of exit)))

-- what a command wrote fits its exit, it flushed nothing, and a write failed exactly if the exit is a write fault
pub record HasDone (Did : List ℕ → Exit → Type 0) (old new : OutputPast) (exit : Exit) : Type 0 where
  pub did : Did (written_since old new) exit
  pub writes : HasWritten old new (failed_writes exit)
