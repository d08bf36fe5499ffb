-- The state that is left by playing earlier requests. They were carried out before a run, and their answers are not written.
use Rattle.dm_stream.specs.Base.{ℕ, List, Option, Some, Result, Ok, Err, IfErr, OnOk, Description, State, EarlierFault, Ending, BadRequest, Done, ReadFault, Unknown}
use Rattle.dm_stream.specs.runs.Outcome.{Outcome, outcome_from}
use Rattle.dm_stream.specs.requests.Requests.{NumberedRequest}
use Rattle.dm_stream.specs.declared.runs.earlier.EarlierFault.TheVariants as faults
use Rattle.std.specs.Prelude.{◌≡◌, ◌++◌}

-- two outcomes have the same state and the same ending; their outputs may differ
pub record LeaveTheSame (a b : Outcome) : Type 0 where
  pub state : a.state ≡ b.state
  pub ending : a.ending ≡ b.ending

-- whatever requests follow, playing these changes the state from `old` to `new`, and has no other effect on the state or the ending
pub record HasMoved (stack : Description) (old new : State) (requests : List NumberedRequest) : Type 0 where
  pub told : (rest : List NumberedRequest) (e : Option Ending) → LeaveTheSame (outcome_from stack old (requests ++ rest) e) (outcome_from stack new rest e)

-- the last request in the list has this number and names no device, so the outcome ends there
pub record HasStoppedAt (stack : Description) (old : State) (requests : List NumberedRequest) (number : ℕ) : Type 0 where
  pub told : (rest : List NumberedRequest) (e : Option Ending) → (outcome_from stack old (requests ++ rest) e).ending ≡ Some (BadRequest number Unknown)

-- the ending of requests that are refused because of this fault
abbrev pub refused_ending : EarlierFault → Ending
refused_ending (faults.BadRequest number w) = BadRequest number w
refused_ending faults.Read = ReadFault

-- the ending of earlier requests: `Done` if all were played, or else the ending for the fault
abbrev pub played_ending : Result (Unit {0}) EarlierFault → Ending
played_ending (Ok done) = Done
played_ending (Err fault) = refused_ending fault

-- earlier requests with this outcome were played to a clean end and left this state, or they were refused because of how they end
pub record HasPlayed (outcome : Outcome) (left : State) (result : Result (Unit {0}) EarlierFault) : Type 0 where
  pub done : OnOk result ((outcome.ending ≡ Some Done) × (left ≡ outcome.state))
  pub refused : IfErr result (λ fault. outcome.ending ≡ Some (refused_ending fault))
