-- The view of a walker, which carries all that a walk down a stack reads or changes.
use Rattle.dm_map.specs.Base.{Description}
use Rattle.dm_map.specs.state.Counts.{Counts}
use Rattle.dm_map.specs.state.State.{State}

-- a walker: its stack, the state of the snapshots, and the searches of its looker so far
pub record WalkerView : Type 0 where
  pub stack : Description
  pub state : State
  pub looked : Counts

-- a walker without its counts: the part that look-ups leave unchanged
pub record StackState : Type 0 where
  pub stack : Description
  pub state : State

-- the stack and the state of a walker
abbrev pub stack_state : WalkerView → StackState
stack_state walker = record { stack = walker.stack; state = walker.state }
