-- Steps: the units that a sector or a request becomes, and the state after them.
use Rattle.dm_map.specs.Base.{ℕ, zero, suc, List, []}
use Rattle.dm_map.specs.state.State.{State}
use Rattle.dm_map.specs.pieces.Units.{BlockUnit}
use Rattle.std.specs.Prelude.{◌++◌}

-- the units that one or more sectors become, and the state after them
pub record Step : Type 0 where
  pub units : List BlockUnit
  pub state : State

-- a step that has these units and doesn't change the state
abbrev pub keep : List BlockUnit → State → Step
keep units state = record { units = units; state = state }

-- one step followed by another that starts in the state that the first one leaves
abbrev pub and_then : Step → (State → Step) → Step
and_then step next = record { units = step.units ++ (next step.state).units; state = (next step.state).state }

-- the steps of len consecutive sectors, each in the state that the step before leaves
abbrev pub steps : (State → ℕ → Step) → State → (sector len : ℕ) → Step
steps step state sector zero = keep [] state
steps step state sector (suc len) = and_then (step state sector) (λ after. steps step after (suc sector) len)
