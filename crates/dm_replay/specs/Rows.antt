-- The row of each device: the values that it would hold if it were alone on a disk of its own. Only writes to the device change its row.
use Rattle.dm_replay.specs.Base.{ℕ, suc, List, [], Option, Some, None, Description, Rows, State, Value}
use Rattle.dm_replay.specs.Histories.{Asked, world_after}
use Rattle.dm_replay.specs.Values.{Answer, Gives, Failed}
use Rattle.std.specs.Prelude.{◌≡◌, ◌⊎◌, ◌∷◌}

-- the answer of a sector with this value; a sector without a value answers that it failed
abbrev pub answer_of : Option Value → Answer
answer_of (Some given) = Gives given
answer_of None = Failed

-- the rows of all devices after these requests, played from the start in state `start`
abbrev pub rows_after : Description → (start : State) → List Asked → Rows Value
rows_after stack start all = (world_after stack start all).rows

-- each answer is an error or the value in the device's row; the first answer is that of `sector`
abbrev pub AreOfRow : Rows Value → (device sector : ℕ) → List Answer → Type 0
AreOfRow rows device sector [] = Unit {0}
AreOfRow rows device sector (answer ∷ answers) = ((answer ≡ answer_of (rows device sector)) ⊎ (answer ≡ Failed)) × AreOfRow rows device (suc sector) answers

-- each answer is the value in the device's row, and none is an error; the first answer is that of `sector`
abbrev pub AreExactlyRow : Rows Value → (device sector : ℕ) → List Answer → Type 0
AreExactlyRow rows device sector [] = Unit {0}
AreExactlyRow rows device sector (answer ∷ answers) = ((given : Value) × (rows device sector ≡ Some given) × (answer ≡ Gives given)) × AreExactlyRow rows device (suc sector) answers
