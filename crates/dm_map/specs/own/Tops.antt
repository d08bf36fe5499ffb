-- The write of one sector of a top device, and what all top devices read afterwards.
use Rattle.dm_map.specs.Base.{ℕ, true, false, List, [], AllByRecursion, Lower, Device, IsTop, Description, MOST_DEPTH}
use Rattle.dm_map.specs.own.Contents.{Values, Stays, answers, content, played}
use Rattle.dm_map.specs.state.Fitting.{IsFitting}
use Rattle.dm_map.specs.walk.Mapping.{write_step}
use Rattle.dm_map.specs.walk.SnapshotWrites.{read}
use Rattle.dm_map.specs.state.State.{State}
use Rattle.dm_map.specs.walk.Steps.{Step}
use Rattle.dm_map.specs.pieces.Units.{BlockUnit, ReadOf, WriteOf}
use Rattle.std.specs.Prelude.{◌≡◌, ◌∷◌, ◌++◌}

-- the write of a sector, through at most `MOST_DEPTH` levels of devices, which are enough for any stack
abbrev pub write : Description → State → Lower → (sector : ℕ) → Step
write stack state lower sector = write_step stack MOST_DEPTH lower state sector

-- what the write of a sector changes for readers of top devices, for any type of values: `zeros` is the value of a zeroed sector, and `written` returns the value written to each sector
pub record IsOwnWrite {V : Type 0} (zeros : V) (written : ℕ → V) (stack : Description) (state : State) (top sector : ℕ) (step : Step) : Type 0 where
  -- all units are copies or fills, except the last one, which answers the sector
  pub front : List BlockUnit
  pub last : BlockUnit
  pub units : step.units ≡ front ++ last ∷ []
  pub moves : AllByRecursion (λ unit. answers unit ≡ false) front
  pub answered : answers last ≡ true
  -- the stack can be in the state that the write leaves
  pub fits : IsFitting stack step.state
  -- if the write is halted before its last unit, which leaves the state from before the write, every top device reads as before
  pub torn : (values : Values V) (some rest : List BlockUnit) → front ≡ some ++ rest → (other other_sector : ℕ) → IsTop stack other
      → content zeros stack state (played zeros written sector some values) (Device other) other_sector ≡ content zeros stack state values (Device other) other_sector
  -- once all units but the last are done, every sector of a top device reads as before in the state after the write, or as an error
  pub kept : (values : Values V) (other other_sector : ℕ) → IsTop stack other
      → Stays (content zeros stack state values (Device other) other_sector) (content zeros stack step.state (played zeros written sector front values) (Device other) other_sector)
  -- if the last unit writes a disk sector, the written sector of the device is then read from that disk sector
  pub reads : (disk at : ℕ) → last ≡ WriteOf disk at → read stack step.state (Device top) sector ≡ ReadOf disk at
  -- if the last unit writes a disk sector, no other sector of a top device is read from that disk sector
  pub alone : (disk at other other_sector : ℕ) → last ≡ WriteOf disk at → IsTop stack other → read stack step.state (Device other) other_sector ≡ ReadOf disk at → (other ≡ top) × (other_sector ≡ sector)
