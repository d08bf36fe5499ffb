-- What a player did with units.
use Rattle.dm_replay.specs.Base.{ℕ, List, sector_past, BlockUnit}
use Rattle.dm_replay.specs.declared.playing.Playing.{Playing}
use Rattle.dm_replay.specs.Stored.{values_of}
use Rattle.dm_replay.specs.Runs.{flat}
use Rattle.dm_replay.specs.Values.{played, played_answers}
use Rattle.std.specs.Prelude.{◌≡◌, ◌++◌}

-- the player played these units in order, and added their answers to the runs
pub record HasPlayed (old : Playing) (units : List BlockUnit) (new : Playing) : Type 0 where
  pub values_are : (disk sector : ℕ) → values_of new.values.disks.items disk sector ≡ played old.number old.next units (values_of old.values.disks.items) disk sector
  pub answers_are : flat new.runs ≡ flat old.runs ++ played_answers old.number old.next units (values_of old.values.disks.items)
  pub next_is : new.next ≡ sector_past units old.next
  pub number_is : new.number ≡ old.number
