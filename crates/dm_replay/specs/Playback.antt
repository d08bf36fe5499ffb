-- The playback of a request: when it is possible, and what it changes.
use Rattle.dm_replay.specs.Prelude.{ℕ, false, List, length, Request, Description, MapperView, BlockUnit, AreValuesOf, values_of, played}
use Rattle.dm_replay.specs.declared.player.Player.{Player}
use Rattle.std.specs.Prelude.{◌≡◌, ◌<◌}

-- the mapper has not failed, the player is of the same stack, the stack has the device with this id, and values name only disks of the stack
pub record CanPlay (mapper : MapperView) (player : Player) (id : ℕ) : Type 0 where
  pub going : mapper.failed ≡ false
  pub stack : player.stack.now ≡ mapper.stack
  pub device : id < length mapper.stack.devices
  pub disks : AreValuesOf (length mapper.stack.disks) (values_of player.playing.values.disks.items)

-- a player on a stack with these disks played these units of a request
pub record HasPlayedOf (of : Description) (request : Request) (units : List BlockUnit) (old new : Player) : Type 0 where
  pub stack : new.stack.now ≡ old.stack.now
  pub values : (disk sector : ℕ) → values_of new.playing.values.disks.items disk sector ≡ played request.number request.start units (values_of old.playing.values.disks.items) disk sector
  pub disks : AreValuesOf (length of.disks) (values_of new.playing.values.disks.items)
