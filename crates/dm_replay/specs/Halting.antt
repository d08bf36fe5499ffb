-- What a halting player did with units.
use Rattle.dm_replay.specs.Base.{List, length, take, BlockUnit}
use Rattle.dm_replay.specs.declared.halting.Halting.{Halting}
use Rattle.dm_replay.specs.OfDisks.{AreUnitsOf}
use Rattle.dm_replay.specs.Player.{HasPlayed}
use Rattle.std.specs.Prelude.{◌≡◌, ◌+◌, ◌<◌}

-- the player played all these units, which are on the disks of its stack, and `left` shrank by their number
pub record HasTaken (old : Halting) (units : List BlockUnit) (new : Halting) : Type 0 where
  pub played : HasPlayed old.player.playing units new.player.playing
  pub of : AreUnitsOf (length old.player.stack.now.disks) units
  pub fewer : new.left + length units ≡ old.left
  pub stack : new.player.stack.now ≡ old.player.stack.now
  pub halted : new.halted ≡ old.halted

-- the player halted: it got more units than it had left, and played as many of them as it had left
pub record HasHalted (old : Halting) (units : List BlockUnit) (new : Halting) : Type 0 where
  pub played : HasPlayed old.player.playing (take old.left units) new.player.playing
  pub of : AreUnitsOf (length old.player.stack.now.disks) (take old.left units)
  pub more : old.left < length units
  pub stack : new.player.stack.now ≡ old.player.stack.now
