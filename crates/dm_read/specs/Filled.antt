-- What a block contains while it is being filled with sectors.
use Rattle.dm_read.specs.Base.{ℕ, List, Result, Ok, Err, IfNone, IfSome, length, sector_in, ByteFault}
use Rattle.dm_read.specs.declared.filled.Filled.{Filled}
use Rattle.std.specs.Prelude.{◌≡◌, ◌+◌, ◌<◌}

-- how many of the requested sectors were read: all or, if there was a fault, fewer
pub record AreCounted (asked : ℕ) (filled : Filled) : Type 0 where
  pub all : IfNone filled.fault (filled.count ≡ asked)
  pub fewer : IfSome filled.fault (λ fault. filled.count < asked)

-- the sectors that were read are in the block, from its sector `at` on; if there was a fault, it is that of the next sector
pub record AreFilled (sectors : ℕ → Result (List ℕ) ByteFault) (filled : Filled) (at : ℕ) (block : List ℕ) : Type 0 where
  pub each : (i : ℕ) → i < filled.count → sectors i ≡ Ok (sector_in block (at + i))
  pub stopped : IfSome filled.fault (λ fault. sectors filled.count ≡ Err fault)

-- the first `count` sectors of a block are unchanged, and so is the block's length
pub record AreKept (count : ℕ) (old new : List ℕ) : Type 0 where
  pub each : (i : ℕ) → i < count → sector_in new i ≡ sector_in old i
  pub len : length new ≡ length old
