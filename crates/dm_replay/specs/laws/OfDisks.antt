-- If two lists of units name only disks below a number, so do both together. The law is part of the specs, because a sink's `impl` cites it.
use Rattle.dm_replay.specs.Prelude.{ℕ, List, [], BlockUnit, AreUnitsOf}
use Rattle.std.specs.Prelude.{◌∷◌, ◌++◌}

pub units_of-append : (disks : ℕ) (units more : List BlockUnit) → AreUnitsOf disks units → AreUnitsOf disks more → AreUnitsOf disks (units ++ more)
units_of-append disks [] more first second = second
units_of-append disks (unit ∷ units) more first second = (first.0, units_of-append disks units more first.1 second)
