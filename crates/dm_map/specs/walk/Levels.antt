-- The limit on levels of devices never cuts a look-up short.
use Rattle.dm_map.specs.Base.{Read, Write, Description}
use Rattle.dm_map.specs.walk.Homes.{AreHomesFreeOfLevels}
use Rattle.dm_map.specs.walk.Mapping.{IsFreeOfLevels}

-- reads, writes and homes in stores are the same for any limit on levels that is at least the device's depth
abbrev pub AreLevelsEnough : Description → Type 0
AreLevelsEnough stack = IsFreeOfLevels stack Read × IsFreeOfLevels stack Write × AreHomesFreeOfLevels stack
