-- Ways: the sectors that a read passes on its path down to a disk.
use Rattle.dm_map.specs.Base.{ℕ, List, [], Lower, Device, Lies, Description}
use Rattle.dm_map.specs.walk.Reads.{read_below}
use Rattle.dm_map.specs.state.State.{State}
use Rattle.std.specs.Prelude.{◌≡◌, ◌∷◌}

-- a sector of a device or of a disk
pub record Node : Type 0 where
  pub lower : Lower
  pub sector : ℕ

-- the sector of a device or a disk, as a point on the way of a read
abbrev pub node : Lower → (sector : ℕ) → Node
node lower sector = record { lower = lower; sector = sector }

-- a read of the sector `from` continues at the sector `to`, which is directly below `from`
pub record Leads (stack : Description) (state : State) (from to : Node) : Type 0 where
  pub device : ℕ
  pub on : from.lower ≡ Device device
  pub below : read_below stack state device from.sector ≡ Lies to.lower to.sector

-- a read passes from the first node through the nodes of the list to the last one; the list begins with the node nearest the end
abbrev pub IsWay : Description → State → Node → List Node → Node → Type 0
IsWay stack state from [] to = from ≡ to
IsWay stack state from (last ∷ before) to = Leads stack state last to × IsWay stack state from before last

-- a read of the sector `from` passes the sector `to`, which may be the same sector
pub record Touches (stack : Description) (state : State) (from to : Node) : Type 0 where
  pub between : List Node
  pub way : IsWay stack state from between to
