-- The values that disks hold after units, and the value that a sector of a device reads as, for any type of values.
use Rattle.dm_map.specs.Base.{ℕ, suc, Bool, true, false, List, [], Option, Some, None, Lower, Description}
use Rattle.dm_map.specs.walk.SnapshotWrites.{read}
use Rattle.dm_map.specs.state.State.{State}
use Rattle.dm_map.specs.pieces.Units.{BlockUnit, ReadOf, WriteOf, Zeros, Drops, CopyOf, FillOf}
use Rattle.std.specs.Prelude.{◌≡◌, ◌⊎◌, ◌&&◌, ◌==◌, ◌∷◌, if◌then◌else◌}

-- a value for each sector of each disk
abbrev pub Values : Type 0 → Type 0
Values V = ℕ → ℕ → V

-- the values after one sector of one disk is set to a value
abbrev pub stored : {V : Type 0} → Values V → (to to_sector : ℕ) → V → Values V
stored values to to_sector value disk sector = if disk == to && sector == to_sector then value else values disk sector

-- the unit answers a sector of the request, as all units except copies and fills do
abbrev pub answers : BlockUnit → Bool
answers (CopyOf disk sector to to_sector) = false
answers (FillOf disk sector) = false
answers unit = true

-- the values after one unit: a copy stores the value of another sector, a fill stores the value of zeros, and a write stores the written value
abbrev pub played_unit : {V : Type 0} → (zeros written : V) → BlockUnit → Values V → Values V
played_unit zeros written (WriteOf disk sector) values = stored values disk sector written
played_unit zeros written (CopyOf disk sector to to_sector) values = stored values to to_sector (values disk sector)
played_unit zeros written (FillOf disk sector) values = stored values disk sector zeros
played_unit zeros written unit values = values

-- the sector of the request that the unit after this one belongs to: the next sector if this unit answers its sector, else the same sector
abbrev pub sector_after : BlockUnit → (sector : ℕ) → ℕ
sector_after unit sector = if answers unit then suc sector else sector

-- the values after all these units in order; the first unit belongs to this sector of the request, and `written` returns the value written to each sector
unfoldable pub played : {V : Type 0} → (zeros : V) → (written : ℕ → V) → (sector : ℕ) → List BlockUnit → Values V → Values V
played zeros written sector [] values = values
played zeros written sector (unit ∷ units) values = played zeros written (sector_after unit sector) units (played_unit zeros (written sector) unit values)

-- the sector of the request that the unit after this list belongs to
unfoldable pub sector_past : List BlockUnit → (sector : ℕ) → ℕ
sector_past [] sector = sector
sector_past (unit ∷ units) sector = sector_past units (sector_after unit sector)

-- the value that a read with this unit returns, or None if the read fails
abbrev pub value_read : {V : Type 0} → (zeros : V) → Values V → BlockUnit → Option V
value_read zeros values (ReadOf disk sector) = Some (values disk sector)
value_read zeros values Zeros = Some zeros
value_read zeros values Drops = Some zeros
value_read zeros values unit = None

-- the value that a sector of a device or a disk reads as in this state, or none if the read fails
abbrev pub content : {V : Type 0} → (zeros : V) → Description → State → Values V → Lower → (sector : ℕ) → Option V
content zeros stack state values lower sector = value_read zeros values (read stack state lower sector)

-- a sector's value is unchanged, or is now an error
abbrev pub Stays : {V : Type 0} → (old new : Option V) → Type 0
Stays old new = (new ≡ old) ⊎ (new ≡ None)
