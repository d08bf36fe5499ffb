-- Rows: what each device would hold if it had a disk of its own that only its own writes change.
use Rattle.dm_map.specs.Base.{ℕ, List, [], Option, Some, Device, IsTop, Description}
use Rattle.dm_map.specs.own.Contents.{Values, Stays, content, sector_after, stored}
use Rattle.dm_map.specs.state.Fitting.{IsFitting}
use Rattle.dm_map.specs.state.State.{State, start_state}
use Rattle.dm_map.specs.pieces.Units.{BlockUnit, WriteOf}
use Rattle.std.specs.Prelude.{◌∷◌}

-- the value that each sector of each device should read as, or none for an error
abbrev pub Rows : Type 0 → Type 0
Rows V = Values (Option V)

-- the rows after one unit of a request to a device: a write changes the device's row in one sector, and any other unit changes nothing
abbrev pub row_unit : {V : Type 0} → (written : V) → (device sector : ℕ) → BlockUnit → Rows V → Rows V
row_unit written device sector (WriteOf disk at) rows = stored rows device sector (Some written)
row_unit written device sector unit rows = rows

-- the rows after the units of a request to a device, of which the first belongs to this sector
unfoldable pub rows_played : {V : Type 0} → (written : ℕ → V) → (device sector : ℕ) → List BlockUnit → Rows V → Rows V
rows_played written device sector [] rows = rows
rows_played written device sector (unit ∷ units) rows = rows_played written device (sector_after unit sector) units (row_unit (written sector) device sector unit rows)

-- the rows of all devices in a state: the value that each sector reads as
abbrev pub rows_in : {V : Type 0} → (zeros : V) → Description → State → Values V → Rows V
rows_in zeros stack state values device sector = content zeros stack state values (Device device) sector

-- the rows of all devices before the first request
abbrev pub first_rows : {V : Type 0} → (zeros : V) → Description → Values V → Rows V
first_rows zeros stack = rows_in zeros stack (start_state stack)

-- each sector of a top device reads as the value in its row, or as an error
pub record AreOwn {V : Type 0} (zeros : V) (stack : Description) (state : State) (values : Values V) (rows : Rows V) : Type 0 where
  pub fits : IsFitting stack state
  pub tops : (top sector : ℕ) → IsTop stack top → Stays (rows top sector) (content zeros stack state values (Device top) sector)
