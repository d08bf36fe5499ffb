-- The values in the sectors of disks, and how units change them.
use Rattle.dm_replay.specs.Base.{ℕ, suc, List, [], sector_after, BlockUnit, ReadOf, WriteOf, Zeros, Drops, Fails, Value}
use Rattle.dm_map.specs.own.Contents as contents
use Rattle.dm_replay.specs.declared.value.Value.TheVariants as value
use Rattle.std.specs.Prelude.{◌+◌, ◌∷◌, ◌++◌}

-- the value of each sector of each disk
abbrev pub Values : Type 0
Values = contents.Values Value

-- the values at the start: each sector holds its old value
abbrev pub old_values : Values
old_values disk sector = value.Old disk sector

-- the answer of a request's sector: a value, or that the sector failed
pub data Answer : Type 0 where
  Gives : Value → Answer
  Failed : Answer

-- the values after a unit of a request whose next sector to answer is `sector`: a fill stores zeros, and a write stores that the request wrote `sector`
abbrev pub played_unit : (request sector : ℕ) → BlockUnit → Values → Values
played_unit request sector = contents.played_unit value.Zero (value.Wrote request sector)

-- the answers of a unit: one for a sector of the request, but none for a copy or a fill
abbrev pub unit_answers : (request sector : ℕ) → BlockUnit → Values → List Answer
unit_answers request sector (ReadOf disk at) values = Gives (values disk at) ∷ []
unit_answers request sector (WriteOf disk at) values = Gives (value.Wrote request sector) ∷ []
unit_answers request sector Zeros values = Gives value.Zero ∷ []
unit_answers request sector Drops values = Gives value.Zero ∷ []
unit_answers request sector Fails values = Failed ∷ []
unit_answers request sector unit values = []

-- Units played in order: the values after them, and their answers; the first answer is that of `sector`.

-- the values after these units are played in order
abbrev pub played : (request sector : ℕ) → List BlockUnit → Values → Values
played request = contents.played value.Zero (value.Wrote request)

-- the answers of these units, each played on the values that the units before it left
unfoldable pub played_answers : (request sector : ℕ) → List BlockUnit → Values → List Answer
played_answers request sector [] values = []
played_answers request sector (unit ∷ units) values =
    unit_answers request sector unit values ++ played_answers request (sector_after unit sector) units (played_unit request sector unit values)

-- the value of the sector after one with this value, if values count up
abbrev pub next_value : Value → Value
next_value (value.Old disk sector) = value.Old disk (suc sector)
next_value value.Zero = value.Zero
next_value (value.Wrote request sector) = value.Wrote request (suc sector)

-- the value of the sector `len` sectors after one with this value, if values count up
abbrev pub further : Value → (len : ℕ) → Value
further (value.Old disk sector) len = value.Old disk (sector + len)
further value.Zero len = value.Zero
further (value.Wrote request sector) len = value.Wrote request (sector + len)

-- the number of the sector after the `len` sectors whose values count up from this one; 0 for zeros
abbrev pub value_end : Value → (len : ℕ) → ℕ
value_end (value.Old disk sector) len = sector + len
value_end value.Zero len = 0
value_end (value.Wrote request sector) len = sector + len
