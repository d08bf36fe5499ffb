-- Reads of consecutive sectors.
use Rattle.dm_table.specs.Base.{ℕ, List, Result, Ok, Err, length, slice_range}
use Rattle.std.specs.Prelude.{◌≡◌, ◌<◌, ◌+◌, ◌*◌}

-- the 512 bytes of the sector with this index, counted from 0, in the bytes of consecutive sectors
abbrev pub sector_in : (bytes : List ℕ) → (index : ℕ) → List ℕ
sector_in bytes index = slice_range bytes (512 * index) (512 * index + 512)

-- what a read of consecutive sectors shows: if it succeeded, the content of each sector; if it failed, that the sector can't be read, but only if a single sector was requested
abbrev pub AreRead : {F : Type 0} → (sectors : ℕ → Result (List ℕ) F) → (from : ℕ) → Result (Unit {0}) F → (bytes : List ℕ) → Type 0
AreRead sectors from (Ok done) bytes = (i : ℕ) → 512 * i < length bytes → sectors (from + i) ≡ Ok (sector_in bytes i)
AreRead sectors from (Err fault) bytes = length bytes ≡ 512 → sectors from ≡ Err fault
